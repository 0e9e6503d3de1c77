-- The calls on the table, way by way. Assumes nothing.
use Prim.Native.Nat.{ℕ, zero, suc, ◌*◌, ◌≤◌}
use mathlib.Core.Path.{◌≡◌, refl, ◌∙◌}
use mathlib.Core.Bool.{true, false}
use mathlib.Core.List.{List, [], ◌∷◌}
use native.Mathlib.Omega.{arith}
use lib.Dec.{eqb, leb}
use lib.ListN.{length, take}
use borrow.Author.Tests.{leb-true, le-leb, ne_eqb}
use Rattle.sets.proofs.Bools.{and_left, and_right}
use Rattle.numbers.specs.Promise.{Gives1, Gives2}
use Rattle.rising.specs.Runs.{over, in_room}
use Rattle.std.specs.Prelude.{Some, slice_get}
use Rattle.sets.specs.Sets.{From, only, first_or}
use Rattle.sets.proofs.Has.{From-only}
use Rattle.requested_fragments.proofs.Frags.{frag-rises}
use Rattle.requested_fragments.specs.Words.{fragments_of, next_in}
use Rattle.requested_fragments.specs.Table.{table_of, entries_of, samples_in, words_in, mark_t, rooms_hold, marked_in, next_piece_of}

-- what a cut leaves, where the run is in the room
pub in_run : (f : List ℕ → List ℕ) (c : ℕ) (a : List ℕ) (r : ℕ) (u : List ℕ) → c ≤ length a → Gives1 r u (in_room f c a) → (r ≡ length (f (take c a))) × (u ≡ over a c (f (take c a)))
in_run f c a r u h g =
    let t : leb c (length a) ≡ true = le-leb c (length a) h in
    (g.result ∙ rw t refl, g.first ∙ rw t refl)

-- ---- marking
module _ (count : ℕ) (S W : List ℕ) where
  pub fit : count ≤ length S → 64 * count ≤ length W → rooms_hold count S W ≡ true
  fit hs hw = rw (le-leb count (length S) hs, le-leb (64 * count) (length W) hw) refl

  pub fits : rooms_hold count S W ≡ true → (count ≤ length S) × (64 * count ≤ length W)
  fits h =
      (leb-true count (length S) (and_left (leb count (length S)) (leb (64 * count) (length W)) h), leb-true (64 * count) (length W) (and_right (leb count (length S)) (leb (64 * count) (length W)) h))

  pub marked-done : (n f r : ℕ) (U Z : List ℕ) → count ≤ length S → 64 * count ≤ length W
      → (r ≡ length (mark_t n f (table_of count S W))) × (U ≡ over S count (samples_in (mark_t n f (table_of count S W)))) × (Z ≡ over W (64 * count) (words_in (mark_t n f (table_of count S W))))
      → Gives2 r U Z (marked_in n f count S W)
  marked-done n f r U Z hs hw g = rw (fit hs hw) (record { result = g.0; first = g.1; second = g.2 })

  -- ---- the next fragment
  pub next_found : (f n k : ℕ) → (count ≡ 0 → ⊥) → slice_get S 0 ≡ Some n → next_in f (take 64 W) ≡ Some k → Some (record { sample = n; fragment = k }) ≡ next_piece_of f (entries_of count S W)
  next_found f n k c s e = go count S c s
    where
      first : (l : List ℕ) → From 1 l → slice_get l 0 ≡ Some k → (first_or 0 l ≡ k) × (eqb k 0 ≡ false)
      first [] g z = cc
      first (x ∷ xs) g z = let h : x ≡ k = cc in (h, ne_eqb k 0 (λ y. omega (arith, g.0)))

      is : (first_or 0 (only (leb f) (fragments_of (take 64 W))) ≡ k) × (eqb k 0 ≡ false)
      is = first (only (leb f) (fragments_of (take 64 W))) (From-only 1 (leb f) (fragments_of (take 64 W)) (frag-rises (take 64 W))) e

      go : (m : ℕ) (l : List ℕ) → (m ≡ 0 → ⊥) → slice_get l 0 ≡ Some n → Some (record { sample = n; fragment = k }) ≡ next_piece_of f (entries_of m l W)
      go zero l p q = absurd (p refl)
      go (suc m) [] p q = cc
      go (suc m) (x ∷ xs) p q = let same : x ≡ n = cc in rw (is.0, is.1, same) refl
