-- Loops over slices: one that reads a slice, and one that writes it from the front. Assumes nothing.
use Prim.Native.Nat.{ℕ, ◌+◌, ◌-◌, ◌<◌, ◌≤◌}
use mathlib.Core.Path.{◌≡◌, ap, ◌∙◌}
use mathlib.Core.List.{List, [], ◌∷◌, ◌++◌, append-nil}
use native.Mathlib.Numerals.{add-one}
use native.Mathlib.Omega.{arith}
use lib.ListN.{length, take, drop, get_or, set, drop_of_length-le, length-append, length-take, length-drop}
use lib.Seq.{drop-cons, take-suc, take_all, append_snoc, set_at, length-take-le, get_or-append-add, get_or-drop}

-- what is left at i
pub here : (s : List ℕ) (i : ℕ) → i < length s → drop i s ≡ get_or s i 0 ∷ drop (i + 1) s
here s i h = rw (add-one, drop-cons s i 0)

pub done : (s : List ℕ) (i : ℕ) → length s ≤ i → drop i s ≡ []
done s i h = drop_of_length-le s h

-- t is what the slice is to hold at the end, s what it held at the start, and at turn i it holds `upto t s i`
abbrev pub upto : List ℕ → List ℕ → ℕ → List ℕ
upto t s i = take i t ++ drop i s

module _ (t s : List ℕ) (same : length t ≡ length s) where
  pub upto_length : (i : ℕ) → i ≤ length s → length (upto t s i) ≡ length s
  upto_length i h = simp (length-append, length-take, length-drop) (omega arith)

  -- one store more
  pub upto_more : (i v : ℕ) → i < length s → v ≡ get_or t i 0 → set (upto t s i) i v ≡ upto t s (i + 1)
  upto_more i v h e =
      let p : length (take i t) ≡ i = length-take-le i t (omega arith) in
      let q : i < length t = omega arith in
      rw (here s i h, set_at (take i t) _ _ v i p, add-one, take-suc t i 0 q, append_snoc, e)

  -- what is not yet written
  pub upto_kept : (i j : ℕ) → i ≤ length s → i ≤ j → get_or (upto t s i) j 0 ≡ get_or s j 0
  upto_kept i j h k =
      let p : length (take i t) ≡ i = length-take-le i t (omega arith) in
      let e : j ≡ length (take i t) + (j - i) = omega arith in
      let f : i + (j - i) ≡ j = omega arith in
      ap (λ (x : ℕ). get_or (upto t s i) x 0) e ∙ get_or-append-add (take i t) (drop i s) (j - i) 0 ∙ get_or-drop i s (j - i) 0 ∙ ap (λ (x : ℕ). get_or s x 0) f

  pub upto_all : (i : ℕ) → length s ≤ i → upto t s i ≡ t
  upto_all i h =
      let q : length t ≤ i = omega arith in
      rw (done s i h, take_all i t q, append-nil)
