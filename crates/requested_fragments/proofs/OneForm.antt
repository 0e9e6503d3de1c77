-- Two records of one length that pass the check and ask for the same are the same, word by word. Assumes nothing.
use Prim.Native.Nat.{ℕ, ◌+◌, ◌*◌, ◌^◌, ◌≤◌, ◌<◌}
use mathlib.Core.Path.{◌≡◌, refl, sym, ap, subst, ◌∙◌}
use mathlib.Core.Bool.{true, false}
use mathlib.Core.Logic.{◌⊎◌, inl, inr}
use mathlib.Core.List.{List, [], ◌∷◌}
use native.Mathlib.Omega.{arith}
use lib.Dec.{ltb}
use lib.ListN.{length, take, drop, get_or, length-take, get_or-eq_default}
use lib.Seq.{length-take-le, get_or-take, get_or-drop}
use borrow.Author.Tests.{ltb-true, ltb-false}
use Rattle.sets.proofs.Bools.{decide}
use Rattle.requested_fragments.specs.Words.{fragments_of}
use Rattle.requested_fragments.proofs.Frags.{words_unique}
use Rattle.rising.specs.Runs.{over, room_of}
use Rattle.rising.proofs.Rooms.{room-same}
use Rattle.requested_fragments.specs.Entries.{Entry}
use Rattle.requested_fragments.specs.Table.{Block, blocks_of, samples_in, words_in, blocks_view, table_of}
use Rattle.requested_fragments.proofs.Blocks.{samples_of_lem, words_of, length_of}
use Rattle.requested_fragments.proofs.Coherent.{Coherent}
use Rattle.requested_fragments.proofs.Meaning.{Full}
use Rattle.requested_fragments.proofs.Form.{coherent_fit, holding_form}

-- every word is one of 64 bits, as the type says
abbrev pub Words : List ℕ → Type 0
Words ws = (i : ℕ) → get_or ws i 0 < 2 ^ 64

abbrev pub Bounded : List Block → Type 0
Bounded [] = Unit {0}
Bounded (b ∷ bs) = Words b.words × Bounded bs

part : (ws : List ℕ) → Words ws → Words (take 64 ws)
part ws h i = go (decide (ltb i 64))
  where
    go : (ltb i 64 ≡ true) ⊎ (ltb i 64 ≡ false) → get_or (take 64 ws) i 0 < 2 ^ 64
    go (inl e) = subst (λ (x : ℕ). x < 2 ^ 64) (sym (get_or-take 64 ws i 0 (ltb-true i 64 e))) (h i)
    go (inr e) =
        let l : length (take 64 ws) ≤ i = rw (length-take 64 ws) (omega (arith, ltb-false i 64 e)) in
        subst (λ (x : ℕ). x < 2 ^ 64) (sym (get_or-eq_default (take 64 ws) 0 l)) (omega arith)

rest : (ws : List ℕ) → Words ws → Words (drop 64 ws)
rest ws h i = subst (λ (x : ℕ). x < 2 ^ 64) (sym (get_or-drop 64 ws i 0)) (h (64 + i))

pub bounded : (ss ws : List ℕ) → Words ws → Bounded (blocks_of ss ws)
bounded [] ws h = tt
bounded (s ∷ ss) ws h = (part ws h, bounded ss (drop 64 ws) (rest ws h))

heads : (e d : Entry) (es ds : List Entry) → ◌≡◌ {A = List Entry} (e ∷ es) (d ∷ ds) → (e.sample ≡ d.sample) × (e.frags ≡ d.frags) × (es ≡ ds)
heads e d es ds q = (ap (λ (x : Entry). x.sample) p, ap (λ (x : Entry). x.frags) p, cc)
  where
    p : e ≡ d
    p = cc

pub tables : (t u : List Block) → Full t → Full u → Bounded t → Bounded u → blocks_view t ≡ blocks_view u → t ≡ u
tables [] [] f g h k e = refl
tables [] (u ∷ us) f g h k e = let z : ◌≡◌ {A = ℕ} 0 1 = cc in absurd (omega arith)
tables (t ∷ ts) [] f g h k e = let z : ◌≡◌ {A = ℕ} 0 1 = cc in absurd (omega arith)
tables (t ∷ ts) (u ∷ us) f g h k e =
    let q = heads (record { sample = t.sample; frags = fragments_of t.words }) (record { sample = u.sample; frags = fragments_of u.words }) (blocks_view ts) (blocks_view us) e in
    let w : t.words ≡ u.words = words_unique t.words u.words (f.0 ∙ sym g.0) h.0 k.0 q.1 in
    let r : ts ≡ us = tables ts us f.1 g.1 h.1 k.1 q.2 in
    ap (λ (x : ℕ). record { sample = x; words = t.words } ∷ ts) q.0 ∙ ap (λ (x : List ℕ). record { sample = u.sample; words = x } ∷ ts) w ∙ ap (λ (x : List Block). u ∷ x) r

-- the rooms are the form of their table
pub is_form : (c : ℕ) (S W : List ℕ) → Coherent c S W → (c ≡ length (table_of c S W)) × (S ≡ room_of (length S) (samples_in (table_of c S W))) × (W ≡ room_of (64 * length S) (words_in (table_of c S W)))
is_form c S W k =
    let l : length (take c S) ≡ c = length-take-le c S k.small in
    let q = holding_form c S W (table_of c S W) k (coherent_fit c S W k) in (
      sym (length_of (take c S) W ∙ l),
      room-same c S k.small ∙ ap (over S c) (sym (samples_of_lem (take c S) W)) ∙ q.0,
      room-same (64 * c) W (omega (arith, k.small, k.length_w)) ∙ ap (over W (64 * c)) (sym (words_of (take c S) W ∙ ap (λ (x : ℕ). take (64 * x) W) l)) ∙ q.1,
    )

pub one_form : (c d : ℕ) (S W X Y : List ℕ) → Coherent c S W → Coherent d X Y → length S ≡ length X → Words W → Words Y → blocks_view (table_of c S W) ≡ blocks_view (table_of d X Y) → (c ≡ d) × (S ≡ X) × (W ≡ Y)
one_form c d S W X Y h k l hw hy e =
    let t : table_of c S W ≡ table_of d X Y = tables (table_of c S W) (table_of d X Y) (coherent_fit c S W h).full (coherent_fit d X Y k).full (bounded (take c S) W hw) (bounded (take d X) Y hy) e in
    let a = is_form c S W h in
    let b = is_form d X Y k in (
      a.0 ∙ ap length t ∙ sym b.0,
      a.1 ∙ ap (λ (m : ℕ). room_of m (samples_in (table_of c S W))) l ∙ ap (λ (x : List Block). room_of (length X) (samples_in x)) t ∙ sym b.1,
      a.2 ∙ ap (λ (m : ℕ). room_of (64 * m) (words_in (table_of c S W))) l ∙ ap (λ (x : List Block). room_of (64 * length X) (words_in x)) t ∙ sym b.2,
    )
