-- The first number from b on that a rising set doesn't have: what makes a line's base the smallest positive number that isn't settled, and what its
-- ACKNACK asks for. Assumes nothing.
use Prim.Native.Nat.{ℕ, suc, ◌+◌, ◌≤◌, ◌<◌}
use mathlib.Core.Path.{◌≡◌, refl, sym, ap, subst, ◌∙◌}
use mathlib.Core.Bool.{Bool, true, false, not, cond, ◌&&◌, ◌||◌}
use mathlib.Core.Logic.{inl, inr}
use mathlib.Core.List.{List, [], ◌∷◌}
use lib.Dec.{ltb, leb, eqb}
use native.Mathlib.Nat.{lt_irrefl, le_refl}
use native.Mathlib.Omega.{arith}
use borrow.Author.Tests.{ltb-true, ltb-false, eqb-true, eqb-false, ne_eqb}
use Rattle.sets.specs.Sets.{has, From}
use Rattle.sets.proofs.Bools.{and_left, and_right, clash, decide}
use Rattle.sets.proofs.Has.{lt_of_le_of_ne, From-low}
use Rattle.sets.proofs.Those.{has-those, has_those_is, From-those}
use Rattle.number_sets.specs.Bits.{members}
use Rattle.number_sets.proofs.Meaning.{made_is}
use Rattle.other_end.specs.Model.{gap_from, missing, Model, base, bits, model_asks, ack_nack}

pub gap_ge : (b : ℕ) (l : List ℕ) → b ≤ gap_from b l
gap_ge b [] = le_refl b
gap_ge b (x ∷ xs) = go (eqb x b) (gap_ge (suc b) xs)
  where
    go : (t : Bool) → suc b ≤ gap_from (suc b) xs → b ≤ cond t (gap_from (suc b) xs) b
    go true h = omega arith
    go false h = omega arith

pub gap_all : (b : ℕ) (l : List ℕ) (n : ℕ) → From b l → b ≤ n → n < gap_from b l → has l n ≡ true
gap_all b [] n h p q = absurd (lt_irrefl n (omega arith))
gap_all b (x ∷ xs) n h p q = go (eqb x b) refl (eqb x n) refl q (gap_all (suc b) xs n)
  where
    go : (t : Bool) → eqb x b ≡ t → (u : Bool) → eqb x n ≡ u → n < cond t (gap_from (suc b) xs) b → (From (suc b) xs → suc b ≤ n → n < gap_from (suc b) xs → has xs n ≡ true) → (u || has xs n) ≡ true
    go t e true f q r = refl
    go true e false f q r = r (subst (λ (k : ℕ). From (suc k) xs) (eqb-true x b e) h.1) (lt_of_le_of_ne p (λ (z : b ≡ n). eqb-false x n f (eqb-true x b e ∙ z))) q
    go false e false f q r = absurd (lt_irrefl n (omega arith))

pub gap_not : (b : ℕ) (l : List ℕ) → From b l → has l (gap_from b l) ≡ false
gap_not b [] h = refl
gap_not b (x ∷ xs) h = go (eqb x b) refl (gap_not (suc b) xs)
  where
    away : (n : ℕ) → (x ≡ n → ⊥) → has xs n ≡ false → (eqb x n || has xs n) ≡ false
    away n d e = rw (ne_eqb x n d) e

    none : (n : ℕ) → n ≤ x → has xs n ≡ false
    none n q = elim (decide (has xs n)) [ inl e ↦ absurd (lt_irrefl n (omega (arith, From-low (suc x) xs n h.1 e))) | inr e ↦ e ]

    go : (t : Bool) → eqb x b ≡ t → (From (suc b) xs → has xs (gap_from (suc b) xs) ≡ false) → (eqb x (cond t (gap_from (suc b) xs) b) || has xs (cond t (gap_from (suc b) xs) b)) ≡ false
    go true e r = away (gap_from (suc b) xs) (λ z. lt_irrefl b (omega (arith, gap_ge (suc b) xs, eqb-true x b e))) (r (subst (λ (k : ℕ). From (suc k) xs) (eqb-true x b e) h.1))
    go false e r = away b (eqb-false x b e) (none b h.0)

pub gap_le : (b : ℕ) (l : List ℕ) (n : ℕ) → From b l → b ≤ n → has l n ≡ false → gap_from b l ≤ n
gap_le b l n h p e = elim (decide (ltb n (gap_from b l))) [ inl f ↦ clash (has l n) (gap_all b l n h p (ltb-true n (gap_from b l) f)) e | inr f ↦ ltb-false n (gap_from b l) f ]

pub gap-past : (b k : ℕ) (l : List ℕ) → From b l → ((n : ℕ) → b ≤ n → n < k → has l n ≡ true) → k ≤ gap_from b l
gap-past b k l h q = elim (decide (ltb (gap_from b l) k)) [ inl f ↦ clash (has l (gap_from b l)) (q (gap_from b l) (gap_ge b l) (ltb-true (gap_from b l) k f)) (gap_not b l h) | inr f ↦ ltb-false (gap_from b l) k f ]

pub gap_mono : (b : ℕ) (l m : List ℕ) → From b l → From b m → ((n : ℕ) → has l n ≡ true → has m n ≡ true) → gap_from b l ≤ gap_from b m
gap_mono b l m h g s = gap-past b (gap_from b l) m g (λ n p q. s n (gap_all b l n h p q))

pub has-missing : (k b : ℕ) (l : List ℕ) (n : ℕ) → b ≤ n → n < b + k → has l n ≡ false → has (missing k b l) n ≡ true
has-missing k b l n p q e = has-those k b (λ m. not (has l m)) n p q (ap not e)

-- THE ACKNACK: read back from its words, it asks for all that is missing, and for nothing else
pub asks : (m : Model) → members (ack_nack m) ≡ model_asks m
asks m = made_is (base m) (bits m) (model_asks m) (omega arith) (From-those (bits m) (base m) (λ n. not (has m.settled n))) top
  where
    top : (n : ℕ) → has (model_asks m) n ≡ true → n < base m + bits m
    top n e =
        let w = sym (has_those_is (bits m) (base m) (λ x. not (has m.settled x)) n) ∙ e in
        ltb-true n (base m + bits m) (and_right (leb (base m) n) (ltb n (base m + bits m)) (and_left (leb (base m) n && ltb n (base m + bits m)) (not (has m.settled n)) w))
