-- Two rising sets with the same members are one list; and the union, computed from the front: what a loop that merges two arrays needs.
-- Assumes nothing.
use Prim.Native.Nat.{ℕ, suc, ◌≤◌, ◌<◌}
use mathlib.Core.Path.{◌≡◌, refl, sym, ap, subst, ◌∙◌}
use mathlib.Core.Bool.{Bool, true, false, ◌||◌, true≢false}
use mathlib.Core.Logic.{inl, inr}
use mathlib.Core.List.{List, [], ◌∷◌}
use lib.Dec.{eqb}
use native.Mathlib.Omega.{arith}
use borrow.Author.Tests.{eqb-true, eq-eqb}
use Rattle.sets.specs.Sets.{has, From, union}
use Rattle.sets.proofs.Bools.{or_swap, or_same, or_assoc, decide}
use Rattle.sets.proofs.Has.{has-insert, has-union, From-low, From-union}

has_head : (x : ℕ) (xs : List ℕ) → has (x ∷ xs) x ≡ true
has_head x xs = ap (λ (t : Bool). t || has xs x) (eq-eqb x x refl)

-- n below b is in no set that rises from b
pub From_off : (b : ℕ) (l : List ℕ) (n : ℕ) → From b l → n < b → has l n ≡ false
From_off b l n h q = elim (decide (has l n)) [ inl e ↦ absurd (omega (arith, From-low b l n h e)) | inr e ↦ e ]

-- the heads are equal, and the tails have the same members
heads : (a b x y : ℕ) (xs ys : List ℕ) → From a (x ∷ xs) → From b (y ∷ ys) → ((n : ℕ) → has (x ∷ xs) n ≡ has (y ∷ ys) n) → y ≤ x
heads a b x y xs ys g h e = From-low y (y ∷ ys) x (omega arith, h.1) (sym (e x) ∙ has_head x xs)

tails : (x : ℕ) (xs ys : List ℕ) → From (suc x) xs → From (suc x) ys → ((n : ℕ) → has (x ∷ xs) n ≡ has (x ∷ ys) n) → (n : ℕ) → has xs n ≡ has ys n
tails x xs ys g h e n = go (eqb x n) refl (e n)
  where
    go : (t : Bool) → eqb x n ≡ t → (t || has xs n) ≡ (t || has ys n) → has xs n ≡ has ys n
    go true f w =
        From_off (suc x) xs n g (omega (arith, eqb-true x n f)) ∙ sym (From_off (suc x) ys n h (omega (arith, eqb-true x n f)))
    go false f w = w

pub ext : (a b : ℕ) (l m : List ℕ) → From a l → From b m → ((n : ℕ) → has l n ≡ has m n) → l ≡ m
ext a b [] [] g h e = refl
ext a b [] (y ∷ ys) g h e = absurd (true≢false (sym (has_head y ys) ∙ sym (e y)))
ext a b (x ∷ xs) [] g h e = absurd (true≢false (sym (has_head x xs) ∙ e x))
ext a b (x ∷ xs) (y ∷ ys) g h e = go (omega (arith, heads a b x y xs ys g h e, heads b a y x ys xs h g (λ n. sym (e n)))) (ext (suc x) (suc x) xs ys g.1)
  where
    go : x ≡ y → (From (suc x) ys → ((n : ℕ) → has xs n ≡ has ys n) → xs ≡ ys) → ◌≡◌ {A = List ℕ} (x ∷ xs) (y ∷ ys)
    go q r =
        let h₂ : From (suc x) ys = subst (λ (k : ℕ). From (suc k) ys) (sym q) h.1 in
        let e₂ : (n : ℕ) → has (x ∷ xs) n ≡ has (x ∷ ys) n = λ n. e n ∙ ap (λ (k : ℕ). has (k ∷ ys) n) (sym q) in
        ap (λ (k : ℕ). k ∷ xs) q ∙ ap (λ (l : List ℕ). y ∷ l) (r h₂ (tails x xs ys g.1 h₂ e₂))

-- THE MERGE: the union of two rising sets begins with the smaller head
module _ (a : ℕ) (x y : ℕ) (xs ys : List ℕ) (g : From a (x ∷ xs)) (h : From a (y ∷ ys)) where
  all : From a (union (x ∷ xs) (y ∷ ys))
  all = From-union a (x ∷ xs) (y ∷ ys) (λ n e. From-low a (x ∷ xs) n g e) h

  pub union_left : x < y → union (x ∷ xs) (y ∷ ys) ≡ x ∷ union xs (y ∷ ys)
  union_left q =
      ext a a (union (x ∷ xs) (y ∷ ys)) (x ∷ union xs (y ∷ ys)) all
      (g.0, From-union (suc x) xs (y ∷ ys) (λ n e. From-low (suc x) xs n g.1 e) (q, h.1))
      (λ n. has-insert x n (union xs (y ∷ ys)))

  pub union_right : y < x → union (x ∷ xs) (y ∷ ys) ≡ y ∷ union (x ∷ xs) ys
  union_right q =
      ext a a (union (x ∷ xs) (y ∷ ys)) (y ∷ union (x ∷ xs) ys) all
      (h.0, From-union (suc y) (x ∷ xs) ys (λ n e. From-low (suc y) (x ∷ xs) n (q, g.1) e) h.1)
      (λ n. has-union (x ∷ xs) (y ∷ ys) n ∙ or_swap (eqb y n) (has (x ∷ xs) n) (has ys n) ∙ ap (λ (t : Bool). eqb y n || t) (sym (has-union (x ∷ xs) ys n)))

  pub union_both : x ≡ y → union (x ∷ xs) (y ∷ ys) ≡ x ∷ union xs ys
  union_both q =
      ext a a (union (x ∷ xs) (y ∷ ys)) (x ∷ union xs ys) all
      (g.0, From-union (suc x) xs ys (λ n e. From-low (suc x) xs n g.1 e) (subst (λ (k : ℕ). From (suc k) ys) (sym q) h.1))
      (λ n. has-union (x ∷ xs) (y ∷ ys) n ∙ ap (λ (k : ℕ). has (x ∷ xs) n || (eqb k n || has ys n)) (sym q)
      ∙ or_swap (eqb x n) (has (x ∷ xs) n) (has ys n)
      ∙ ap (λ (t : Bool). eqb x n || t) (or_assoc (eqb x n) (has xs n) (has ys n))
      ∙ or_same (eqb x n) (has xs n || has ys n)
      ∙ ap (λ (t : Bool). eqb x n || t) (sym (has-union xs ys n)))

pub union_nil : (a : ℕ) (xs : List ℕ) → From a xs → union xs [] ≡ xs
union_nil a xs g = ext a a (union xs []) xs (From-union a xs [] (λ n e. From-low a xs n g e) tt) g (λ n. has-union xs [] n ∙ or_none_lem (has xs n))
  where
    or_none_lem : (t : Bool) → (t || false) ≡ t
    or_none_lem true = refl
    or_none_lem false = refl
