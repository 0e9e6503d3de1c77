-- A set within another: it has no more numbers, and where it has as many it is the other. Assumes nothing.
use Prim.Native.Nat.{ℕ, suc, ◌≤◌, ◌<◌}
use mathlib.Core.Path.{◌≡◌, refl, sym, ap, ◌∙◌}
use mathlib.Core.Bool.{Bool, true, false, ◌||◌, true≢false}
use mathlib.Core.List.{List, [], ◌∷◌}
use native.Mathlib.Omega.{arith}
use lib.Dec.{eqb}
use lib.ListN.{length}
use borrow.Author.Tests.{eqb-true, eq-eqb, ne_eqb}
use Rattle.sets.specs.Sets.{has, From}
use Rattle.sets.proofs.Bools.{or_right}
use Rattle.sets.proofs.Has.{From-low}

abbrev Within : List ℕ → List ℕ → Type 0
Within l m = (n : ℕ) → has l n ≡ true → has m n ≡ true

first_in : (x : ℕ) (xs : List ℕ) → has (x ∷ xs) x ≡ true
first_in x xs = ap (λ (t : Bool). t || has xs x) (eq-eqb x x refl)

-- what is above y is not y
past : (y : ℕ) (l ys : List ℕ) → ((n : ℕ) → has l n ≡ true → y < n) → Within l (y ∷ ys) → Within l ys
past y l ys up s n e =
    let a = up n e in
    ap (λ (t : Bool). t || has ys n) (sym (ne_eqb y n (λ q. omega arith))) ∙ s n e

-- the two first numbers are the same, or the second set's is below all of the first set
module _ (x y : ℕ) (xs ys : List ℕ) (f : From (suc x) xs) (g : From (suc y) ys) (s : Within (x ∷ xs) (y ∷ ys)) where
  same_first : eqb y x ≡ true → Within xs ys
  same_first e = past y xs ys (λ n h. omega (arith, eqb-true y x e, From-low (suc x) xs n f h)) (λ n h. s n (or_right (eqb x n) (has xs n) h))

  below-first : eqb y x ≡ false → Within (x ∷ xs) ys
  below-first e =
      let h : has ys x ≡ true = ap (λ (t : Bool). t || has ys x) (sym e) ∙ s x (first_in x xs) in
      let b = From-low (suc y) ys x g h in
      past y (x ∷ xs) ys (λ n k. omega (arith, From-low x (x ∷ xs) n (omega arith, f) k)) s

pub within_le : (b c : ℕ) (l m : List ℕ) → From b l → From c m → Within l m → length l ≤ length m
within_le b c [] m f g s = omega arith
within_le b c (x ∷ xs) [] f g s = absurd (true≢false (sym (s x (first_in x xs))))
within_le b c (x ∷ xs) (y ∷ ys) f g s =
    go (eqb y x) refl
    (λ e. within_le (suc x) (suc y) xs ys f.1 g.1 (same_first x y xs ys f.1 g.1 s e))
    (λ e. within_le b (suc y) (x ∷ xs) ys f g.1 (below-first x y xs ys f.1 g.1 s e))
  where
    go : (t : Bool) → eqb y x ≡ t → (eqb y x ≡ true → length xs ≤ length ys) → (eqb y x ≡ false → suc (length xs) ≤ length ys) → suc (length xs) ≤ suc (length ys)
    go true e a b = omega (arith, a e)
    go false e a b = omega (arith, b e)

pub within_same : (b c : ℕ) (l m : List ℕ) → From b l → From c m → Within l m → length m ≤ length l → l ≡ m
within_same b c [] [] f g s h = refl
within_same b c [] (y ∷ ys) f g s h = absurd (omega arith)
within_same b c (x ∷ xs) [] f g s h = absurd (true≢false (sym (s x (first_in x xs))))
within_same b c (x ∷ xs) (y ∷ ys) f g s h =
    go (eqb y x) refl
    (λ e. within_same (suc x) (suc y) xs ys f.1 g.1 (same_first x y xs ys f.1 g.1 s e) (omega arith))
    (λ e. within_le b (suc y) (x ∷ xs) ys f g.1 (below-first x y xs ys f.1 g.1 s e))
  where
    go : (t : Bool) → eqb y x ≡ t → (eqb y x ≡ true → xs ≡ ys) → (eqb y x ≡ false → suc (length xs) ≤ length ys) → x ∷ xs ≡ y ∷ ys
    go true e a b = let q = eqb-true y x e in let r = a e in cc
    go false e a b = absurd (omega (arith, b e))
