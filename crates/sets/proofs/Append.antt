-- Sets one after the other. Assumes nothing.
use Prim.Native.Nat.{ℕ, suc, ◌≤◌, ◌<◌}
use mathlib.Core.Path.{◌≡◌, refl, sym, ap, ◌∙◌}
use mathlib.Core.Bool.{Bool, true, false, cond, ◌||◌}
use mathlib.Core.List.{List, [], ◌∷◌, ◌++◌}
use native.Mathlib.Omega.{arith}
use lib.Dec.{eqb, ltb}
use lib.ListN.{length}
use borrow.Author.Tests.{eq-eqb}
use Rattle.sets.specs.Sets.{has, From, insert, union, only}
use Rattle.sets.proofs.Bools.{or_assoc, or_right}
use Rattle.sets.proofs.Has.{From_weak}

pub has-append : (xs ys : List ℕ) (n : ℕ) → has (xs ++ ys) n ≡ (has xs n || has ys n)
has-append [] ys n = refl
has-append (x ∷ xs) ys n = ap (λ (t : Bool). eqb x n || t) (has-append xs ys n) ∙ sym (or_assoc (eqb x n) (has xs n) (has ys n))

-- all of the first are below c, and the second rises from c on
pub From-append : (b c : ℕ) (xs ys : List ℕ) → b ≤ c → From b xs → ((n : ℕ) → has xs n ≡ true → n < c) → From c ys → From b (xs ++ ys)
From-append b c [] ys h f t g = From_weak b c ys h g
From-append b c (x ∷ xs) ys h f t g =
    (f.0, From-append (suc x) c xs ys (t x (ap (λ (z : Bool). z || has xs x) (eq-eqb x x refl))) f.1 (λ n e. t n (or_right (eqb x n) (has xs n) e)) g)

-- a test that all members pass leaves them all
pub only_same : (p : ℕ → Bool) (l : List ℕ) → ((n : ℕ) → has l n ≡ true → p n ≡ true) → only p l ≡ l
only_same p [] h = refl
only_same p (x ∷ xs) h =
    rw (h x (ap (λ (z : Bool). z || has xs x) (eq-eqb x x refl))) (ap (λ (l : List ℕ). x ∷ l) (only_same p xs (λ n e. h n (or_right (eqb x n) (has xs n) e))))

-- a set that others join is no smaller
insert_ge : (x : ℕ) (l : List ℕ) → length l ≤ length (insert x l)
insert_ge x [] = omega arith
insert_ge x (y ∷ ys) = lt (ltb x y) (insert_ge x ys)
  where
    eq : (t : Bool) → length ys ≤ length (insert x ys) → suc (length ys) ≤ length (cond t (y ∷ ys) (y ∷ insert x ys))
    eq true h = omega arith
    eq false h = omega arith

    lt : (t : Bool) → length ys ≤ length (insert x ys) → suc (length ys) ≤ length (cond t (x ∷ y ∷ ys) (cond (eqb x y) (y ∷ ys) (y ∷ insert x ys)))
    lt true h = omega arith
    lt false h = eq (eqb x y) h

pub union_ge : (xs ys : List ℕ) → length ys ≤ length (union xs ys)
union_ge [] ys = omega arith
union_ge (x ∷ xs) ys = omega (arith, union_ge xs ys, insert_ge x (union xs ys))
