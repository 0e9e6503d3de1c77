-- What each operation has: one equation over `has`; and what keeps a set rising. Assumes nothing.
use Prim.Native.Nat.{ℕ, suc, ◌≤◌, ◌<◌}
use mathlib.Core.Path.{◌≡◌, refl, sym, ap, ◌∙◌}
use mathlib.Core.Bool.{Bool, true, false, not, cond, ◌&&◌, ◌||◌, false≢true}
use mathlib.Core.List.{List, [], ◌∷◌}
use lib.Dec.{ltb, leb, eqb}
use native.Mathlib.Omega.{arith}
use borrow.Author.Tests.{ltb-true, ltb-false, eqb-true, eqb-false, eq-eqb}
use Rattle.sets.specs.Sets.{has, From, insert, union, only, between, without}
use Rattle.sets.proofs.Bools.{or_swap, or_same, or_assoc, or_right, and_both}

pub lt_of_le_of_ne : {a b : ℕ} → a ≤ b → (a ≡ b → ⊥) → a < b
lt_of_le_of_ne p d = omega arith

pub has-insert : (x n : ℕ) (l : List ℕ) → has (insert x l) n ≡ (eqb x n || has l n)
has-insert x n [] = refl
has-insert x n (y ∷ ys) = lt (ltb x y) (has-insert x n ys)
  where
    eq : (t : Bool) → eqb x y ≡ t → has (insert x ys) n ≡ (eqb x n || has ys n) → has (cond t (y ∷ ys) (y ∷ insert x ys)) n ≡ (eqb x n || (eqb y n || has ys n))
    eq true e h = sym (ap (λ (k : ℕ). eqb k n || (eqb y n || has ys n)) (eqb-true x y e) ∙ or_same (eqb y n) (has ys n))
    eq false e h = ap (λ (b : Bool). eqb y n || b) h ∙ or_swap (eqb x n) (eqb y n) (has ys n)

    lt : (t : Bool) → has (insert x ys) n ≡ (eqb x n || has ys n) → has (cond t (x ∷ y ∷ ys) (cond (eqb x y) (y ∷ ys) (y ∷ insert x ys))) n ≡ (eqb x n || (eqb y n || has ys n))
    lt true h = refl
    lt false h = eq (eqb x y) refl h

pub has-union : (xs ys : List ℕ) (n : ℕ) → has (union xs ys) n ≡ (has xs n || has ys n)
has-union [] ys n = refl
has-union (x ∷ xs) ys n =
    has-insert x n (union xs ys) ∙ ap (λ (b : Bool). eqb x n || b) (has-union xs ys n) ∙ sym (or_assoc (eqb x n) (has xs n) (has ys n))

pub has-only : (p : ℕ → Bool) (l : List ℕ) (n : ℕ) → has (only p l) n ≡ (p n && has l n)
has-only p [] n = go (p n)
  where
    go : (b : Bool) → false ≡ (b && false)
    go true = refl
    go false = refl
has-only p (x ∷ xs) n = go (p x) refl (eqb x n) refl (has-only p xs n)
  where
    none : (b c : Bool) → b ≡ false → c ≡ (b && has xs n) → c ≡ false
    none b c e h = h ∙ ap (λ (t : Bool). t && has xs n) e

    go : (b : Bool) → p x ≡ b → (t : Bool) → eqb x n ≡ t → has (only p xs) n ≡ (p n && has xs n) → has (cond b (x ∷ only p xs) (only p xs)) n ≡ (p n && (eqb x n || has xs n))
    go true e true f h = rw f (sym (and_both (p n) true (sym (ap p (eqb-true x n f)) ∙ e) refl))
    go true e false f h = rw f h
    go false e true f h = rw f (none (p n) (has (only p xs) n) (sym (ap p (eqb-true x n f)) ∙ e) h ∙ sym (ap (λ (b : Bool). b && true) (sym (ap p (eqb-true x n f)) ∙ e)))
    go false e false f h = rw f h

pub From-low : (b : ℕ) (l : List ℕ) (n : ℕ) → From b l → has l n ≡ true → b ≤ n
From-low b [] n h e = absurd (false≢true e)
From-low b (x ∷ xs) n h e = go (eqb x n) refl e (From-low (suc x) xs n h.1)
  where
    go : (t : Bool) → eqb x n ≡ t → (t || has xs n) ≡ true → (has xs n ≡ true → suc x ≤ n) → b ≤ n
    go true f g r = omega (arith, eqb-true x n f, h.0)
    go false f g r = omega (arith, r g, h.0)

pub From_weak : (a b : ℕ) (l : List ℕ) → a ≤ b → From b l → From a l
From_weak a b [] q h = tt
From_weak a b (x ∷ xs) q h = (omega (arith, h.0), h.1)

pub From-insert : (b x : ℕ) (l : List ℕ) → b ≤ x → From b l → From b (insert x l)
From-insert b x [] q h = (q, tt)
From-insert b x (y ∷ ys) q h = lt (ltb x y) refl (From-insert (suc y) x ys)
  where
    eq : (t : Bool) → eqb x y ≡ t → y ≤ x → (suc y ≤ x → From (suc y) ys → From (suc y) (insert x ys)) → From b (cond t (y ∷ ys) (y ∷ insert x ys))
    eq true e w r = h
    eq false e w r = (h.0, r (lt_of_le_of_ne w (λ (z : y ≡ x). eqb-false x y e (sym z))) h.1)

    lt : (t : Bool) → ltb x y ≡ t → (suc y ≤ x → From (suc y) ys → From (suc y) (insert x ys)) → From b (cond t (x ∷ y ∷ ys) (cond (eqb x y) (y ∷ ys) (y ∷ insert x ys)))
    lt true e r = (q, (ltb-true x y e, h.1))
    lt false e r = eq (eqb x y) refl (ltb-false x y e) r

pub From-union : (b : ℕ) (xs ys : List ℕ) → ((n : ℕ) → has xs n ≡ true → b ≤ n) → From b ys → From b (union xs ys)
From-union b [] ys q h = h
From-union b (x ∷ xs) ys q h =
    From-insert b x (union xs ys) (q x (ap (λ (t : Bool). t || has xs x) (eq-eqb x x refl)))
    (From-union b xs ys (λ n e. q n (or_right (eqb x n) (has xs n) e)) h)

pub From-only : (b : ℕ) (p : ℕ → Bool) (l : List ℕ) → From b l → From b (only p l)
From-only b p [] h = tt
From-only b p (x ∷ xs) h = go (p x) (From-only (suc x) p xs h.1)
  where
    go : (t : Bool) → From (suc x) (only p xs) → From b (cond t (x ∷ only p xs) (only p xs))
    go true r = (h.0, r)
    go false r = From_weak b (suc x) (only p xs) (omega (arith, h.0)) r

pub From_raise : (a b : ℕ) (l : List ℕ) → From a l → ((n : ℕ) → has l n ≡ true → b ≤ n) → From b l
From_raise a b [] h q = tt
From_raise a b (x ∷ xs) h q = (q x (ap (λ (t : Bool). t || has xs x) (eq-eqb x x refl)), h.1)

pub has-between : (lo hi : ℕ) (l : List ℕ) (n : ℕ) → has (between lo hi l) n ≡ ((leb lo n && leb n hi) && has l n)
has-between lo hi l n = has-only (λ m. leb lo m && leb m hi) l n

pub has-without : (x : ℕ) (l : List ℕ) (n : ℕ) → has (without x l) n ≡ (not (eqb x n) && has l n)
has-without x l n = has-only (λ m. not (eqb x m)) l n
