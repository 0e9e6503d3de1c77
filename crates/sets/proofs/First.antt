-- The first of a rising set: what tells it apart. Assumes nothing.
use Prim.Native.Nat.{ℕ, suc, ◌<◌}
use mathlib.Core.Path.{◌≡◌, refl, sym, ap, ◌∙◌}
use mathlib.Core.Bool.{Bool, true, false, ◌||◌, true≢false, false≢true}
use mathlib.Core.List.{List, [], ◌∷◌}
use mathlib.Core.Logic.{◌⊎◌, inl, inr}
use lib.Dec.{eqb}
use native.Mathlib.Omega.{arith}
use borrow.Author.Tests.{eqb-true, eq-eqb, ne_eqb}
use Rattle.sets.specs.Sets.{has, From, empty, first_or}
use Rattle.sets.proofs.Has.{From-low}
use Rattle.sets.proofs.Ext.{From_off}

head : (x : ℕ) (xs : List ℕ) → has (x ∷ xs) x ≡ true
head x xs = ap (λ (t : Bool). t || has xs x) (eq-eqb x x refl)

-- r is in the set, and nothing below r is
pub first-is : (d b r : ℕ) (l : List ℕ) → From b l → has l r ≡ true → ((m : ℕ) → m < r → has l m ≡ false) → first_or d l ≡ r
first-is d b r [] h e none = absurd (false≢true e)
first-is d b r (x ∷ xs) h e none = go (eqb x r) refl e
  where
    go : (t : Bool) → eqb x r ≡ t → (t || has xs r) ≡ true → x ≡ r
    go true f w = eqb-true x r f
    go false f w = absurd (true≢false (sym (head x xs) ∙ none x (From-low (suc x) xs r h.1 w)))

pub first-none : (d : ℕ) (l : List ℕ) → ((m : ℕ) → has l m ≡ false) → first_or d l ≡ d
first-none d [] none = refl
first-none d (x ∷ xs) none = absurd (true≢false (sym (head x xs) ∙ none x))

pub empty-none : (l : List ℕ) → ((m : ℕ) → has l m ≡ false) → empty l ≡ true
empty-none [] none = refl
empty-none (x ∷ xs) none = absurd (true≢false (sym (head x xs) ∙ none x))

pub empty-some : (r : ℕ) (l : List ℕ) → has l r ≡ true → empty l ≡ false
empty-some r [] e = absurd (false≢true e)
empty-some r (x ∷ xs) e = refl

-- the first, if there is one
pub first_cases : (d b : ℕ) (l : List ℕ) → From b l
    → ((first_or d l ≡ d) × ((m : ℕ) → has l m ≡ false)) ⊎ ((has l (first_or d l) ≡ true) × ((m : ℕ) → m < first_or d l → has l m ≡ false))
first_cases d b [] h = inl (refl, λ m. refl)
first_cases d b (x ∷ xs) h = inr (head x xs, λ m q. rw (ne_eqb x m (λ (z : x ≡ m). omega arith)) (From_off (suc x) xs m h.1 (omega arith)))
