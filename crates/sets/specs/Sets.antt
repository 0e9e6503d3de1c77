-- Sets of numbers as rising lists: what the code's arrays with a count hold, and what the steps of document 01 speak of.
-- `has` is the membership test; every operation has one equation over `has` (proofs/Has.antt).
-- Assumes nothing.
use Rattle.std.specs.Prelude.{ℕ, zero, suc, ◌-◌, ◌≤◌, Bool, true, false, not, cond, ◌&&◌, ◌||◌, List, [], ◌∷◌, ltb, leb, eqb, length, take, drop}

-- is n in the set
abbrev pub has : List ℕ → ℕ → Bool
has [] n = false
has (x ∷ xs) n = eqb x n || has xs n

-- strictly rising, and nothing below b
abbrev pub From : ℕ → List ℕ → Type 0
From b [] = Unit {0}
From b (x ∷ xs) = (b ≤ x) × From (suc x) xs

-- x joins the set
abbrev pub insert : ℕ → List ℕ → List ℕ
insert x [] = x ∷ []
insert x (y ∷ ys) = cond (ltb x y) (x ∷ y ∷ ys) (cond (eqb x y) (y ∷ ys) (y ∷ insert x ys))

-- all of the first set join the second
abbrev pub union : List ℕ → List ℕ → List ℕ
union [] ys = ys
union (x ∷ xs) ys = insert x (union xs ys)

-- those that pass the test
abbrev pub only : (ℕ → Bool) → List ℕ → List ℕ
only p [] = []
only p (x ∷ xs) = cond (p x) (x ∷ only p xs) (only p xs)

-- those from lo through hi
abbrev pub between : ℕ → ℕ → List ℕ → List ℕ
between lo hi = only (λ n. leb lo n && leb n hi)

-- all but x
abbrev pub without : ℕ → List ℕ → List ℕ
without x = only (λ n. not (eqb x n))

-- of the k numbers from b on, those that pass the test
abbrev pub those : ℕ → ℕ → (ℕ → Bool) → List ℕ
those zero b p = []
those (suc k) b p = cond (p b) (b ∷ those k (suc b) p) (those k (suc b) p)

-- the m smallest, and the m largest
abbrev pub smallest : ℕ → List ℕ → List ℕ
smallest m l = take m l

abbrev pub largest : ℕ → List ℕ → List ℕ
largest m l = drop (length l - m) l

-- whether a set has none; and its first, the smallest of a rising one, or d where there is none
abbrev pub empty : List ℕ → Bool
empty [] = true
empty (x ∷ xs) = false

abbrev pub first_or : ℕ → List ℕ → ℕ
first_or d [] = d
first_or d (x ∷ xs) = x
