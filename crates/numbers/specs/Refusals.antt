-- The numbers returned and the order in which they apply, as data. "Each is given when its row holds and otherwise not." Assumes nothing.
use Rattle.std.specs.Prelude.{ℕ, ◌≡◌, Bool, true, false, cond, ◌||◌, List, [], ◌∷◌, eqb}
use Rattle.sets.specs.Sets.{has}
use Rattle.numbers.specs.declared.answer.Answer.{Answer}

-- THE TABLE: "Order where several apply: 13, 1, 3, 2, 11, 12, then 4, 5, 6, 7; 8, 9, 10 and 14 come last". A new number is one more here.
abbrev pub numbers : List ℕ
numbers = 13 ∷ 1 ∷ 3 ∷ 2 ∷ 11 ∷ 12 ∷ 4 ∷ 5 ∷ 6 ∷ 7 ∷ 8 ∷ 9 ∷ 10 ∷ 14 ∷ []

-- one row of a call: a number of the table, and whether it holds. A number that isn't in the table makes no row: `row 99 refl t` has no type
pub record Row : Type 0 where
  pub number : ℕ
  pub listed : has numbers number ≡ true
  pub holds : Bool

abbrev pub row : (n : ℕ) → has numbers n ≡ true → Bool → Row
row n l t = record { number = n; listed = l; holds = t }

-- the rows of a call, in any order
abbrev pub Rows : Type 0
Rows = List Row

-- a row of that number holds; where it stands twice, either refuses
abbrev pub holds_in : ℕ → Rows → Bool
holds_in n [] = false
holds_in n (r ∷ rs) = cond (eqb r.number n) (holds_in n rs || r.holds) (holds_in n rs)

-- the first number of which a row holds, or 0
abbrev pub first_row : List ℕ → Rows → ℕ
first_row [] rs = 0
first_row (n ∷ ns) rs = cond (holds_in n rs) n (first_row ns rs)

-- the answer of a number; no answer of today has a place
abbrev pub answer_at : ℕ → Answer
answer_at n = record { number = n; place = 0 }

-- the answer of a call, by the table alone
abbrev pub answer_of : Rows → Answer
answer_of rs = answer_at (first_row numbers rs)

abbrev pub done : Answer
done = answer_at 0

abbrev pub is_done : Answer → Bool
is_done a = eqb a.number 0

-- what comes of a call: where a row holds, what the refusal leaves; else what is done
abbrev pub unless : {A : Type 0} → Rows → (Answer → A) → A → A
unless rs refused d = cond (is_done (answer_of rs)) d (refused (answer_of rs))
