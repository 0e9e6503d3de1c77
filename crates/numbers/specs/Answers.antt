-- The answer of a step of several calls. Assumes nothing.
use Rattle.std.specs.Prelude.{ℕ, Bool, true, false, cond, List, [], ◌∷◌, eqb}
use Rattle.numbers.specs.Refusals.{numbers, done, is_done}
use Rattle.numbers.specs.declared.answer.Answer.{Answer}

-- of two numbers in the order of a table, the first comes first; one that isn't in it comes last
unfoldable pub is_before : List ℕ → ℕ → ℕ → Bool
is_before [] x y = true
is_before (n ∷ ns) x y = cond (eqb x n) true (cond (eqb y n) false (is_before ns x y))

-- "Order where several apply": of two calls' answers, the one that comes first in the table
abbrev pub earlier : Answer → Answer → Answer
earlier a b = cond (is_done b) a (cond (is_done a) b (cond (is_before numbers a.number b.number) a b))

-- of several calls'
abbrev pub first_answer : List Answer → Answer
first_answer [] = done
first_answer (a ∷ []) = a
first_answer (a ∷ (b ∷ bs)) = earlier a (first_answer (b ∷ bs))

-- of two calls of which the second isn't made where the first is refused
abbrev pub in_turn : Answer → Answer → Answer
in_turn a b = cond (is_done a) b a

-- what comes of a call or a step that is answered so: where the answer isn't 0, what the refusal leaves; else what is done
abbrev pub answered : {A : Type 0} → Answer → (Answer → A) → A → A
answered a refused d = cond (is_done a) d (refused a)

-- of a step whose calls are answered so
abbrev pub stepped : {A : Type 0} → List Answer → (Answer → A) → A → A
stepped answers refused d = answered (first_answer answers) refused d
