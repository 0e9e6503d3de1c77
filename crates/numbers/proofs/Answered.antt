-- A step is refused or done, and where it is done, so is each of its calls. Assumes nothing.
use mathlib.Core.Path.{◌≡◌, refl, sym, ap, ◌∙◌}
use mathlib.Core.Bool.{Bool, true, false, cond}
use mathlib.Core.List.{List}
use borrow.Author.Tests.{eq-eqb, ne_eqb, eqb-true, eqb-false}
use Rattle.numbers.specs.Refusals.{Rows, numbers, answer_of, done, is_done, unless}
use Rattle.numbers.specs.declared.answer.Answer.{Answer}
use Rattle.numbers.proofs.Refused.{done-is, is-done}
use Rattle.numbers.specs.Answers.{is_before, earlier, first_answer, in_turn, answered, stepped}

-- the outcome, by the answer
module _ {A : Type 0} (a b : Answer) (q : b ≡ a) (f : Answer → A) (d : A) where
  pub answer_refused : (b.number ≡ 0 → ⊥) → f b ≡ answered a f d
  answer_refused n = ap f q ∙ sym (ap (λ (t : Bool). cond t d (f a)) (ap is_done (sym q) ∙ ne_eqb b.number 0 n))

  pub answer-done : b.number ≡ 0 → d ≡ answered a f d
  answer-done e = sym (ap (λ (t : Bool). cond t d (f a)) (ap is_done (sym q) ∙ eq-eqb b.number 0 e))

-- of a step
module _ {A : Type 0} (answers : List Answer) (a : Answer) (q : a ≡ first_answer answers) (f : Answer → A) (d : A) where
  pub step_refused : (a.number ≡ 0 → ⊥) → f a ≡ stepped answers f d
  step_refused = answer_refused (first_answer answers) a q f d

  pub step-done : a.number ≡ 0 → d ≡ stepped answers f d
  step-done = answer-done (first_answer answers) a q f d

-- A CALL'S ANSWER IS THAT OF ITS ROWS
module _ {A : Type 0} (g : A → Answer) (r : Rows) (f : Answer → A) (d : A) (hf : (a : Answer) → g (f a) ≡ a) (hd : g d ≡ done) where
  pub unless-answer : g (unless r f d) ≡ answer_of r
  unless-answer = go (is_done (answer_of r)) refl
    where
      go : (t : Bool) → is_done (answer_of r) ≡ t → g (cond t d (f (answer_of r))) ≡ answer_of r
      go true e = hd ∙ sym (done-is r (answer_of r) refl (eqb-true (answer_of r).number 0 e))
      go false e = hf (answer_of r)

  pub unless-done : (g (unless r f d)).number ≡ 0 → unless r f d ≡ d
  unless-done z = sym (is-done r (answer_of r) refl f d (sym (ap (λ (x : Answer). x.number) unless-answer) ∙ z))

-- WHERE A STEP IS DONE, SO IS EACH OF ITS CALLS
earlier-done : (a b : Answer) → (earlier a b).number ≡ 0 → (a.number ≡ 0) × (b.number ≡ 0)
earlier-done a b z = go (is_done b) refl (is_done a) refl (is_before numbers a.number b.number) z
  where
    go : (t : Bool) → is_done b ≡ t → (u : Bool) → is_done a ≡ u → (v : Bool) → (cond t a (cond u b (cond v a b))).number ≡ 0 → (a.number ≡ 0) × (b.number ≡ 0)
    go true e u d v y = (y, eqb-true b.number 0 e)
    go false e true d v y = absurd (eqb-false b.number 0 e y)
    go false e false d true y = absurd (eqb-false a.number 0 d y)
    go false e false d false y = absurd (eqb-false b.number 0 e y)

pub left-done : (a b : Answer) → (earlier a b).number ≡ 0 → a.number ≡ 0
left-done a b z = (earlier-done a b z).0

pub right_done : (a b : Answer) → (earlier a b).number ≡ 0 → b.number ≡ 0
right_done a b z = (earlier-done a b z).1

-- where two in turn are done, each is
pub turn-done : (a b : Answer) → (in_turn a b).number ≡ 0 → (a.number ≡ 0) × (b.number ≡ 0)
turn-done a b z = go (is_done a) refl z
  where
    go : (t : Bool) → is_done a ≡ t → (cond t b a).number ≡ 0 → (a.number ≡ 0) × (b.number ≡ 0)
    go true e y = (eqb-true a.number 0 e, y)
    go false e y = absurd (eqb-false a.number 0 e y)
