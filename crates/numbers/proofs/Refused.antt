-- The laws of refusals: a call is refused or done, and one that is done meets no row. Assumes nothing.
use Prim.Native.Nat.{ℕ}
use mathlib.Core.Path.{◌≡◌, refl, sym, ap, subst, ◌∙◌}
use mathlib.Core.Bool.{Bool, true, false, not, cond, ◌&&◌, ◌||◌, false≢true}
use mathlib.Core.List.{List, [], ◌∷◌}
use lib.Dec.{eqb}
use borrow.Author.Tests.{eq-eqb, ne_eqb, eqb-true, eqb-false}
use Rattle.sets.specs.Sets.{has}
use Rattle.numbers.specs.declared.answer.Answer.{Answer}
use Rattle.numbers.specs.Refusals.{Rows, numbers, holds_in, first_row, answer_at, answer_of, done, is_done, unless}
use Rattle.numbers.specs.Promise.{Left1, Left2, Gives1, Gives2}

-- WHAT IS KNOWN OF A CALL THAT IS DONE: no row holds, of whatever number
abbrev pub Clear : Rows → Type 0
Clear rs = (n : ℕ) → has numbers n ≡ true → holds_in n rs ≡ false

-- no number of a table is 0
abbrev positive : List ℕ → Bool
positive [] = true
positive (n ∷ ns) = not (eqb n 0) && positive ns

none-holds : (ns : List ℕ) (rs : Rows) → positive ns ≡ true → first_row ns rs ≡ 0 → (n : ℕ) → has ns n ≡ true → holds_in n rs ≡ false
none-holds [] rs p e n h = absurd (false≢true h)
none-holds (m ∷ ns) rs p e n h = go (holds_in m rs) refl (eqb m 0) refl p e (eqb m n) refl h (λ q z k. none-holds ns rs q z n k)
  where
    go : (t : Bool) → holds_in m rs ≡ t → (z : Bool) → eqb m 0 ≡ z → (not z && positive ns) ≡ true → cond t m (first_row ns rs) ≡ 0 → (u : Bool) → eqb m n ≡ u → (u || has ns n) ≡ true
        → (positive ns ≡ true → first_row ns rs ≡ 0 → has ns n ≡ true → holds_in n rs ≡ false) → holds_in n rs ≡ false
    go t w true z q e u v h k = absurd (false≢true q)
    go true w false z q e u v h k = absurd (eqb-false m 0 z e)
    go false w false z q e true v h k = ap (λ (x : ℕ). holds_in x rs) (sym (eqb-true m n v)) ∙ w
    go false w false z q e false v h k = k q e h

pub clear : (rs : Rows) (a : Answer) → a ≡ answer_of rs → a.number ≡ 0 → Clear rs
clear rs a q e = none-holds numbers rs refl (sym (ap (λ (x : Answer). x.number) q) ∙ e)

-- the row that stands first, whatever the others
pub first-row : (x y : Bool) → (x || y) ≡ false → y ≡ false
first-row true y e = absurd (false≢true (sym e))
first-row false y e = e

-- an answer of 0 to a call is `done`
pub done-is : (rs : Rows) (a : Answer) → a ≡ answer_of rs → a.number ≡ 0 → a ≡ done
done-is rs a q e = q ∙ ap answer_at (sym (ap (λ (x : Answer). x.number) q) ∙ e)

-- the outcome, by the answer
module _ {A : Type 0} (r : Rows) (a : Answer) (q : a ≡ answer_of r) (f : Answer → A) (d : A) where
  pub is_refused : (a.number ≡ 0 → ⊥) → f a ≡ unless r f d
  is_refused n = ap f q ∙ sym (ap (λ (t : Bool). cond t d (f (answer_of r))) (ap is_done (sym q) ∙ ne_eqb a.number 0 n))

  pub is-done : a.number ≡ 0 → d ≡ unless r f d
  is-done e = sym (ap (λ (t : Bool). cond t d (f (answer_of r))) (ap is_done (sym q) ∙ eq-eqb a.number 0 e))

-- a promise, from the outcome
module _ {A B : Type 0} (r : A) (u : B) (o p : Left1 A B) (e : o ≡ p) where
  pub gives1 : r ≡ o.result → u ≡ o.first → Gives1 r u p
  gives1 x y = subst (Gives1 r u) e (record { result = x; first = y })

module _ {A B C : Type 0} (r : A) (u : B) (v : C) (o p : Left2 A B C) (e : o ≡ p) where
  pub gives2 : r ≡ o.result → u ≡ o.first → v ≡ o.second → Gives2 r u v p
  gives2 x y z = subst (Gives2 r u v) e (record { result = x; first = y; second = z })
