-- A promise allows one result: two that it allows are equal, with all that was lent. Assumes nothing.
use mathlib.Core.Path.{◌≡◌, sym, ◌∙◌}
use Rattle.numbers.specs.Promise.{Left1, Left2, Left3, Left4, Gives1, Gives2, Gives3, Gives4}

pub one : {A : Type 0} {r s o : A} → r ≡ o → s ≡ o → r ≡ s
one p q = p ∙ sym q

pub one1 : {A B : Type 0} {r s : A} {u v : B} {o : Left1 A B} → Gives1 r u o → Gives1 s v o → (r ≡ s) × (u ≡ v)
one1 p q = (one p.result q.result, one p.first q.first)

pub one2 : {A B C : Type 0} {r s : A} {u v : B} {x y : C} {o : Left2 A B C} → Gives2 r u x o → Gives2 s v y o → (r ≡ s) × (u ≡ v) × (x ≡ y)
one2 p q = (one p.result q.result, one p.first q.first, one p.second q.second)

pub one3 : {A B C D : Type 0} {r s : A} {u v : B} {x y : C} {z w : D} {o : Left3 A B C D} → Gives3 r u x z o → Gives3 s v y w o → (r ≡ s) × (u ≡ v) × (x ≡ y) × (z ≡ w)
one3 p q = (one p.result q.result, one p.first q.first, one p.second q.second, one p.third q.third)

pub one4 : {A B C D E : Type 0} {r s : A} {u v : B} {x y : C} {z w : D} {a b : E} {o : Left4 A B C D E} → Gives4 r u x z a o → Gives4 s v y w b o → (r ≡ s) × (u ≡ v) × (x ≡ y) × (z ≡ w) × (a ≡ b)
one4 p q = (one p.result q.result, one p.first q.first, one p.second q.second, one p.third q.third, one p.fourth q.fourth)
