-- The loop of a walk over a lent list, as MIR: `while i < list.len() { acc = g(acc, list[i]); i += 1; }`. Assumes nothing.
use Prim.Native.Nat.{ℕ}
use mathlib.Core.List.{[], ◌∷◌}
use mir.Syntax.{Callee, Body, w64, deref, field, place, unsigned, copy, int, skip as skipᴹ, seq, assign, cond, exit, call, rv_opd, op2, add, mul, lt, offset}
use prog.Memory.{size}
use Rattle.lent.proofs.Plain.{Cell}

-- S is the element. The list is local 1; the other locals: acc, i, a number, the test, the place of `list[i]`, and what is read there
module _ (S : Cell) (acc i number test at elem : ℕ) (g : Callee) where
  abbrev pub more_of : Body
  more_of = seq (assign (place number []) (op2 (mul unsigned) (copy (place i [])) (int w64 (size S.ty))))
      (seq (assign (place at []) (op2 offset (copy (place 1 (field 0 ∷ []))) (copy (place number []))))
      (seq (assign (place elem []) (rv_opd (copy (place at (deref S.ty ∷ [])))))
      (seq (call g (copy (place acc []) ∷ copy (place elem []) ∷ []) (place acc []))
      (assign (place i []) (op2 (add unsigned) (copy (place i [])) (int w64 1))))))

  abbrev pub turn_of : Body
  turn_of = seq (assign (place number []) (rv_opd (copy (place 1 (field 1 ∷ [])))))
      (seq (assign (place test []) (op2 (lt unsigned) (copy (place i [])) (copy (place number []))))
      (seq (cond (copy (place test [])) skipᴹ (exit 1)) more_of))
