-- `cut_bits` meets its contract. Assumes nothing.
use native.Mathlib.Omega.{arith}
use Rattle.number_sets.proofs.Loops.{cutting_end}
use Rattle.number_sets.proofs.number_set.NumberSet.cut_bits.Goals as goal

pub returns : goal.returns
returns c = cutting_end _ _ _ _ _ _ c.loop-j.invariant c.words_to-j-end.ensures.0 (omega arith)
