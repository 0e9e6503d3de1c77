use mathlib.Core.Path.{◌≡◌}
use mathlib.Core.List.{map}
use lib.ListN.{length}
use Rattle.sets.proofs.Loops.{upto}
use Rattle.rising.specs.Runs.{filled}
use Rattle.writer_steps.specs.Many.{start_for, length_for}
use Rattle.writer_steps.proofs.many.places.Given as goal

abbrev pub invariant-loop-i : goal.invariant-loop-i
invariant-loop-i l = (length l.starts ≡ length l.initial.starts) × (length l.lengths ≡ length l.initial.lengths) × (l.starts ≡ upto (filled (map (start_for l.flow l.lens) l.numbers) l.initial.starts) l.initial.starts l.i) × (l.lengths ≡ upto (filled (map (length_for l.flow l.lens) l.numbers) l.initial.lengths) l.initial.lengths l.i)
