use Rattle.std.proofs.Common.{◌≡◌, map, drop}
use Rattle.numbers.specs.Answers.{is_before}
use Rattle.numbers.specs.Refusal.{refusal_number}
use Rattle.numbers.proofs.answers.is_before.Given as goal

abbrev pub invariant-loop-by : goal.invariant-loop-by
invariant-loop-by l = is_before (map refusal_number l.order) l.x l.y ≡ is_before (map refusal_number (drop l.by-index l.order)) l.x l.y
