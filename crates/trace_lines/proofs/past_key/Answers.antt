-- The library's comparison of the line's front with the key.
use Rattle.trace_lines.proofs.Laws.{stripped}
use Rattle.trace_lines.proofs.past_key.Goals as goal

pub returns : goal.returns
returns c = stripped c.args.key.now c.args.s.now c.strip_prefix.result c.strip_prefix.ensures.cases
