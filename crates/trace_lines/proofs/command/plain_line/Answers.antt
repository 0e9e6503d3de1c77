-- The first of five that says something.
use Rattle.std.proofs.Common.{rules, ◌≡◌, ap, ◌∙◌}
use Rattle.trace_lines.specs.Lines.{command_of, or_else, new_said, match_said, write_said, sent_said, evict_said}
use Rattle.trace_lines.proofs.LineLaws.{or_else_is, or_else-assoc}
use Rattle.trace_lines.proofs.command.plain_line.Goals as goal

pub returns : goal.returns
returns c =
    let s = c.args.s.now in
    let two = or_else (new_said s) (match_said s) in
    let three = or_else two (write_said s) in
    let four = or_else three (sent_said s) in
    let e2 : c.or_else.result ≡ command_of two = or_else_is (new_said s) (match_said s) c.new_line.result c.or_else.result _ c.new_line.ensures (λ h. search rules) c.or_else.ensures in
    let e3 : c.or_else-2.result ≡ command_of three = or_else_is two (write_said s) c.or_else.result c.or_else-2.result _ e2 (λ h. search rules) c.or_else-2.ensures in
    let e4 : c.or_else-3.result ≡ command_of four = or_else_is three (sent_said s) c.or_else-2.result c.or_else-3.result _ e3 (λ h. search rules) c.or_else-3.ensures in
    let e5 : c.or_else-4.result ≡ command_of (or_else four (evict_said s)) = or_else_is four (evict_said s) c.or_else-3.result c.or_else-4.result _ e4 (λ h. search rules) c.or_else-4.ensures in
    e5 ∙ ap command_of (or_else-assoc three (sent_said s) (evict_said s) ∙ or_else-assoc two (write_said s) (or_else (sent_said s) (evict_said s)) ∙ or_else-assoc (new_said s) (match_said s) (or_else (write_said s) (or_else (sent_said s) (evict_said s))))
