-- The first of three that says something.
use Rattle.std.proofs.Common.{ℕ, length, subst, ◌∙◌}
use Rattle.trace_lines.specs.Lines.{or_else, plain_said, ack_said, frag_said, Says}
use Rattle.trace_lines.proofs.LineLaws.{first-says, second-says, says_as, plain-says}
use Rattle.trace_lines.proofs.command.line.Goals as goal

pub returns-in-Some : goal.returns-in-Some
returns-in-Some c =
    let s = c.args.s.now in
    let n = length c.args.room.now in
    says_as (plain_said s) _ (first-says (plain_said s) (or_else (ack_said n s) (frag_said n s)) c.in-Some.command c.in-Some.ensures) (plain-says s _ c.args.room.now c.in-Some.ensures)

pub returns-in-Some-ack_line : goal.returns-in-Some-ack_line
returns-in-Some-ack_line c =
    let s = c.args.s.now in
    let n = length c.args.room.now in
    let q = c.in-Some-ack_line in
    says_as (ack_said n s) _
    (first-says (ack_said n s) (frag_said n s) q.command q.ensures.command ∙ second-says (plain_said s) (or_else (ack_said n s) (frag_said n s)) c.in_default.ensures)
    q.ensures

pub returns : goal.returns
returns c =
    let s = c.args.s.now in
    let n = length c.args.room.now in
    let r = c.frag_line in
    says_as (frag_said n s) _
    (second-says (ack_said n s) (frag_said n s) c.in_default-ack_line.ensures.command ∙ second-says (plain_said s) (or_else (ack_said n s) (frag_said n s)) c.in_default.ensures)
    (subst (λ (m : ℕ). Says (frag_said m s) r.result r.new.room) c.ack_line.auto.room r.ensures)
