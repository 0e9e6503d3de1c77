-- The payload admitted, or refused by the buffer, and then both readers told.
use Rattle.std.proofs.Common.{ap, refl, rules, ◌∙◌}
use Rattle.trace_readers.specs.State.{own_answer}
use Rattle.trace_run.proofs.WriteLaws.{admit_refused, write_done}
use Rattle.trace_run.proofs.write.written.Goals as goal

pub returns-then-not-is_done-2 : goal.returns-then-not-is_done-2
returns-then-not-is_done-2 c =
    let a = c.args in
    let own = c.coherence-own in
    let d = c.admitted_in-admitted in
    let refused = c.refused-then-not-is_done-2 in
    admit_refused a.payload.now a.trace a.store.now a.large.now own.result (own.ensures ∙ ap own_answer c.both_coherent.ensures) (search rules)
    d.result d.new.store d.new.large
    d.ensures
    (search rules) refused.result refused.ensures

pub returns : goal.returns
returns c =
    let a = c.args in
    let own = c.coherence-own in
    let d = c.admitted_in-admitted in
    let told = c.told_both in
    write_done a.payload.now a.trace a.store.now a.large.now own.result (own.ensures ∙ ap own_answer c.both_coherent.ensures) (search rules)
    d.result d.new.store d.new.large
    d.ensures
    (search rules) _ refl told.result told.new.large told.ensures
