-- `replace` meets its contract. Assumes nothing.
use native.Mathlib.Omega.{arith}
use Rattle.number_sets.specs.Calls.{sequence_set}
use Rattle.number_sets.proofs.Meaning.{members_256}
use Rattle.joined_runs.proofs.Laid.{replaced_total, replaced-room, grown-some}
use Rattle.joined_runs.proofs.replace.Goals as goal

pub resize-requires : goal.resize-requires
resize-requires c = (c.requires.0, omega (arith, members_256 (sequence_set c.args.set) c.requires.1.bits, c.size-n.ensures))

pub overflow_add-result : goal.overflow_add-result
overflow_add-result c = omega (arith, members_256 (sequence_set c.args.set) c.requires.1.bits, c.size-n.ensures, c.requires.0.rises, c.requires.0.most, c.requires.0.fits)

pub overflow_add-result-2 : goal.overflow_add-result-2
overflow_add-result-2 c = omega (arith, members_256 (sequence_set c.args.set) c.requires.1.bits, c.size-n.ensures, c.requires.0.rises, c.requires.0.most, c.requires.0.fits)

pub returns : goal.returns
returns c =
    let size = c.size-n in
    let if1 = c.if-n-q in
    let resize = c.resize in
    let list-members = c.list_members in
    grown-some c.args.p c.args.q c.args.count c.args.s.now c.args.set c.requires.0 c.requires.1 size.result size.ensures if1.false
    _ _
    (record { result = replaced_total c.args.p c.args.q c.args.count c.args.s.now c.args.set c.requires.0 c.requires.1 size.result size.ensures; first = replaced-room c.args.p c.args.q c.args.count c.args.s.now c.args.set c.requires.0 c.requires.1 size.result resize.result resize.new.s size.ensures resize.ensures list-members.result list-members.new.out list-members.ensures })
