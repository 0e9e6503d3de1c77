-- `stay` meets its contract. Assumes nothing.
use Rattle.std.proofs.Common.{arith}
use Rattle.rtps_reader_proxy.proofs.AckCalls.{stay_late, stay_some}
use Rattle.rtps_reader_proxy.proofs.Ends.{all_before}
use Rattle.rtps_reader_proxy.proofs.acks.stay.Goals as goal

pub returns-then-b-a : goal.returns-then-b-a
returns-then-b-a c =
    let args = c.args in
    stay_late args.count args.unsent.now args.last args.a args.base c.max-b.result c.requires c.max-b.ensures c.if-b-a.true

pub returns-in-Some : goal.returns-in-Some
returns-in-Some c =
    let args = c.args in
    let keep = c.keep_from-some in
    stay_some args.count args.unsent.now args.last args.a args.base c.max-b.result c.requires c.max-b.ensures c.if-b-a.false keep.result c.keep_before.result keep.new.s c.keep_before.new.s
    keep.ensures c.keep_before.ensures

pub returns-in_default : goal.returns-in_default
returns-in_default c =
    let args = c.args in
    let keep = c.keep_from-some in
    stay_some args.count args.unsent.now args.last args.a args.base c.max-b.result c.requires c.max-b.ensures c.if-b-a.false keep.result keep.result keep.new.s keep.new.s
    keep.ensures
    (all_before args.count args.unsent.now c.max-b.result args.last keep.result keep.new.s _ c.requires.run keep.ensures c.last.ensures.value (rw c.in-Some.is c.if-last-n.false))

pub returns-in_default-2 : goal.returns-in_default-2
returns-in_default-2 c =
    let args = c.args in
    let keep = c.keep_from-some in
    stay_some args.count args.unsent.now args.last args.a args.base c.max-b.result c.requires c.max-b.ensures c.if-b-a.false keep.result keep.result keep.new.s keep.new.s
    keep.ensures
    (all_before args.count args.unsent.now c.max-b.result args.last keep.result keep.new.s _ c.requires.run keep.ensures c.last.ensures.value (rw c.in_default.is (omega arith)))
