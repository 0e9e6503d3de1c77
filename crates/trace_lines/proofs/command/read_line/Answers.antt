-- A line that is too long says nothing; of any other, the numbers stand at the start of the room.
use Rattle.std.proofs.Common.{◌≡◌, ◌-◌, length, refl, rules}
use native.Mathlib.Nat.{sub-zero}
use lib.ListN.{replicate}
use Rattle.trace_lines.specs.Lines.{unknown, said, line_said}
use Rattle.trace_lines.proofs.LineLaws.{held_fits, cleared, short_is, long_is, given_as}
use Rattle.trace_lines.proofs.command.read_line.Goals as goal

pub returns-then-s-gt512 : goal.returns-then-s-gt512
returns-then-s-gt512 c =
    let s = c.args.s.now in
    let n = length c.args.room.now in
    let e : c.fill.new.self ≡ replicate n 0 = search rules in
    given_as n unknown (said n s) (long_is n s c.if-s-gt512.true) (record { result = refl; first = rw (sub-zero n) e })

pub offset_bounds-room-held : goal.offset_bounds-room-held
offset_bounds-room-held c =
    let h = held_fits _ c.line-command.result c.line-command.new.room c.line-command.ensures c.count-held.result c.count-held.ensures in
    search rules

pub slice_bounds-fill-count : goal.slice_bounds-fill-count
slice_bounds-fill-count c =
    held_fits _ c.line-command.result c.line-command.new.room c.line-command.ensures c.count-held.result c.count-held.ensures

pub slice_bounds-fill-start : goal.slice_bounds-fill-start
slice_bounds-fill-start c =
    let h = held_fits _ c.line-command.result c.line-command.new.room c.line-command.ensures c.count-held.result c.count-held.ensures in
    search rules

pub returns : goal.returns
returns c =
    let s = c.args.s.now in
    let n = length c.args.room.now in
    let line = c.line-command in
    let e : c.fill-2.new.self ≡ replicate (length line.new.room - c.count-held.result) 0 = search rules in
    given_as n (line_said n s) (said n s) (short_is n s c.if-s-gt512.false)
    (cleared (line_said n s) line.result line.new.room line.ensures c.count-held.result c.count-held.ensures n c.fill-2.new.self line.auto.room e)
