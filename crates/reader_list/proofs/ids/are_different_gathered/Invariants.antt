use Rattle.std.proofs.Common.{take, length, ◌≡◌, ◌≤◌}
use Rattle.reader_list.proofs.Alone.{Known, Gathered}
use Rattle.reader_list.proofs.ids.are_different_gathered.Given as goal

abbrev pub invariant-loop-h : goal.invariant-loop-h
invariant-loop-h l = (l.count ≤ l.h-index) × (length l.ids ≡ 64) × Known (take l.h-index l.list) l.low l.different × Gathered (take l.h-index l.list) (take l.count l.ids)
