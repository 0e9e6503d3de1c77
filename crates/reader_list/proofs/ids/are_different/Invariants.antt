use Rattle.std.proofs.Common.{take, true}
use Rattle.reader_list.proofs.Alone.{Known}
use Rattle.reader_list.proofs.ids.are_different.Given as goal

abbrev pub invariant-loop-h : goal.invariant-loop-h
invariant-loop-h l = Known (take l.h-index l.list) l.low true
