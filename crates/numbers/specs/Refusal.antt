-- The number of each refusal: document 01's table. Assumes nothing.
use Rattle.std.specs.Prelude.{ℕ}
use Rattle.numbers.specs.declared.refusal.Refusal.{Refusal}
use Rattle.numbers.specs.declared.refusal.Refusal.TheVariants.{Incoherent, Range, Bits, Payload, UsedUp, WouldBlock, StoreFull, ReadersFull, GapsFull, FragsFull, Reader, Ahead, Limit, Nothing, Line}

-- "Numbers returned"
abbrev pub refusal_number : Refusal → ℕ
refusal_number Incoherent = 1
refusal_number Range = 2
refusal_number Bits = 3
refusal_number Payload = 4
refusal_number UsedUp = 5
refusal_number WouldBlock = 6
refusal_number StoreFull = 7
refusal_number ReadersFull = 8
refusal_number GapsFull = 9
refusal_number FragsFull = 10
refusal_number Reader = 11
refusal_number Ahead = 12
refusal_number Limit = 13
refusal_number Nothing = 14
refusal_number Line = 15
