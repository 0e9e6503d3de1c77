-- Where a sample lies, told with no look at the store: in a coherent one it is where `locate_of` says. Assumes nothing.
use Prim.Native.Nat.{ℕ}
use mathlib.Core.Path.{◌≡◌}
use mathlib.Core.Bool.{true}
use mathlib.Core.List.{List}
use lib.ListN.{length}
use borrow.Author.Tests.{eq-eqb, le-leb}
use Rattle.sets.proofs.Bools.{and_yes}
use Rattle.numbers.specs.declared.sequence_number.SequenceNumber.{SequenceNumber}
use Rattle.writer_send_buffer.specs.declared.flow.WriterSendBuffer.{WriterSendBuffer}
use Rattle.writer_send_buffer.specs.Samples.{store_coherent, located_of, locate_of}
use Rattle.writer_send_buffer.proofs.Sound.{sound_is}

module _ (f : WriterSendBuffer) (lens : List ℕ) (n : SequenceNumber) where
  -- in a coherent store every retained sample has a place
  pub located_coherent : (space : ℕ) → store_coherent f space lens ≡ true → located_of f lens n ≡ locate_of f space lens n
  located_coherent space h =
      let so = sound_is f space lens h in
      let li = so.flow.limits in
      rw (h, eq-eqb (length lens) f.limits.slots so.lens-length, le-leb 1 f.limits.slots li.slots-some, le-leb f.limits.slots 256 li.slots-few, le-leb f.limits.slot_bytes 8192 li.bytes-few, and_yes)
