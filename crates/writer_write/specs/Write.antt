-- A sample admitted, and every reader told: `admit`, and once it is done, `notify_new_cache_change` with the number given, reader by reader.
-- Assumes nothing.
use Rattle.std.specs.Prelude.{ℕ, Bool, cond, List, map}
use Rattle.numbers.specs.Refusals.{is_done}
use Rattle.numbers.specs.Promise.{Left3}
use Rattle.numbers.specs.declared.sequence_number.SequenceNumber.{SequenceNumber}
use Rattle.rtps_reader_proxy.specs.declared.proxy.ReaderProxy.{ReaderProxy}
use Rattle.rtps_reader_proxy.specs.Unsent.{notified_of}
use Rattle.writer_send_buffer.specs.declared.flow.WriterSendBuffer.{WriterSendBuffer}
use Rattle.writer_send_buffer.specs.declared.flow.Numbered.{Numbered}
use Rattle.writer_send_buffer.specs.Samples.{admit_of}

-- a reader's proxy, and its unsent room
pub record UnsentPart : Type 0 where
  pub proxy : ReaderProxy
  pub unsent : List ℕ

abbrev pub told : SequenceNumber → UnsentPart → UnsentPart
told n k = record { proxy = (notified_of n k.proxy k.unsent).result.proxy; unsent = (notified_of n k.proxy k.unsent).first }

-- "It notifies every reader of each admitted number"; where the write is refused, nothing is told
abbrev pub told_all : Numbered → List UnsentPart → List UnsentPart
told_all n ks = cond (is_done n.answer) (map (told n.number) ks) ks

pub record Written : Type 0 where
  pub writer : Left3 Numbered WriterSendBuffer (List ℕ) (List ℕ)
  pub readers : List UnsentPart

abbrev pub write_step : WriterSendBuffer → List ℕ → List ℕ → List ℕ → Bool → List UnsentPart → Written
write_step f store lens payload opted ks = record { writer = admit_of f store lens payload opted; readers = told_all (admit_of f store lens payload opted).result ks }
