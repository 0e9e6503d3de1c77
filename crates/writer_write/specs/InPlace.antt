-- A WRITE THAT TELLS EVERY READER, in place: `write_step` on the readers that stand side by side, which come to stand there again. Assumes nothing.
use Rattle.std.specs.Prelude.{ℕ, ◌≡◌, refl, Bool, true, cond, List, [], ◌∷◌, length}
use Rattle.numbers.specs.Refusals.{row, answer_of}
use Rattle.numbers.specs.Promise.{Left3}
use Rattle.rtps_reader_proxy.specs.declared.proxy.ReaderProxy.{ReaderProxy}
use Rattle.writer_send_buffer.specs.declared.flow.WriterSendBuffer.{WriterSendBuffer}
use Rattle.writer_send_buffer.specs.declared.flow.Numbered.{Numbered}
use Rattle.writer_send_buffer.specs.Buffer.{numbered_no}
use Rattle.writer_write.specs.Write.{Written, write_step}
use Rattle.writer_write.specs.Places.{stride_of, readers_in, proxies_of, laid_from}
use Rattle.writer_write.specs.Coherent.{places_coherent}

-- where they are not coherent it is refused with 1, and nothing changes
abbrev pub write_incoherent : WriterSendBuffer → List ℕ → List ℕ → Left3 Numbered WriterSendBuffer (List ℕ) (List ℕ)
write_incoherent f store lens = record { result = numbered_no (answer_of (row 1 refl true ∷ [])); first = f; second = store; third = lens }

-- a free place's proxy is not coherent to `told`, which leaves it as it is
abbrev pub write_in : WriterSendBuffer → List ℕ → List ℕ → List ℕ → Bool → List ReaderProxy → List ℕ → Written
write_in f store lens payload opted hs u =
    cond (places_coherent hs u) (write_step f store lens payload opted (readers_in hs u)) (record { writer = write_incoherent f store lens; readers = readers_in hs u })

-- all that it leaves: the answer with the number, the flow record, the store, the lengths, the proxies and the unsent room
pub record LeftByWrite : Type 0 where
  pub result : Numbered
  pub flow : WriterSendBuffer
  pub store : List ℕ
  pub lens : List ℕ
  pub proxies : List ReaderProxy
  pub unsent : List ℕ

abbrev pub side_by_side : Written → ℕ → List ℕ → LeftByWrite
side_by_side w s u =
    record {
      result = w.writer.result;
      flow = w.writer.first;
      store = w.writer.second;
      lens = w.writer.third;
      proxies = proxies_of w.readers;
      unsent = laid_from s w.readers u;
    }

abbrev pub write_of : WriterSendBuffer → List ℕ → List ℕ → List ℕ → Bool → List ReaderProxy → List ℕ → LeftByWrite
write_of f store lens payload opted hs u = side_by_side (write_in f store lens payload opted hs u) (stride_of (length hs) u) u

-- the promise: they are those of the outcome
pub record Wrote (r : Numbered) (flow : WriterSendBuffer) (store lens : List ℕ) (proxies : List ReaderProxy) (unsent : List ℕ) (o : LeftByWrite) : Type 0 where
  pub is-result : r ≡ o.result
  pub is-flow : flow ≡ o.flow
  pub is_store : store ≡ o.store
  pub is-lens : lens ≡ o.lens
  pub is-proxies : proxies ≡ o.proxies
  pub is-unsent : unsent ≡ o.unsent
