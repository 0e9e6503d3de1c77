-- What the functions that a write is made of do, beside the look at each place: the writer's part, and the number put into each room. Assumes nothing.
use Rattle.std.specs.Prelude.{ℕ, Bool, cond, List, map, length}
use Rattle.numbers.specs.Number.{rank_of}
use Rattle.numbers.specs.Refusals.{is_done}
use Rattle.numbers.specs.Promise.{Left2, Left3}
use Rattle.rising.specs.Runs.{run_with}
use Rattle.rtps_reader_proxy.specs.Parts.{count_unsent}
use Rattle.rtps_reader_proxy.specs.declared.proxy.ReaderProxy.{ReaderProxy}
use Rattle.writer_send_buffer.specs.declared.flow.WriterSendBuffer.{WriterSendBuffer}
use Rattle.writer_send_buffer.specs.declared.flow.Numbered.{Numbered}
use Rattle.writer_send_buffer.specs.Samples.{admit_of}
use Rattle.writer_write.specs.Write.{UnsentPart}
use Rattle.writer_write.specs.Places.{stride_of, readers_in, proxies_of, laid_from}
use Rattle.writer_write.specs.InPlace.{write_incoherent}

-- THE WRITER'S PART, where `t` says whether the readers are coherent
abbrev pub writer_of : Bool → WriterSendBuffer → List ℕ → List ℕ → List ℕ → Bool → Left3 Numbered WriterSendBuffer (List ℕ) (List ℕ)
writer_of t f store lens payload opted = cond t (admit_of f store lens payload opted) (write_incoherent f store lens)

-- THE NUMBER PUT, with nothing checked: into a reader's run; the number that was given, if one was
abbrev pub with_number : ℕ → UnsentPart → UnsentPart
with_number n k =
    record {
      proxy = count_unsent (run_with n k.proxy.unsent_count k.unsent).result k.proxy;
      unsent = (run_with n k.proxy.unsent_count k.unsent).first;
    }

abbrev pub put_one : Numbered → UnsentPart → UnsentPart
put_one m k = cond (is_done m.answer) (with_number (rank_of m.number) k) k

-- into the rooms of all places
abbrev pub put_in_all : Numbered → List ReaderProxy → List ℕ → Left2 Numbered (List ReaderProxy) (List ℕ)
put_in_all m hs u =
    record {
      result = m;
      first = proxies_of (map (put_one m) (readers_in hs u));
      second = laid_from (stride_of (length hs) u) (map (put_one m) (readers_in hs u)) u;
    }
