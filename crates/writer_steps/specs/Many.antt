-- THE SEND STEP FOR MANY: the single step again and again, with the place of what each time is sent. Assumes nothing.
use Rattle.std.specs.Prelude.{refl, ℕ, zero, suc, ◌≤◌, min, Bool, not, cond, ◌&&◌, List, [], ◌∷◌, map, length}
use Rattle.sets.specs.Sets.{empty}
use Rattle.numbers.specs.Number.{rank_of, number_at}
use Rattle.numbers.specs.Refusals.{row, unless, done, is_done, Rows}
use Rattle.numbers.specs.Promise.{Left1, Left4}
use Rattle.rising.specs.Runs.{filled}
use Rattle.rtps_reader_proxy.specs.declared.proxy.ReaderProxy.{ReaderProxy}
use Rattle.rtps_reader_proxy.specs.Record.{unsent_coherent}
use Rattle.rtps_reader_proxy.specs.Unsent.{by_unsent}
use Rattle.writer_send_buffer.specs.declared.flow.WriterSendBuffer.{WriterSendBuffer}
use Rattle.writer_send_buffer.specs.declared.samples.Located.{Located}
use Rattle.writer_send_buffer.specs.Flow.{retained}
use Rattle.writer_send_buffer.specs.Buffer.{flow_view}
use Rattle.writer_send_buffer.specs.Samples.{store_coherent, locate_of, located_of}
use Rattle.writer_steps.specs.declared.send.Sent.{Sent}
use Rattle.writer_steps.specs.declared.many.SentMany.{SentMany}
use Rattle.writer_steps.specs.Send.{send_of}

-- a number that was sent, and whether as data (else as a gap)
pub record Gone : Type 0 where
  pub number : ℕ
  pub «data» : Bool

-- several in turn, and the reader's proxy and unsent room after them
pub record Sending : Type 0 where
  pub gone : List Gone
  pub proxy : ReaderProxy
  pub unsent : List ℕ

abbrev pub sent_first : Left1 Sent (List ℕ) → Sending → Sending
sent_first o s = record { gone = record { number = rank_of o.result.number; «data» = o.result.«data» } ∷ s.gone; proxy = s.proxy; unsent = s.unsent }

-- the send step up to k times, as long as it is done
abbrev pub sending : ℕ → WriterSendBuffer → ReaderProxy → List ℕ → Sending
sending zero f h u = record { gone = []; proxy = h; unsent = u }
sending (suc k) f h u =
    cond (is_done (send_of f h u).result.answer)
    (sent_first (send_of f h u) (sending k f (send_of f h u).result.proxy (send_of f h u).first))
    (record { gone = []; proxy = h; unsent = u })

-- where the bytes of a number that was sent lie: what goes as a gap has no start, and no bytes
abbrev pub no_start : ℕ
no_start = 18446744073709551615

abbrev pub starts_at : WriterSendBuffer → ℕ → List ℕ → Gone → ℕ
starts_at f room lens g = cond g.«data» (locate_of f room lens (number_at g.number)).start no_start

abbrev pub long_as : WriterSendBuffer → ℕ → List ℕ → Gone → ℕ
long_as f room lens g = (locate_of f room lens (number_at g.number)).length

-- refused where the store or the unsent room isn't coherent, and where nothing is unsent
abbrev pub many_rows : WriterSendBuffer → ℕ → List ℕ → ReaderProxy → List ℕ → Rows
many_rows f room lens h unsent = row 1 refl (not (store_coherent f room lens && unsent_coherent h unsent)) ∷ row 14 refl (empty (by_unsent h unsent).unsent) ∷ []

-- as many as each of the three lent rooms has places for
abbrev pub most_of : List ℕ → List ℕ → List ℕ → ℕ
most_of numbers starts lengths = min (length numbers) (min (length starts) (length lengths))

abbrev pub many_left : WriterSendBuffer → ℕ → List ℕ → Sending → List ℕ → List ℕ → List ℕ → Left4 SentMany (List ℕ) (List ℕ) (List ℕ) (List ℕ)
many_left f room lens s numbers starts lengths =
    record {
      result = record { answer = done; count = length s.gone; proxy = s.proxy };
      first = s.unsent;
      second = filled (map (λ g. g.number) s.gone) numbers;
      third = filled (map (starts_at f room lens) s.gone) starts;
      fourth = filled (map (long_as f room lens) s.gone) lengths;
    }

abbrev pub send_many_of : WriterSendBuffer → ℕ → List ℕ → ReaderProxy → List ℕ → List ℕ → List ℕ → List ℕ → Left4 SentMany (List ℕ) (List ℕ) (List ℕ) (List ℕ)
send_many_of f room lens h unsent numbers starts lengths =
    unless (many_rows f room lens h unsent)
    (λ a. record { result = record { answer = a; count = 0; proxy = h }; first = unsent; second = numbers; third = starts; fourth = lengths })
    (many_left f room lens (sending (most_of numbers starts lengths) f h unsent) numbers starts lengths)

-- WITHIN: what the private functions ask and leave

abbrev pub gone_as : WriterSendBuffer → ℕ → Gone
gone_as f n = record { number = n; «data» = retained n (flow_view f) }

abbrev pub located_start : Located → ℕ
located_start l = cond (is_done l.answer) l.start no_start

abbrev pub start_for : WriterSendBuffer → List ℕ → ℕ → ℕ
start_for f lens n = located_start (located_of f lens (number_at n))

abbrev pub length_for : WriterSendBuffer → List ℕ → ℕ → ℕ
length_for f lens n = (located_of f lens (number_at n)).length

-- rooms that are long enough
pub record Placeable (numbers starts lengths : List ℕ) : Type 0 where
  pub starts_fit : length numbers ≤ length starts
  pub fitting_lengths : length numbers ≤ length lengths
