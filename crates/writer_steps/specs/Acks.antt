-- An ACKNACK taken by reader id: the reader's record, its head's acked in the list and the stored frontier move together. Assumes nothing.
use Rattle.std.specs.Prelude.{refl, ℕ, not, ◌&&◌, List, [], ◌∷◌, eqb}
use Rattle.numbers.specs.Number.{rank_of, number_at}
use Rattle.numbers.specs.Refusals.{row, answer_of, is_done, Rows}
use Rattle.numbers.specs.Answers.{earlier}
use Rattle.numbers.specs.Promise.{Left2, Left4}
use Rattle.numbers.specs.declared.answer.Answer.{Answer}
use Rattle.numbers.specs.declared.sequence_number.SequenceNumber.{SequenceNumber}
use Rattle.number_sets.specs.declared.sequence_number_set.SequenceNumberSet.{SequenceNumberSet}
use Rattle.rtps_reader_proxy.specs.declared.proxy.ReaderProxy.{ReaderProxy}
use Rattle.rtps_reader_proxy.specs.declared.acks.AckNacked.{AckNacked}
use Rattle.rtps_reader_proxy.specs.Reader.{acked_after}
use Rattle.rtps_reader_proxy.specs.Acks.{ack_nacked_among}
use Rattle.reader_list.specs.declared.heads.ReaderHead.{ReaderHead}
use Rattle.reader_list.specs.declared.calls.Found.{Found}
use Rattle.reader_list.specs.Slots.{found_of, front_of, ack_of}
use Rattle.writer_send_buffer.specs.declared.flow.WriterSendBuffer.{WriterSendBuffer}
use Rattle.writer_send_buffer.specs.declared.frontiers.Woken.{Woken}
use Rattle.writer_steps.specs.declared.acks.AckTold.{AckTold}
use Rattle.writer_steps.specs.Readers.{stored_of, beside_flow, after, list_after}

-- the acked that the ACKNACK leaves, where it is taken
abbrev pub acked_by : SequenceNumberSet → ReaderProxy → SequenceNumber
acked_by set h = number_at (acked_after (rank_of h.all_acked_before) (rank_of set.base))

-- where there is both a reader's record and its head, they agree on acked, or it is 1
abbrev pub agree_rows : Found → ReaderProxy → Rows
agree_rows found h = row 1 refl (is_done found.answer && not (eqb (rank_of found.head.acked) (rank_of h.all_acked_before))) ∷ []

-- what is asked with it: whether the reader is there (11), and whether they agree; and whether the flow record is coherent
abbrev pub there_for : Found → ReaderProxy → Answer
there_for found h = earlier found.answer (answer_of (agree_rows found h))

abbrev pub beside_ack : WriterSendBuffer → Found → ReaderProxy → Answer
beside_ack f found h = beside_flow (there_for found h) f

-- the list with the head's acked as the ACKNACK leaves it, and its frontier stored
abbrev pub acked_list : List ReaderHead → ℕ → SequenceNumberSet → ReaderProxy → List ReaderHead
acked_list hs i set h = (ack_of hs (record { id = i; acked = acked_by set h })).first

abbrev pub ack_stored : List ReaderHead → WriterSendBuffer → ℕ → SequenceNumberSet → ReaderProxy → Woken
ack_stored hs f i set h = stored_of (front_of (acked_list hs i set h)) f

-- what the step leaves: the reader's record as `nacked` has it, the list and the flow record where that is done
abbrev pub ack_left : Left2 AckNacked (List ℕ) (List ℕ) → Woken → WriterSendBuffer → List ReaderHead → List ReaderHead → Left4 AckTold (List ReaderHead) WriterSendBuffer (List ℕ) (List ℕ)
ack_left nacked w f old new =
    record {
      result = record { told = (after nacked.result.answer w f).told; left_out = nacked.result.left_out; proxy = nacked.result.proxy };
      first = list_after (after nacked.result.answer w f) old new;
      second = (after nacked.result.answer w f).flow;
      third = nacked.first;
      fourth = nacked.second;
    }

-- 1, 3, 2, 11 and 12 by the table; then what storing the frontier is answered
abbrev pub ack_step : List ReaderHead → WriterSendBuffer → ℕ → SequenceNumberSet → ReaderProxy → List ℕ → List ℕ → Left4 AckTold (List ReaderHead) WriterSendBuffer (List ℕ) (List ℕ)
ack_step hs f i set h unsent gaps =
    ack_left (ack_nacked_among (beside_ack f (found_of hs i) h) (ack_stored hs f i set h).told.answer set f.last h unsent gaps) (ack_stored hs f i set h) f hs (acked_list hs i set h)
