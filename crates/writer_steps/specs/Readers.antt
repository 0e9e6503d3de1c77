-- The writer "stores the frontier after each match, departure and accepted ACKNACK". Assumes nothing.
use Rattle.std.specs.Prelude.{refl, ℕ, not, cond, List, [], ◌∷◌, set, Result, Ok, Err}
use Rattle.numbers.specs.Number.{rank_of}
use Rattle.numbers.specs.Refusals.{row, answer_of, is_done, Rows}
use Rattle.numbers.specs.Answers.{earlier, answered}
use Rattle.numbers.specs.Promise.{Left1, Left2}
use Rattle.numbers.specs.declared.answer.Answer.{Answer}
use Rattle.reader_list.specs.declared.heads.ReaderHead.{ReaderHead}
use Rattle.reader_list.specs.declared.calls.Front.{Front}
use Rattle.reader_list.specs.declared.calls.Match.{Match}
use Rattle.reader_list.specs.declared.changes.Slot.{Slot}
use Rattle.reader_list.specs.Slots.{front_of, match_of, depart_of}
use Rattle.reader_list.specs.Ahead.{front_stored}
use Rattle.writer_send_buffer.specs.declared.flow.WriterSendBuffer.{WriterSendBuffer}
use Rattle.numbers.specs.declared.answer.Told.{Told}
use Rattle.writer_send_buffer.specs.declared.frontiers.Woken.{Woken}
use Rattle.writer_send_buffer.specs.Buffer.{flow_coherent, acked_of, told_no, woken}

-- refused, with the flow record as it was
abbrev pub not_stored : WriterSendBuffer → Answer → Woken
not_stored f a = record { told = told_no a; flow = f }

-- the frontier of a list stored
abbrev pub stored_of : Front → WriterSendBuffer → Woken
stored_of front f = answered front.answer (not_stored f) (woken (acked_of f front.frontier))

-- whether the flow record that is lent is coherent (1) is asked with the rest, in the table's order
abbrev pub flow_rows : WriterSendBuffer → Rows
flow_rows f = row 1 refl (not (flow_coherent f)) ∷ []

abbrev pub beside_flow : Answer → WriterSendBuffer → Answer
beside_flow a f = earlier a (answer_of (flow_rows f))

-- after a call that is answered so: where it is refused, nothing is stored, and it is the call's number that is given
abbrev pub after : Answer → Woken → WriterSendBuffer → Woken
after a w f = answered a (not_stored f) w

-- the list, changed where the step is done
abbrev pub list_after : Woken → List ReaderHead → List ReaderHead → List ReaderHead
list_after w old new = cond (is_done w.told.answer) new old

-- what a step leaves: the answer and the wake, the list, the flow record
abbrev pub step_leaves : Woken → List ReaderHead → List ReaderHead → Left2 Told (List ReaderHead) WriterSendBuffer
step_leaves w old new = record { result = w.told; first = list_after w old new; second = w.flow }

-- a change of the list, with the frontier of the changed list stored in the same step
abbrev pub list_step : List ReaderHead → WriterSendBuffer → Left1 Answer (List ReaderHead) → Left2 Told (List ReaderHead) WriterSendBuffer
list_step hs f o = step_leaves (after (beside_flow o.result f) (stored_of (front_of o.first) f) f) hs o.first

abbrev pub match_step : List ReaderHead → WriterSendBuffer → Match → Left2 Told (List ReaderHead) WriterSendBuffer
match_step hs f m = list_step hs f (match_of hs m)

abbrev pub depart_step : List ReaderHead → WriterSendBuffer → ℕ → Left2 Told (List ReaderHead) WriterSendBuffer
depart_step hs f i = list_step hs f (depart_of hs i)

-- the frontier that a flow record has stored; 0 stands for an absent one
abbrev pub frontier_in : WriterSendBuffer → ℕ
frontier_in f = cond f.present (rank_of f.acked) 0

-- WITHIN: by the slot that the change would store

abbrev pub change_step : List ReaderHead → WriterSendBuffer → ℕ → Result Slot Answer → Left2 Told (List ReaderHead) WriterSendBuffer
change_step hs f i (Ok s) = step_leaves (woken (acked_of f (front_stored hs i s.head))) hs (set hs s.place s.head)
change_step hs f i (Err a) = record { result = told_no (beside_flow a f); first = hs; second = f }
