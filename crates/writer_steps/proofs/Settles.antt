-- What a step decides before it stores anything is the step. Assumes nothing.
use Prim.Native.Nat.{ℕ}
use mathlib.Core.Path.{◌≡◌, refl, sym, ap, subst, ◌∙◌}
use mathlib.Core.Bool.{Bool, true, false, not, cond}
use mathlib.Core.List.{List, [], ◌∷◌}
use lib.Dec.{ltb}
use lib.IntN.{pos}
use lib.ListN.{get_or, set}
use borrow.Author.Tests.{ne_eqb, eqb-true, eqb-false}
use Rattle.std.specs.Prelude.{Result, Ok, Err}
use Rattle.numbers.specs.Number.{below0, rank_of, negative, number_at}
use Rattle.numbers.specs.Refusals.{row, answer_of, is_done, unless, done, Rows}
use Rattle.numbers.specs.Answers.{earlier, in_turn, answered}
use Rattle.numbers.specs.Promise.{Left1, Left2, Left4, Gives2, Gives4}
use Rattle.numbers.specs.declared.answer.Answer.{Answer}
use Rattle.numbers.specs.declared.answer.Told.{Told}
use Rattle.numbers.specs.declared.sequence_number.SequenceNumber.{SequenceNumber}
use Rattle.numbers.proofs.Refused.{clear}
use Rattle.numbers.proofs.Answered.{left-done, right_done}
use Rattle.number_sets.specs.declared.sequence_number_set.SequenceNumberSet.{SequenceNumberSet}
use Rattle.rtps_reader_proxy.specs.declared.proxy.ReaderProxy.{ReaderProxy}
use Rattle.rtps_reader_proxy.specs.declared.acks.AckNacked.{AckNacked}
use Rattle.rtps_reader_proxy.specs.Acks.{ack_rows, ack_leaves, ack_nacked_among}
use Rattle.reader_list.specs.declared.heads.ReaderHead.{ReaderHead}
use Rattle.reader_list.specs.declared.heads.AckedFrontier.{AckedFrontier}
use Rattle.reader_list.specs.declared.calls.Match.{Match}
use Rattle.reader_list.specs.declared.calls.Acked.{Acked}
use Rattle.reader_list.specs.declared.calls.Found.{Found}
use Rattle.reader_list.specs.declared.calls.Front.{Front}
use Rattle.reader_list.specs.declared.changes.Slot.{Slot}
use Rattle.reader_list.specs.Readers.{place_of_id}
use Rattle.reader_list.specs.Slots.{readers, list_coherent, free_slot, frontier_of, list_rows, id_unknown, match_rows, depart_rows_of, front_of, found_of}
use Rattle.reader_list.specs.Ahead.{front_stored, front_with, match_slot, depart_slot}
use Rattle.reader_list.proofs.Gather.{id_known}
use Rattle.reader_list.proofs.Foreseen.{match_front, depart_front, found_front}
use Rattle.writer_send_buffer.specs.declared.flow.WriterSendBuffer.{WriterSendBuffer}
use Rattle.writer_send_buffer.specs.declared.frontiers.Woken.{Woken}
use Rattle.writer_send_buffer.specs.Flow.{ahead, stored, wakes}
use Rattle.writer_send_buffer.specs.Buffer.{flow_view, flow_form, flow_coherent, ranged, acked_of, told_no, woken}
use Rattle.writer_steps.specs.declared.acks.AckTold.{AckTold}
use Rattle.writer_steps.specs.Readers.{not_stored, stored_of, flow_rows, beside_flow, after, list_after, step_leaves, list_step, change_step, match_step, depart_step}
use Rattle.writer_steps.specs.Acks.{acked_by, there_for, beside_ack, acked_list, ack_stored, ack_left, ack_step}
use Rattle.writer_steps.proofs.Together.{found_rows, found_answer}

-- WHERE THE REST IS DONE, whether the flow record is coherent is asked by the store itself
asked_once : (f : WriterSendBuffer) (a : AckedFrontier) → woken (acked_of f a) ≡ after (beside_flow done f) (woken (acked_of f a)) f
asked_once f a = go (flow_coherent f)
  where
    store : Bool → Left1 Told WriterSendBuffer
    store t =
        unless (ranged t (ahead (frontier_of a) (flow_view f)))
        (λ no. record { result = told_no no; first = f })
        (record { result = record { answer = done; yes = wakes (frontier_of a) (flow_view f) }; first = flow_form (stored (frontier_of a) (flow_view f)) })

    go : (t : Bool) → woken (store t) ≡ after (earlier done (answer_of (row 1 refl (not t) ∷ []))) (woken (store t)) f
    go true = refl
    go false = refl

-- A CHANGE OF THE LIST by a call that is refused by the rows r
module _ (hs : List ReaderHead) (f : WriterSendBuffer) (i : ℕ) (r : Rows) (k : ℕ) (h : ReaderHead) where
  abbrev slot : Bool → Result Slot Answer
  slot b = cond b (Ok (record { place = k; head = h })) (Err (answer_of r))

  abbrev left : Bool → Left1 Answer (List ReaderHead)
  left b = cond {A = Left1 Answer (List ReaderHead)} b (record { result = done; first = set hs k h }) (record { result = answer_of r; first = hs })

  change_is : front_with hs i (slot (is_done (answer_of r))) ≡ front_of (left (is_done (answer_of r))).first → change_step hs f i (slot (is_done (answer_of r))) ≡ list_step hs f (left (is_done (answer_of r)))
  change_is = go (is_done (answer_of r)) refl
    where
      same : (t : Bool) (l : List ReaderHead) → l ≡ cond t l l
      same true l = refl
      same false l = refl

      go : (b : Bool) → is_done (answer_of r) ≡ b → front_with hs i (slot b) ≡ front_of (left b).first → change_step hs f i (slot b) ≡ list_step hs f (left b)
      go true e q =
          ap (λ (w : Woken). step_leaves w hs (set hs k h))
          (asked_once f (front_stored hs i h) ∙ ap (λ (x : Front). after (beside_flow done f) (stored_of x f) f) q)
      go false e q =
          let z : is_done (beside_flow (answer_of r) f) ≡ false = ne_eqb _ 0 (λ y. eqb-false _ 0 e (left-done (answer_of r) (answer_of (flow_rows f)) y)) in
          let w : after (beside_flow (answer_of r) f) (stored_of (front_of hs) f) f ≡ not_stored f (beside_flow (answer_of r) f) = rw z in
          (λ j. record { result = told_no (beside_flow (answer_of r) f); first = same (is_done (beside_flow (answer_of r) f)) hs j; second = f })
          ∙ ap (λ (x : Woken). step_leaves x hs hs) (sym w)

module _ (hs : List ReaderHead) (f : WriterSendBuffer) where
  pub match_settles : (m : Match) → change_step hs f m.id (match_slot hs m) ≡ match_step hs f m
  match_settles m = change_is hs f m.id (match_rows hs m) (place_of_id 0 (readers hs)) (record { id = m.id; reliable = m.reliable; acked = number_at 0 }) (match_front hs m)

  pub depart_settles : (i : ℕ) → change_step hs f i (depart_slot hs i) ≡ depart_step hs f i
  depart_settles i = change_is hs f i (depart_rows_of (list_coherent hs) i (readers hs)) (place_of_id i (readers hs)) free_slot (depart_front hs i)

-- AN ACKNACK
module _ (hs : List ReaderHead) (f : WriterSendBuffer) (h : ReaderProxy) (unsent gaps : List ℕ) (i : ℕ) (z : SequenceNumberSet) where
  abbrev Out : Type 0
  Out = Left4 AckTold (List ReaderHead) WriterSendBuffer (List ℕ) (List ℕ)

  abbrev found : Found
  found = found_of hs i

  -- the head as the ACKNACK leaves it, and the frontier then
  abbrev head : ReaderHead
  head = record { id = found.head.id; reliable = found.head.reliable; acked = acked_by z h }

  abbrev ahead_woken : Woken
  ahead_woken = woken (acked_of f (front_stored hs i head))

  abbrev taken_by : Answer → Answer → Left2 AckNacked (List ℕ) (List ℕ)
  taken_by beside then = ack_nacked_among beside then z f.last h unsent gaps

  abbrev leaves : Found → Woken → List ReaderHead → Out
  leaves d w l = ack_left (taken_by (beside_ack f d h) w.told.answer) w f hs l

  abbrev asked : Acked
  asked = record { id = i; acked = acked_by z h }

  abbrev place : ℕ
  place = place_of_id i (readers hs)

  abbrev there : ReaderHead
  there = get_or hs place free_slot

  abbrev new : ReaderHead
  new = record { id = i; reliable = there.reliable; acked = acked_by z h }

  -- the acked that is left is not below 0: so the reader is all that is asked
  not_below : (n : ℕ) → negative (number_at n) ≡ false
  not_below n = go (ltb n 9223372036854775808)
    where
      go : (t : Bool) → below0 (cond t (pos n) (pos 0)) ≡ false
      go true = refl
      go false = refl

  abbrev rows : Rows
  rows = found_rows hs i

  abbrev acked_rows : Rows
  acked_rows = list_rows false (list_coherent hs) (negative (acked_by z h)) (id_unknown i (readers hs)) false

  rows_are : acked_rows ≡ rows
  rows_are = ap (λ (t : Bool). list_rows false (list_coherent hs) t (id_unknown i (readers hs)) false) (not_below _)

  module _ (e : is_done (answer_of rows) ≡ true) where
    found_is : found ≡ record { answer = done; place = place; head = there }
    found_is = ap (λ (t : Bool). cond {A = Found} t (record { answer = done; place = place; head = there }) (record { answer = answer_of rows; place = 0; head = free_slot })) e

    list_is : acked_list hs i z h ≡ set hs place new
    list_is =
        ap (λ (r : Rows). (unless {A = Left1 Answer (List ReaderHead)} r (λ no. record { result = no; first = hs }) (record { result = done; first = set hs place new })).first) rows_are
        ∙ ap (λ (t : Bool). (cond {A = Left1 Answer (List ReaderHead)} t (record { result = done; first = set hs place new }) (record { result = answer_of rows; first = hs })).first) e

    head_is : head ≡ new
    head_is =
        ap (λ (d : Found). record { id = d.head.id; reliable = d.head.reliable; acked = acked_by z h }) found_is
        ∙ ap (λ (n : ℕ). record { id = n; reliable = there.reliable; acked = acked_by z h }) (id_known i hs (clear rows (answer_of rows) refl (eqb-true _ 0 e) 11 refl))

    woken_is : ahead_woken ≡ ack_stored hs f i z h
    woken_is = ap (λ (x : Front). stored_of x f) (found_front hs asked (ap (λ (d : Found). is_done d.answer) found_is) (not_below _))

    taken_is : leaves found ahead_woken (set hs found.place head) ≡ ack_step hs f i z h unsent gaps
    taken_is = λ j. leaves found (woken_is j) (((λ k. set hs (found_is k).place (head_is k)) ∙ sym list_is) j)

  -- where the reader isn't there, the step is refused, whatever the frontier
  module _ (e : is_done (answer_of rows) ≡ false) where
    abbrev own : Answer
    own = answer_of (ack_rows h unsent gaps z f.last)

    abbrev no : Answer
    no = earlier own (beside_ack f found h)

    refused : is_done no ≡ false
    refused = ne_eqb no.number 0 (λ y. eqb-false _ 0 e (sym (ap (λ (x : Answer). x.number) (found_answer hs i)) ∙ left-done found.answer _ (left-done (there_for found h) _ (right_done own (beside_ack f found h) y))))

    abbrev not_taken : Out
    not_taken = record { result = record { told = told_no no; left_out = 0; proxy = h }; first = hs; second = f; third = unsent; fourth = gaps }

    abbrev abandoned : Answer → Left2 AckNacked (List ℕ) (List ℕ)
    abandoned a = record { result = record { answer = a; left_out = 0; proxy = h }; first = unsent; second = gaps }

    all_refused : (w : Woken) (l : List ReaderHead) → leaves found w l ≡ not_taken
    all_refused w l = ap (λ (n : Left2 AckNacked (List ℕ) (List ℕ)). ack_left n w f hs l) nacked_is ∙ ap by after_is ∙ ap (λ (t : Bool). record { result = record { told = told_no no; left_out = 0; proxy = h }; first = cond t l hs; second = f; third = unsent; fourth = gaps }) refused
      where
        turn_is : in_turn no w.told.answer ≡ no
        turn_is = ap (λ (t : Bool). cond t w.told.answer no) refused

        nacked_is : taken_by (beside_ack f found h) w.told.answer ≡ abandoned no
        nacked_is =
            ap (λ (a : Answer). answered a abandoned (ack_leaves z (rank_of f.last) h unsent gaps)) turn_is
            ∙ ap (λ (t : Bool). cond t (ack_leaves z (rank_of f.last) h unsent gaps) (abandoned no)) refused

        after_is : after no w f ≡ not_stored f no
        after_is = ap (λ (t : Bool). cond t w (not_stored f no)) refused

        by : Woken → Out
        by x = record { result = record { told = x.told; left_out = 0; proxy = h }; first = list_after x hs l; second = x.flow; third = unsent; fourth = gaps }

    not_taken_is : leaves found ahead_woken (set hs found.place head) ≡ ack_step hs f i z h unsent gaps
    not_taken_is = all_refused ahead_woken (set hs found.place head) ∙ sym (all_refused (ack_stored hs f i z h) (acked_list hs i z h))

  pub ack_settles : leaves found ahead_woken (set hs found.place head) ≡ ack_step hs f i z h unsent gaps
  ack_settles = go (is_done (answer_of rows)) refl
    where
      go : (t : Bool) → is_done (answer_of rows) ≡ t → leaves found ahead_woken (set hs found.place head) ≡ ack_step hs f i z h unsent gaps
      go true e = taken_is e
      go false e = not_taken_is e

  -- call by call
  module _ (d : Found) (ed : d ≡ found) (n : SequenceNumber) (en : n ≡ acked_by z h) (b : Answer) (eb : b ≡ beside_ack f d h) where
    abbrev with_acked : ReaderHead
    with_acked = record { id = d.head.id; reliable = d.head.reliable; acked = n }

    with_acked_is : with_acked ≡ head
    with_acked_is = λ j. record { id = (ed j).head.id; reliable = (ed j).head.reliable; acked = en j }

    module _ (a : AckedFrontier) (ea : a ≡ front_stored hs i with_acked) (w : Woken) (ew : w ≡ woken (acked_of f a)) (r : AckNacked) (u g : List ℕ) (o : Gives2 r u g (taken_by b w.told.answer))
        (m : Woken) (em : m ≡ after r.answer w f) (l : List ReaderHead) (el : l ≡ list_after m hs (set hs d.place with_acked)) where
      woken_by : w ≡ ahead_woken
      woken_by = ew ∙ ap (λ (x : AckedFrontier). woken (acked_of f x)) (ea ∙ ap (front_stored hs i) with_acked_is)

      moved_is : m ≡ after (taken_by b w.told.answer).result.answer w f
      moved_is = em ∙ ap (λ (x : AckNacked). after x.answer w f) o.result

      decided_is : ack_left (taken_by b w.told.answer) w f hs (set hs d.place with_acked) ≡ ack_step hs f i z h unsent gaps
      decided_is =
          (λ j. ack_left (taken_by ((eb ∙ ap (λ (x : Found). beside_ack f x h) ed) j) (woken_by j).told.answer) (woken_by j) f hs (set hs (ed j).place (with_acked_is j)))
          ∙ ack_settles

      pub ack_decided : Gives4 (record { told = m.told; left_out = r.left_out; proxy = r.proxy }) l m.flow u g (ack_step hs f i z h unsent gaps)
      ack_decided =
          subst (Gives4 (record { told = m.told; left_out = r.left_out; proxy = r.proxy }) l m.flow u g) decided_is
          (record {
            result = λ j. record { told = (moved_is j).told; left_out = (o.result j).left_out; proxy = (o.result j).proxy };
            first = el ∙ ap (λ (x : Woken). list_after x hs (set hs d.place with_acked)) moved_is;
            second = ap (λ (x : Woken). x.flow) moved_is;
            third = o.first;
            fourth = o.second;
          })
