-- What each step over the reader list leaves. Assumes nothing.
use Prim.Native.Nat.{ℕ, ◌<◌}
use mathlib.Core.Path.{◌≡◌, refl, sym, ap, ◌∙◌}
use mathlib.Core.Bool.{Bool, true, false, cond}
use mathlib.Core.List.{List}
use borrow.Author.Tests.{eq-eqb, eqb-true}
use Rattle.numbers.specs.Number.{rank_of, negative}
use Rattle.numbers.specs.Refusals.{answer_of, done, is_done, unless, Rows}
use Rattle.numbers.specs.Answers.{earlier}
use Rattle.numbers.specs.Promise.{Left1, Left2, Left4}
use Rattle.numbers.specs.declared.answer.Answer.{Answer}
use Rattle.numbers.proofs.Refused.{Clear, clear}
use Rattle.numbers.proofs.Answered.{unless-answer, left-done, right_done, turn-done}
use Rattle.number_sets.specs.declared.sequence_number_set.SequenceNumberSet.{SequenceNumberSet}
use Rattle.rtps_reader_proxy.specs.declared.proxy.ReaderProxy.{ReaderProxy}
use Rattle.rtps_reader_proxy.specs.declared.acks.AckNacked.{AckNacked}
use Rattle.rtps_reader_proxy.specs.Acks.{ack_rows, ack_leaves, among_answer, ack_nacked_among}
use Rattle.reader_list.specs.declared.heads.ReaderHead.{ReaderHead}
use Rattle.reader_list.specs.declared.calls.Match.{Match}
use Rattle.reader_list.specs.Readers.{frontier, matched, departed, acknowledged}
use Rattle.reader_list.specs.Slots.{readers, list_coherent, list_rows, id_unknown, match_rows, front_of, found_of}
use Rattle.reader_list.proofs.Kept.{match_is, depart-is, ack-is}
use Rattle.writer_send_buffer.specs.declared.flow.WriterSendBuffer.{WriterSendBuffer}
use Rattle.numbers.specs.declared.answer.Told.{Told}
use Rattle.writer_send_buffer.specs.declared.frontiers.Woken.{Woken}
use Rattle.writer_send_buffer.proofs.Steps.{at_least_0}
use Rattle.writer_steps.specs.declared.acks.AckTold.{AckTold}
use Rattle.writer_steps.specs.Readers.{stored_of, flow_rows, beside_flow, after, match_step, depart_step, frontier_in}
use Rattle.writer_steps.specs.Acks.{acked_by, agree_rows, there_for, beside_ack, acked_list, ack_stored, ack_step}
use Rattle.writer_steps.proofs.Together.{answered-done, found_rows, found_answer, then_kept, then_done, then_frontier, list-kept, list-is}

done_test : (a b : Answer) → a ≡ b → a.number ≡ 0 → is_done b ≡ true
done_test a b q z = ap is_done (sym q) ∙ eq-eqb a.number 0 z

-- A CHANGE OF THE LIST by a call that is refused by the rows r
module _ (hs : List ReaderHead) (f : WriterSendBuffer) (r : Rows) (d : List ReaderHead) where
  abbrev o : Left1 Answer (List ReaderHead)
  o = unless r (λ no. record { result = no; first = hs }) (record { result = done; first = d })

  abbrev w : Woken
  w = after (beside_flow o.result f) (stored_of (front_of o.first) f) f

  o_answer : o.result ≡ answer_of r
  o_answer = unless-answer (λ (x : Left1 Answer (List ReaderHead)). x.result) r (λ no. record { result = no; first = hs }) (record { result = done; first = d }) (λ x. refl) refl

  -- a refusal changes nothing
  pub change_kept : (w.told.answer.number ≡ 0 → ⊥) → (cond (is_done w.told.answer) o.first hs ≡ hs) × (w.flow ≡ f)
  change_kept z = (list-kept w hs o.first z, then_kept (beside_flow o.result f) o.first f z)

  module _ (z : w.told.answer.number ≡ 0) where
    -- the call was done
    pub change_done : is_done (answer_of r) ≡ true
    change_done = done_test o.result (answer_of r) o_answer (left-done o.result (answer_of (flow_rows f)) (then_done (beside_flow o.result f) o.first f z).0)

    pub change_is : cond (is_done w.told.answer) o.first hs ≡ o.first
    change_is = list-is w hs o.first z

    pub change_frontier : frontier (readers o.first) < 9223372036854775808 → frontier_in w.flow ≡ frontier (readers o.first)
    change_frontier = then_frontier (beside_flow o.result f) o.first f z

-- A MATCH
module _ (hs : List ReaderHead) (f : WriterSendBuffer) (m : Match) where
  abbrev met : Left2 Told (List ReaderHead) WriterSendBuffer
  met = match_step hs f m

  pub match-kept : (met.result.answer.number ≡ 0 → ⊥) → (met.first ≡ hs) × (met.second ≡ f)
  match-kept = change_kept hs f (match_rows hs m) _

  module _ (z : met.result.answer.number ≡ 0) where
    pub match-frontier : frontier (readers met.first) < 9223372036854775808 → frontier_in met.second ≡ frontier (readers met.first)
    match-frontier small =
        change_frontier hs f (match_rows hs m) _ z (rw (← change_is hs f (match_rows hs m) _ z) small)
        ∙ ap (λ (l : List ReaderHead). frontier (readers l)) (sym (change_is hs f (match_rows hs m) _ z))

    pub match_moves : readers met.first ≡ matched m.id m.reliable (readers hs)
    match_moves = ap readers (change_is hs f (match_rows hs m) _ z) ∙ match_is hs m (change_done hs f (match_rows hs m) _ z)

-- A DEPARTURE
module _ (hs : List ReaderHead) (f : WriterSendBuffer) (i : ℕ) where
  abbrev gone : Left2 Told (List ReaderHead) WriterSendBuffer
  gone = depart_step hs f i

  abbrev gone_rows : Rows
  gone_rows = list_rows false (list_coherent hs) false (id_unknown i (readers hs)) false

  pub depart-kept : (gone.result.answer.number ≡ 0 → ⊥) → (gone.first ≡ hs) × (gone.second ≡ f)
  depart-kept = change_kept hs f gone_rows _

  module _ (z : gone.result.answer.number ≡ 0) where
    pub depart-frontier : frontier (readers gone.first) < 9223372036854775808 → frontier_in gone.second ≡ frontier (readers gone.first)
    depart-frontier small =
        change_frontier hs f gone_rows _ z (rw (← change_is hs f gone_rows _ z) small)
        ∙ ap (λ (l : List ReaderHead). frontier (readers l)) (sym (change_is hs f gone_rows _ z))

    pub depart_moves : readers gone.first ≡ departed i (readers hs)
    depart_moves = ap readers (change_is hs f gone_rows _ z) ∙ depart-is hs i (change_done hs f gone_rows _ z)

-- AN ACKNACK
module _ (hs : List ReaderHead) (f : WriterSendBuffer) (i : ℕ) (set : SequenceNumberSet) (h : ReaderProxy) (unsent gaps : List ℕ) where
  abbrev step : Left4 AckTold (List ReaderHead) WriterSendBuffer (List ℕ) (List ℕ)
  step = ack_step hs f i set h unsent gaps

  abbrev beside : Answer
  beside = beside_ack f (found_of hs i) h

  abbrev there : Answer
  there = there_for (found_of hs i) h

  abbrev last' : Answer
  last' = (ack_stored hs f i set h).told.answer

  abbrev nacked : Left2 AckNacked (List ℕ) (List ℕ)
  nacked = ack_nacked_among beside last' set f.last h unsent gaps

  abbrev not_taken : Answer → Left2 AckNacked (List ℕ) (List ℕ)
  not_taken a = record { result = record { answer = a; left_out = 0; proxy = h }; first = unsent; second = gaps }

  abbrev all : Answer
  all = among_answer beside last' set f.last h unsent gaps

  nacked_answer : nacked.result.answer.number ≡ all.number
  nacked_answer = go (is_done all) refl
    where
      go : (t : Bool) → is_done all ≡ t → (cond {A = Left2 AckNacked (List ℕ) (List ℕ)} t (ack_leaves set (rank_of f.last) h unsent gaps) (not_taken all)).result.answer.number ≡ all.number
      go true e = sym (eqb-true all.number 0 e)
      go false e = refl

  -- a refusal changes nothing: neither the list and the flow record, nor the reader's record and its rooms
  pub ack-kept : (step.result.told.answer.number ≡ 0 → ⊥) → ((step.first ≡ hs) × (step.second ≡ f)) × ((step.result.proxy ≡ h) × ((step.third ≡ unsent) × (step.fourth ≡ gaps)))
  ack-kept n =
      ((list-kept (after nacked.result.answer (ack_stored hs f i set h) f) hs (acked_list hs i set h) n, then_kept nacked.result.answer (acked_list hs i set h) f n), go (is_done all) refl)
    where
      stored_too : nacked.result.answer.number ≡ 0 → last'.number ≡ 0
      stored_too y = (turn-done (earlier (answer_of (ack_rows h unsent gaps set f.last)) beside) last' (sym nacked_answer ∙ y)).1

      never : is_done all ≡ true → ⊥
      never e =
          let y : nacked.result.answer.number ≡ 0 = nacked_answer ∙ eqb-true all.number 0 e in
          n (ap (λ (t : Bool). (cond {A = Woken} t (ack_stored hs f i set h) (record { told = record { answer = nacked.result.answer; yes = false }; flow = f })).told.answer.number) (eq-eqb nacked.result.answer.number 0 y) ∙ stored_too y)

      outcome : Bool → Left2 AckNacked (List ℕ) (List ℕ)
      outcome t = cond {A = Left2 AckNacked (List ℕ) (List ℕ)} t (ack_leaves set (rank_of f.last) h unsent gaps) (not_taken all)

      go : (t : Bool) → is_done all ≡ t → ((outcome t).result.proxy ≡ h) × (((outcome t).first ≡ unsent) × ((outcome t).second ≡ gaps))
      go true e = absurd (never e)
      go false e = (refl, (refl, refl))

  module _ (z : step.result.told.answer.number ≡ 0) where
    taken : nacked.result.answer.number ≡ 0
    taken = (then_done nacked.result.answer (acked_list hs i set h) f z).0

    all_done : (earlier (answer_of (ack_rows h unsent gaps set f.last)) beside).number ≡ 0
    all_done = (turn-done (earlier (answer_of (ack_rows h unsent gaps set f.last)) beside) last' (sym nacked_answer ∙ taken)).0

    -- none of its calls was refused
    pub ack-called : (answer_of (ack_rows h unsent gaps set f.last)).number ≡ 0
    ack-called = left-done (answer_of (ack_rows h unsent gaps set f.last)) beside all_done

    beside-done : beside.number ≡ 0
    beside-done = right_done (answer_of (ack_rows h unsent gaps set f.last)) beside all_done

    there-done : there.number ≡ 0
    there-done = left-done there (answer_of (flow_rows f)) beside-done

    pub ack_found : (found_of hs i).answer.number ≡ 0
    ack_found = left-done (found_of hs i).answer (answer_of (agree_rows (found_of hs i) h)) there-done

    pub ack_agreed : (answer_of (agree_rows (found_of hs i) h)).number ≡ 0
    ack_agreed = right_done (found_of hs i).answer (answer_of (agree_rows (found_of hs i) h)) there-done

    -- the record is as its own call leaves it, and the head's acked is the record's
    pub ack-taken : nacked ≡ ack_leaves set (rank_of f.last) h unsent gaps
    ack-taken = (answered-done (λ (x : Left2 AckNacked (List ℕ) (List ℕ)). x.result.answer) all not_taken (ack_leaves set (rank_of f.last) h unsent gaps) (λ x. refl) taken).1

    known : Clear (found_rows hs i)
    known = clear (found_rows hs i) (found_of hs i).answer (found_answer hs i) ack_found

    ack_set : is_done (answer_of (list_rows false (list_coherent hs) (negative (acked_by set h)) (id_unknown i (readers hs)) false)) ≡ true
    ack_set = rw (known 1 refl, known 11 refl, at_least_0) refl

    pub ack_moves : readers step.first ≡ acknowledged i (rank_of step.result.proxy.all_acked_before) (readers hs)
    ack_moves =
        ap readers (list-is (after nacked.result.answer (ack_stored hs f i set h) f) hs (acked_list hs i set h) z)
        ∙ ack-is hs (record { id = i; acked = acked_by set h }) ack_set
        ∙ ap (λ (x : Left2 AckNacked (List ℕ) (List ℕ)). acknowledged i (rank_of x.result.proxy.all_acked_before) (readers hs)) (sym ack-taken)

    pub ack-frontier : frontier (readers step.first) < 9223372036854775808 → frontier_in step.second ≡ frontier (readers step.first)
    ack-frontier small =
        let e = list-is (after nacked.result.answer (ack_stored hs f i set h) f) hs (acked_list hs i set h) z in
        then_frontier nacked.result.answer (acked_list hs i set h) f z (rw (← e) small)
        ∙ ap (λ (l : List ReaderHead). frontier (readers l)) (sym e)
