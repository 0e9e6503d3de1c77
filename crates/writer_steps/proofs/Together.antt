-- The steps over the reader list: one that is refused changes nothing; one that is done leaves the stored frontier equal to the smallest over the list,
-- and none of its calls was refused. Assumes nothing.
use Prim.Native.Nat.{ℕ, ◌<◌}
use mathlib.Core.Path.{◌≡◌, refl, sym, ap, ◌∙◌}
use mathlib.Core.Bool.{Bool, true, false, not, cond}
use mathlib.Core.List.{List, [], ◌∷◌}
use lib.Dec.{eqb}
use borrow.Author.Tests.{eq-eqb, ne_eqb, eqb-true, eqb-false, lt-ltb}
use Rattle.numbers.specs.Number.{rank_of, number_at}
use Rattle.numbers.specs.Refusals.{row, answer_of, done, is_done, Rows}
use Rattle.numbers.specs.Promise.{Left1}
use Rattle.numbers.specs.declared.answer.Answer.{Answer}
use Rattle.reader_list.specs.declared.heads.ReaderHead.{ReaderHead}
use Rattle.reader_list.specs.declared.heads.AckedFrontier.{AckedFrontier}
use Rattle.reader_list.specs.declared.calls.Found.{Found}
use Rattle.reader_list.specs.declared.calls.Front.{Front}
use Rattle.reader_list.specs.Readers.{frontier}
use Rattle.reader_list.specs.Slots.{readers, list_coherent, free_slot, id_unknown, frontier_of, frontier_at, found_of, front_of}
use Rattle.reader_list.specs.Slots as slots
use Rattle.reader_list.proofs.Smallest.{frontier_back}
use Rattle.writer_send_buffer.specs.declared.flow.WriterSendBuffer.{WriterSendBuffer}
use Rattle.numbers.specs.declared.answer.Told.{Told}
use Rattle.writer_send_buffer.specs.declared.frontiers.Woken.{Woken}
use Rattle.writer_send_buffer.specs.Flow.{ahead, stored, wakes}
use Rattle.writer_send_buffer.specs.Buffer.{flow_view, flow_form, ranged, acked_of, told_no, woken}
use Rattle.writer_send_buffer.specs.Buffer as buffer
use Rattle.numbers.specs.Answers.{earlier, answered}
use Rattle.writer_steps.specs.Readers.{not_stored, stored_of, beside_flow, after, list_after, frontier_in}
use Rattle.numbers.proofs.Answered.{unless-answer, unless-done}

-- what is answered, where it is done
pub answered-done : {A : Type 0} (g : A → Answer) (a : Answer) (f : Answer → A) (d : A) → ((x : Answer) → g (f x) ≡ x) → (g (answered a f d)).number ≡ 0 → (a.number ≡ 0) × (answered a f d ≡ d)
answered-done g a f d h z = go (is_done a) refl z
  where
    go : (t : Bool) → is_done a ≡ t → (g (cond t d (f a))).number ≡ 0 → (a.number ≡ 0) × (cond t d (f a) ≡ d)
    go true e y = (eqb-true a.number 0 e, refl)
    go false e y = absurd (eqb-false a.number 0 e (sym (ap (λ (x : Answer). x.number) (h a)) ∙ y))

-- STORING

-- the frontier of a list, stored as it is
held : (n : ℕ) (f : WriterSendBuffer) → n < 9223372036854775808 → frontier_in (flow_form (stored n (flow_view f))) ≡ n
held n f h = go (eqb n 0) refl
  where
    go : (t : Bool) → eqb n 0 ≡ t → cond (not t) (rank_of (number_at (cond t (rank_of f.acked) n))) 0 ≡ n
    go true e = sym (eqb-true n 0 e)
    go false e = rw (lt-ltb n 9223372036854775808 h)

module _ (f : WriterSendBuffer) (a : AckedFrontier) where
  abbrev not_put : Answer → Left1 Told WriterSendBuffer
  not_put x = record { result = told_no x; first = f }

  abbrev is-put : Left1 Told WriterSendBuffer
  is-put = record { result = record { answer = done; yes = wakes (frontier_of a) (flow_view f) }; first = flow_form (stored (frontier_of a) (flow_view f)) }

  abbrev put_rows : Rows
  put_rows = ranged (buffer.flow_coherent f) (ahead (frontier_of a) (flow_view f))

  put-answer : (acked_of f a).result.answer ≡ answer_of put_rows
  put-answer = unless-answer (λ (o : Left1 Told WriterSendBuffer). o.result.answer) put_rows not_put is-put (λ x. refl) refl

  put-kept : ((acked_of f a).result.answer.number ≡ 0 → ⊥) → (acked_of f a).first ≡ f
  put-kept z = go (is_done (answer_of put_rows)) refl
    where
      go : (t : Bool) → is_done (answer_of put_rows) ≡ t → (cond {A = Left1 Told WriterSendBuffer} t is-put (not_put (answer_of put_rows))).first ≡ f
      go true e = absurd (z (ap (λ (x : Answer). x.number) put-answer ∙ eqb-true (answer_of put_rows).number 0 e))
      go false e = refl

  put-done : (acked_of f a).result.answer.number ≡ 0 → acked_of f a ≡ is-put
  put-done z = unless-done (λ (o : Left1 Told WriterSendBuffer). o.result.answer) put_rows not_put is-put (λ x. refl) refl z

module _ (hs : List ReaderHead) where
  abbrev no_front : Answer → Front
  no_front x = record { answer = x; frontier = frontier_at 0 }

  abbrev the_front : Front
  the_front = record { answer = done; frontier = frontier_at (frontier (readers hs)) }

  front_done : (front_of hs).answer.number ≡ 0 → front_of hs ≡ the_front
  front_done z = unless-done (λ (o : Front). o.answer) (slots.list_rows false (list_coherent hs) false false false) no_front the_front (λ x. refl) refl z

-- a reader looked up: the answer is that of its rows
module _ (hs : List ReaderHead) (i : ℕ) where
  abbrev pub found_rows : Rows
  found_rows = slots.list_rows false (list_coherent hs) false (id_unknown i (readers hs)) false

  pub found_answer : (found_of hs i).answer ≡ answer_of found_rows
  found_answer = unless-answer (λ (x : Found). x.answer) found_rows (λ no. record { answer = no; place = 0; head = free_slot }) _ (λ x. refl) refl

-- the frontier of a list, stored
module _ (hs : List ReaderHead) (f : WriterSendBuffer) where
  abbrev put : Woken
  put = stored_of (front_of hs) f

  store_kept : (put.told.answer.number ≡ 0 → ⊥) → put.flow ≡ f
  store_kept z = go (is_done (front_of hs).answer) refl
    where
      go : (t : Bool) → is_done (front_of hs).answer ≡ t → (cond {A = Woken} t (woken (acked_of f (front_of hs).frontier)) (not_stored f (front_of hs).answer)).flow ≡ f
      go true e = put-kept f (front_of hs).frontier (λ y. z (ap (λ (t : Bool). (cond {A = Woken} t (woken (acked_of f (front_of hs).frontier)) (not_stored f (front_of hs).answer)).told.answer.number) e ∙ y))
      go false e = refl

  module _ (z : put.told.answer.number ≡ 0) where
    both : ((front_of hs).answer.number ≡ 0) × (put ≡ woken (acked_of f (front_of hs).frontier))
    both = answered-done (λ (x : Woken). x.told.answer) (front_of hs).answer (not_stored f) (woken (acked_of f (front_of hs).frontier)) (λ x. refl) z

    pub stored-frontier : frontier (readers hs) < 9223372036854775808 → frontier_in put.flow ≡ frontier (readers hs)
    stored-frontier small =
        ap frontier_in
        (ap (λ (x : Woken). x.flow) both.1
        ∙ ap (λ (o : Left1 Told WriterSendBuffer). o.first) (put-done f (front_of hs).frontier (sym (ap (λ (x : Woken). x.told.answer.number) both.1) ∙ z))
        ∙ ap (λ (o : Front). flow_form (stored (frontier_of o.frontier) (flow_view f))) (front_done hs both.0)
        ∙ ap (λ (n : ℕ). flow_form (stored n (flow_view f))) (frontier_back (frontier (readers hs)) small))
        ∙ held (frontier (readers hs)) f small

-- and after a call that is answered so
module _ (a : Answer) (hs : List ReaderHead) (f : WriterSendBuffer) where
  abbrev then : Woken
  then = after a (stored_of (front_of hs) f) f

  pub then_kept : (then.told.answer.number ≡ 0 → ⊥) → then.flow ≡ f
  then_kept z = go (is_done a) refl
    where
      go : (t : Bool) → is_done a ≡ t → (cond {A = Woken} t (stored_of (front_of hs) f) (not_stored f a)).flow ≡ f
      go true e = store_kept hs f (λ y. z (ap (λ (t : Bool). (cond {A = Woken} t (stored_of (front_of hs) f) (not_stored f a)).told.answer.number) e ∙ y))
      go false e = refl

  module _ (z : then.told.answer.number ≡ 0) where
    pub then_done : (a.number ≡ 0) × (then ≡ stored_of (front_of hs) f)
    then_done = answered-done (λ (x : Woken). x.told.answer) a (not_stored f) (stored_of (front_of hs) f) (λ x. refl) z

    -- "The frontier is the smallest acked over the reliable readers". (Any list of 64-bit numbers has one below 2^63.)
    pub then_frontier : frontier (readers hs) < 9223372036854775808 → frontier_in then.flow ≡ frontier (readers hs)
    then_frontier small =
        ap (λ (x : Woken). frontier_in x.flow) then_done.1
        ∙ stored-frontier hs f (sym (ap (λ (x : Woken). x.told.answer.number) then_done.1) ∙ z) small

-- THE LIST, where the step is refused and where it is done
module _ (w : Woken) (old new : List ReaderHead) where
  pub list-kept : (w.told.answer.number ≡ 0 → ⊥) → list_after w old new ≡ old
  list-kept z = ap (λ (t : Bool). cond t new old) (ne_eqb w.told.answer.number 0 z)

  pub list-is : w.told.answer.number ≡ 0 → list_after w old new ≡ new
  list-is z = ap (λ (t : Bool). cond t new old) (eq-eqb w.told.answer.number 0 z)

-- THE FLOW RECORD asked with the rest: where it is coherent, the answer is what the rest is answered
pub with_coherent : (r : Rows) (f : WriterSendBuffer) → buffer.flow_coherent f ≡ true → beside_flow (answer_of r) f ≡ answer_of r
with_coherent r f c = ap (λ (t : Bool). earlier (answer_of r) (answer_of (row 1 refl (not t) ∷ []))) c
