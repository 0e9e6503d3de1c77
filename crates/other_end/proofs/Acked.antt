-- An ACKNACK, done by the calls on the forms of the system's list, flow record and reader's record: the three move together. Assumes nothing.
use Prim.Native.Nat.{ℕ, suc, ◌≤◌}
use mathlib.Core.Path.{◌≡◌, refl, sym, ap, subst, ◌∙◌}
use mathlib.Core.Bool.{Bool, true, false, not}
use mathlib.Core.List.{List, [], ◌∷◌}
use native.Mathlib.Omega.{arith}
use lib.Dec.{ltb, eqb}
use lib.ListN.{length, get_or, set}
use borrow.Author.Tests.{ltb-false, eq-eqb}
use Rattle.numbers.specs.Number.{rank_of, negative, number_at}
use Rattle.numbers.specs.Refusals.{row, answer_of, unless, done, Rows}
use Rattle.numbers.specs.Answers.{is_before, earlier, in_turn, answered}
use Rattle.numbers.specs.Promise.{Left1, Left2, Left4}
use Rattle.numbers.specs.declared.answer.Answer.{Answer}
use Rattle.numbers.specs.declared.sequence_number.SequenceNumber.{SequenceNumber}
use Rattle.numbers.proofs.Ranks.{rank_back}
use Rattle.number_sets.specs.Bits.{NumberSet, members}
use Rattle.rtps_reader_proxy.specs.declared.acks.AckNacked.{AckNacked}
use Rattle.rtps_reader_proxy.specs.Reader.{Reader, base_of, is_ahead, acked_after, acknowledge, left_out_of}
use Rattle.rtps_reader_proxy.specs.Record.{proxy_of, unsent_room, gap_room}
use Rattle.reader_record.specs.Whole.{Valid}
use Rattle.reader_list.specs.declared.heads.ReaderHead.{ReaderHead}
use Rattle.reader_list.specs.declared.calls.Found.{Found}
use Rattle.reader_list.specs.Readers.{Head, frontier, place_of_id, head_at, acknowledged, readers_coherent}
use Rattle.reader_list.specs.Slots.{readers, head_form, list_form, free_slot, list_rows, id_unknown, front_of, found_of, ack_of}
use Rattle.reader_list.proofs.Kept.{fits-acknowledged}
use Rattle.writer_send_buffer.specs.declared.flow.WriterSendBuffer.{WriterSendBuffer}
use Rattle.writer_send_buffer.specs.declared.frontiers.Woken.{Woken}
use Rattle.writer_send_buffer.specs.Flow.{stored}
use Rattle.writer_send_buffer.specs.Buffer.{flow_form}
use Rattle.writer_send_buffer.specs.Samples.{store_coherent}
use Rattle.writer_send_buffer.proofs.Steps.{at_least_0, form_coherent as flow-coherent}
use Rattle.writer_steps.specs.declared.acks.AckTold.{AckTold}
use Rattle.writer_steps.specs.Readers.{stored_of, beside_flow}
use Rattle.writer_steps.specs.Acks.{acked_by, agree_rows, beside_ack, acked_list, ack_left}
use Rattle.other_end.specs.System.{State, tried, ack_refusals, acked_heads, acknowledges}
use Rattle.other_end.specs.AsCalled.{set_form, ack_on, Acks}
use Rattle.other_end.proofs.Heads.{Low, low_set, low_at}
use Rattle.other_end.proofs.Forms.{list_back, list_set, list_get}
use Rattle.other_end.proofs.Steps.{does_ack}
use Rattle.other_end.proofs.Listed.{stores, store_kept}
use Rattle.other_end.proofs.Sound.{Sound}

-- THE LOOK FOR A READER, by whether it is unknown
abbrev looked_by : State → ℕ → Bool → Found
looked_by s i off =
    unless (list_rows false true false off false) (λ no. record { answer = no; place = 0; head = free_slot }) (record { answer = done; place = place_of_id i s.heads; head = head_form (head_at i s.heads) })

module _ (s : State) (h : Sound s) (i : ℕ) where
  looked_is : found_of (list_form s.heads) i ≡ looked_by s i (id_unknown i s.heads)
  looked_is =
      ap (λ (y : List Head). by (readers_coherent y) (id_unknown i y) (place_of_id i y) (get_or (list_form s.heads) (place_of_id i y) free_slot)) (list_back s.flow.last s.heads h.flow.last-most h.low)
      ∙ ap (λ (t : Bool). by t (id_unknown i s.heads) (place_of_id i s.heads) (get_or (list_form s.heads) (place_of_id i s.heads) free_slot)) h.list
      ∙ ap (by true (id_unknown i s.heads) (place_of_id i s.heads)) (list_get s.heads (place_of_id i s.heads))
    where
      by : Bool → Bool → ℕ → ReaderHead → Found
      by t off k x = unless (list_rows false t false off false) (λ no. record { answer = no; place = 0; head = free_slot }) (record { answer = done; place = k; head = x })

  -- one that is there is found
  pub looked_done : id_unknown i s.heads ≡ false → (found_of (list_form s.heads) i).answer ≡ done
  looked_done e = ap (λ (d : Found). d.answer) (looked_is ∙ ap (looked_by s i) e)

module _ (s : State) (h : Sound s) (i : ℕ) (z : NumberSet) (r : Reader) (v : Valid r) (near : z.base ≤ suc s.flow.last) (agree : id_unknown i s.heads ≡ false → (head_at i s.heads).acked ≡ r.acked) where
  abbrev list : List ReaderHead
  list = list_form s.heads

  abbrev r₁ : Reader
  r₁ = acknowledge s.flow.last z.base (members z) r

  back : {A : Type 0} (f : List Head → A) → f (readers (list_form s.heads)) ≡ f s.heads
  back f = ap f (list_back s.flow.last s.heads h.flow.last-most h.low)

  -- THE CALLS, by whether the set is too long, the reader unknown, and the base ahead

  abbrev nacked_by : Answer → Answer → Bool → Bool → Left2 AckNacked (List ℕ) (List ℕ)
  nacked_by beside last long ahead =
      answered (in_turn (earlier (answer_of (row 1 refl false ∷ row 3 refl long ∷ row 2 refl false ∷ row 11 refl false ∷ row 12 refl ahead ∷ [])) beside) last)
      (λ a. record { result = record { answer = a; left_out = 0; proxy = proxy_of r }; first = unsent_room r; second = gap_room r })
      (record { result = record { answer = done; left_out = left_out_of s.flow.last z.base (members z) r; proxy = proxy_of r₁ }; first = unsent_room r₁; second = gap_room r₁ })

  abbrev found_by : Bool → Found
  found_by = looked_by s i

  found_is : found_of (list_form s.heads) i ≡ found_by (id_unknown i s.heads)
  found_is = looked_is s h i

  abbrev acked_to : Bool → ℕ → Left1 Answer (List ReaderHead)
  acked_to off a = unless (list_rows false true false off false) (λ no. record { result = no; first = list_form s.heads }) (record { result = done; first = list_form (acknowledged i a s.heads) })

  acked-is : (a : ℕ) → ack_of (list_form s.heads) (record { id = i; acked = number_at a }) ≡ acked_to (id_unknown i s.heads) a
  acked-is a =
      back (λ y. by (readers_coherent y) (negative (number_at a)) (id_unknown i y) (place_of_id i y) (get_or (list_form s.heads) (place_of_id i y) free_slot))
      ∙ ap (λ (t : Bool). by t (negative (number_at a)) (id_unknown i s.heads) (place_of_id i s.heads) (get_or (list_form s.heads) (place_of_id i s.heads) free_slot)) h.list
      ∙ ap (λ (t : Bool). by true t (id_unknown i s.heads) (place_of_id i s.heads) (get_or (list_form s.heads) (place_of_id i s.heads) free_slot)) (at_least_0 a)
      ∙ ap (by true false (id_unknown i s.heads) (place_of_id i s.heads)) (list_get s.heads (place_of_id i s.heads))
      ∙ ap (λ (l : List ReaderHead). unless (list_rows false true false (id_unknown i s.heads) false) (λ no. record { result = no; first = list_form s.heads }) (record { result = done; first = l }))
      (sym (list_set s.heads (place_of_id i s.heads) (record { id = i; reliable = (head_at i s.heads).reliable; acked = a; below = false })))
    where
      by : Bool → Bool → Bool → ℕ → ReaderHead → Left1 Answer (List ReaderHead)
      by t low off k x =
          unless (list_rows false t low off false) (λ no. record { result = no; first = list_form s.heads })
          (record { result = done; first = set (list_form s.heads) k (record { id = i; reliable = x.reliable; acked = number_at a }) })

  -- head and record agree on acked, where both are there
  agrees : (off : Bool) → id_unknown i s.heads ≡ off → answer_of (agree_rows (found_by off) (proxy_of r)) ≡ done
  agrees true e = refl
  agrees false e =
      ap (λ (n : ℕ). said (eqb (rank_of (number_at n)) (rank_of (number_at r.acked)))) (agree e)
      ∙ ap said (eq-eqb (rank_of (number_at r.acked)) (rank_of (number_at r.acked)) refl)
    where
      said : Bool → Answer
      said t = answer_of (row 1 refl (not t) ∷ [])

  -- what is asked beside it, and the list as it would leave it
  abbrev beside_by : Bool → Answer
  beside_by off = earlier (earlier (found_by off).answer done) done

  beside-is : (off : Bool) → id_unknown i s.heads ≡ off → beside_ack (flow_form s.flow) (found_of list i) (proxy_of r) ≡ beside_by off
  beside-is off e =
      ap (λ (d : Found). beside_ack (flow_form s.flow) d (proxy_of r)) (found_is ∙ ap found_by e)
      ∙ ap (λ (a : Answer). beside_flow (earlier (found_by off).answer a) (flow_form s.flow)) (agrees off e)
      ∙ ap (λ (t : Bool). earlier (earlier (found_by off).answer done) (answer_of (row 1 refl (not t) ∷ []))) (flow-coherent s.flow h.flow)

  acked_by_lem : acked_by (set_form z) (proxy_of r) ≡ number_at r₁.acked
  acked_by_lem =
      ap (λ (n : ℕ). number_at (acked_after n (rank_of (number_at z.base)))) (rank_back r.acked (omega (arith, v.acked)))
      ∙ ap (λ (n : ℕ). number_at (acked_after r.acked n)) (rank_back z.base (omega (arith, near, h.flow.last-most)))

  list-is : (off : Bool) → id_unknown i s.heads ≡ off → acked_list list i (set_form z) (proxy_of r) ≡ (acked_to off r₁.acked).first
  list-is off e =
      ap (λ (n : SequenceNumber). (ack_of list (record { id = i; acked = n })).first) acked_by_lem
      ∙ ap (λ (o : Left1 Answer (List ReaderHead)). o.first) (acked-is r₁.acked)
      ∙ ap (λ (t : Bool). (acked_to t r₁.acked).first) e

  -- THE STEP of them
  abbrev step_by : Answer → Woken → List ReaderHead → Bool → Bool → Left4 AckTold (List ReaderHead) WriterSendBuffer (List ℕ) (List ℕ)
  step_by beside w new long ahead = ack_left (nacked_by beside w.told.answer long ahead) w (flow_form s.flow) list new

  abbrev stored_to : List ReaderHead → Woken
  stored_to l = stored_of (front_of l) (flow_form s.flow)

  abbrev step_of : Bool → Bool → Bool → Left4 AckTold (List ReaderHead) WriterSendBuffer (List ℕ) (List ℕ)
  step_of long off ahead = step_by (beside_by off) (stored_to (acked_to off r₁.acked).first) (acked_to off r₁.acked).first long ahead

  step_is : (off : Bool) → id_unknown i s.heads ≡ off → ack_on i z s r ≡ step_of (ltb 256 z.count) off (is_ahead s.flow.last z.base)
  step_is off e =
      ap (λ (n : Left2 AckNacked (List ℕ) (List ℕ)). ack_left n (stored_to new) (flow_form s.flow) list new) (does_ack r v s.flow.last h.flow.last-most (beside_ack (flow_form s.flow) (found_of list i) (proxy_of r)) (stored_to new).told.answer z near)
      ∙ ap (λ (b : Answer). step_by b (stored_to new) new (ltb 256 z.count) (is_ahead s.flow.last z.base)) (beside-is off e)
      ∙ ap (λ (l : List ReaderHead). step_by (beside_by off) (stored_to l) l (ltb 256 z.count) (is_ahead s.flow.last z.base)) (list-is off e)
    where
      new : List ReaderHead
      new = acked_list (list_form s.heads) i (set_form z) (proxy_of r)

  -- the list with the acked a, which the reader's head has or is to get
  module _ (on : id_unknown i s.heads ≡ false) (a : ℕ) (top : a ≤ suc s.flow.last) where
    low-acked : Low s.flow.last (acknowledged i a s.heads)
    low-acked = low_set s.flow.last s.heads (place_of_id i s.heads) (record { id = i; reliable = (head_at i s.heads).reliable; acked = a; below = false }) top refl h.low

    fits-acked : readers_coherent (acknowledged i a s.heads) ≡ true
    fits-acked = fits-acknowledged s.heads h.list i a on

  old_top : id_unknown i s.heads ≡ false → r.acked ≤ suc s.flow.last
  old_top on = omega (arith, agree on, low_at s.flow.last s.heads (place_of_id i s.heads) h.low)

  abbrev rows3 : Bool → Bool → Bool → Rows
  rows3 long off ahead = row 1 refl false ∷ row 3 refl long ∷ row 2 refl false ∷ row 11 refl off ∷ row 12 refl ahead ∷ []

  -- refused, nothing changes, whatever would have been stored
  acks : (long off ahead : Bool) → id_unknown i s.heads ≡ off → is_ahead s.flow.last z.base ≡ ahead
      → Acks (step_of long off ahead) (answer_of (rows3 long off ahead)) s (tried (rows3 long off ahead) s (acknowledges i z s)) (unless (rows3 long off ahead) (λ a. r) r₁)
  unfolding is_before
  acks true true ahead e q = record { answer = refl; flow = refl; list = refl; proxy = refl; unsent = refl; gaps = refl; store = λ store lens c. c }
  acks true false ahead e q = record { answer = refl; flow = refl; list = refl; proxy = refl; unsent = refl; gaps = refl; store = λ store lens c. c }
  acks false true false e q = record { answer = refl; flow = refl; list = refl; proxy = refl; unsent = refl; gaps = refl; store = λ store lens c. c }
  acks false true true e q = record { answer = refl; flow = refl; list = refl; proxy = refl; unsent = refl; gaps = refl; store = λ store lens c. c }
  acks false false true e q = record { answer = refl; flow = refl; list = refl; proxy = refl; unsent = refl; gaps = refl; store = λ store lens c. c }
  acks false false false e q =
      subst (λ (w : Woken). Acks (step_by done w (list_form (acknowledged i r₁.acked s.heads)) false false) done s (acknowledges i z s) r₁)
      (sym (stores s.flow h.flow (acknowledged i r₁.acked s.heads) (low-acked e r₁.acked top) (fits-acked e r₁.acked top)))
      (record {
        answer = refl;
        flow = ap (λ (hs : List Head). flow_form (stored (frontier hs) s.flow)) same;
        list = ap list_form same;
        proxy = refl;
        unsent = refl;
        gaps = refl;
        store = λ store lens c. subst (λ (hs : List Head). store_coherent (flow_form (stored (frontier hs) s.flow)) (length store) lens ≡ true) same
            (store_kept s.flow h.flow (acknowledged i r₁.acked s.heads) (low-acked e r₁.acked top) (fits-acked e r₁.acked top) store lens c);
      })
    where
      top : r₁.acked ≤ suc s.flow.last
      top = omega (arith, old_top e, ltb-false (suc s.flow.last) (base_of z.base) q)

      same : acknowledged i (acked_after r.acked z.base) s.heads ≡ acked_heads i z s
      same = ap (λ (n : ℕ). acknowledged i (acked_after n z.base) s.heads) (sym (agree e))

  pub acks_so : Acks (ack_on i z s r) (answer_of (ack_refusals i z s)) s (tried (ack_refusals i z s) s (acknowledges i z s)) (unless (ack_refusals i z s) (λ a. r) r₁)
  acks_so =
      subst (λ (o : Left4 AckTold (List ReaderHead) WriterSendBuffer (List ℕ) (List ℕ)). Acks o (answer_of (ack_refusals i z s)) s (tried (ack_refusals i z s) s (acknowledges i z s)) (unless (ack_refusals i z s) (λ a. r) r₁)) (sym (step_is (id_unknown i s.heads) refl))
      (acks (ltb 256 z.count) (id_unknown i s.heads) (is_ahead s.flow.last z.base) refl refl)
