-- A match and a departure, done by the calls on the forms of the system's list and flow record. Assumes nothing.
use Prim.Native.Nat.{ℕ}
use mathlib.Core.Path.{◌≡◌, refl, sym, ap, subst, ◌∙◌}
use mathlib.Core.Bool.{Bool, true, false, not, cond}
use mathlib.Core.List.{List, []}
use lib.ListN.{length, set}
use borrow.Author.Tests.{eqb-true, not-false}
use Rattle.numbers.specs.Refusals.{answer_of, is_done, unless, done, Rows}
use Rattle.numbers.specs.Promise.{Left1, Left2}
use Rattle.numbers.specs.declared.answer.Answer.{Answer}
use Rattle.numbers.proofs.Refused.{done-is}
use Rattle.rtps_reader_proxy.specs.declared.proxy.Changed.{Changed}
use Rattle.rtps_reader_proxy.specs.Reader.{fresh}
use Rattle.rtps_reader_proxy.specs.Record.{proxy_of}
use Rattle.rtps_reader_proxy.specs.Unsent.{new_proxy_of}
use Rattle.reader_list.specs.declared.heads.ReaderHead.{ReaderHead}
use Rattle.reader_list.specs.declared.calls.Front.{Front}
use Rattle.reader_list.specs.Readers.{Head, free, frontier, place_of_id, matched, departed, readers_coherent}
use Rattle.reader_list.specs.Slots.{readers, list_rows, cap_allowed, head_form, list_form, free_slot, frontier_at, front_of, match_of, depart_of, match_rows_of, depart_rows_of}
use Rattle.numbers.specs.declared.answer.Told.{Told}
use Rattle.writer_send_buffer.specs.declared.flow.WriterSendBuffer.{WriterSendBuffer}
use Rattle.writer_send_buffer.specs.declared.frontiers.Woken.{Woken}
use Rattle.writer_send_buffer.specs.Flow.{Flow, stored, wakes}
use Rattle.writer_send_buffer.specs.Buffer.{flow_form, flow_coherent, limited, told_no, woken}
use Rattle.writer_send_buffer.specs.Samples.{store_coherent}
use Rattle.writer_send_buffer.specs.History.{set_acked}
use Rattle.writer_send_buffer.proofs.Sound.{Fits}
use Rattle.writer_send_buffer.proofs.Kept.{coherent-step}
use Rattle.writer_send_buffer.proofs.Steps.{form_coherent as flow-coherent}
use Rattle.writer_steps.specs.Readers.{not_stored, stored_of, after, step_leaves, list_step}
use Rattle.writer_steps.proofs.Together.{with_coherent}
use Rattle.other_end.specs.System.{State, tried, match_refusals, depart_refusals, line_matched, line_departed}
use Rattle.other_end.specs.AsCalled.{Lists, MatchCalled, DepartCalled}
use Rattle.other_end.proofs.Heads.{Low, frontier-low}
use Rattle.other_end.proofs.Calls.{done-clear}
use Rattle.other_end.proofs.Forms.{list_back, list_set}
use Rattle.other_end.proofs.Steps.{does_store}
use Rattle.other_end.proofs.Sound.{Sound}
use Rattle.other_end.proofs.Joins.{sound_joined, sound_left}

-- A CHANGE OF THE LIST to hs, with its frontier stored: refused only where the change itself is
module _ (f : Flow) (h : Fits f) (hs : List Head) (low : Low f.last hs) (fit : readers_coherent hs ≡ true) where
  abbrev front_by : Bool → ℕ → Front
  front_by t n = unless (list_rows false t false false false) (λ no. record { answer = no; frontier = frontier_at 0 }) (record { answer = done; frontier = frontier_at n })

  front_is : front_of (list_form hs) ≡ record { answer = done; frontier = frontier_at (frontier hs) }
  front_is = ap (λ (x : List Head). front_by (readers_coherent x) (frontier x)) (list_back f.last hs h.last-most low) ∙ ap (λ (t : Bool). front_by t (frontier hs)) fit

  pub stores : stored_of (front_of (list_form hs)) (flow_form f) ≡ record { told = record { answer = done; yes = wakes (frontier hs) f }; flow = flow_form (stored (frontier hs) f) }
  stores = ap (λ (x : Front). stored_of x (flow_form f)) front_is ∙ ap woken (does_store f h (frontier hs) (frontier-low f.last hs low))

  -- and a lent store that is coherent stays so
  pub store_kept : (store lens : List ℕ) → store_coherent (flow_form f) (length store) lens ≡ true → store_coherent (flow_form (stored (frontier hs) f)) (length store) lens ≡ true
  store_kept store lens c =
      subst (λ (o : Left1 Told WriterSendBuffer). store_coherent o.first (length store) lens ≡ true) (does_store f h (frontier hs) (frontier-low f.last hs low))
      (coherent-step (record { flow = flow_form f; bytes = store; lens = lens }) c (set_acked (frontier_at (frontier hs))))

  pub list_done : (old : List ReaderHead)
      → list_step old (flow_form f) (record { result = done; first = list_form hs })
      ≡ record { result = record { answer = done; yes = wakes (frontier hs) f }; first = list_form hs; second = flow_form (stored (frontier hs) f) }
  list_done old =
      ap (λ (a : Answer). step_leaves (after a (stored_of (front_of (list_form hs)) (flow_form f)) (flow_form f)) old (list_form hs)) (with_coherent ([]) (flow_form f) (flow-coherent f h))
      ∙ ap (λ (w : Woken). step_leaves w old (list_form hs)) stores

-- one that is refused, whatever the list would be
list_refused : (f : WriterSendBuffer) → flow_coherent f ≡ true → (r : Rows) → is_done (answer_of r) ≡ false → (old new : List ReaderHead) → list_step old f (record { result = answer_of r; first = new }) ≡ record { result = told_no (answer_of r); first = old; second = f }
list_refused f c r e old new =
    ap (λ (a : Answer). step_leaves (after a (stored_of (front_of new) f) f) old new) (with_coherent r f c)
    ∙ ap (λ (t : Bool). step_leaves (cond {A = Woken} t (stored_of (front_of new) f) (not_stored f (answer_of r))) old new) e
    ∙ ap (λ (t : Bool). record { result = told_no (answer_of r); first = cond t new old; second = f }) e

module _ (s : State) (h : Sound s) where
  abbrev list : List ReaderHead
  list = list_form s.heads

  back : (f : List Head → Left1 Answer (List ReaderHead)) → f (readers (list_form s.heads)) ≡ f s.heads
  back f = ap f (list_back s.flow.last s.heads h.flow.last-most h.low)

  -- a step whose first call, refused by the rows r, turns the list into hs
  abbrev call_by : Rows → List ReaderHead → Left1 Answer (List ReaderHead)
  call_by r hs = unless r (λ no. record { result = no; first = list_form s.heads }) (record { result = done; first = hs })

  lists : (r : Rows) (s₁ : State) (o : Left1 Answer (List ReaderHead)) → o ≡ call_by r (list_form s₁.heads) → s₁.flow ≡ stored (frontier s₁.heads) s.flow → (is_done (answer_of r) ≡ true → Sound s₁)
      → Lists (list_step list (flow_form s.flow) o) (answer_of r) s (tried r s s₁)
  lists r s₁ o eo ef next = subst (λ (x : Left1 Answer (List ReaderHead)). Lists (list_step list (flow_form s.flow) x) (answer_of r) s (tried r s s₁)) (sym eo) (go (is_done (answer_of r)) refl)
    where
      go : (t : Bool) → is_done (answer_of r) ≡ t
          → Lists (list_step (list_form s.heads) (flow_form s.flow) (cond t (record { result = done; first = list_form s₁.heads }) (record { result = answer_of r; first = list_form s.heads }))) (answer_of r) s (cond t s₁ s)
      go true e =
          let n = next e in
          let low : Low s.flow.last s₁.heads = subst (λ (g : Flow). Low g.last s₁.heads) ef n.low in
          let w = list_done s.flow h.flow s₁.heads low n.list (list_form s.heads) in
          record {
            answer = ap (λ (x : Left2 Told (List ReaderHead) WriterSendBuffer). x.result.answer) w ∙ sym (done-is r (answer_of r) refl (eqb-true (answer_of r).number 0 e));
            flow = ap (λ (x : Left2 Told (List ReaderHead) WriterSendBuffer). x.second) w ∙ ap flow_form (sym ef);
            list = ap (λ (x : Left2 Told (List ReaderHead) WriterSendBuffer). x.first) w;
            store = λ store lens c. subst (λ (g : Flow). store_coherent (flow_form g) (length store) lens ≡ true) (sym ef) (store_kept s.flow h.flow s₁.heads low n.list store lens c);
          }
      go false e =
          let w = list_refused (flow_form s.flow) (flow-coherent s.flow h.flow) r e (list_form s.heads) (list_form s.heads) in
          record {
            answer = ap (λ (x : Left2 Told (List ReaderHead) WriterSendBuffer). x.result.answer) w;
            flow = ap (λ (x : Left2 Told (List ReaderHead) WriterSendBuffer). x.second) w;
            list = ap (λ (x : Left2 Told (List ReaderHead) WriterSendBuffer). x.first) w;
            store = λ store lens c. c;
          }

  pub match-called : (i : ℕ) (r : Bool) (m : ℕ) → MatchCalled i r m s
  match-called i r m = (lists (match_refusals i m s) (line_matched i r m s) (match_of list (record { id = i; reliable = r; cap = m })) is refl (sound_joined s h i r m), new)
    where
      x : Head
      x = record { id = i; reliable = r; acked = 0; below = false }

      is : match_of (list_form s.heads) (record { id = i; reliable = r; cap = m }) ≡ call_by (match_refusals i m s) (list_form (matched i r s.heads))
      is =
          back (λ y. call_by (match_rows_of (readers_coherent y) m i y) (set (list_form s.heads) (place_of_id 0 y) (head_form x)))
          ∙ ap (λ (t : Bool). call_by (match_rows_of t m i s.heads) (set (list_form s.heads) (place_of_id 0 s.heads) (head_form x))) h.list
          ∙ ap (call_by (match_refusals i m s)) (sym (list_set s.heads (place_of_id 0 s.heads) x))

      new : is_done (answer_of (match_refusals i m s)) ≡ true → new_proxy_of m ≡ record { answer = done; proxy = proxy_of (fresh m) }
      new d = go (cap_allowed m) (not-false (cap_allowed m) (done-clear (match_refusals i m s) d 13 refl))
        where
          made : Bool → Changed
          made t = unless (limited (not t)) (λ a. record { answer = a; proxy = proxy_of (fresh 0) }) (record { answer = done; proxy = proxy_of (fresh m) })

          go : (t : Bool) → t ≡ true → made t ≡ record { answer = done; proxy = proxy_of (fresh m) }
          go t e = ap made e

  pub depart-called : (i : ℕ) → DepartCalled i s
  depart-called i = lists (depart_refusals i s) (line_departed i s) (depart_of list i) is refl (λ d. sound_left s h i)
    where
      is : depart_of (list_form s.heads) i ≡ call_by (depart_refusals i s) (list_form (departed i s.heads))
      is =
          back (λ y. call_by (depart_rows_of (readers_coherent y) i y) (set (list_form s.heads) (place_of_id i y) free_slot))
          ∙ ap (λ (t : Bool). call_by (depart_rows_of t i s.heads) (set (list_form s.heads) (place_of_id i s.heads) free_slot)) h.list
          ∙ ap (call_by (depart_refusals i s)) (sym (list_set s.heads (place_of_id i s.heads) free))
