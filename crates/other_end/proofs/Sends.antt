-- The send step, done by the calls on the forms of the system's records. Assumes nothing.
use Prim.Native.Nat.{ℕ, ◌≤◌}
use mathlib.Core.Path.{◌≡◌, refl, sym, ap, subst, ◌∙◌}
use mathlib.Core.Bool.{Bool, true, false, not, cond, ◌||◌}
use mathlib.Core.List.{List, [], ◌∷◌}
use mathlib.Core.Option.{Option}
use native.Mathlib.Omega.{arith}
use lib.Dec.{leb}
use borrow.Author.Tests.{eq-eqb, le-leb}
use Rattle.sets.specs.Sets.{has, only, empty, first_or}
use Rattle.numbers.specs.Capacities.{top_number}
use Rattle.numbers.specs.Number.{rank_of, number_at}
use Rattle.numbers.specs.Refusals.{answer_at, row, answer_of, unless, done}
use Rattle.numbers.specs.Cursor.{next_number}
use Rattle.numbers.specs.Promise.{Left1}
use Rattle.numbers.specs.declared.answer.Answer.{Answer}
use Rattle.numbers.specs.declared.cursor.NextNumber.{NextNumber}
use Rattle.numbers.specs.declared.sequence_number.SequenceNumber.{SequenceNumber}
use Rattle.numbers.proofs.Ranks.{rank_back}
use Rattle.rising.proofs.Meaning.{rises_are, only_all}
use Rattle.rtps_reader_proxy.specs.declared.proxy.Changed.{Changed}
use Rattle.rtps_reader_proxy.specs.Reader.{Reader, marked_sent}
use Rattle.rtps_reader_proxy.specs.Record.{proxy_of, unsent_coherent, unsent_room}
use Rattle.rtps_reader_proxy.specs.Unsent.{marked_sent_of}
use Rattle.reader_record.specs.Whole.{Valid}
use Rattle.writer_send_buffer.specs.declared.flow.Numbered.{Numbered}
use Rattle.writer_send_buffer.specs.Flow.{Flow, retained}
use Rattle.writer_send_buffer.specs.Buffer.{flow_view, flow_form, ranged, numbered_no, first_of}
use Rattle.writer_send_buffer.proofs.Sound.{Fits}
use Rattle.writer_send_buffer.proofs.Steps.{view_form, form_coherent as flow-coherent}
use Rattle.writer_steps.specs.declared.send.Sent.{Sent}
use Rattle.numbers.specs.Answers.{stepped}
use Rattle.writer_steps.specs.Send.{first_unsent, send_of}
use Rattle.other_end.specs.System.{Line, sample, gap, State, on_server, send_first, send_to}
use Rattle.other_end.specs.AsCalled.{Then, Sends, SendCalled}
use Rattle.other_end.proofs.Found.{find-same}
use Rattle.other_end.proofs.Steps.{unsent-coherent, by_unsent_lem, by_unsent_is}
use Rattle.other_end.proofs.Sound.{Sound}

module _ (f : Flow) (h : Fits f) (r : Reader) (v : Valid r) where
  -- what is asked first: the flow record's oldest number, and the first unsent one
  first-is : first_of (flow_form f) ≡ record { answer = done; number = number_at f.first }
  first-is = ap (λ (t : Bool). unless (ranged t false) numbered_no (record { answer = done; number = number_at f.first })) (flow-coherent f h)

  abbrev next_by : List ℕ → NextNumber
  next_by u = next_number (row 14 refl (empty u) ∷ []) (first_or 0 u)

  next-is : first_unsent (proxy_of r) (unsent_room r) ≡ next_by r.unsent
  next-is =
      ap (λ (x : Reader). by (unsent_coherent (proxy_of r) (unsent_room r)) (only (leb 0) x.unsent)) (by_unsent_lem r v)
      ∙ ap (λ (t : Bool). by t (only (leb 0) r.unsent)) (unsent-coherent r v)
      ∙ ap next_by (only_all (leb 0) 1 r.unsent (rises_are 0 r.unsent v.unsent).from (λ n q. le-leb 0 n (omega arith)))
    where
      by : Bool → List ℕ → NextNumber
      by t u = next_number (row 1 refl (not t) ∷ row 14 refl (empty u) ∷ []) (first_or 0 u)

  abbrev sent_by : Answer → NextNumber → Flow → (SequenceNumber → Left1 Changed (List ℕ)) → Left1 Sent (List ℕ)
  sent_by a n g mark =
      stepped (a ∷ n.answer ∷ [])
      (λ x. record { result = record { answer = x; number = number_at 0; «data» = false; proxy = proxy_of r }; first = unsent_room r })
      (record { result = record { answer = done; number = n.number; «data» = retained (rank_of n.number) g; proxy = (mark n.number).result.proxy }; first = (mark n.number).first })

  abbrev mark : SequenceNumber → Left1 Changed (List ℕ)
  mark n = marked_sent_of n (proxy_of r) (unsent_room r)

  sent_is : send_of (flow_form f) (proxy_of r) (unsent_room r) ≡ sent_by done (next_by r.unsent) f mark
  sent_is =
      ap (λ (x : Numbered). sent_by x.answer (first_unsent (proxy_of r) (unsent_room r)) (flow_view (flow_form f)) mark) first-is
      ∙ ap (λ (n : NextNumber). sent_by done n (flow_view (flow_form f)) mark) next-is
      ∙ ap (λ (g : Flow). sent_by done (next_by r.unsent) g mark) (view_form f h)

  -- nothing is unsent; and: n is the first, and is marked sent
  pub sends_none : r.unsent ≡ []
      → send_of (flow_form f) (proxy_of r) (unsent_room r) ≡ record { result = record { answer = answer_at 14; number = number_at 0; «data» = false; proxy = proxy_of r }; first = unsent_room r }
  sends_none e = sent_is ∙ ap (λ (u : List ℕ). sent_by done (next_by u) f mark) e

  pub sends_one : (n : ℕ) (ns : List ℕ) → r.unsent ≡ n ∷ ns → n ≤ top_number
      → send_of (flow_form f) (proxy_of r) (unsent_room r)
      ≡ record { result = record { answer = done; number = number_at n; «data» = retained n f; proxy = proxy_of (marked_sent n r) }; first = unsent_room (marked_sent n r) }
  sends_one n ns e q =
      sent_is
      ∙ ap (λ (u : List ℕ). sent_by done (next_by u) f mark) e
      ∙ ap (λ (o : Left1 Changed (List ℕ)). record { result = record { answer = done; number = number_at n; «data» = retained (rank_of (number_at n)) f; proxy = o.result.proxy }; first = o.first }) (by_unsent_is r v true refl [] (marked_sent (rank_of (number_at n))))
      ∙ ap (λ (k : ℕ). record { result = record { answer = done; number = number_at n; «data» = retained k f; proxy = proxy_of (marked_sent k r) }; first = unsent_room (marked_sent k r) }) (rank_back n (omega arith))

module _ (s : State) (h : Sound s) (i : ℕ) where
  pub send-called : SendCalled i s
  send-called l e = subst (λ (x : State). Then i x (λ l'. Sends o i l.server l'.server s x)) (sym (ap (λ (x : Option Line). send_to i x s) e)) (go l.server.unsent refl)
    where
      o : Left1 Sent (List ℕ)
      o = send_of (flow_form s.flow) (proxy_of l.server) (unsent_room l.server)

      valid : Valid l.server
      valid = (h.lines i l e).valid

      answered : List ℕ → Answer
      answered u = answer_of (row 14 refl (empty u) ∷ [])

      to : State → Type 0
      to x = Then i x (λ l'. Sends o i l.server l'.server s x)

      go : (u : List ℕ) → l.server.unsent ≡ u → to (send_first i l.server.unsent s)
      go [] q =
          let w = sends_none s.flow h.flow l.server valid q in
          subst (λ (u : List ℕ). to (send_first i u s)) (sym q)
          (l, e, subst (λ (y : Left1 Sent (List ℕ)). Sends y i l.server l.server s s) (sym w) (record { answer = ap answered (sym q); proxy = refl; unsent = refl; posted = refl }))
      go (n ∷ ns) q =
          let top : n ≤ s.flow.last = (h.lines i l e).within.high n (ap (λ (v : List ℕ). has v n) q ∙ ap (λ (t : Bool). t || has ns n) (eq-eqb n n refl)) in
          let w = sends_one s.flow h.flow l.server valid n ns q (omega (arith, h.flow.last-most)) in
          subst (λ (u : List ℕ). to (send_first i u s)) (sym q) (
            on_server (marked_sent n) l,
            find-same i (on_server (marked_sent n)) (λ y. refl) s.lines l e,
            subst (λ (y : Left1 Sent (List ℕ)). Sends y i l.server (marked_sent n l.server) s (send_first i (n ∷ ns) s)) (sym w)
                (record {
                  answer = ap answered (sym q);
                  proxy = refl;
                  unsent = refl;
                  posted = ap (λ (k : ℕ). record { line = i; body = cond (retained n s.flow) (sample k) (gap k) } ∷ s.net) (sym (rank_back n (omega (arith, h.flow.last-most))));
                }),
          )
