-- Every event of the writer is what its calls do, on the forms of the system's records. Assumes nothing.
use Prim.Native.Nat.{ℕ, zero, suc, ◌+◌, ◌*◌, ◌≤◌, max}
use mathlib.Core.Path.{◌≡◌, refl, sym, ap, subst, ◌∙◌}
use mathlib.Core.Bool.{Bool, true, false, not, cond, ◌||◌}
use mathlib.Core.List.{List, [], ◌∷◌, map}
use mathlib.Core.Option.{Option, none, some}
use native.Mathlib.Omega.{arith}
use lib.Dec.{ltb, eqb}
use lib.ListN.{length, set, replicate}
use borrow.Author.Tests.{eqb-true, eqb-false, eq-eqb, ne_eqb}
use Rattle.sets.proofs.Bools.{and_both, clash}
use Rattle.numbers.specs.Capacities.{top_number}
use Rattle.numbers.specs.Number.{rank_of, number_at}
use Rattle.numbers.specs.Refusals.{holds_in, answer_of, is_done, unless, done, Rows}
use Rattle.numbers.specs.Promise.{Left1, Left3}
use Rattle.numbers.specs.declared.answer.Answer.{Answer}
use Rattle.numbers.specs.declared.sequence_number.SequenceNumber.{SequenceNumber}
use Rattle.numbers.proofs.Refused.{done-is}
use Rattle.number_sets.specs.Bits.{NumberSet, members}
use Rattle.rtps_reader_proxy.specs.declared.proxy.Changed.{Changed}
use Rattle.rtps_reader_proxy.specs.Reader.{Reader, acknowledge, notified}
use Rattle.rtps_reader_proxy.specs.Record.{proxy_of, unsent_coherent, unsent_room}
use Rattle.reader_record.specs.Whole.{record_form, Valid}
use Rattle.reader_list.specs.declared.heads.ReaderHead.{ReaderHead}
use Rattle.reader_list.specs.Readers.{free}
use Rattle.reader_list.specs.declared.calls.Found.{Found}
use Rattle.reader_list.specs.Slots.{id_unknown, list_form, free_slot, found_of}
use Rattle.writer_send_buffer.specs.declared.limits.Kind.{Kind}
use Rattle.writer_send_buffer.specs.declared.limits.Limits.{Limits}
use Rattle.writer_send_buffer.specs.declared.flow.Moved.{Moved}
use Rattle.numbers.specs.declared.answer.Told.{Told}
use Rattle.writer_send_buffer.specs.declared.flow.Numbered.{Numbered}
use Rattle.writer_send_buffer.specs.declared.flow.WriterSendBuffer.{WriterSendBuffer}
use Rattle.writer_send_buffer.proofs.Sound.{Allowed, allowed-is}
use Rattle.writer_send_buffer.specs.Flow.{Flow, allowed, limits_counted, blank, admit_rows, admitted, ahead, unwritten, raised, evicted}
use Rattle.writer_send_buffer.specs.Buffer.{flow_form, flow_coherent, limited, zeroed, ranged, numbered_no, told_no, last_of, sent_of, evict_of}
use Rattle.writer_send_buffer.specs.Samples.{store_coherent, slot_start, slot_of, with_bytes, admit_of}
use Rattle.writer_send_buffer.specs.History.{admit, set_sent, evict_before}
use Rattle.writer_send_buffer.proofs.Kept.{coherent-step}
use Rattle.writer_send_buffer.proofs.Steps.{view_form, form_coherent as flow-coherent, fits-blank}
use Rattle.writer_write.specs.Write.{Written, told, write_step}
use Rattle.writer_write.specs.InPlace.{write_of}
use Rattle.writer_write.specs.Standing.{standing, all_unsent_coherent, stands_as}
use Rattle.writer_write.proofs.Standing.{whole_after, roomy_after}
use Rattle.other_end.specs.Calls.{ReaderCall, result, call_rows}
use Rattle.other_end.specs.System.{Line, Body, sample, gap, beat, ack, Msg, State, Event, match, depart, write, sent_to, evict_to, call, heartbeat, send, reply, deliver, find, upd, nth, on_server, with_lines, state_with_flow, tried, ack_refusals, acknowledges, called, write_refusals, sent_refusals, evict_refusals, wrote, evicts, arrive, step}
use Rattle.other_end.specs.AsCalled.{Starts, Then, called_on, Acks, ack_on, ArriveCalled, DeliverCalled, unsent_part_form, WriteCalled, SentCalled, EvictCalled, Outcome, CallCalled, AsCalled}
use Rattle.other_end.proofs.Found.{none-some, find-same, All, found_all}
use Rattle.other_end.proofs.Calls.{done-clear}
use Rattle.other_end.proofs.Fine.{Sane}
use Rattle.other_end.proofs.Steps.{unsent-coherent, does_notify, does_call, does_sent, does_evict}
use Rattle.other_end.proofs.Sound.{Sound}
use Rattle.other_end.proofs.Listed.{match-called, depart-called}
use Rattle.other_end.proofs.Acked.{looked_done, acks_so}
use Rattle.other_end.proofs.Sends.{send-called}

-- A NEW WRITER: no limit of those allowed is 0
pub starts : (k : Kind) (l : Limits) (slots : ℕ) → allowed l ≡ true → Starts k l slots
starts k l slots e = record { flow = ap by counts ∙ ap (λ (t : Bool). made t l) e; list = frees slots; store = stored }
  where
    stored : (store lens : List ℕ) → length lens ≡ l.slots → length store ≡ l.slots * l.slot_bytes → store_coherent (flow_form (blank k l)) (length store) lens ≡ true
    stored store lens p q =
        and_both (flow_coherent (flow_form (blank k l))) _ (flow-coherent (blank k l) (fits-blank k l e))
        (and_both (eqb (length lens) l.slots) _ (eq-eqb (length lens) l.slots p) (and_both (eqb (length store) (l.slots * l.slot_bytes)) true (eq-eqb (length store) (l.slots * l.slot_bytes) q) refl))

    made : Bool → Limits → Moved
    made t m = unless (limited (not t)) (λ a. record { answer = a; flow = zeroed }) (record { answer = done; flow = flow_form (blank k m) })

    by : Limits → Moved
    by m = made (allowed m) m

    a : Allowed l
    a = allowed-is l e

    window : max 1 l.window ≡ l.window
    window = omega (arith, a.window_some)

    backlog : max 1 l.backlog ≡ l.backlog
    backlog = omega (arith, a.backlog_some)

    retain : max 1 l.retain ≡ l.retain
    retain = omega (arith, a.retain_some)

    counts : limits_counted l ≡ l
    counts = λ i. record { window = window i; backlog = backlog i; retain = retain i; slots = l.slots; slot_bytes = l.slot_bytes }

    frees : (n : ℕ) → list_form (replicate n free) ≡ replicate n free_slot
    frees zero = refl
    frees (suc n) = ap (λ (hs : List ReaderHead). free_slot ∷ hs) (frees n)

-- a write as the calls on the store and on each reader's own room do it
pub record Stepped (o : Written) (a : Answer) (s' : State) : Type 0 where
  pub answer : o.writer.result.answer ≡ a
  pub flow : o.writer.first ≡ flow_form s'.flow
  pub number : is_done a ≡ true → o.writer.result.number ≡ number_at s'.flow.last
  pub readers : o.readers ≡ map unsent_part_form s'.lines
  pub store : store_coherent o.writer.first (length o.writer.second) o.writer.third ≡ true

module _ (s : State) (h : Sound s) where
  -- AN ACKNACK
  module _ (i : ℕ) (z : NumberSet) (near : z.base ≤ suc s.flow.last) where
    ack_found : (l : Line) → find i s.lines ≡ some l → Then i (arrive i (ack z) s) (λ l'. Acks (ack_on i z s l.server) (answer_of (ack_refusals i z s)) s (arrive i (ack z) s) l'.server)
    ack_found l e = go (is_done (answer_of (ack_refusals i z s))) (acks_so s h i z l.server (h.lines i l e).valid near (λ _. ap (λ x. x.acked) (h.held i l e).head))
      where
        up : Reader → Reader
        up = acknowledge s.flow.last z.base (members z)

        go : (t : Bool) → Acks (ack_on i z s l.server) (answer_of (ack_refusals i z s)) s (cond t (acknowledges i z s) s) (cond t (up l.server) l.server)
            → Then i (cond t (acknowledges i z s) s) (λ l'. Acks (ack_on i z s l.server) (answer_of (ack_refusals i z s)) s (cond t (acknowledges i z s) s) l'.server)
        go true a = (on_server up l, find-same i (on_server up) (λ x. refl) s.lines l e, a)
        go false a = (l, e, a)

    ack-unknown : find i s.lines ≡ none → (r : Reader) → Valid r → Acks (ack_on i z s r) (answer_of (ack_refusals i z s)) s s r × (arrive i (ack z) s ≡ s)
    ack-unknown e r v = go (id_unknown i s.heads) refl
      where
        go : (off : Bool) → id_unknown i s.heads ≡ off → Acks (ack_on i z s r) (answer_of (ack_refusals i z s)) s s r × (arrive i (ack z) s ≡ s)
        go false q = let w = h.known i q in none-some (sym e ∙ w.1)
        go true q =
            let no : is_done (answer_of (ack_refusals i z s)) ≡ false = refuses (ack_refusals i z s) q in (
              subst (λ (t : Bool). Acks (ack_on i z s r) (answer_of (ack_refusals i z s)) s (cond t (acknowledges i z s) s) (cond t (acknowledge s.flow.last z.base (members z) r) r)) no
                  (acks_so s h i z r v near (λ w. clash (id_unknown i s.heads) q w)),
              ap (λ (t : Bool). cond t (acknowledges i z s) s) no,
            )
          where
            refuses : (rows : Rows) → holds_in 11 rows ≡ true → is_done (answer_of rows) ≡ false
            refuses rows w = by (is_done (answer_of rows)) refl
              where
                by : (t : Bool) → is_done (answer_of rows) ≡ t → t ≡ false
                by true d = clash (holds_in 11 rows) w (done-clear rows d 11 refl)
                by false d = refl

  delivered : (k : ℕ) (o : Option Msg) → nth s.net k ≡ o → DeliverCalled o s
  delivered k none e = tt
  delivered k (some m) e = arrived m.body (h.sane k m e)
    where
      arrived : (b : Body) → Sane s.flow.last b → ArriveCalled m.line b s
      arrived (sample n) g = tt
      arrived (gap n) g = tt
      arrived (beat n) g = tt
      arrived (ack z) g = (ack_found m.line z g, ack-unknown m.line z g)

  -- A WRITE
  told_all_lem : (n : ℕ) → 1 ≤ n → n ≤ top_number → (ls : List Line) → All (λ l. Valid l.server) ls → map (told (number_at n)) (map unsent_part_form ls) ≡ map unsent_part_form (map (on_server (notified n)) ls)
  told_all_lem n p q [] v = refl
  told_all_lem n p q (l ∷ ls) v = λ j. one j ∷ told_all_lem n p q ls v.1 j
    where
      one : told (number_at n) (unsent_part_form l) ≡ unsent_part_form (on_server (notified n) l)
      one = ap (λ (o : Left1 Changed (List ℕ)). record { proxy = o.result.proxy; unsent = o.first }) (does_notify l.server v.0 n p q)

  write-stepped : (len : ℕ) (opted : Bool) (store lens payload : List ℕ) → length payload ≡ len → store_coherent (flow_form s.flow) (length store) lens ≡ true
      → Stepped (write_step (flow_form s.flow) store lens payload opted (map unsent_part_form s.lines)) (answer_of (write_refusals len opted s)) (step (write len opted) s)
  write-stepped len opted store lens payload el c =
      subst (λ (o : Left3 Numbered WriterSendBuffer (List ℕ) (List ℕ)). Stepped (record { writer = o; readers = cond (is_done o.result.answer) (map (told o.result.number) (map unsent_part_form s.lines)) (map unsent_part_form s.lines) }) (answer_of (write_refusals len opted s)) (step (write len opted) s)) (sym is)
      (go (is_done (answer_of (write_refusals len opted s))) refl (subst fine is (coherent-step (record { flow = flow_form s.flow; bytes = store; lens = lens }) c (admit payload opted))))
    where
      by : Bool → ℕ → Flow → Left3 Numbered WriterSendBuffer (List ℕ) (List ℕ)
      by t n g =
          unless (admit_rows t n g opted) (λ no. record { result = numbered_no no; first = flow_form s.flow; second = store; third = lens })
          (record {
            result = record { answer = done; number = number_at (g.last + 1) };
            first = flow_form (admitted g opted);
            second = with_bytes store (slot_start g (g.last + 1)) payload;
            third = set lens (slot_of g (g.last + 1)) n;
          })

      is : admit_of (flow_form s.flow) store lens payload opted ≡ by true len s.flow
      is = ap (λ (g : Flow). by (store_coherent (flow_form s.flow) (length store) lens) (length payload) g) (view_form s.flow h.flow) ∙ ap (λ (t : Bool). by t (length payload) s.flow) c ∙ ap (λ (n : ℕ). by true n s.flow) el

      fine : Left3 Numbered WriterSendBuffer (List ℕ) (List ℕ) → Type 0
      fine o = store_coherent o.first (length o.second) o.third ≡ true

      done_by : Left3 Numbered WriterSendBuffer (List ℕ) (List ℕ)
      done_by =
          record {
            result = record { answer = done; number = number_at (s.flow.last + 1) };
            first = flow_form (admitted s.flow opted);
            second = with_bytes store (slot_start s.flow (s.flow.last + 1)) payload;
            third = set lens (slot_of s.flow (s.flow.last + 1)) len;
          }

      not_by : Left3 Numbered WriterSendBuffer (List ℕ) (List ℕ)
      not_by = record { result = numbered_no (answer_of (write_refusals len opted s)); first = flow_form s.flow; second = store; third = lens }

      outcome : Left3 Numbered WriterSendBuffer (List ℕ) (List ℕ) → State → Type 0
      outcome o s' = Stepped (record { writer = o; readers = cond (is_done o.result.answer) (map (told o.result.number) (map unsent_part_form s.lines)) (map unsent_part_form s.lines) }) (answer_of (write_refusals len opted s)) s'

      go : (t : Bool) → is_done (answer_of (write_refusals len opted s)) ≡ t → fine (cond t done_by not_by) → outcome (cond t done_by not_by) (cond t (wrote opted s) s)
      go true e w =
          let k = done-clear (write_refusals len opted s) e in
          let d : (s.flow.last ≡ top_number → ⊥) = eqb-false s.flow.last top_number (k 5 refl) in
          record {
            answer = sym (done-is (write_refusals len opted s) (answer_of (write_refusals len opted s)) refl (eqb-true (answer_of (write_refusals len opted s)).number 0 e));
            flow = refl;
            number = λ _. refl;
            store = w;
            readers = told_all_lem (s.flow.last + 1) (omega arith) (omega (arith, h.flow.last-most)) s.lines (found_all (λ l. Valid l.server) s.lines h.apart (λ i l q. (h.lines i l q).valid));
          }
      go false e w =
          record {
            answer = refl;
            flow = refl;
            number = λ d. clash (is_done (answer_of (write_refusals len opted s))) d e;
            store = w;
            readers = ap (λ (t : Bool). cond t (map (told (number_at 0)) (map unsent_part_form s.lines)) (map unsent_part_form s.lines)) e;
          }

  -- in place, where the readers' records stand side by side
  write-called : (len : ℕ) (opted : Bool) → WriteCalled len opted s
  write-called len opted store lens payload hs u el c st room =
      record { answer = w.answer; flow = w.flow; number = w.number; readers = w.readers; room = roomy_after hs u room ok (flow_form s.flow) store lens payload opted; store = w.store }
    where
      all_ok : (ls : List Line) → All (λ l. Valid l.server) ls → all_unsent_coherent (map unsent_part_form ls) ≡ true
      all_ok [] v = refl
      all_ok (l ∷ ls) v = and_both (unsent_coherent (proxy_of l.server) (unsent_room l.server)) (all_unsent_coherent (map unsent_part_form ls)) (unsent-coherent l.server v.0) (all_ok ls v.1)

      ok : all_unsent_coherent (standing hs u) ≡ true
      ok = ap all_unsent_coherent st ∙ all_ok s.lines (found_all (λ l. Valid l.server) s.lines h.apart (λ i l q. (h.lines i l q).valid))

      w : Stepped (stands_as (write_of (flow_form s.flow) store lens payload opted hs u)) (answer_of (write_refusals len opted s)) (step (write len opted) s)
      w =
          subst (λ (o : Written). Stepped o (answer_of (write_refusals len opted s)) (step (write len opted) s))
          (sym (whole_after hs u room ok (flow_form s.flow) store lens payload opted ∙ ap (write_step (flow_form s.flow) store lens payload opted) st))
          (write-stepped len opted store lens payload el c)

  -- THE FRONTIERS AND EVICTION
  sent-called : (n : SequenceNumber) → SentCalled n s
  sent-called n = (is.0, is.1, λ store lens c. subst (λ (f : WriterSendBuffer). store_coherent f (length store) lens ≡ true) is.1 (coherent-step (record { flow = flow_form s.flow; bytes = store; lens = lens }) c (set_sent n)))
    where
      out : Bool → Left1 Told WriterSendBuffer
      out t = unless (ranged true t) (λ a. record { result = told_no a; first = flow_form s.flow }) (record { result = record { answer = done; yes = ltb s.flow.sent (rank_of n) }; first = flow_form (raised (rank_of n) s.flow) })

      go : (t : Bool) → ((out t).result.answer ≡ answer_of (ranged true t)) × ((out t).first ≡ flow_form (tried (ranged true t) s (state_with_flow (raised (rank_of n) s.flow) s)).flow)
      go true = (refl, refl)
      go false = (refl, refl)

      is : ((sent_of (flow_form s.flow) n).result.answer ≡ answer_of (sent_refusals n s)) × ((sent_of (flow_form s.flow) n).first ≡ flow_form (step (sent_to n) s).flow)
      is =
          subst (λ (o : Left1 Told WriterSendBuffer). (o.result.answer ≡ answer_of (sent_refusals n s)) × (o.first ≡ flow_form (step (sent_to n) s).flow)) (sym (does_sent s.flow h.flow n))
          (go (unwritten (rank_of n) s.flow))

  evict_called : (n : SequenceNumber) → EvictCalled n s
  evict_called n = (is.0, is.1, λ store lens c. subst (λ (f : WriterSendBuffer). store_coherent f (length store) lens ≡ true) is.1 (coherent-step (record { flow = flow_form s.flow; bytes = store; lens = lens }) c (evict_before n)))
    where
      out : Bool → Left1 Answer WriterSendBuffer
      out t = unless (ranged true t) (λ a. record { result = a; first = flow_form s.flow }) (record { result = done; first = flow_form (evicted (rank_of n) s.flow) })

      go : (t : Bool) → ((out t).result ≡ answer_of (ranged true t)) × ((out t).first ≡ flow_form (tried (ranged true t) s (evicts (rank_of n) s)).flow)
      go true = (refl, refl)
      go false = (refl, refl)

      is : ((evict_of (flow_form s.flow) n).result ≡ answer_of (evict_refusals n s)) × ((evict_of (flow_form s.flow) n).first ≡ flow_form (step (evict_to n) s).flow)
      is =
          subst (λ (o : Left1 Answer WriterSendBuffer). (o.result ≡ answer_of (evict_refusals n s)) × (o.first ≡ flow_form (step (evict_to n) s).flow)) (sym (does_evict s.flow h.flow n))
          (go (ahead (rank_of n) s.flow))

  -- THE OTHER CALLS
  call-called : (i : ℕ) (c : ReaderCall) → CallCalled i c s
  call-called i c l e =
      subst (λ (o : Option Line). Then i (called i c o s) (λ l'. called_on (found_of (list_form s.heads) i) c (number_at s.flow.last) (record_form l.server) ≡ record { answer = answer_of rows; left = record_form l'.server })) (sym e)
      (go (is_done (answer_of rows)) refl (does_call l.server (h.lines i l e).valid s.flow.last h.flow.last-most (found_of (list_form s.heads) i) (looked_done s h i known) c))
    where
      looked : Found
      looked = found_of (list_form s.heads) i

      known : id_unknown i s.heads ≡ false
      known = λ j. ne_eqb i 0 (h.held i l e).some_id j || not ((h.held i l e).there j)

      rows : Rows
      rows = call_rows s.flow.last c l.server

      go : (t : Bool) → is_done (answer_of rows) ≡ t
          → called_on looked c (number_at s.flow.last) (record_form l.server) ≡ cond {A = Outcome} t (record { answer = done; left = record_form (result c l.server) }) (record { answer = answer_of rows; left = record_form l.server })
          → Then i (cond t (with_lines (upd i (on_server (result c)) s.lines) s) s) (λ l'. called_on looked c (number_at s.flow.last) (record_form l.server) ≡ record { answer = answer_of rows; left = record_form l'.server })
      go true d q = (
        on_server (result c) l,
        find-same i (on_server (result c)) (λ x. refl) s.lines l e,
        q ∙ ap (λ (a : Answer). record { answer = a; left = record_form (result c l.server) }) (sym (done-is rows (answer_of rows) refl (eqb-true (answer_of rows).number 0 d))),
      )
      go false d q = (l, e, q)

  -- THE HEARTBEAT'S NUMBER
  beat-called : last_of (flow_form s.flow) ≡ record { answer = done; number = number_at s.flow.last }
  beat-called = ap (λ (t : Bool). unless (ranged t false) numbered_no (record { answer = done; number = number_at s.flow.last })) (flow-coherent s.flow h.flow)

  pub as_called : (e : Event) → AsCalled e s
  as_called (match i r m) = match-called s h i r m
  as_called (depart i) = depart-called s h i
  as_called (write len opted) = write-called len opted
  as_called (sent_to n) = sent-called n
  as_called (evict_to n) = evict_called n
  as_called (call i c) = call-called i c
  as_called (heartbeat i) = beat-called
  as_called (send i) = send-called s h i
  as_called (reply i) = tt
  as_called (deliver k) = delivered k (nth s.net k) refl
