-- The send step again and again takes the unsent numbers from the front. Assumes nothing.
use Prim.Native.Nat.{ℕ, zero, suc, ◌≤◌}
use mathlib.Core.Path.{◌≡◌, refl, sym, ap, ◌∙◌}
use mathlib.Core.Bool.{Bool, true, false, not, cond, ◌&&◌, ◌||◌, false≢true}
use mathlib.Core.List.{List, [], ◌∷◌, map}
use native.Mathlib.Omega.{arith}
use lib.Dec.{leb, eqb}
use lib.ListN.{length, take}
use lib.Seq.{length-take-le}
use borrow.Author.Tests.{le-leb, eq-eqb}
use Rattle.sets.specs.Sets.{has, without, empty, first_or}
use Rattle.sets.proofs.Bools.{and_both}
use Rattle.numbers.specs.Capacities.{top_number}
use Rattle.numbers.specs.Number.{rank_of, in_range, number_at}
use Rattle.numbers.specs.Refusals.{answer_at, row, done, unless}
use Rattle.numbers.specs.Answers.{stepped}
use Rattle.numbers.specs.Cursor.{next_number}
use Rattle.numbers.specs.Promise.{Left1}
use Rattle.numbers.specs.declared.answer.Answer.{Answer}
use Rattle.numbers.specs.declared.cursor.NextNumber.{NextNumber}
use Rattle.numbers.specs.declared.sequence_number.SequenceNumber.{SequenceNumber}
use Rattle.numbers.proofs.Ranks.{rank_back}
use Rattle.rising.specs.Runs.{run_coherent, room_of}
use Rattle.rising.proofs.Meaning.{Rising, room-is, room_ok, room_take, room-length, rising_only, only_all}
use Rattle.rising.proofs.Changes.{only_le}
use Rattle.rtps_reader_proxy.specs.Parts.{count_unsent}
use Rattle.rtps_reader_proxy.specs.declared.proxy.ReaderProxy.{ReaderProxy}
use Rattle.rtps_reader_proxy.specs.declared.proxy.Changed.{Changed}
use Rattle.rtps_reader_proxy.specs.Reader.{taken, untaken}
use Rattle.rtps_reader_proxy.specs.Record.{proxy_coherent, unsent_coherent}
use Rattle.rtps_reader_proxy.specs.Unsent.{marked_sent_of}
use Rattle.rtps_reader_proxy.proofs.UnsentCalls.{UnsentIs, unsent-is}
use Rattle.writer_send_buffer.specs.declared.flow.WriterSendBuffer.{WriterSendBuffer}
use Rattle.writer_send_buffer.specs.declared.flow.Numbered.{Numbered}
use Rattle.writer_send_buffer.specs.Flow.{retained}
use Rattle.writer_send_buffer.specs.Buffer.{flow_view, flow_coherent, ranged, numbered_no, first_of}
use Rattle.writer_steps.specs.declared.send.Sent.{Sent}
use Rattle.writer_steps.specs.Send.{first_unsent, send_of}
use Rattle.writer_steps.specs.Many.{Gone, Sending, sent_first, sending}

-- ---- fewer unsent numbers in the same room are coherent too
head_again : (h : ReaderProxy) (n : ℕ) → proxy_coherent h ≡ true → n ≤ h.unsent_cap → proxy_coherent (count_unsent n h) ≡ true
head_again h n e q =
    go (in_range h.all_acked_before 9223372036854775807) (leb 1 h.unsent_cap) (leb h.unsent_cap 1024) (leb h.unsent_count h.unsent_cap) (leb n h.unsent_cap) _ e (le-leb n h.unsent_cap q)
  where
    go : (a b c d d' r : Bool) → (a && (b && (c && (d && r)))) ≡ true → d' ≡ true → (a && (b && (c && (d' && r)))) ≡ true
    go true true true true d' r p q = ap (λ (t : Bool). t && r) q ∙ p
    go true true true false d' r p q = absurd (false≢true p)
    go true true false d d' r p q = absurd (false≢true p)
    go true false c d d' r p q = absurd (false≢true p)
    go false b c d d' r p q = absurd (false≢true p)

module _ (h : ReaderProxy) (u : List ℕ) (ok : unsent_coherent h u ≡ true) where
  is : UnsentIs h u
  is = unsent-is h u ok

  abbrev held : List ℕ
  held = take h.unsent_count u

  held_long : length held ≡ h.unsent_count
  held_long = length-take-le h.unsent_count u is.run.fits

  fewer_ok : (l : List ℕ) → Rising 0 l → length l ≤ length held → unsent_coherent (count_unsent (length l) h) (room_of (length u) l) ≡ true
  fewer_ok l r q =
      let few : length l ≤ length u = omega (arith, held_long, is.run.fits) in
      let long : length (room_of (length u) l) ≡ length u = room-length (length u) l few in
      and_both (proxy_coherent (count_unsent (length l) h)) (leb (length (room_of (length u) l)) h.unsent_cap && run_coherent 0 (length l) (room_of (length u) l))
      (head_again h (length l) is.proxy (omega (arith, is.long)))
      (and_both (leb (length (room_of (length u) l)) h.unsent_cap) (run_coherent 0 (length l) (room_of (length u) l)) (le-leb (length (room_of (length u) l)) h.unsent_cap (omega (arith, long, is.long))) (room_ok 0 (length u) l few r))

  -- what is held, read again
  head_back : count_unsent (length held) h ≡ h
  head_back = ap (λ (n : ℕ). count_unsent n h) held_long

  room_back : room_of (length u) held ≡ u
  room_back = sym (room-is 0 h.unsent_count u is.run)

-- ---- one step, on a coherent flow record
module _ (f : WriterSendBuffer) (cf : flow_coherent f ≡ true) where
  first-is : first_of f ≡ record { answer = done; number = f.first }
  first-is = ap (λ (t : Bool). unless (ranged t false) numbered_no (record { answer = done; number = f.first })) cf

  abbrev next_by : List ℕ → NextNumber
  next_by l = next_number (row 14 refl (empty l) ∷ []) (first_or 0 l)

  module _ (h : ReaderProxy) (u : List ℕ) (ok : unsent_coherent h u ≡ true) where
    next-is : first_unsent h u ≡ next_by (held h u ok)
    next-is =
        ap (by (unsent_coherent h u)) (only_all (leb 0) 1 (held h u ok) (is h u ok).run.rises.from (λ n q. le-leb 0 n (omega arith)))
        ∙ ap (λ (t : Bool). by t (held h u ok)) ok
      where
        by : Bool → List ℕ → NextNumber
        by t l = next_number (row 1 refl (not t) ∷ row 14 refl (empty l) ∷ []) (first_or 0 l)

    abbrev sent_by : Answer → NextNumber → (SequenceNumber → Left1 Changed (List ℕ)) → Left1 Sent (List ℕ)
    sent_by a n mark =
        stepped (a ∷ n.answer ∷ [])
        (λ x. record { result = record { answer = x; number = number_at 0; «data» = false; proxy = h }; first = u })
        (record { result = record { answer = done; number = n.number; «data» = retained (rank_of n.number) (flow_view f); proxy = (mark n.number).result.proxy }; first = (mark n.number).first })

    abbrev marks : SequenceNumber → Left1 Changed (List ℕ)
    marks n = marked_sent_of n h u

    sent_is : send_of f h u ≡ sent_by done (next_by (held h u ok)) marks
    sent_is = ap (λ (x : Numbered). sent_by x.answer (first_unsent h u) marks) first-is ∙ ap (λ (n : NextNumber). sent_by done n marks) next-is

    abbrev marked_by : Bool → ℕ → Left1 Changed (List ℕ)
    marked_by t n =
        unless (row 1 refl (not (true && t)) ∷ []) (λ a. record { result = record { answer = a; proxy = h }; first = u })
        (record { result = record { answer = done; proxy = count_unsent (length (without n (held h u ok))) h }; first = room_of (length u) (without n (held h u ok)) })

    abbrev sent_one : ℕ → ℕ → Left1 Sent (List ℕ)
    sent_one n k = record { result = record { answer = done; number = number_at n; «data» = retained k (flow_view f); proxy = count_unsent (length (without k (held h u ok))) h }; first = room_of (length u) (without k (held h u ok)) }

    sends_none : held h u ok ≡ [] → send_of f h u ≡ record { result = record { answer = answer_at 14; number = number_at 0; «data» = false; proxy = h }; first = u }
    sends_none e = sent_is ∙ ap (λ (l : List ℕ). sent_by done (next_by l) marks) e

    sends_one : (n : ℕ) (ns : List ℕ) → held h u ok ≡ n ∷ ns → send_of f h u ≡ sent_one n n
    sends_one n ns e =
        sent_is
        ∙ ap (λ (l : List ℕ). sent_by done (next_by l) marks) e
        ∙ ap (λ (t : Bool). record { result = record { answer = done; number = number_at n; «data» = retained (rank_of (number_at n)) (flow_view f); proxy = (marked_by t (rank_of (number_at n))).result.proxy }; first = (marked_by t (rank_of (number_at n))).first }) ok
        ∙ ap (sent_one n) (rank_back n (omega (arith, top)))
      where
        top : n ≤ top_number
        top = (is h u ok).run.rises.top n (ap (λ (l : List ℕ). has l n) e ∙ ap (λ (t : Bool). t || has ns n) (eq-eqb n n refl))

  abbrev gone_as : ℕ → Gone
  gone_as n = record { number = n; «data» = retained n (flow_view f) }

  abbrev sent_so : ReaderProxy → List ℕ → List ℕ → List ℕ → Sending
  sent_so h u ms rest = record { gone = map gone_as ms; proxy = count_unsent (length rest) h; unsent = room_of (length u) rest }

  -- REPEATED
  pub sending-is : (k : ℕ) (h : ReaderProxy) (u : List ℕ) (ok : unsent_coherent h u ≡ true)
      → sending k f h u ≡ record { gone = map gone_as (taken k (take h.unsent_count u)); proxy = count_unsent (length (untaken k (take h.unsent_count u))) h; unsent = room_of (length u) (untaken k (take h.unsent_count u)) }
  sending-is zero h u ok = λ j. record { gone = []; proxy = sym (head_back h u ok) j; unsent = sym (room_back h u ok) j }
  sending-is (suc k) h u ok = go (λ h' u' again. sending-is k h' u' again) (held h u ok) refl
    where
      Before : Type 0
      Before = (h' : ReaderProxy) (u' : List ℕ) (again : unsent_coherent h' u' ≡ true) → sending k f h' u' ≡ sent_so h' u' (taken k (take h'.unsent_count u')) (untaken k (take h'.unsent_count u'))

      on : Left1 Sent (List ℕ) → Sending
      on o = cond (eqb o.result.answer.number 0) (sent_first o (sending k f o.result.proxy o.first)) (record { gone = []; proxy = h; unsent = u })

      go : Before → (l : List ℕ) → take h.unsent_count u ≡ l → on (send_of f h u) ≡ sent_so h u (taken (suc k) (take h.unsent_count u)) (untaken (suc k) (take h.unsent_count u))
      go before [] e =
          ap on (sends_none h u ok e)
          ∙ (λ j. record { gone = []; proxy = sym (head_back h u ok) j; unsent = sym (room_back h u ok) j })
          ∙ ap (λ (l : List ℕ). sent_so h u [] l) e
          ∙ ap (λ (l : List ℕ). sent_so h u (taken (suc k) l) (untaken (suc k) l)) (sym e)
      go before (n ∷ ns) e =
          ap on (sends_one h u ok n ns e)
          ∙ ap (sent_first (sent_one h u ok n n)) (before h' u' again ∙ left_is)
          ∙ ap (λ (m : ℕ). record { gone = record { number = m; «data» = retained n (flow_view f) } ∷ map gone_as (taken k l'); proxy = count_unsent (length (untaken k l')) h; unsent = room_of (length u) (untaken k l') }) (rank_back n (omega (arith, top)))
          ∙ ap (λ (l : List ℕ). sent_so h u (n ∷ taken k l) (untaken k l)) (ap (without n) e ∙ ap (λ (t : Bool). cond (not t) (n ∷ without n ns) (without n ns)) (eq-eqb n n refl))
          ∙ ap (λ (l : List ℕ). sent_so h u (taken (suc k) l) (untaken (suc k) l)) (sym e)
        where
          l' : List ℕ
          l' = without n (take h.unsent_count u)

          top : n ≤ top_number
          top = (is h u ok).run.rises.top n (ap (λ (l : List ℕ). has l n) e ∙ ap (λ (t : Bool). t || has ns n) (eq-eqb n n refl))

          h' : ReaderProxy
          h' = count_unsent (length l') h

          u' : List ℕ
          u' = room_of (length u) l'

          few : length l' ≤ length (held h u ok)
          few = only_le (λ m. not (eqb n m)) (held h u ok)

          again : unsent_coherent h' u' ≡ true
          again = fewer_ok h u ok l' (rising_only 0 (λ m. not (eqb n m)) (held h u ok) (is h u ok).run.rises) few

          left_is : sent_so h' u' (taken k (take (length l') u')) (untaken k (take (length l') u')) ≡ sent_so h u (taken k l') (untaken k l')
          left_is =
              ap (λ (l : List ℕ). sent_so h' u' (taken k l) (untaken k l)) (room_take (length u) l')
              ∙ ap (λ (m : ℕ). record { gone = map gone_as (taken k l'); proxy = count_unsent (length (untaken k l')) h; unsent = room_of m (untaken k l') })
              (room-length (length u) l' (omega (arith, few, held_long h u ok, (is h u ok).run.fits)))
