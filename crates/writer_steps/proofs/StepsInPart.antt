-- A step that is lent the start of a reader's rooms answers as if it were lent the whole, and leaves the parts of what it would leave then. Assumes nothing.
use Prim.Native.Nat.{ℕ, ◌≤◌, ◌*◌}
use mathlib.Core.Path.{◌≡◌, refl, sym, ap, subst, ◌∙◌}
use mathlib.Core.Bool.{Bool, true, false, not, cond, ◌&&◌}
use mathlib.Core.List.{List, [], ◌∷◌, ◌++◌, map}
use native.Mathlib.Omega.{arith}
use lib.ListN.{length, take, drop, length-drop, take-append-drop}
use Rattle.sets.specs.Sets.{empty}
use Rattle.numbers.specs.Number.{rank_of, number_at}
use Rattle.numbers.specs.Refusals.{row, done, is_done, unless}
use Rattle.numbers.specs.Answers.{earlier, first_answer, stepped}
use Rattle.numbers.specs.Cursor.{cursor_at}
use Rattle.numbers.specs.Promise.{Left1, Left2, Left4}
use Rattle.numbers.specs.declared.answer.Answer.{Answer}
use Rattle.numbers.specs.declared.cursor.NextNumber.{NextNumber}
use Rattle.numbers.specs.declared.sequence_number.SequenceNumber.{SequenceNumber}
use Rattle.number_sets.specs.declared.sequence_number_set.SequenceNumberSet.{SequenceNumberSet}
use Rattle.number_sets.specs.declared.fragment_number_set.FragmentNumberSet.{FragmentNumberSet}
use Rattle.rising.specs.Runs.{room_of}
use Rattle.rtps_reader_proxy.specs.Parts.{count_unsent}
use Rattle.rtps_reader_proxy.specs.declared.proxy.ReaderProxy.{ReaderProxy}
use Rattle.rtps_reader_proxy.specs.declared.proxy.Changed.{Changed}
use Rattle.rtps_reader_proxy.specs.declared.acks.AckNacked.{AckNacked}
use Rattle.rtps_reader_proxy.specs.Reader.{taken, untaken}
use Rattle.rtps_reader_proxy.specs.Record.{room_for, unsent_coherent, gaps_coherent}
use Rattle.rtps_reader_proxy.specs.Unsent.{marked_sent_of}
use Rattle.rtps_reader_proxy.specs.Acks.{ack_fits}
use Rattle.rtps_reader_proxy.specs.Fragments.{frags_coherent, frags_requested_of}
use Rattle.rtps_reader_proxy.proofs.UnsentCalls.{unsent-is, untaken-is}
use Rattle.reader_record.specs.InPart.{AsWhole, AsWholes}
use Rattle.reader_record.proofs.UnsentInPart.{old_long, unsent-held, unsent_glue, unsent_part_ok, mark_in_part, next_unsent_in_part}
use Rattle.reader_record.proofs.AckInPart.{ack_nack_among_in_part}
use Rattle.reader_record.proofs.FragsInPart.{frags_requested_in_part}
use Rattle.reader_list.specs.declared.heads.ReaderHead.{ReaderHead}
use Rattle.reader_list.specs.Slots.{found_of}
use Rattle.writer_send_buffer.specs.declared.flow.WriterSendBuffer.{WriterSendBuffer}
use Rattle.writer_send_buffer.specs.declared.frontiers.Woken.{Woken}
use Rattle.writer_send_buffer.specs.Flow.{retained}
use Rattle.writer_send_buffer.specs.Buffer.{flow_view, first_of}
use Rattle.writer_send_buffer.specs.Samples.{store_coherent, store_rows}
use Rattle.writer_send_buffer.proofs.Sound.{holds}
use Rattle.writer_steps.specs.declared.acks.AckTold.{AckTold}
use Rattle.writer_steps.specs.declared.send.Sent.{Sent}
use Rattle.writer_steps.specs.declared.many.SentMany.{SentMany}
use Rattle.writer_steps.specs.Readers.{after, list_after}
use Rattle.writer_steps.specs.Acks.{beside_ack, acked_list, ack_stored, ack_step}
use Rattle.writer_steps.specs.Frags.{not_asked, nack_frag_step}
use Rattle.writer_steps.specs.Send.{first_unsent, send_of}
use Rattle.writer_steps.specs.Many.{Sending, sending, gone_as, most_of, many_left, send_many_of}
use Rattle.writer_steps.proofs.Repeats.{sending-is}

-- AN ACKNACK
module _ (h : ReaderProxy) (room gaps : List ℕ) (ok : unsent_coherent h room ≡ true) (gok : gaps_coherent h gaps ≡ true) (whole : length room ≡ h.unsent_cap) (gwhole : length gaps ≡ 256)
    (k j : ℕ) (lo : h.unsent_count ≤ k) (hi : k ≤ h.unsent_cap) (glo : h.gap_count ≤ j) (ghi : j ≤ 256) (set : SequenceNumberSet) (fits : ack_fits h (take k room) set ≡ true)
    (hs : List ReaderHead) (f : WriterSendBuffer) (i : ℕ) where
  abbrev part : Left4 AckTold (List ReaderHead) WriterSendBuffer (List ℕ) (List ℕ)
  part = ack_step hs f i set h (take k room) (take j gaps)

  abbrev all : Left4 AckTold (List ReaderHead) WriterSendBuffer (List ℕ) (List ℕ)
  all = ack_step hs f i set h room gaps

  abbrev w : Woken
  w = ack_stored hs f i set h

  pub ack_step_in_part : (part.result ≡ all.result) × ((part.first ≡ all.first) × ((part.second ≡ all.second) × ((part.third ++ drop k room ≡ all.third) × (part.fourth ++ drop j gaps ≡ all.fourth))))
  ack_step_in_part =
      let p = ack_nack_among_in_part h room gaps ok gok whole gwhole k j lo hi glo ghi set f.last fits (beside_ack f (found_of hs i) h) w.told.answer in (
        ap (λ (r : AckNacked). told r) p.0,
        (ap (λ (r : AckNacked). list_after (after r.answer w f) hs (acked_list hs i set h)) p.0, (ap (λ (r : AckNacked). (after r.answer w f).flow) p.0, (p.1.0, p.1.1))),
      )
    where
      told : AckNacked → AckTold
      told r = record { told = (after r.answer w f).told; left_out = r.left_out; proxy = r.proxy }

-- A NACK_FRAG
module _ (h : ReaderProxy) (S W : List ℕ) (ok : frags_coherent h S W ≡ true) (whole : length S ≡ 16) (k : ℕ) (lo : h.frag_count ≤ k) (hi : k ≤ 16) (n : SequenceNumber) (set : FragmentNumberSet)
    (fits : room_for 1 16 h.frag_count (take k S) ≡ true) (hs : List ReaderHead) (i : ℕ) where
  pub nack_frag_in_part : AsWholes (drop k S) (drop (64 * k) W) (nack_frag_step hs i n set h (take k S) (take (64 * k) W)) (nack_frag_step hs i n set h S W)
  nack_frag_in_part = go (is_done (found_of hs i).answer)
    where
      p : AsWholes (drop k S) (drop (64 * k) W) (frags_requested_of n set h (take k S) (take (64 * k) W)) (frags_requested_of n set h S W)
      p = frags_requested_in_part h S W ok whole k lo hi n set fits

      by : Bool → List ℕ → List ℕ → Left2 Changed (List ℕ) (List ℕ)
      by t s w = cond t (frags_requested_of n set h s w) (not_asked n set h s w (found_of hs i).answer)

      refused : Changed → Changed
      refused c = record { answer = earlier c.answer (found_of hs i).answer; proxy = h }

      go : (t : Bool) → AsWholes (drop k S) (drop (64 * k) W) (by t (take k S) (take (64 * k) W)) (by t S W)
      go true = p
      go false = (ap refused p.0, (take-append-drop k S, take-append-drop (64 * k) W))

-- SENDING
module _ (h : ReaderProxy) (room : List ℕ) (ok : unsent_coherent h room ≡ true) (whole : length room ≡ h.unsent_cap) (k : ℕ) (lo : h.unsent_count ≤ k) (hi : k ≤ h.unsent_cap) (f : WriterSendBuffer) where
  abbrev u : List ℕ
  u = take k room

  -- one number
  abbrev sends : NextNumber → Left1 Changed (List ℕ) → List ℕ → Left1 Sent (List ℕ)
  sends x m l =
      stepped ((first_of f).answer ∷ x.answer ∷ [])
      (λ a. record { result = record { answer = a; number = number_at 0; «data» = false; proxy = h }; first = l })
      (record { result = record { answer = done; number = x.number; «data» = retained (rank_of x.number) (flow_view f); proxy = m.result.proxy }; first = m.first })

  pub send_in_part : AsWhole (drop k room) (send_of f h u) (send_of f h room)
  send_in_part = (ap (λ (o : Left1 Sent (List ℕ)). o.result) same ∙ both.0, ap (λ (o : Left1 Sent (List ℕ)). o.first ++ drop k room) same ∙ both.1)
    where
      x : NextNumber
      x = first_unsent h room

      same : send_of f h u ≡ sends x (marked_sent_of x.number h u) u
      same = ap (λ (y : NextNumber). sends y (marked_sent_of y.number h u) u) (next_unsent_in_part h room ok whole k lo hi (cursor_at 0))

      p : AsWhole (drop k room) (marked_sent_of x.number h u) (marked_sent_of x.number h room)
      p = mark_in_part h room ok whole k lo hi x.number

      sent : Changed → Sent
      sent c = record { answer = done; number = x.number; «data» = retained (rank_of x.number) (flow_view f); proxy = c.proxy }

      a : Answer
      a = first_answer ((first_of f).answer ∷ x.answer ∷ [])

      by : Bool → Left1 Changed (List ℕ) → List ℕ → Left1 Sent (List ℕ)
      by t m l = cond t (record { result = sent m.result; first = m.first }) (record { result = record { answer = a; number = number_at 0; «data» = false; proxy = h }; first = l })

      go : (t : Bool) → AsWhole (drop k room) (by t (marked_sent_of x.number h u) u) (by t (marked_sent_of x.number h room) room)
      go true = (ap sent p.0, p.1)
      go false = (refl, take-append-drop k room)

      both : AsWhole (drop k room) (sends x (marked_sent_of x.number h u) u) (sends x (marked_sent_of x.number h room) room)
      both = go (is_done a)

  -- many: what is sent is what is held, and that is the same
  module _ (space : ℕ) (lens ns ss ls : List ℕ) where
    abbrev Out : Type 0
    Out = Left4 SentMany (List ℕ) (List ℕ) (List ℕ) (List ℕ)

    abbrev AsAll : Out → Out → Type 0
    AsAll p q = (p.result ≡ q.result) × ((p.first ++ drop k room ≡ q.first) × ((p.second ≡ q.second) × ((p.third ≡ q.third) × (p.fourth ≡ q.fourth))))

    as_all : (p p' q q' : Out) → p ≡ p' → q ≡ q' → AsAll p' q' → AsAll p q
    as_all p p' q q' e d x = subst (λ (y : Out). AsAll y q) (sym e) (subst (λ (y : Out). AsAll p' y) (sym d) x)

    abbrev most : ℕ
    most = most_of ns ss ls

    abbrev old : List ℕ
    old = take h.unsent_count room

    abbrev goes : List ℕ → List ℕ → Sending
    goes lent l = record { gone = map (gone_as f) (taken most l); proxy = count_unsent (length (untaken most l)) h; unsent = room_of (length lent) (untaken most l) }

    abbrev many_by : Bool → Bool → Bool → Sending → List ℕ → Out
    many_by t v none s lent =
        unless (row 1 refl (not (t && v)) ∷ row 14 refl none ∷ [])
        (λ a. record { result = record { answer = a; count = 0; proxy = h }; first = lent; second = ns; third = ss; fourth = ls })
        (many_left f space lens s ns ss ls)

    few : length (untaken most old) ≤ k
    few = omega (arith, ap length (untaken-is most 1 old (unsent-is h room ok).run.rises.from), length-drop most old, old_long h room ok whole k lo hi)

    decided : (t none : Bool) → AsAll (many_by t true none (goes u old) u) (many_by t true none (goes room old) room)
    decided false none = (refl, (take-append-drop k room, (refl, (refl, refl))))
    decided true true = (refl, (take-append-drop k room, (refl, (refl, refl))))
    decided true false = (refl, (unsent_glue h room ok whole k lo hi (untaken most old) few, (refl, (refl, refl))))

    pub send_many_in_part : AsAll (send_many_of f space lens h u ns ss ls) (send_many_of f space lens h room ns ss ls)
    send_many_in_part = go (store_coherent f space lens) refl
      where
        go : (t : Bool) → store_coherent f space lens ≡ t → AsAll (send_many_of f space lens h u ns ss ls) (send_many_of f space lens h room ns ss ls)
        go false c =
            as_all (send_many_of f space lens h u ns ss ls) (many_by false true (empty old) (goes u old) u) (send_many_of f space lens h room ns ss ls) (many_by false true (empty old) (goes room old) room)
            (ap (λ (b : Bool). many_by b (unsent_coherent h u) (empty (take h.unsent_count u)) (sending most f h u) u) c)
            (ap (λ (b : Bool). many_by b (unsent_coherent h room) (empty old) (sending most f h room) room) c)
            (decided false (empty old))
        go true c =
            let good = unsent_part_ok h room ok whole k lo hi in
            let same = unsent-held h room ok whole k lo hi in
            let flow = holds (store_rows f space lens) c 0 in
            as_all (send_many_of f space lens h u ns ss ls) (many_by true true (empty old) (goes u old) u) (send_many_of f space lens h room ns ss ls) (many_by true true (empty old) (goes room old) room)
            ((λ i. many_by (c i) (good i) (empty (same i)) (sending-is f flow most h u good i) u) ∙ ap (λ (l : List ℕ). many_by true true (empty old) (goes u l) u) same)
            (λ i. many_by (c i) (ok i) (empty old) (sending-is f flow most h room ok i) room)
            (decided true (empty old))
