-- What the calls on one reader's record, and on the flow record, answer and leave on the forms of the system's records: the system's step, its refusals
-- included. Assumes nothing.
use Prim.Native.Nat.{ℕ, suc, ◌+◌, ◌-◌, ◌≤◌, min}
use mathlib.Core.Path.{◌≡◌, refl, ap, ◌∙◌}
use mathlib.Core.Bool.{Bool, true, false, not, cond, ◌&&◌, ◌||◌}
use mathlib.Core.List.{List, [], ◌∷◌}
use lib.Dec.{ltb, leb}
use lib.ListN.{length, take}
use native.Mathlib.Omega.{arith}
use borrow.Author.Tests.{le-ltb, le-leb}
use Rattle.sets.proofs.Bools.{and_left, and_right, and_both, or_right}
use Rattle.numbers.specs.Capacities.{top_number}
use Rattle.numbers.specs.Number.{rank_of, negative, is_sample, in_range, number_at}
use Rattle.numbers.specs.Refusals.{Row, row, answer_of, is_done, unless, done, Rows}
use Rattle.numbers.specs.Answers.{earlier, in_turn, answered}
use Rattle.numbers.specs.Promise.{Left1, Left2}
use Rattle.numbers.specs.declared.answer.Answer.{Answer}
use Rattle.numbers.specs.declared.sequence_number.SequenceNumber.{SequenceNumber}
use Rattle.numbers.proofs.Ranks.{rank_back, range_of}
use Rattle.number_sets.specs.Bits.{NumberSet, members}
use Rattle.number_sets.specs.Calls.{fragment_set}
use Rattle.rising.specs.Runs.{room_of}
use Rattle.rising.proofs.Meaning.{room_take, room-length}
use Rattle.requested_fragments.specs.Table.{samples_room, words_room}
use Rattle.requested_fragments.proofs.Both.{rooms_hold_lem, rooms_long}
use Rattle.rtps_reader_proxy.specs.Parts.{count_unsent, count_gaps, count_frags}
use Rattle.rtps_reader_proxy.specs.declared.proxy.Changed.{Changed}
use Rattle.rtps_reader_proxy.specs.declared.acks.AckNacked.{AckNacked}
use Rattle.rtps_reader_proxy.specs.Reader.{Reader, acknowledge, left_out_of, marked_sent, removed_before, notified, gap_inserted, gap_up_to, frags_requested, frag_sent, with_acked, with_unsent, with_gaps, with_frags}
use Rattle.rtps_reader_proxy.specs.Record.{room_for, unsent_coherent, gaps_coherent, proxy_of, unsent_room, gap_room}
use Rattle.rtps_reader_proxy.specs.Unsent.{by_unsent, unsent_by, notified_of}
use Rattle.rtps_reader_proxy.specs.Gaps.{by_gaps, gaps_by, member_rows, end_rows}
use Rattle.rtps_reader_proxy.specs.Fragments.{frags_requested_of, frags_coherent, by_frags, frags_by, request_rows}
use Rattle.rtps_reader_proxy.specs.Acks.{by_both, proxy_after, ack_rows_of, ack_nacked_among}
use Rattle.reader_record.specs.Whole.{rooms_whole, rooms_coherent, record_form, Valid}
use Rattle.reader_record.proofs.Whole.{entries_in_lem, form_coherent}
use Rattle.reader_list.specs.declared.calls.Found.{Found}
use Rattle.reader_list.specs.Slots.{frontier_at}
use Rattle.reader_list.proofs.Smallest.{frontier_back}
use Rattle.writer_send_buffer.specs.declared.flow.WriterSendBuffer.{WriterSendBuffer}
use Rattle.numbers.specs.declared.answer.Told.{Told}
use Rattle.writer_send_buffer.specs.Flow.{Flow, ahead, unwritten, stored, wakes, raised, evicted}
use Rattle.writer_send_buffer.specs.Buffer.{flow_view, flow_form, flow_coherent, ranged, told_no, acked_of, sent_of, evict_of}
use Rattle.writer_send_buffer.proofs.Sound.{Fits}
use Rattle.writer_send_buffer.proofs.Steps.{at_least_0, view_form, form_coherent as flow-coherent}
use Rattle.writer_steps.specs.Frags.{not_asked}
use Rattle.other_end.specs.Calls.{ReaderCall, gap_at, gap_to, ask_frags, sent_frag, mark_sent, remove_before, result, call_rows}
use Rattle.other_end.specs.AsCalled.{set_form, Outcome, on_unsent, on_gaps, on_frags, called_on}

-- a function of what comes of a call
pub unless-map : {A B : Type 0} (g : A → B) (rows : Rows) (f : Answer → A) (d : A) → g (unless rows f d) ≡ unless rows (λ a. g (f a)) (g d)
unless-map {A} {B} g rows f d = go (is_done (answer_of rows))
  where
    go : (t : Bool) → g (cond t d (f (answer_of rows))) ≡ cond t (g d) (g (f (answer_of rows)))
    go true = refl
    go false = refl

-- what is left of the reader r by a call that turns it to r' unless a row holds
abbrev pub leaves : Rows → Reader → Reader → Outcome
leaves rows r r' = unless rows (λ a. record { answer = a; left = record_form r }) (record { answer = done; left = record_form r' })

-- what a call sees that is lent one room, or the fragments' rooms
abbrev seen_unsent : Reader → Reader
seen_unsent r = with_gaps r.prefix (take (length r.gaps) []) (with_frags [] r)

abbrev seen_gaps : Reader → Reader
seen_gaps r = with_unsent (take (length r.unsent) []) (with_frags [] r)

abbrev seen_frags : Reader → Reader
seen_frags r = with_unsent (take (length r.unsent) []) (with_gaps r.prefix (take (length r.gaps) []) r)

abbrev seen_both : Reader → Reader
seen_both r = with_frags [] r

module _ (r : Reader) (v : Valid r) where
  abbrev samples : List ℕ
  samples = samples_room 16 r.frags

  abbrev words : List ℕ
  words = words_room 16 r.frags

  -- the calls' own tests
  all_ok : rooms_coherent (record_form r) ≡ true
  all_ok = and_right (rooms_whole (record_form r)) (rooms_coherent (record_form r)) (form_coherent r v)

  pub unsent-coherent : unsent_coherent (proxy_of r) (unsent_room r) ≡ true
  unsent-coherent = and_left (unsent_coherent (proxy_of r) (unsent_room r)) _ all_ok

  -- the rooms are whole
  unsent_long : length (unsent_room r) ≡ r.cap
  unsent_long = room-length r.cap r.unsent v.unsent-few

  gaps_long : length (gap_room r) ≡ 256
  gaps_long = room-length 256 r.gaps v.gaps-few

  -- so there is room in them for whatever joins
  pub fits-unsent : (k : ℕ) → room_for k r.cap (length r.unsent) (unsent_room r) ≡ true
  fits-unsent k = or_right (leb k (length (unsent_room r) - length r.unsent)) (leb r.cap (length (unsent_room r))) (le-leb r.cap (length (unsent_room r)) (omega (arith, unsent_long)))

  samples_long : length samples ≡ 16
  samples_long = rooms_long 16 r.frags v.frags-few

  fits-gaps : (k : ℕ) → room_for k 256 (length r.gaps) (gap_room r) ≡ true
  fits-gaps k = or_right (leb k (length (gap_room r) - length r.gaps)) (leb 256 (length (gap_room r))) (le-leb 256 (length (gap_room r)) (omega (arith, gaps_long)))

  fits-frags : (k : ℕ) → room_for k 16 (length r.frags) samples ≡ true
  fits-frags k = or_right (leb k (length samples - length r.frags)) (leb 16 (length samples)) (le-leb 16 (length samples) (omega (arith, samples_long)))

  rest_ok : (gaps_coherent (proxy_of r) (gap_room r) && frags_coherent (proxy_of r) samples words) ≡ true
  rest_ok = and_right (unsent_coherent (proxy_of r) (unsent_room r)) (gaps_coherent (proxy_of r) (gap_room r) && frags_coherent (proxy_of r) samples words) all_ok

  pub gaps-coherent : gaps_coherent (proxy_of r) (gap_room r) ≡ true
  gaps-coherent = and_left (gaps_coherent (proxy_of r) (gap_room r)) _ rest_ok

  frags-coherent : frags_coherent (proxy_of r) samples words ≡ true
  frags-coherent = and_right (gaps_coherent (proxy_of r) (gap_room r)) (frags_coherent (proxy_of r) samples words) rest_ok

  acked-is : rank_of (number_at r.acked) ≡ r.acked
  acked-is = rank_back r.acked (omega (arith, v.acked))

  prefix-is : rank_of (number_at r.prefix) ≡ r.prefix
  prefix-is = rank_back r.prefix (omega (arith, v.prefix))

  pub by_unsent_lem : by_unsent (proxy_of r) (unsent_room r) ≡ seen_unsent r
  by_unsent_lem = λ i. with_acked (acked-is i) (with_unsent (room_take r.cap r.unsent i) (with_gaps (prefix-is i) (take (length r.gaps) []) (with_frags [] r)))

  by_gaps_lem : by_gaps (proxy_of r) (gap_room r) ≡ seen_gaps r
  by_gaps_lem = λ i. with_acked (acked-is i) (with_unsent (take (length r.unsent) []) (with_gaps (prefix-is i) (room_take 256 r.gaps i) (with_frags [] r)))

  by_frags_lem : by_frags (proxy_of r) samples words ≡ seen_frags r
  by_frags_lem = λ i.
      with_acked (acked-is i) (with_unsent (take (length r.unsent) []) (with_gaps (prefix-is i) (take (length r.gaps) []) (with_frags (rooms_hold_lem 16 r.frags (entries_in_lem r v) v.frags-few i) r)))

  by_both_lem : by_both (proxy_of r) (unsent_room r) (gap_room r) ≡ seen_both r
  by_both_lem = λ i. with_acked (acked-is i) (with_unsent (room_take r.cap r.unsent i) (with_gaps (prefix-is i) (room_take 256 r.gaps i) (with_frags [] r)))

  -- THE UNSENT NUMBERS

  abbrev unsent_out : ℕ → Bool → List Row → (Reader → Reader) → Reader → Left1 Changed (List ℕ)
  unsent_out m t rows f x =
      unless (row 1 refl t ∷ rows)
      (λ a. record { result = record { answer = a; proxy = proxy_of r }; first = unsent_room r })
      (record { result = record { answer = done; proxy = count_unsent (length (f x).unsent) (proxy_of r) }; first = room_of m (f x).unsent })

  pub by_unsent_is : (fits : Bool) → fits ≡ true → (rows : List Row) (f : Reader → Reader) → unsent_by fits rows f (proxy_of r) (unsent_room r) ≡ unsent_out r.cap false rows f (seen_unsent r)
  by_unsent_is fits ef rows f =
      ap (λ (x : Reader). unsent_out (length (unsent_room r)) (not (fits && unsent_coherent (proxy_of r) (unsent_room r))) rows f x) by_unsent_lem
      ∙ ap (λ (t : Bool). unsent_out (length (unsent_room r)) (not t) rows f (seen_unsent r)) (and_both fits (unsent_coherent (proxy_of r) (unsent_room r)) ef unsent-coherent)
      ∙ ap (λ (m : ℕ). unsent_out m false rows f (seen_unsent r)) unsent_long

  -- a new sample's number is never out of range: a write is refused with 5 before
  pub does_notify : (n : ℕ) → 1 ≤ n → n ≤ top_number
      → notified_of (number_at n) (proxy_of r) (unsent_room r) ≡ record { result = record { answer = done; proxy = proxy_of (notified n r) }; first = unsent_room (notified n r) }
  does_notify n p q =
      by_unsent_is (room_for 1 r.cap (length r.unsent) (unsent_room r)) (fits-unsent 1) (row 2 refl (not (is_sample (number_at n))) ∷ []) (notified (rank_of (number_at n)))
      ∙ ap (λ (k : ℕ). unsent_out r.cap false (row 2 refl (not (leb 1 k && leb k top_number)) ∷ []) (notified k) (seen_unsent r)) (rank_back n (omega arith))
      ∙ ap (λ (t : Bool). unsent_out r.cap false (row 2 refl (not (t && leb n top_number)) ∷ []) (notified n) (seen_unsent r)) (le-leb 1 n p)
      ∙ ap (λ (t : Bool). unsent_out r.cap false (row 2 refl (not t) ∷ []) (notified n) (seen_unsent r)) (le-leb n top_number q)

  -- THE PENDING GAP

  abbrev gaps_out : ℕ → Bool → List Row → (Reader → Reader) → Reader → Left1 Changed (List ℕ)
  gaps_out m t rows f x =
      unless (row 1 refl t ∷ rows)
      (λ a. record { result = record { answer = a; proxy = proxy_of r }; first = gap_room r })
      (record { result = record { answer = done; proxy = count_gaps (f x).prefix (length (f x).gaps) (proxy_of r) }; first = room_of m (f x).gaps })

  by_gaps_is : (fits : Bool) → fits ≡ true → (rows : Reader → List Row) (f : Reader → Reader)
      → gaps_by fits (rows (by_gaps (proxy_of r) (gap_room r))) f (proxy_of r) (gap_room r) ≡ gaps_out 256 false (rows (seen_gaps r)) f (seen_gaps r)
  by_gaps_is fits ef rows f =
      ap (λ (x : Reader). gaps_out (length (gap_room r)) (not (fits && gaps_coherent (proxy_of r) (gap_room r))) (rows x) f x) by_gaps_lem
      ∙ ap (λ (t : Bool). gaps_out (length (gap_room r)) (not t) (rows (seen_gaps r)) f (seen_gaps r)) (and_both fits (gaps_coherent (proxy_of r) (gap_room r)) ef gaps-coherent)
      ∙ ap (λ (m : ℕ). gaps_out m false (rows (seen_gaps r)) f (seen_gaps r)) gaps_long

  -- REQUESTED FRAGMENTS

  abbrev frags_out : ℕ → Bool → List Row → (Reader → Reader) → Reader → Left2 Changed (List ℕ) (List ℕ)
  frags_out m t rows f x =
      unless (row 1 refl t ∷ rows)
      (λ a. record { result = record { answer = a; proxy = proxy_of r }; first = samples; second = words })
      (record { result = record { answer = done; proxy = count_frags (length (f x).frags) (proxy_of r) }; first = samples_room m (f x).frags; second = words_room m (f x).frags })

  by_frags_is : (fits : Bool) → fits ≡ true → (rows : Reader → List Row) (f : Reader → Reader)
      → frags_by fits (rows (by_frags (proxy_of r) samples words)) f (proxy_of r) samples words ≡ frags_out 16 false (rows (seen_frags r)) f (seen_frags r)
  by_frags_is fits ef rows f =
      ap (λ (x : Reader). frags_out (length samples) (not (fits && frags_coherent (proxy_of r) samples words)) (rows x) f x) by_frags_lem
      ∙ ap (λ (t : Bool). frags_out (length samples) (not t) (rows (seen_frags r)) f (seen_frags r)) (and_both fits (frags_coherent (proxy_of r) samples words) ef frags-coherent)
      ∙ ap (λ (m : ℕ). frags_out m false (rows (seen_frags r)) f (seen_frags r)) samples_long

  -- EVERY ONE OF THESE CALLS, where `last` is the last number written
  module _ (last : ℕ) (top : last ≤ top_number) where
    -- the code's test of `last`
    within : in_range (number_at last) top_number ≡ true
    within = range_of last top_number (omega arith) top

    last-is : rank_of (number_at last) ≡ last
    last-is = rank_back last (omega (arith, top))

    pub does_call : (d : Found) → d.answer ≡ done → (c : ReaderCall) → called_on d c (number_at last) (record_form r) ≡ leaves (call_rows last c r) r (result c r)
    does_call d there (gap_at n) =
        let f = gap_inserted (rank_of n) in
        ap (on_gaps (record_form r)) (by_gaps_is (room_for 1 256 (length r.gaps) (gap_room r)) (fits-gaps 1) (λ x. member_rows (not (in_range (number_at last) top_number)) (rank_of (number_at last)) (rank_of n) (length r.gaps) x) f
        ∙ ap (λ (t : Bool). gaps_out 256 false (member_rows (not t) (rank_of (number_at last)) (rank_of n) (length r.gaps) (seen_gaps r)) f (seen_gaps r)) within
        ∙ ap (λ (k : ℕ). gaps_out 256 false (member_rows false k (rank_of n) (length r.gaps) (seen_gaps r)) f (seen_gaps r)) last-is)
        ∙ unless-map (on_gaps (record_form r)) (call_rows last (gap_at n) r) (λ a. record { result = record { answer = a; proxy = proxy_of r }; first = gap_room r }) _
    does_call d there (gap_to e) =
        let f = gap_up_to (rank_of e) in
        ap (on_gaps (record_form r)) (by_gaps_is true refl (λ x. end_rows (not (in_range (number_at last) top_number)) (rank_of (number_at last)) (negative e) (rank_of e)) f
        ∙ ap (λ (t : Bool). gaps_out 256 false (end_rows (not t) (rank_of (number_at last)) (negative e) (rank_of e)) f (seen_gaps r)) within
        ∙ ap (λ (k : ℕ). gaps_out 256 false (end_rows false k (negative e) (rank_of e)) f (seen_gaps r)) last-is)
        ∙ unless-map (on_gaps (record_form r)) (call_rows last (gap_to e) r) (λ a. record { result = record { answer = a; proxy = proxy_of r }; first = gap_room r }) _
    does_call d there (ask_frags n z) =
        ap (λ (a : Answer). on_frags (record_form r) (answered a (not_asked n z (proxy_of r) samples words) (frags_requested_of n z (proxy_of r) samples words))) there
        ∙ ap (on_frags (record_form r)) (by_frags_is (room_for 1 16 (length r.frags) samples) (fits-frags 1) (λ x. request_rows (rank_of n) (fragment_set z) (length r.frags) x) (frags_requested (rank_of n) (members (fragment_set z))))
        ∙ unless-map (on_frags (record_form r)) (call_rows last (ask_frags n z) r) (λ a. record { result = record { answer = a; proxy = proxy_of r }; first = samples; second = words }) _
    does_call d there (sent_frag n f) = ap (on_frags (record_form r)) (by_frags_is true refl (λ x. []) (frag_sent (rank_of n) f.0))
    does_call d there (mark_sent n) = ap (on_unsent (record_form r)) (by_unsent_is true refl [] (marked_sent (rank_of n)))
    does_call d there (remove_before n) = ap (on_unsent (record_form r)) (by_unsent_is true refl [] (removed_before (rank_of n)))

    -- AN ACKNOWLEDGEMENT
    abbrev ack_out : Answer → Answer → ℕ → ℕ → Bool → Bool → ℕ → NumberSet → Reader → Left2 AckNacked (List ℕ) (List ℕ)
    ack_out beside after m n ok out k z x =
        answered (in_turn (earlier (answer_of (ack_rows_of ok z out false k)) beside) after)
        (λ a. record { result = record { answer = a; left_out = 0; proxy = proxy_of r }; first = unsent_room r; second = gap_room r })
        (record {
          result = record { answer = done; left_out = left_out_of k z.base (members z) x; proxy = proxy_after (acknowledge k z.base (members z) x) (proxy_of r) };
          first = room_of m (acknowledge k z.base (members z) x).unsent;
          second = room_of n (acknowledge k z.base (members z) x).gaps;
        })

    abbrev pub acks_of : Answer → Answer → NumberSet → Left2 AckNacked (List ℕ) (List ℕ)
    acks_of beside after z =
        answered (in_turn (earlier (answer_of (ack_rows_of true z false false last)) beside) after)
        (λ a. record { result = record { answer = a; left_out = 0; proxy = proxy_of r }; first = unsent_room r; second = gap_room r })
        (record {
          result = record { answer = done; left_out = left_out_of last z.base (members z) r; proxy = proxy_of (acknowledge last z.base (members z) r) };
          first = unsent_room (acknowledge last z.base (members z) r);
          second = gap_room (acknowledge last z.base (members z) r);
        })

    pub does_ack : (beside after : Answer) (z : NumberSet) → z.base ≤ suc last → ack_nacked_among beside after (set_form z) (number_at last) (proxy_of r) (unsent_room r) (gap_room r) ≡ acks_of beside after z
    does_ack beside after z q =
        let fits = room_for (min z.count 256) r.cap (length r.unsent) (unsent_room r) in
        let ok =
        and_both fits (unsent_coherent (proxy_of r) (unsent_room r) && gaps_coherent (proxy_of r) (gap_room r)) (fits-unsent (min z.count 256))
        (and_both (unsent_coherent (proxy_of r) (unsent_room r)) (gaps_coherent (proxy_of r) (gap_room r)) unsent-coherent gaps-coherent) in
        let out = ack_out beside after (length (unsent_room r)) (length (gap_room r)) in
        let no : (negative (number_at z.base) || not (in_range (number_at last) top_number)) ≡ false = ap (λ (t : Bool). t || not (in_range (number_at last) top_number)) (at_least_0 z.base) ∙ ap not within in
        ap (λ (b : ℕ). out (fits && (unsent_coherent (proxy_of r) (unsent_room r) && gaps_coherent (proxy_of r) (gap_room r))) (negative (number_at z.base) || not (in_range (number_at last) top_number)) (rank_of (number_at last)) (record { base = b; count = z.count; words = z.words }) (by_both (proxy_of r) (unsent_room r) (gap_room r))) (rank_back z.base (omega (arith, top)))
        ∙ ap (λ (x : Reader). out (fits && (unsent_coherent (proxy_of r) (unsent_room r) && gaps_coherent (proxy_of r) (gap_room r))) (negative (number_at z.base) || not (in_range (number_at last) top_number)) (rank_of (number_at last)) z x) by_both_lem
        ∙ ap (λ (k : ℕ). out (fits && (unsent_coherent (proxy_of r) (unsent_room r) && gaps_coherent (proxy_of r) (gap_room r))) (negative (number_at z.base) || not (in_range (number_at last) top_number)) k z (seen_both r)) last-is
        ∙ ap (λ (t : Bool). out t (negative (number_at z.base) || not (in_range (number_at last) top_number)) last z (seen_both r)) ok
        ∙ ap (λ (t : Bool). out true t last z (seen_both r)) no
        ∙ ap (λ (m : ℕ). ack_out beside after m (length (gap_room r)) true false last z (seen_both r)) unsent_long
        ∙ ap (λ (n : ℕ). ack_out beside after r.cap n true false last z (seen_both r)) gaps_long

-- THE FLOW RECORD

module _ (f : Flow) (h : Fits f) where
  abbrev flow_out : Bool → Bool → Bool → Flow → Left1 Told WriterSendBuffer
  flow_out coh out told g = unless (ranged coh out) (λ a. record { result = told_no a; first = flow_form f }) (record { result = record { answer = done; yes = told }; first = flow_form g })

  -- "stores the frontier": never refused in the system, since it is never past last + 1
  pub does_store : (n : ℕ) → n ≤ suc f.last → acked_of (flow_form f) (frontier_at n) ≡ record { result = record { answer = done; yes = wakes n f }; first = flow_form (stored n f) }
  does_store n q =
      ap (λ (k : ℕ). flow_out (flow_coherent (flow_form f)) (ahead k (flow_view (flow_form f))) (wakes k (flow_view (flow_form f))) (stored k (flow_view (flow_form f)))) (frontier_back n (omega (arith, h.last-most)))
      ∙ ap (λ (g : Flow). flow_out (flow_coherent (flow_form f)) (ahead n g) (wakes n g) (stored n g)) (view_form f h)
      ∙ ap (λ (t : Bool). flow_out t (ahead n f) (wakes n f) (stored n f)) (flow-coherent f h)
      ∙ ap (λ (t : Bool). flow_out true t (wakes n f) (stored n f)) (le-ltb (f.last + 1) n (omega (arith, q)))

  pub does_sent : (n : SequenceNumber) → sent_of (flow_form f) n ≡ flow_out true (unwritten (rank_of n) f) (ltb f.sent (rank_of n)) (raised (rank_of n) f)
  does_sent n =
      ap (λ (g : Flow). flow_out (flow_coherent (flow_form f)) (unwritten (rank_of n) g) (ltb g.sent (rank_of n)) (raised (rank_of n) g)) (view_form f h)
      ∙ ap (λ (t : Bool). flow_out t (unwritten (rank_of n) f) (ltb f.sent (rank_of n)) (raised (rank_of n) f)) (flow-coherent f h)

  abbrev evict_out : Bool → Bool → Flow → Left1 Answer WriterSendBuffer
  evict_out coh out g = unless (ranged coh out) (λ a. record { result = a; first = flow_form f }) (record { result = done; first = flow_form g })

  pub does_evict : (n : SequenceNumber) → evict_of (flow_form f) n ≡ evict_out true (ahead (rank_of n) f) (evicted (rank_of n) f)
  does_evict n =
      ap (λ (g : Flow). evict_out (flow_coherent (flow_form f)) (ahead (rank_of n) g) (evicted (rank_of n) g)) (view_form f h) ∙ ap (λ (t : Bool). evict_out t (ahead (rank_of n) f) (evicted (rank_of n) f)) (flow-coherent f h)
