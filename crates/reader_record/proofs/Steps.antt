-- What a call that answers 0 does to the whole record is the reader's step: it leaves the form of the step's reader, which is valid. Assumes nothing.
use Prim.Native.Nat.{ℕ, ◌≤◌, max}
use mathlib.Core.Path.{◌≡◌, refl, sym, ap, subst, ◌∙◌}
use mathlib.Core.Bool.{Bool, true, false, not, cond, ◌&&◌, ◌||◌, true≢false}
use mathlib.Core.List.{List, [], ◌∷◌}
use native.Mathlib.Omega.{arith}
use lib.Dec.{leb, ltb}
use lib.ListN.{length}
use borrow.Author.Tests.{eq-eqb, eqb-true, leb-true, ltb-false, not-false}
use Rattle.sets.specs.Sets.{From}
use Rattle.sets.proofs.Bools.{and_left, and_right, neither}
use Rattle.numbers.specs.Capacities.{top_number}
use Rattle.numbers.specs.Number.{rank_of, is_sample, in_range, negative}
use Rattle.numbers.specs.Refusals.{Row, row, answer_of, done, is_done, unless, Rows}
use Rattle.numbers.specs.Promise.{Left1, Left2, Gives1, Gives2}
use Rattle.numbers.specs.declared.answer.Answer.{Answer}
use Rattle.numbers.specs.declared.sequence_number.SequenceNumber.{SequenceNumber}
use Rattle.numbers.specs.declared.fragment_number.FragmentNumber.{FragmentNumber}
use Rattle.numbers.proofs.Refused.{Clear, clear}
use Rattle.numbers.proofs.Ranks.{in_range_lem}
use Rattle.number_sets.specs.declared.sequence_number_set.SequenceNumberSet.{SequenceNumberSet}
use Rattle.number_sets.specs.declared.fragment_number_set.FragmentNumberSet.{FragmentNumberSet}
use Rattle.number_sets.specs.Bits.{members}
use Rattle.number_sets.specs.Calls.{sequence_set, fragment_set}
use Rattle.number_sets.proofs.Meaning.{members_rise}
use Rattle.rising.specs.Runs.{room_of, filled}
use Rattle.requested_fragments.specs.Entries.{Entry}
use Rattle.requested_fragments.specs.Table.{samples_room, words_room}
use Rattle.requested_fragments.proofs.Meaning.{Within}
use Rattle.requested_fragments.proofs.AskForm.{askable-within, askable-rises}
use Rattle.requested_fragments.proofs.OneForm.{Words}
use Rattle.rtps_reader_proxy.specs.Parts.{count_unsent, count_gaps, count_frags}
use Rattle.rtps_reader_proxy.specs.declared.proxy.ReaderProxy.{ReaderProxy}
use Rattle.rtps_reader_proxy.specs.declared.proxy.Changed.{Changed}
use Rattle.rtps_reader_proxy.specs.declared.unsent.Taken.{Taken}
use Rattle.rtps_reader_proxy.specs.declared.acks.AckNacked.{AckNacked}
use Rattle.rtps_reader_proxy.specs.Reader.{Reader, with_unsent, with_gaps, with_frags, acknowledge, notified, marked_sent, removed_before, taken, untaken, needs_room, gap_inserted, gap_up_to, needs_slot, frags_requested, frag_sent}
use Rattle.rtps_reader_proxy.specs.Record.{room_for, unsent_coherent, gaps_coherent, proxy_of}
use Rattle.rtps_reader_proxy.specs.Unsent.{by_unsent, unsent_by, notified_of, marked_sent_of, removed_before_of, taken_of}
use Rattle.rtps_reader_proxy.specs.Gaps.{by_gaps, gaps_by, beyond, gap_inserted_of, gap_up_to_of}
use Rattle.rtps_reader_proxy.specs.Fragments.{frags_coherent, by_frags, frags_by, cannot_ask, no_slot, frags_requested_of, frag_sent_of}
use Rattle.rtps_reader_proxy.specs.Acks.{ack_rows, ack_nacked_of, ack_leaves}
use Rattle.reader_record.specs.Whole.{Picture, record_coherent, record_view, record_form, Valid, Stands}
use Rattle.rtps_reader_proxy.proofs.FragCalls.{can_ask}
use Rattle.reader_record.proofs.Whole.{same_picture, view_form, form_coherent, view_valid, unsent_long, gaps_long, samples_long, acked_back, prefix_back, unsent_back, gaps_back, frags_back}
use Rattle.reader_record.proofs.Kept.{notified-valid, marked-valid, removed-valid, untaken-valid, inserted_valid, up_to_valid, acknowledged-valid, requested-valid, sent-valid}

-- a call that answers 0 did its step, and met no row
module _ {A : Type 0} (rows : Rows) (f : Answer → A) (d : A) (answered : A → Answer) (e : (a : Answer) → answered (f a) ≡ a) where
  pub was_done : (answered (unless rows f d)).number ≡ 0 → (unless rows f d ≡ d) × Clear rows
  was_done z = go (is_done (answer_of rows)) refl z
    where
      go : (t : Bool) → is_done (answer_of rows) ≡ t → (answered (cond t d (f (answer_of rows)))).number ≡ 0 → (cond t d (f (answer_of rows)) ≡ d) × Clear rows
      go true q z = (refl, clear rows (answer_of rows) refl (eqb-true (answer_of rows).number 0 q))
      go false q z =
          let y : (answer_of rows).number ≡ 0 = ap (λ (a : Answer). a.number) (sym (e (answer_of rows))) ∙ z in
          absurd (true≢false (sym (eq-eqb (answer_of rows).number 0 y) ∙ q))

pub stands_view : (q : Picture) (r : Reader) → Stands q r → record_view q ≡ r
stands_view q r s = ap record_view s.is ∙ view_form r s.valid

pub stands_coherent : (q : Picture) (r : Reader) → Stands q r → record_coherent q ≡ true
stands_coherent q r s = ap record_coherent s.is ∙ form_coherent r s.valid

sample-is : (n : SequenceNumber) → is_sample n ≡ true → (1 ≤ rank_of n) × (rank_of n ≤ top_number)
sample-is n s = (leb-true 1 (rank_of n) (and_left (leb 1 (rank_of n)) (leb (rank_of n) top_number) s), leb-true (rank_of n) top_number (and_right (leb 1 (rank_of n)) (leb (rank_of n) top_number) s))

-- "A prefix end or member above `last`": one that isn't is no more than the last number
below_top : (n last : SequenceNumber) → beyond n last ≡ false → rank_of n ≤ top_number
below_top n last e =
    let b = neither (not (in_range last top_number)) (ltb (rank_of last) (rank_of n)) e in
    omega (arith, ltb-false (rank_of last) (rank_of n) b.1, (in_range_lem last top_number (not-false (in_range last top_number) b.0)).1)

module _ (p : Picture) (c : record_coherent p ≡ true) (w : Words p.words) where
  v : Valid (record_view p)
  v = view_valid p c

  -- UNSENT NUMBERS
  module _ (x : ReaderProxy) (u : List ℕ) where
    abbrev with_unsent_room : Picture
    with_unsent_room = record { proxy = x; unsent = u; gaps = p.gaps; samples = p.samples; words = p.words }

    put-unsent : (l : List ℕ) → x ≡ count_unsent (length l) p.proxy → u ≡ room_of p.proxy.unsent_cap l → with_unsent_room ≡ record_form (with_unsent l (record_view p))
    put-unsent l ex eu =
        let same : proxy_of (with_unsent l (record_view p)) ≡ count_unsent (length l) p.proxy = rw (acked_back p c, prefix_back p c, (gaps_back p c).0, (frags_back p c w).0) in
        same_picture with_unsent_room (record_form (with_unsent l (record_view p))) (ex ∙ sym same) eu (sym (gaps_back p c).1) (sym (frags_back p c w).1) (sym (frags_back p c w).2)

  module _ (fits : Bool) (rows : List Row) (f : Reader → Reader) (l : List ℕ) (ev : f (record_view p) ≡ with_unsent l (record_view p)) (eu : f (by_unsent p.proxy p.unsent) ≡ with_unsent l (by_unsent p.proxy p.unsent))
      (r : Changed) (u : List ℕ) (g : Gives1 r u (unsent_by fits rows f p.proxy p.unsent)) (z : r.answer.number ≡ 0) where
    abbrev old_unsent : Answer → Left1 Changed (List ℕ)
    old_unsent a = record { result = record { answer = a; proxy = p.proxy }; first = p.unsent }

    abbrev new_unsent : Left1 Changed (List ℕ)
    new_unsent = record { result = record { answer = done; proxy = count_unsent (length (f (by_unsent p.proxy p.unsent)).unsent) p.proxy }; first = room_of (length p.unsent) (f (by_unsent p.proxy p.unsent)).unsent }

    unsent_did : (unsent_by fits rows f p.proxy p.unsent ≡ new_unsent) × Clear (row 1 refl (not (fits && unsent_coherent p.proxy p.unsent)) ∷ rows)
    unsent_did =
        was_done (row 1 refl (not (fits && unsent_coherent p.proxy p.unsent)) ∷ rows) old_unsent new_unsent (λ o. o.result.answer) (λ a. refl)
        (ap (λ (x : Changed). x.answer.number) (sym g.result) ∙ z)

    unsent_does : Valid (f (record_view p)) → Stands (with_unsent_room r.proxy u) (f (record_view p))
    unsent_does y =
        let d = unsent_did.0 in
        record {
          is =
              put-unsent r.proxy u l
              (ap (λ (o : Changed). o.proxy) (g.result ∙ ap (λ (o : Left1 Changed (List ℕ)). o.result) d) ∙ ap (λ (q : Reader). count_unsent (length q.unsent) p.proxy) eu)
              (g.first ∙ ap (λ (o : Left1 Changed (List ℕ)). o.first) d ∙ ap (λ (q : Reader). room_of (length p.unsent) q.unsent) eu ∙ ap (λ (m : ℕ). room_of m l) (unsent_long p c)) ∙ ap record_form (sym ev);
          valid = y;
        }

  module _ (r : Changed) (u : List ℕ) where
    pub notify_does : (n : SequenceNumber) → Gives1 r u (notified_of n p.proxy p.unsent) → r.answer.number ≡ 0 → Stands (with_unsent_room r.proxy u) (notified (rank_of n) (record_view p))
    notify_does n g z =
        let k = (unsent_did (room_for 1 p.proxy.unsent_cap p.proxy.unsent_count p.unsent) (row 2 refl (not (is_sample n)) ∷ []) (notified (rank_of n)) (notified (rank_of n) (record_view p)).unsent refl refl r u g z).1 in
        let s = sample-is n (not-false (is_sample n) (k 2 refl)) in
        unsent_does (room_for 1 p.proxy.unsent_cap p.proxy.unsent_count p.unsent) (row 2 refl (not (is_sample n)) ∷ []) (notified (rank_of n)) (notified (rank_of n) (record_view p)).unsent refl refl r u g z (notified-valid (record_view p) v (rank_of n) s.0 s.1)

    pub mark_does : (n : SequenceNumber) → Gives1 r u (marked_sent_of n p.proxy p.unsent) → r.answer.number ≡ 0 → Stands (with_unsent_room r.proxy u) (marked_sent (rank_of n) (record_view p))
    mark_does n g z = unsent_does true [] (marked_sent (rank_of n)) (marked_sent (rank_of n) (record_view p)).unsent refl refl r u g z (marked-valid (record_view p) v (rank_of n))

    pub remove_before_does : (n : SequenceNumber) → Gives1 r u (removed_before_of n p.proxy p.unsent) → r.answer.number ≡ 0 → Stands (with_unsent_room r.proxy u) (removed_before (rank_of n) (record_view p))
    remove_before_does n g z = unsent_does true [] (removed_before (rank_of n)) (removed_before (rank_of n) (record_view p)).unsent refl refl r u g z (removed-valid (record_view p) v (rank_of n))

  pub take_does : (out : List ℕ) (r : Taken) (u o : List ℕ) → Gives2 r u o (taken_of p.proxy p.unsent out) → r.answer.number ≡ 0
      → Stands (with_unsent_room r.proxy u) (with_unsent (untaken (length out) (record_view p).unsent) (record_view p))
  take_does out r u o g z =
      let l = untaken (length out) (record_view p).unsent in
      let d = (was_done (row 1 refl (not (unsent_coherent p.proxy p.unsent)) ∷ []) not_taken is-taken (λ o. o.result.answer) (λ a. refl) (ap (λ (x : Taken). x.answer.number) (sym g.result) ∙ z)).0 in
      record {
        is =
            put-unsent r.proxy u l (ap (λ (o : Taken). o.proxy) (g.result ∙ ap (λ (o : Left2 Taken (List ℕ) (List ℕ)). o.result) d))
            (g.first ∙ ap (λ (o : Left2 Taken (List ℕ) (List ℕ)). o.first) d ∙ ap (λ (m : ℕ). room_of m l) (unsent_long p c));
        valid = untaken-valid (record_view p) v (length out);
      }
    where
      not_taken : Answer → Left2 Taken (List ℕ) (List ℕ)
      not_taken a = record { result = record { answer = a; count = 0; proxy = p.proxy }; first = p.unsent; second = out }

      is-taken : Left2 Taken (List ℕ) (List ℕ)
      is-taken =
          record {
            result = record { answer = done; count = length (taken (length out) (record_view p).unsent); proxy = count_unsent (length (untaken (length out) (record_view p).unsent)) p.proxy };
            first = room_of (length p.unsent) (untaken (length out) (record_view p).unsent);
            second = filled (taken (length out) (record_view p).unsent) out;
          }

  -- THE PENDING GAP
  module _ (x : ReaderProxy) (g : List ℕ) where
    abbrev with_gap_room : Picture
    with_gap_room = record { proxy = x; unsent = p.unsent; gaps = g; samples = p.samples; words = p.words }

    put-gaps : (e : ℕ) (l : List ℕ) → x ≡ count_gaps e (length l) p.proxy → g ≡ room_of 256 l → with_gap_room ≡ record_form (with_gaps e l (record_view p))
    put-gaps e l ex eg =
        let same : proxy_of (with_gaps e l (record_view p)) ≡ count_gaps e (length l) p.proxy = rw (acked_back p c, (unsent_back p c).0, (frags_back p c w).0) in
        same_picture with_gap_room (record_form (with_gaps e l (record_view p))) (ex ∙ sym same) (sym (unsent_back p c).1) eg (sym (frags_back p c w).1) (sym (frags_back p c w).2)

  module _ (fits : Bool) (rows : List Row) (f : Reader → Reader) (e : ℕ) (l : List ℕ) (ev : f (record_view p) ≡ with_gaps e l (record_view p)) (eg : f (by_gaps p.proxy p.gaps) ≡ with_gaps e l (by_gaps p.proxy p.gaps))
      (r : Changed) (u : List ℕ) (g : Gives1 r u (gaps_by fits rows f p.proxy p.gaps)) (z : r.answer.number ≡ 0) where
    abbrev old_gaps : Answer → Left1 Changed (List ℕ)
    old_gaps a = record { result = record { answer = a; proxy = p.proxy }; first = p.gaps }

    abbrev new_gaps : Left1 Changed (List ℕ)
    new_gaps =
        record {
          result = record { answer = done; proxy = count_gaps (f (by_gaps p.proxy p.gaps)).prefix (length (f (by_gaps p.proxy p.gaps)).gaps) p.proxy };
          first = room_of (length p.gaps) (f (by_gaps p.proxy p.gaps)).gaps;
        }

    gaps_did : (gaps_by fits rows f p.proxy p.gaps ≡ new_gaps) × Clear (row 1 refl (not (fits && gaps_coherent p.proxy p.gaps)) ∷ rows)
    gaps_did =
        was_done (row 1 refl (not (fits && gaps_coherent p.proxy p.gaps)) ∷ rows) old_gaps new_gaps (λ o. o.result.answer) (λ a. refl)
        (ap (λ (x : Changed). x.answer.number) (sym g.result) ∙ z)

    gaps_does : Valid (f (record_view p)) → Stands (with_gap_room r.proxy u) (f (record_view p))
    gaps_does y =
        let d = gaps_did.0 in
        record {
          is =
              put-gaps r.proxy u e l
              (ap (λ (o : Changed). o.proxy) (g.result ∙ ap (λ (o : Left1 Changed (List ℕ)). o.result) d) ∙ ap (λ (q : Reader). count_gaps q.prefix (length q.gaps) p.proxy) eg)
              (g.first ∙ ap (λ (o : Left1 Changed (List ℕ)). o.first) d ∙ ap (λ (q : Reader). room_of (length p.gaps) q.gaps) eg ∙ ap (λ (m : ℕ). room_of m l) (gaps_long p c)) ∙ ap record_form (sym ev);
          valid = y;
        }

  module _ (r : Changed) (u : List ℕ) where
    pub insert_gap_does : (n last : SequenceNumber) → Gives1 r u (gap_inserted_of n last p.proxy p.gaps) → r.answer.number ≡ 0 → Stands (with_gap_room r.proxy u) (gap_inserted (rank_of n) (record_view p))
    insert_gap_does n last g z =
        let rows = row 2 refl (not (is_sample n) || beyond n last) ∷ row 9 refl (leb 256 p.proxy.gap_count && needs_room (rank_of n) (by_gaps p.proxy p.gaps)) ∷ [] in
        let f = gap_inserted (rank_of n) in
        let l = (gap_inserted (rank_of n) (record_view p)).gaps in
        let k = (gaps_did (room_for 1 256 p.proxy.gap_count p.gaps) rows f (record_view p).prefix l refl refl r u g z).1 in
        let s = sample-is n (not-false (is_sample n) (neither (not (is_sample n)) (beyond n last) (k 2 refl)).0) in
        gaps_does (room_for 1 256 p.proxy.gap_count p.gaps) rows f (record_view p).prefix l refl refl r u g z
        (inserted_valid (record_view p) v (rank_of n) s.1 (ap (λ (m : ℕ). leb 256 m && needs_room (rank_of n) (record_view p)) (gaps_back p c).0 ∙ k 9 refl))

    pub gap_up_to_does : (e last : SequenceNumber) → Gives1 r u (gap_up_to_of e last p.proxy p.gaps) → r.answer.number ≡ 0 → Stands (with_gap_room r.proxy u) (gap_up_to (rank_of e) (record_view p))
    gap_up_to_does e last g z =
        let rows = row 2 refl (negative e || beyond e last) ∷ [] in
        let f = gap_up_to (rank_of e) in
        let k = (gaps_did true rows f (max (record_view p).prefix (rank_of e)) (gap_up_to (rank_of e) (record_view p)).gaps refl refl r u g z).1 in
        gaps_does true rows f (max (record_view p).prefix (rank_of e)) (gap_up_to (rank_of e) (record_view p)).gaps refl refl r u g z
        (up_to_valid (record_view p) v (rank_of e) (below_top e last (neither (negative e) (beyond e last) (k 2 refl)).1))

  -- REQUESTED FRAGMENTS
  module _ (x : ReaderProxy) (s t : List ℕ) where
    abbrev with_frag_rooms : Picture
    with_frag_rooms = record { proxy = x; unsent = p.unsent; gaps = p.gaps; samples = s; words = t }

    put-frags : (es : List Entry) → x ≡ count_frags (length es) p.proxy → s ≡ samples_room 16 es → t ≡ words_room 16 es → with_frag_rooms ≡ record_form (with_frags es (record_view p))
    put-frags es ex e1 e2 =
        let same : proxy_of (with_frags es (record_view p)) ≡ count_frags (length es) p.proxy = rw (acked_back p c, prefix_back p c, (unsent_back p c).0, (gaps_back p c).0) in
        same_picture with_frag_rooms (record_form (with_frags es (record_view p))) (ex ∙ sym same) (sym (unsent_back p c).1) (sym (gaps_back p c).1) e1 e2

  module _ (fits : Bool) (rows : List Row) (f : Reader → Reader) (es : List Entry) (ev : f (record_view p) ≡ with_frags es (record_view p)) (ef : (f (by_frags p.proxy p.samples p.words)).frags ≡ es)
      (r : Changed) (s t : List ℕ) (g : Gives2 r s t (frags_by fits rows f p.proxy p.samples p.words)) (z : r.answer.number ≡ 0) where
    abbrev old_frags : Answer → Left2 Changed (List ℕ) (List ℕ)
    old_frags a = record { result = record { answer = a; proxy = p.proxy }; first = p.samples; second = p.words }

    abbrev new_frags : Left2 Changed (List ℕ) (List ℕ)
    new_frags =
        record {
          result = record { answer = done; proxy = count_frags (length (f (by_frags p.proxy p.samples p.words)).frags) p.proxy };
          first = samples_room (length p.samples) (f (by_frags p.proxy p.samples p.words)).frags;
          second = words_room (length p.samples) (f (by_frags p.proxy p.samples p.words)).frags;
        }

    frags_did : (frags_by fits rows f p.proxy p.samples p.words ≡ new_frags) × Clear (row 1 refl (not (fits && frags_coherent p.proxy p.samples p.words)) ∷ rows)
    frags_did =
        was_done (row 1 refl (not (fits && frags_coherent p.proxy p.samples p.words)) ∷ rows) old_frags new_frags (λ o. o.result.answer) (λ a. refl)
        (ap (λ (x : Changed). x.answer.number) (sym g.result) ∙ z)

    frags_does : Valid (f (record_view p)) → Stands (with_frag_rooms r.proxy s t) (f (record_view p))
    frags_does y =
        let d = frags_did.0 in
        record {
          is =
              put-frags r.proxy s t es
              (ap (λ (o : Changed). o.proxy) (g.result ∙ ap (λ (o : Left2 Changed (List ℕ) (List ℕ)). o.result) d) ∙ ap (λ (q : List Entry). count_frags (length q) p.proxy) ef)
              (g.first ∙ ap (λ (o : Left2 Changed (List ℕ) (List ℕ)). o.first) d ∙ ap (samples_room (length p.samples)) ef ∙ ap (λ (m : ℕ). samples_room m es) (samples_long p c))
              (g.second ∙ ap (λ (o : Left2 Changed (List ℕ) (List ℕ)). o.second) d ∙ ap (words_room (length p.samples)) ef ∙ ap (λ (m : ℕ). words_room m es) (samples_long p c)) ∙ ap record_form (sym ev);
          valid = y;
        }

  module _ (r : Changed) (s t : List ℕ) where
    pub frags_requested_does : (n : SequenceNumber) (set : FragmentNumberSet) → Gives2 r s t (frags_requested_of n set p.proxy p.samples p.words) → r.answer.number ≡ 0
        → Stands (with_frag_rooms r.proxy s t) (frags_requested (rank_of n) (members (fragment_set set)) (record_view p))
    frags_requested_does n set g z =
        let rows = row 3 refl (ltb 256 set.count) ∷ row 2 refl (cannot_ask n set) ∷ row 10 refl (no_slot (rank_of n) set p.proxy p.samples p.words) ∷ [] in
        let ms = members (fragment_set set) in
        let f = frags_requested (rank_of n) ms in
        let k = (frags_did (room_for 1 16 p.proxy.frag_count p.samples) rows f (f (record_view p)).frags refl refl r s t g z).1 in
        let a = can_ask n set (k 2 refl) in
        frags_does (room_for 1 16 p.proxy.frag_count p.samples) rows f (f (record_view p)).frags refl refl r s t g z
        (requested-valid (record_view p) v (rank_of n) ms (subst (From 1) a.all (askable-rises set)) (subst (λ (l : List ℕ). Within l 64) a.all (askable-within set)) a.low a.high
        (ap (λ (m : ℕ). leb 16 m && needs_slot (rank_of n) ms (record_view p)) (frags_back p c w).0 ∙ k 10 refl))

    pub frag_sent_does : (n : SequenceNumber) (k : FragmentNumber) → Gives2 r s t (frag_sent_of n k p.proxy p.samples p.words) → r.answer.number ≡ 0
        → Stands (with_frag_rooms r.proxy s t) (frag_sent (rank_of n) k.0 (record_view p))
    frag_sent_does n k g z = frags_does true [] (frag_sent (rank_of n) k.0) (frag_sent (rank_of n) k.0 (record_view p)).frags refl refl r s t g z (sent-valid (record_view p) v (rank_of n) k.0)

  -- AN ACKNOWLEDGEMENT
  pub ack_nack_does : (set : SequenceNumberSet) (last : SequenceNumber) (r : AckNacked) (u g : List ℕ) → Gives2 r u g (ack_nacked_of set last p.proxy p.unsent p.gaps) → r.answer.number ≡ 0
      → Stands (record { proxy = r.proxy; unsent = u; gaps = g; samples = p.samples; words = p.words }) (acknowledge (rank_of last) (rank_of set.base) (members (sequence_set set)) (record_view p))
  ack_nack_does set last r u g o z =
      let did = was_done (ack_rows p.proxy p.unsent p.gaps set last) not_acked (ack_leaves set (rank_of last) p.proxy p.unsent p.gaps) (λ x. x.result.answer) (λ a. refl) (ap (λ (x : AckNacked). x.answer.number) (sym o.result) ∙ z) in
      let k = did.1 in
      let rg = neither (negative set.base) (not (in_range last top_number)) (k 2 refl) in
      let q = acknowledge (rank_of last) (rank_of set.base) (members (sequence_set set)) (record_view p) in
      let same : proxy_of q ≡ (ack_leaves set (rank_of last) p.proxy p.unsent p.gaps).result.proxy = rw (prefix_back p c, (frags_back p c w).0) in
      record {
        is =
            same_picture (record { proxy = r.proxy; unsent = u; gaps = g; samples = p.samples; words = p.words }) (record_form q)
            (ap (λ (x : AckNacked). x.proxy) (o.result ∙ ap (λ (x : Left2 AckNacked (List ℕ) (List ℕ)). x.result) did.0) ∙ sym same)
            (o.first ∙ ap (λ (x : Left2 AckNacked (List ℕ) (List ℕ)). x.first) did.0 ∙ ap (λ (m : ℕ). room_of m q.unsent) (unsent_long p c))
            (o.second ∙ ap (λ (x : Left2 AckNacked (List ℕ) (List ℕ)). x.second) did.0 ∙ ap (λ (m : ℕ). room_of m q.gaps) (gaps_long p c))
            (sym (frags_back p c w).1) (sym (frags_back p c w).2);
        valid =
            acknowledged-valid (record_view p) v (rank_of last) (rank_of set.base) (rank_of set.base) (members (sequence_set set)) (members_rise (sequence_set set))
            (in_range_lem last top_number (not-false (in_range last top_number) rg.1)).1 (k 12 refl);
      }
    where
      not_acked : Answer → Left2 AckNacked (List ℕ) (List ℕ)
      not_acked a = record { result = record { answer = a; left_out = 0; proxy = p.proxy }; first = p.unsent; second = p.gaps }
