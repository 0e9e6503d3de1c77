-- The calls on the requested fragments, lent the first k samples of the room and their words: each answers as if the whole were lent, and leaves the parts of what it
-- would leave then. Assumes nothing.
use Prim.Native.Nat.{ℕ, ◌+◌, ◌*◌, ◌≤◌}
use mathlib.Core.Path.{◌≡◌, refl, sym, ap, ◌∙◌}
use mathlib.Core.Bool.{Bool, true, false, not, cond, ◌&&◌}
use mathlib.Core.Logic.{◌⊎◌, inl, inr}
use mathlib.Core.List.{List, [], ◌∷◌, ◌++◌}
use native.Mathlib.Omega.{arith}
use lib.Dec.{leb, eqb}
use lib.ListN.{length, take, drop, take-append-drop}
use borrow.Author.Tests.{leb-false, not-false}
use Rattle.sets.specs.Sets.{has, empty, insert}
use Rattle.sets.proofs.Bools.{and_left, and_right, and_both, decide}
use Rattle.numbers.specs.Number.{rank_of}
use Rattle.numbers.specs.Refusals.{Row, row, answer_of, done, unless}
use Rattle.numbers.specs.Promise.{Left2}
use Rattle.numbers.specs.declared.answer.Answer.{Answer}
use Rattle.numbers.specs.declared.cursor.FragmentCursor.{FragmentCursor}
use Rattle.numbers.specs.declared.sequence_number.SequenceNumber.{SequenceNumber}
use Rattle.numbers.specs.declared.fragment_number.FragmentNumber.{FragmentNumber}
use Rattle.numbers.proofs.Refused.{clear}
use Rattle.number_sets.specs.declared.fragment_number_set.FragmentNumberSet.{FragmentNumberSet}
use Rattle.number_sets.specs.Bits.{members}
use Rattle.number_sets.specs.Calls.{fragment_set}
use Rattle.rising.specs.Runs.{room_of}
use Rattle.rising.proofs.Meaning.{rises_are}
use Rattle.rising.proofs.Inserts.{insert_le}
use Rattle.rising.proofs.Changes.{insert-same}
use Rattle.requested_fragments.specs.Entries.{Entry, samples_of, requested_some, requested, next_sample, next_fragment, some}
use Rattle.requested_fragments.specs.Table.{Block, samples_in, words_in, blocks_view, table_of, entries_of, frag_rooms_coherent, blocks_for, samples_room, words_room}
use Rattle.requested_fragments.proofs.Blocks.{samples-length}
use Rattle.requested_fragments.proofs.Coherent.{Coherent, is-coherent, coherent-is}
use Rattle.requested_fragments.proofs.Form.{Fit, words-length, form_coherent, form_table, coherent_fit}
use Rattle.requested_fragments.proofs.OneForm.{is_form}
use Rattle.requested_fragments.proofs.AskForm.{asked_samples}
use Rattle.requested_fragments.proofs.Both.{samples-count, words_count, entries_valid, sent-few}
use Rattle.rtps_reader_proxy.specs.Parts.{count_frags}
use Rattle.rtps_reader_proxy.specs.declared.proxy.ReaderProxy.{ReaderProxy}
use Rattle.rtps_reader_proxy.specs.declared.proxy.Changed.{Changed}
use Rattle.rtps_reader_proxy.specs.declared.fragments.NextFragRequested.{NextFragRequested}
use Rattle.numbers.specs.declared.answer.Told.{Told}
use Rattle.rtps_reader_proxy.specs.Reader.{Reader, needs_slot, frags_requested, frag_sent}
use Rattle.rtps_reader_proxy.specs.Record.{proxy_coherent, room_for, reader_view}
use Rattle.rtps_reader_proxy.specs.Fragments.{frags_coherent, frags_by, request_rows, frags_requested_of, frag_sent_of, next_frag_answer, next_frag_of, repair_of}
use Rattle.rtps_reader_proxy.proofs.FragCalls.{count-is}
use Rattle.reader_record.specs.InPart.{AsWholes}
use Rattle.reader_record.proofs.InPart.{part-is, part_long, glue, all_fit, fits-few, same2, as_wholes}

module _ (h : ReaderProxy) (S W : List ℕ) (ok : frags_coherent h S W ≡ true) (whole : length S ≡ 16) (k : ℕ) (lo : h.frag_count ≤ k) (hi : k ≤ 16) where
  abbrev c : ℕ
  c = h.frag_count

  -- what is lent
  abbrev part_s : List ℕ
  part_s = take k S

  abbrev part_w : List ℕ
  part_w = take (64 * k) W

  abbrev old : List Entry
  old = entries_of c S W

  abbrev table : List Block
  table = table_of c S W

  rooms : frag_rooms_coherent c S W ≡ true
  rooms = and_right (proxy_coherent h) (frag_rooms_coherent c S W) ok

  known : Coherent c S W
  known = is-coherent c S W rooms

  count_table : c ≡ length table
  count_table = (is_form c S W known).0

  fit : Fit k table
  fit = let f = coherent_fit c S W known in record { full = f.full; small = omega (arith, count_table); rises = f.rises; holds = f.holds }

  samples_are : S ≡ room_of 16 (samples_in table)
  samples_are = (is_form c S W known).1 ∙ ap (λ (m : ℕ). room_of m (samples_in table)) whole

  words_are : W ≡ room_of (64 * 16) (words_in table)
  words_are = (is_form c S W known).2 ∙ ap (λ (m : ℕ). room_of (64 * m) (words_in table)) whole

  few-samples : length (samples_in table) ≤ k
  few-samples = omega (arith, samples-length table, fit.small)

  few_words : length (words_in table) ≤ 64 * k
  few_words = omega (arith, words-length table fit.full, fit.small)

  part_s_is : part_s ≡ room_of k (samples_in table)
  part_s_is = part-is 16 k S (samples_in table) samples_are few-samples hi

  part_w_is : part_w ≡ room_of (64 * k) (words_in table)
  part_w_is = part-is (64 * 16) (64 * k) W (words_in table) words_are few_words (omega arith)

  long : length part_s ≡ k
  long = part_long 16 k S (samples_in table) samples_are few-samples hi

  -- the parts pass the check, and hold the same
  rooms_part : frag_rooms_coherent c part_s part_w ≡ true
  rooms_part =
      ap (λ (m : ℕ). frag_rooms_coherent m part_s part_w) count_table ∙ ap (λ (s : List ℕ). frag_rooms_coherent (length table) s part_w) part_s_is
      ∙ ap (frag_rooms_coherent (length table) (room_of k (samples_in table))) part_w_is
      ∙ coherent-is (length table) (room_of k (samples_in table)) (room_of (64 * k) (words_in table)) (form_coherent k table hi fit)

  pub frags_part_ok : frags_coherent h part_s part_w ≡ true
  frags_part_ok = and_both (proxy_coherent h) (frag_rooms_coherent c part_s part_w) (and_left (proxy_coherent h) (frag_rooms_coherent c S W) ok) rooms_part

  pub frags-held : entries_of c part_s part_w ≡ old
  frags-held =
      ap (λ (m : ℕ). entries_of m part_s part_w) count_table ∙ ap (λ (s : List ℕ). entries_of (length table) s part_w) part_s_is
      ∙ ap (entries_of (length table) (room_of k (samples_in table))) part_w_is ∙ ap blocks_view (form_table k table fit)

  -- other entries in them, and after them what is not lent, are these entries in the whole
  glue_s : (es : List Entry) → length es ≤ k → samples_room (length part_s) es ++ drop k S ≡ samples_room (length S) es
  glue_s es few =
      ap (λ (m : ℕ). samples_room m es ++ drop k S) long ∙ glue 16 k S (samples_in table) samples_are few-samples hi (samples_of es) (omega (arith, samples-count es))
      ∙ ap (λ (m : ℕ). samples_room m es) (sym whole)

  glue_w : (es : List Entry) → length es ≤ k → words_room (length part_s) es ++ drop (64 * k) W ≡ words_room (length S) es
  glue_w es few =
      ap (λ (m : ℕ). words_room m es ++ drop (64 * k) W) long
      ∙ glue (64 * 16) (64 * k) W (words_in table) words_are few_words (omega arith) (words_in (blocks_for es)) (omega (arith, words_count es))
      ∙ ap (λ (m : ℕ). words_room m es) (sym whole)

  -- the reader with such entries, as far as the call sees it
  abbrev with_seen : List Entry → Reader
  with_seen es = reader_view h [] [] es

  -- a step f of the reader that leaves no more than the part has room for
  module _ (rows : Reader → List Row) (f : Reader → Reader) where
    abbrev left : List Entry
    left = (f (with_seen old)).frags

    abbrev those : List Row
    those = row 1 refl false ∷ rows (with_seen old)

    abbrev leaves : Bool → List ℕ → List ℕ → List Entry → Left2 Changed (List ℕ) (List ℕ)
    leaves t s w es =
        unless (row 1 refl (not t) ∷ rows (with_seen es))
        (λ a. record { result = record { answer = a; proxy = h }; first = s; second = w })
        (record { result = record { answer = done; proxy = count_frags (length (f (with_seen es)).frags) h }; first = samples_room (length s) (f (with_seen es)).frags; second = words_room (length s) (f (with_seen es)).frags })

    in_part : (fits all : Bool) → fits ≡ true → all ≡ true → ((answer_of those).number ≡ 0 → length left ≤ k)
        → AsWholes (drop k S) (drop (64 * k) W) (frags_by fits (rows (with_seen (entries_of c part_s part_w))) f h part_s part_w) (frags_by all (rows (with_seen old)) f h S W)
    in_part fits all e w few =
        as_wholes (drop k S) (drop (64 * k) W) (frags_by fits (rows (with_seen (entries_of c part_s part_w))) f h part_s part_w) (leaves true part_s part_w old) (frags_by all (rows (with_seen old)) f h S W) (leaves true S W old)
        (ap (leaves (fits && frags_coherent h part_s part_w) part_s part_w) frags-held ∙ ap (λ (t : Bool). leaves t part_s part_w old) (and_both fits (frags_coherent h part_s part_w) e frags_part_ok))
        (ap (λ (t : Bool). leaves t S W old) (and_both all (frags_coherent h S W) w ok))
        (same2 (answer_of those) (λ (a : Answer). record { answer = a; proxy = h }) (record { answer = done; proxy = count_frags (length left) h })
        (drop k S) part_s (samples_room (length part_s) left) S (samples_room (length S) left) (drop (64 * k) W) part_w (words_room (length part_s) left) W (words_room (length S) left)
        (take-append-drop k S) (take-append-drop (64 * k) W) (λ z. (glue_s left (few z), glue_w left (few z))))

  old_count : length (samples_of old) ≡ c
  old_count = count-is c S W rooms

  -- a request that finds a slot adds one entry at most, and none where 16 are held
  request-few : (n : ℕ) (ms : List ℕ) → (leb 16 c && needs_slot n ms (with_seen old)) ≡ false → (length (requested n ms old) ≤ c + 1) × (length (requested n ms old) ≤ 16)
  request-few n ms e = go (decide (empty ms))
    where
      joins : length (requested_some n ms old) ≡ length (insert n (samples_of old))
      joins = sym (samples-count (requested_some n ms old)) ∙ ap length (asked_samples n ms old)

      full : empty ms ≡ false → (leb 16 c ≡ true) ⊎ (leb 16 c ≡ false) → length (requested_some n ms old) ≤ 16
      full t (inr y) = omega (arith, joins, insert_le n (samples_of old), old_count, leb-false 16 c y)
      full t (inl y) =
          let held : has (samples_of old) n ≡ true = not-false (has (samples_of old) n) (ap (λ (b : Bool). not b && not (has (samples_of old) n)) (sym t) ∙ ap (λ (b : Bool). b && needs_slot n ms (with_seen old)) (sym y) ∙ e) in
          let g = rises_are 0 (samples_of old) (entries_valid c S W rooms).rises in
          omega (arith, joins, ap length (insert-same n 1 (samples_of old) g.from held), old_count)

      go : (empty ms ≡ true) ⊎ (empty ms ≡ false) → (length (cond (empty ms) old (requested_some n ms old)) ≤ c + 1) × (length (cond (empty ms) old (requested_some n ms old)) ≤ 16)
      go (inl t) = rw t (omega (arith, samples-count old, old_count), omega (arith, samples-count old, old_count))
      go (inr t) = rw t (omega (arith, joins, insert_le n (samples_of old), old_count), full t (decide (leb 16 c)))

  -- THE CALLS. A sample that joins needs a free place, or the whole
  pub frags_requested_in_part : (n : SequenceNumber) (set : FragmentNumberSet) → room_for 1 16 h.frag_count (take k S) ≡ true
      → AsWholes (drop k S) (drop (64 * k) W) (frags_requested_of n set h (take k S) (take (64 * k) W)) (frags_requested_of n set h S W)
  frags_requested_in_part n set e =
      in_part (request_rows (rank_of n) (fragment_set set) c) (frags_requested (rank_of n) ms) (room_for 1 16 c (take k S)) (room_for 1 16 c S) e (all_fit 1 16 c S whole)
      (λ z.
      let q = request-few (rank_of n) ms (clear these (answer_of these) refl z 10 refl) in
      fits-few 1 16 c k (length (requested (rank_of n) ms old)) (take k S) long lo e q.0 q.1)
    where
      ms : List ℕ
      ms = members (fragment_set set)

      these : List Row
      these = row 1 refl false ∷ request_rows (rank_of n) (fragment_set set) c (with_seen old)

  -- what only goes needs no more than what is held
  pub frag_sent_in_part : (n : SequenceNumber) (f : FragmentNumber) → AsWholes (drop k S) (drop (64 * k) W) (frag_sent_of n f h (take k S) (take (64 * k) W)) (frag_sent_of n f h S W)
  frag_sent_in_part n f = in_part (λ r. []) (frag_sent (rank_of n) f.0) true true refl refl (λ z. omega (arith, sent-few (rank_of n) f.0 old, samples-count old, old_count))

  -- the next fragment, and whether any is requested
  pub next_frag_in_part : (at : FragmentCursor) → next_frag_of at h (take k S) (take (64 * k) W) ≡ next_frag_of at h S W
  next_frag_in_part at = ap (asks (frags_coherent h part_s part_w)) frags-held ∙ ap (λ (t : Bool). asks t old) (frags_part_ok ∙ sym ok)
    where
      asks : Bool → List Entry → NextFragRequested
      asks t es = next_frag_answer (row 1 refl (not t) ∷ row 14 refl (eqb (next_fragment at.from es) 0) ∷ []) (next_sample es) (next_fragment at.from es)

  pub repair_in_part : repair_of h (take k S) (take (64 * k) W) ≡ repair_of h S W
  repair_in_part = ap (tells (frags_coherent h part_s part_w)) frags-held ∙ ap (λ (t : Bool). tells t old) (frags_part_ok ∙ sym ok)
    where
      tells : Bool → List Entry → Told
      tells t es = unless (row 1 refl (not t) ∷ []) (λ a. record { answer = a; yes = false }) (record { answer = done; yes = some es })
