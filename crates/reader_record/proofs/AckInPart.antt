-- An acknowledgement, lent the first k of the unsent room and the first j of the gap room: it answers as if both were lent whole, and leaves the parts of what it would
-- leave then. Assumes nothing.
use Prim.Native.Nat.{ℕ, ◌≤◌, min}
use mathlib.Core.Path.{◌≡◌, refl, ap, ◌∙◌}
use mathlib.Core.Bool.{Bool, true, false, not, cond, ◌&&◌, ◌||◌}
use mathlib.Core.List.{List, []}
use native.Mathlib.Omega.{arith}
use lib.Dec.{leb}
use lib.ListN.{length, take, drop, length-take, take-append-drop}
use borrow.Author.Tests.{ltb-false}
use Rattle.sets.specs.Sets.{between}
use Rattle.sets.proofs.Bools.{and_both}
use Rattle.sets.proofs.Smallest.{smallest-few}
use Rattle.numbers.specs.Capacities.{top_number}
use Rattle.numbers.specs.Number.{rank_of, in_range, negative}
use Rattle.numbers.specs.Refusals.{answer_of, done, Rows}
use Rattle.numbers.specs.Answers.{earlier, in_turn, answered}
use Rattle.numbers.specs.Promise.{Left2}
use Rattle.numbers.specs.declared.answer.Answer.{Answer}
use Rattle.numbers.specs.declared.sequence_number.SequenceNumber.{SequenceNumber}
use Rattle.numbers.proofs.Refused.{clear}
use Rattle.numbers.proofs.Answered.{left-done, turn-done}
use Rattle.number_sets.specs.declared.sequence_number_set.SequenceNumberSet.{SequenceNumberSet}
use Rattle.number_sets.specs.Bits.{members}
use Rattle.number_sets.specs.Calls.{sequence_set}
use Rattle.number_sets.proofs.Meaning.{members-few}
use Rattle.rising.specs.Runs.{room_of}
use Rattle.rising.proofs.Changes.{only_le}
use Rattle.rtps_reader_proxy.specs.declared.proxy.ReaderProxy.{ReaderProxy}
use Rattle.rtps_reader_proxy.specs.declared.acks.AckNacked.{AckNacked}
use Rattle.rtps_reader_proxy.specs.Reader.{Reader, base_of, is_late, acked_after, staying, wanted, acknowledge, left_out_of, with_unsent, with_gaps}
use Rattle.rtps_reader_proxy.specs.Record.{unsent_coherent, gaps_coherent, reader_view}
use Rattle.rtps_reader_proxy.specs.Acks.{ack_rows_of, ack_rows, ack_fits, ack_leaves, ack_nacked_of, ack_nacked_among, proxy_after}
use Rattle.rtps_reader_proxy.proofs.Parts.{union_le}
use Rattle.reader_record.specs.InPart.{AsWholes}
use Rattle.reader_record.proofs.InPart.{all_fit, fits-few, same2, as_wholes}
use Rattle.reader_record.proofs.UnsentInPart.{old_long as unsent-old-long, unsent_long, unsent-held, unsent_glue, unsent_part_ok}
use Rattle.reader_record.proofs.GapsInPart.{old_long, gaps-held, gaps_glue, gaps_part_ok}

-- an acknowledgement that is answered F of what its own rows answer
abbrev ack_with : (Answer → Answer) → SequenceNumberSet → SequenceNumber → ReaderProxy → List ℕ → List ℕ → Left2 AckNacked (List ℕ) (List ℕ)
ack_with F set last h unsent gaps =
    answered (F (answer_of (ack_rows h unsent gaps set last)))
    (λ a. record { result = record { answer = a; left_out = 0; proxy = h }; first = unsent; second = gaps })
    (ack_leaves set (rank_of last) h unsent gaps)

module _ (h : ReaderProxy) (room gaps : List ℕ) (ok : unsent_coherent h room ≡ true) (gok : gaps_coherent h gaps ≡ true) (whole : length room ≡ h.unsent_cap) (gwhole : length gaps ≡ 256)
    (k j : ℕ) (lo : h.unsent_count ≤ k) (hi : k ≤ h.unsent_cap) (glo : h.gap_count ≤ j) (ghi : j ≤ 256) (set : SequenceNumberSet) (last : SequenceNumber)
    (fits : ack_fits h (take k room) set ≡ true)
    (F : Answer → Answer) (own : (r : Rows) → (F (answer_of r)).number ≡ 0 → (answer_of r).number ≡ 0) where
  abbrev u : List ℕ
  u = take h.unsent_count room

  abbrev g : List ℕ
  g = take h.gap_count gaps

  u_long : length u ≡ h.unsent_count
  u_long = unsent-old-long h room ok whole k lo hi

  g_long : length g ≡ h.gap_count
  g_long = old_long h gaps gok gwhole j glo ghi

  abbrev L : ℕ
  L = rank_of last

  abbrev B : ℕ
  B = rank_of set.base

  abbrev ms : List ℕ
  ms = members (sequence_set set)

  abbrev with_both : List ℕ → List ℕ → Reader
  with_both v w = with_unsent v (with_gaps (rank_of h.gap_prefix_end) w (reader_view h [] [] []))

  abbrev y : Reader
  y = acknowledge L B ms (with_both u g)

  abbrev rows : Rows
  rows = ack_rows_of true (sequence_set set) (negative set.base || not (in_range last top_number)) false L

  abbrev acks : Bool → List ℕ → List ℕ → List ℕ → List ℕ → Left2 AckNacked (List ℕ) (List ℕ)
  acks t v w vs ws =
      answered (F (answer_of (ack_rows_of t (sequence_set set) (negative set.base || not (in_range last top_number)) false L)))
      (λ a. record { result = record { answer = a; left_out = 0; proxy = h }; first = v; second = w })
      (record {
        result = record { answer = done; left_out = left_out_of L B ms (with_both vs ws); proxy = proxy_after (acknowledge L B ms (with_both vs ws)) h };
        first = room_of (length v) (acknowledge L B ms (with_both vs ws)).unsent;
        second = room_of (length w) (acknowledge L B ms (with_both vs ws)).gaps;
      })

  ack_by_part : ack_with F set last h (take k room) (take j gaps) ≡ acks true (take k room) (take j gaps) u g
  ack_by_part =
      let t = ack_fits h (take k room) set && (unsent_coherent h (take k room) && gaps_coherent h (take j gaps)) in
      ap (λ (v : List ℕ). acks t (take k room) (take j gaps) v (take h.gap_count (take j gaps))) (unsent-held h room ok whole k lo hi)
      ∙ ap (λ (w : List ℕ). acks t (take k room) (take j gaps) u w) (gaps-held h gaps gok gwhole j glo ghi)
      ∙ ap (λ (b : Bool). acks b (take k room) (take j gaps) u g)
      (and_both (ack_fits h (take k room) set) (unsent_coherent h (take k room) && gaps_coherent h (take j gaps)) fits
      (and_both (unsent_coherent h (take k room)) (gaps_coherent h (take j gaps)) (unsent_part_ok h room ok whole k lo hi) (gaps_part_ok h gaps gok gwhole j glo ghi)))

  ack_by_whole : ack_with F set last h room gaps ≡ acks true room gaps u g
  ack_by_whole =
      ap (λ (b : Bool). acks b room gaps u g)
      (and_both (ack_fits h room set) (unsent_coherent h room && gaps_coherent h gaps) (all_fit (min set.count 256) h.unsent_cap h.unsent_count room whole) (and_both (unsent_coherent h room) (gaps_coherent h gaps) ok gok))

  unsent-few : set.count ≤ 256 → length y.unsent ≤ k
  unsent-few bits =
      fits-few (min set.count 256) h.unsent_cap h.unsent_count k (length y.unsent) (take k room) (unsent_long h room ok whole k lo hi) lo fits
      (omega (
        arith,
        bits,
        stays,
        u_long,
        members-few (sequence_set set),
        only_le (λ n. leb (acked_after (rank_of h.all_acked_before) B) n && leb n L) ms,
        union_le (between (acked_after (rank_of h.all_acked_before) B) L ms) (staying L B (rank_of h.all_acked_before) u),
        length-take h.unsent_cap (wanted L B ms (rank_of h.all_acked_before) u),
      ))
      (smallest-few h.unsent_cap (wanted L B ms (rank_of h.all_acked_before) u))
    where
      stays : length (staying L B (rank_of h.all_acked_before) u) ≤ length u
      stays = few (is_late (rank_of h.all_acked_before) B)
        where
          few : (t : Bool) → length (cond t u (between (base_of B) L u)) ≤ length u
          few true = omega arith
          few false = only_le (λ n. leb (base_of B) n && leb n L) u

  with_in_part : AsWholes (drop k room) (drop j gaps) (ack_with F set last h (take k room) (take j gaps)) (ack_with F set last h room gaps)
  with_in_part =
      as_wholes (drop k room) (drop j gaps) (ack_with F set last h (take k room) (take j gaps)) (acks true (take k room) (take j gaps) u g) (ack_with F set last h room gaps) (acks true room gaps u g)
      ack_by_part ack_by_whole
      (same2 (F (answer_of rows)) (λ (a : Answer). record { answer = a; left_out = 0; proxy = h }) (record { answer = done; left_out = left_out_of L B ms (with_both u g); proxy = proxy_after y h })
      (drop k room) (take k room) (room_of (length (take k room)) y.unsent) room (room_of (length room) y.unsent)
      (drop j gaps) (take j gaps) (room_of (length (take j gaps)) y.gaps) gaps (room_of (length gaps) y.gaps)
      (take-append-drop k room) (take-append-drop j gaps)
      (λ z. (
        unsent_glue h room ok whole k lo hi y.unsent (unsent-few (ltb-false 256 set.count (clear rows (answer_of rows) refl (own rows z) 3 refl))),
        gaps_glue h gaps gok gwhole j glo ghi y.gaps (omega (arith, only_le (leb (acked_after (rank_of h.all_acked_before) B)) g, g_long)),
      )))

-- by itself, and among the calls of a step
module _ (h : ReaderProxy) (room gaps : List ℕ) (ok : unsent_coherent h room ≡ true) (gok : gaps_coherent h gaps ≡ true) (whole : length room ≡ h.unsent_cap) (gwhole : length gaps ≡ 256)
    (k j : ℕ) (lo : h.unsent_count ≤ k) (hi : k ≤ h.unsent_cap) (glo : h.gap_count ≤ j) (ghi : j ≤ 256) (set : SequenceNumberSet) (last : SequenceNumber)
    (fits : ack_fits h (take k room) set ≡ true) where
  pub ack_nack_in_part : AsWholes (drop k room) (drop j gaps) (ack_nacked_of set last h (take k room) (take j gaps)) (ack_nacked_of set last h room gaps)
  ack_nack_in_part = with_in_part h room gaps ok gok whole gwhole k j lo hi glo ghi set last fits (λ a. a) (λ r z. z)

  pub ack_nack_among_in_part : (beside after : Answer) → AsWholes (drop k room) (drop j gaps) (ack_nacked_among beside after set last h (take k room) (take j gaps)) (ack_nacked_among beside after set last h room gaps)
  ack_nack_among_in_part beside after =
      with_in_part h room gaps ok gok whole gwhole k j lo hi glo ghi set last fits (λ a. in_turn (earlier a beside) after)
      (λ r z. left-done (answer_of r) beside (turn-done (earlier (answer_of r) beside) after z).0)
