-- The calls on the pending gap, lent the first k members of the room: each answers as if the whole were lent, and leaves the part of what it would leave then.
-- Assumes nothing.
use Prim.Native.Nat.{ℕ, ◌≤◌}
use mathlib.Core.Path.{◌≡◌, refl, sym, ap, ◌∙◌}
use mathlib.Core.Bool.{Bool, true, false, not, cond, ◌&&◌, true≢false}
use mathlib.Core.Logic.{◌⊎◌, inl, inr}
use mathlib.Core.List.{List, [], ◌∷◌, ◌++◌}
use native.Mathlib.Omega.{arith}
use lib.Dec.{leb, ltb}
use lib.ListN.{length, take, drop, take-append-drop}
use borrow.Author.Tests.{le-leb, leb-false}
use Rattle.sets.specs.Sets.{insert, empty, first_or}
use Rattle.sets.proofs.Bools.{and_both, decide}
use Rattle.numbers.specs.Capacities.{top_number}
use Rattle.numbers.specs.Number.{rank_of, in_range, negative}
use Rattle.numbers.specs.Refusals.{Row, row, answer_of, done, unless}
use Rattle.numbers.specs.Cursor.{next_number}
use Rattle.numbers.specs.Promise.{Left1}
use Rattle.numbers.specs.declared.answer.Answer.{Answer}
use Rattle.numbers.specs.declared.cursor.Cursor.{Cursor}
use Rattle.numbers.specs.declared.cursor.NextNumber.{NextNumber}
use Rattle.numbers.specs.declared.sequence_number.SequenceNumber.{SequenceNumber}
use Rattle.numbers.proofs.Refused.{clear}
use Rattle.rising.specs.Runs.{run_coherent, room_of}
use Rattle.rising.proofs.Inserts.{insert_le}
use Rattle.rising.proofs.Changes.{only_le}
use Rattle.rtps_reader_proxy.specs.Parts.{count_gaps}
use Rattle.rtps_reader_proxy.specs.declared.proxy.ReaderProxy.{ReaderProxy}
use Rattle.rtps_reader_proxy.specs.declared.proxy.Changed.{Changed}
use Rattle.rtps_reader_proxy.specs.Reader.{Reader, needs_room, gap_inserted, gap_up_to, next_gap, with_gaps}
use Rattle.rtps_reader_proxy.specs.Record.{proxy_coherent, room_for, gaps_coherent, gap_floor, reader_view}
use Rattle.rtps_reader_proxy.specs.Gaps.{gaps_by, member_rows, end_rows, gap_inserted_of, gap_up_to_of, next_gap_of}
use Rattle.rtps_reader_proxy.proofs.GapCalls.{GapsAre, gaps_are}
use Rattle.reader_record.specs.InPart.{AsWhole}
use Rattle.reader_record.proofs.InPart.{held_long, run_long, part-run, part_held, run_glue, all_fit, fits-few, same1, as_whole}

module _ (h : ReaderProxy) (room : List ℕ) (ok : gaps_coherent h room ≡ true) (whole : length room ≡ 256) (k : ℕ) (lo : h.gap_count ≤ k) (hi : k ≤ 256) where
  gs : GapsAre h room
  gs = gaps_are h room ok

  abbrev old : List ℕ
  old = take h.gap_count room

  pub old_long : length old ≡ h.gap_count
  old_long = held_long (gap_floor h) 256 h.gap_count k room gs.run whole lo hi

  gaps_long : length (take k room) ≡ k
  gaps_long = run_long (gap_floor h) 256 h.gap_count k room gs.run whole lo hi

  pub gaps-held : take h.gap_count (take k room) ≡ old
  gaps-held = part_held (gap_floor h) 256 h.gap_count k room gs.run whole lo hi

  pub gaps_glue : (l : List ℕ) → length l ≤ k → room_of (length (take k room)) l ++ drop k room ≡ room_of (length room) l
  gaps_glue l few = run_glue (gap_floor h) 256 h.gap_count k room gs.run whole lo hi l few

  -- the part passes the check
  pub gaps_part_ok : gaps_coherent h (take k room) ≡ true
  gaps_part_ok =
      and_both (proxy_coherent h) (leb (length (take k room)) 256 && run_coherent (gap_floor h) h.gap_count (take k room)) gs.proxy
      (and_both (leb (length (take k room)) 256) (run_coherent (gap_floor h) h.gap_count (take k room)) (le-leb (length (take k room)) 256 (omega (arith, gaps_long)))
      (part-run (gap_floor h) 256 h.gap_count k room gs.run whole lo hi))

  -- the reader with such members, as far as the call sees it
  abbrev with_seen : List ℕ → Reader
  with_seen l = with_gaps (rank_of h.gap_prefix_end) l (reader_view h [] [] [])

  -- a step f of the reader that leaves no more than the part has room for
  module _ (rows : Reader → List Row) (f : Reader → Reader) where
    abbrev left : Reader
    left = f (with_seen old)

    abbrev those : List Row
    those = row 1 refl false ∷ rows (with_seen old)

    abbrev leaves : Bool → List ℕ → List ℕ → Left1 Changed (List ℕ)
    leaves t lent l =
        unless (row 1 refl (not t) ∷ rows (with_seen l))
        (λ a. record { result = record { answer = a; proxy = h }; first = lent })
        (record { result = record { answer = done; proxy = count_gaps (f (with_seen l)).prefix (length (f (with_seen l)).gaps) h }; first = room_of (length lent) (f (with_seen l)).gaps })

    in_part : (fits all : Bool) → fits ≡ true → all ≡ true → ((answer_of those).number ≡ 0 → length left.gaps ≤ k)
        → AsWhole (drop k room) (gaps_by fits (rows (with_seen (take h.gap_count (take k room)))) f h (take k room)) (gaps_by all (rows (with_seen old)) f h room)
    in_part fits all e w few =
        as_whole (drop k room) (gaps_by fits (rows (with_seen (take h.gap_count (take k room)))) f h (take k room)) (leaves true (take k room) old) (gaps_by all (rows (with_seen old)) f h room) (leaves true room old)
        (ap (leaves (fits && gaps_coherent h (take k room)) (take k room)) gaps-held
        ∙ ap (λ (t : Bool). leaves t (take k room) old) (and_both fits (gaps_coherent h (take k room)) e gaps_part_ok))
        (ap (λ (t : Bool). leaves t room old) (and_both all (gaps_coherent h room) w ok))
        (same1 (answer_of those) (λ (a : Answer). record { answer = a; proxy = h }) (record { answer = done; proxy = count_gaps left.prefix (length left.gaps) h })
        (drop k room) (take k room) (room_of (length (take k room)) left.gaps) room (room_of (length room) left.gaps) (take-append-drop k room) (λ z. gaps_glue left.gaps (few z)))

  -- THE CALLS. A member that joins needs a free place, or the whole; where 256 are held it is refused, or takes no place
  pub insert_in_part : (n last : SequenceNumber) → room_for 1 256 h.gap_count (take k room) ≡ true → AsWhole (drop k room) (gap_inserted_of n last h (take k room)) (gap_inserted_of n last h room)
  insert_in_part n last e =
      in_part (member_rows (not (in_range last top_number)) (rank_of last) (rank_of n) h.gap_count) (gap_inserted (rank_of n)) (room_for 1 256 h.gap_count (take k room)) (room_for 1 256 h.gap_count room) e
      (all_fit 1 256 h.gap_count room whole)
      (λ z. joined (needs_room (rank_of n) (with_seen old)) (clear these (answer_of these) refl z 9 refl))
    where
      these : List Row
      these = row 1 refl false ∷ member_rows (not (in_range last top_number)) (rank_of last) (rank_of n) h.gap_count (with_seen old)

      joined : (t : Bool) → (leb 256 h.gap_count && t) ≡ false → length (cond t (insert (rank_of n) old) old) ≤ k
      joined false q = omega (arith, old_long)
      joined true q = fits-few 1 256 h.gap_count k (length (insert (rank_of n) old)) (take k room) gaps_long lo e (omega (arith, insert_le (rank_of n) old, old_long)) (go (decide (leb 256 h.gap_count)))
        where
          go : (leb 256 h.gap_count ≡ true) ⊎ (leb 256 h.gap_count ≡ false) → length (insert (rank_of n) old) ≤ 256
          go (inl y) = let z : ◌≡◌ {A = Bool} true false = sym (ap (λ (b : Bool). b && true) y) ∙ q in absurd (true≢false z)
          go (inr y) = omega (arith, leb-false 256 h.gap_count y, insert_le (rank_of n) old, old_long)

  -- what only goes needs no more than what is held
  pub up_to_in_part : (e last : SequenceNumber) → AsWhole (drop k room) (gap_up_to_of e last h (take k room)) (gap_up_to_of e last h room)
  up_to_in_part e last =
      in_part (λ r. end_rows (not (in_range last top_number)) (rank_of last) (negative e) (rank_of e)) (gap_up_to (rank_of e)) true true refl refl
      (λ z. omega (arith, only_le (ltb (rank_of e)) old, old_long))

  -- the next number
  pub next_gap_in_part : (at : Cursor) → next_gap_of at h (take k room) ≡ next_gap_of at h room
  next_gap_in_part at = ap (asks (gaps_coherent h (take k room))) gaps-held ∙ ap (λ (t : Bool). asks t old) (gaps_part_ok ∙ sym ok)
    where
      asks : Bool → List ℕ → NextNumber
      asks t l = next_number (row 1 refl (not t) ∷ row 14 refl (empty (next_gap at.from (with_seen l))) ∷ []) (first_or 0 (next_gap at.from (with_seen l)))
