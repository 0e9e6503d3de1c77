-- The calls on the unsent numbers, lent the first k of the room: each answers as if the whole were lent, and leaves the part of what it would leave then.
-- Assumes nothing.
use Prim.Native.Nat.{ℕ, ◌-◌, ◌≤◌}
use mathlib.Core.Path.{◌≡◌, refl, sym, ap, ◌∙◌}
use mathlib.Core.Bool.{Bool, true, false, not, ◌&&◌}
use mathlib.Core.List.{List, [], ◌∷◌, ◌++◌}
use native.Mathlib.Omega.{arith}
use lib.Dec.{leb, eqb}
use lib.ListN.{length, take, drop, length-drop, take-append-drop}
use borrow.Author.Tests.{le-leb}
use Rattle.sets.specs.Sets.{insert, only, empty, first_or, largest}
use Rattle.sets.proofs.Bools.{and_both}
use Rattle.sets.proofs.Smallest.{largest-few}
use Rattle.numbers.specs.Number.{rank_of, is_sample}
use Rattle.numbers.specs.Refusals.{Row, row, answer_of, done, unless}
use Rattle.numbers.specs.Cursor.{next_number}
use Rattle.numbers.specs.Promise.{Left1, Left2}
use Rattle.numbers.specs.declared.answer.Answer.{Answer}
use Rattle.numbers.specs.declared.cursor.Cursor.{Cursor}
use Rattle.numbers.specs.declared.sequence_number.SequenceNumber.{SequenceNumber}
use Rattle.rising.specs.Runs.{run_coherent, room_of, filled}
use Rattle.rising.proofs.Inserts.{insert_le}
use Rattle.rising.proofs.Changes.{only_le}
use Rattle.rtps_reader_proxy.specs.Parts.{count_unsent}
use Rattle.rtps_reader_proxy.specs.declared.proxy.ReaderProxy.{ReaderProxy}
use Rattle.rtps_reader_proxy.specs.declared.proxy.Changed.{Changed}
use Rattle.rtps_reader_proxy.specs.declared.unsent.Taken.{Taken}
use Rattle.rtps_reader_proxy.specs.Reader.{Reader, notified, marked_sent, removed_before, taken, untaken, with_unsent}
use Rattle.rtps_reader_proxy.specs.Record.{proxy_coherent, room_for, unsent_coherent, reader_view}
use Rattle.rtps_reader_proxy.specs.Unsent.{unsent_by, notified_of, marked_sent_of, removed_before_of, taken_of, next_unsent_of}
use Rattle.rtps_reader_proxy.proofs.UnsentCalls.{UnsentIs, unsent-is, untaken-is}
use Rattle.reader_record.specs.InPart.{AsWhole}
use Rattle.reader_record.proofs.InPart.{held_long, run_long, part-run, part_held, run_glue, all_fit, fits-few, same1, as_whole}

module _ (h : ReaderProxy) (room : List ℕ) (ok : unsent_coherent h room ≡ true) (whole : length room ≡ h.unsent_cap) (k : ℕ) (lo : h.unsent_count ≤ k) (hi : k ≤ h.unsent_cap) where
  us : UnsentIs h room
  us = unsent-is h room ok

  abbrev old : List ℕ
  old = take h.unsent_count room

  pub old_long : length old ≡ h.unsent_count
  old_long = held_long 0 h.unsent_cap h.unsent_count k room us.run whole lo hi

  pub unsent_long : length (take k room) ≡ k
  unsent_long = run_long 0 h.unsent_cap h.unsent_count k room us.run whole lo hi

  pub unsent-held : take h.unsent_count (take k room) ≡ old
  unsent-held = part_held 0 h.unsent_cap h.unsent_count k room us.run whole lo hi

  pub unsent_glue : (l : List ℕ) → length l ≤ k → room_of (length (take k room)) l ++ drop k room ≡ room_of (length room) l
  unsent_glue l few = run_glue 0 h.unsent_cap h.unsent_count k room us.run whole lo hi l few

  -- the part passes the check
  pub unsent_part_ok : unsent_coherent h (take k room) ≡ true
  unsent_part_ok =
      and_both (proxy_coherent h) (leb (length (take k room)) h.unsent_cap && run_coherent 0 h.unsent_count (take k room)) us.proxy
      (and_both (leb (length (take k room)) h.unsent_cap) (run_coherent 0 h.unsent_count (take k room)) (le-leb (length (take k room)) h.unsent_cap (omega (arith, unsent_long)))
      (part-run 0 h.unsent_cap h.unsent_count k room us.run whole lo hi))

  -- the reader with such unsent numbers, as far as the call sees it
  abbrev with_seen : List ℕ → Reader
  with_seen l = with_unsent l (reader_view h [] [] [])

  -- a step f of the reader that leaves no more than the part has room for
  module _ (rows : List Row) (f : Reader → Reader) where
    abbrev left : List ℕ
    left = (f (with_seen old)).unsent

    abbrev leaves : Bool → List ℕ → List ℕ → Left1 Changed (List ℕ)
    leaves t lent l =
        unless (row 1 refl (not t) ∷ rows)
        (λ a. record { result = record { answer = a; proxy = h }; first = lent })
        (record { result = record { answer = done; proxy = count_unsent (length (f (with_seen l)).unsent) h }; first = room_of (length lent) (f (with_seen l)).unsent })

    in_part : (fits all : Bool) → fits ≡ true → all ≡ true → length left ≤ k → AsWhole (drop k room) (unsent_by fits rows f h (take k room)) (unsent_by all rows f h room)
    in_part fits all e w few =
        as_whole (drop k room) (unsent_by fits rows f h (take k room)) (leaves true (take k room) old) (unsent_by all rows f h room) (leaves true room old)
        (ap (leaves (fits && unsent_coherent h (take k room)) (take k room)) unsent-held
        ∙ ap (λ (t : Bool). leaves t (take k room) old) (and_both fits (unsent_coherent h (take k room)) e unsent_part_ok))
        (ap (λ (t : Bool). leaves t room old) (and_both all (unsent_coherent h room) w ok))
        (same1 (answer_of (row 1 refl false ∷ rows)) (λ (a : Answer). record { answer = a; proxy = h }) (record { answer = done; proxy = count_unsent (length left) h })
        (drop k room) (take k room) (room_of (length (take k room)) left) room (room_of (length room) left) (take-append-drop k room) (λ z. unsent_glue left few))

  -- THE CALLS. What joins needs a free place, or the whole
  pub notify_in_part : (n : SequenceNumber) → room_for 1 h.unsent_cap h.unsent_count (take k room) ≡ true → AsWhole (drop k room) (notified_of n h (take k room)) (notified_of n h room)
  notify_in_part n e =
      in_part (row 2 refl (not (is_sample n)) ∷ []) (notified (rank_of n)) (room_for 1 h.unsent_cap h.unsent_count (take k room)) (room_for 1 h.unsent_cap h.unsent_count room) e
      (all_fit 1 h.unsent_cap h.unsent_count room whole)
      (fits-few 1 h.unsent_cap h.unsent_count k (length (largest h.unsent_cap (insert (rank_of n) old))) (take k room) unsent_long lo e
      (omega (arith, length-drop (length (insert (rank_of n) old) - h.unsent_cap) (insert (rank_of n) old), insert_le (rank_of n) old, old_long)) (largest-few h.unsent_cap (insert (rank_of n) old)))

  -- what only goes needs no more than what is held
  pub mark_in_part : (n : SequenceNumber) → AsWhole (drop k room) (marked_sent_of n h (take k room)) (marked_sent_of n h room)
  mark_in_part n = in_part [] (marked_sent (rank_of n)) true true refl refl (omega (arith, only_le (λ x. not (eqb (rank_of n) x)) old, old_long))

  pub remove_before_in_part : (n : SequenceNumber) → AsWhole (drop k room) (removed_before_of n h (take k room)) (removed_before_of n h room)
  remove_before_in_part n = in_part [] (removed_before (rank_of n)) true true refl refl (omega (arith, only_le (leb (rank_of n)) old, old_long))

  -- what is taken is the same too
  pub take_in_part : (out : List ℕ) → ((taken_of h (take k room) out).result ≡ (taken_of h room out).result) × (((taken_of h (take k room) out).first ++ drop k room ≡ (taken_of h room out).first) × ((taken_of h (take k room) out).second ≡ (taken_of h room out).second))
  take_in_part out =
      let few : length (untaken (length out) old) ≤ k = omega (arith, ap length (untaken-is (length out) 1 old us.run.rises.from), length-drop (length out) old, old_long) in (
        ap (λ (o : Left2 Taken (List ℕ) (List ℕ)). o.result) by_part ∙ sym (ap (λ (o : Left2 Taken (List ℕ) (List ℕ)). o.result) by_whole),
        (
          ap (λ (o : Left2 Taken (List ℕ) (List ℕ)). o.first ++ drop k room) by_part ∙ unsent_glue (untaken (length out) old) few ∙ sym (ap (λ (o : Left2 Taken (List ℕ) (List ℕ)). o.first) by_whole),
          ap (λ (o : Left2 Taken (List ℕ) (List ℕ)). o.second) by_part ∙ sym (ap (λ (o : Left2 Taken (List ℕ) (List ℕ)). o.second) by_whole),
        ),
      )
    where
      takes : Bool → List ℕ → List ℕ → Left2 Taken (List ℕ) (List ℕ)
      takes t lent l =
          unless (row 1 refl (not t) ∷ [])
          (λ a. record { result = record { answer = a; count = 0; proxy = h }; first = lent; second = out })
          (record {
            result = record { answer = done; count = length (taken (length out) l); proxy = count_unsent (length (untaken (length out) l)) h };
            first = room_of (length lent) (untaken (length out) l);
            second = filled (taken (length out) l) out;
          })

      by_part : taken_of h (take k room) out ≡ takes true (take k room) old
      by_part = ap (takes (unsent_coherent h (take k room)) (take k room)) unsent-held ∙ ap (λ (t : Bool). takes t (take k room) old) unsent_part_ok

      by_whole : taken_of h room out ≡ takes true room old
      by_whole = ap (λ (t : Bool). takes t room old) ok

  -- the next number; `first_unsent_change` is that from 0 on
  pub next_unsent_in_part : (at : Cursor) → next_unsent_of at h (take k room) ≡ next_unsent_of at h room
  next_unsent_in_part at =
      ap (λ (l : List ℕ). next_number (row 1 refl (not (unsent_coherent h (take k room))) ∷ row 14 refl (empty (only (leb at.from) l)) ∷ []) (first_or 0 (only (leb at.from) l))) unsent-held
      ∙ ap (λ (t : Bool). next_number (row 1 refl (not t) ∷ row 14 refl (empty (only (leb at.from) old)) ∷ []) (first_or 0 (only (leb at.from) old))) (unsent_part_ok ∙ sym ok)
