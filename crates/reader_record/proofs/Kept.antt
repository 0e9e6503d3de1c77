-- Each step of the reader keeps it valid: coherence is kept by every accepted call. Assumes nothing.
use Prim.Native.Nat.{ℕ, suc, ◌-◌, ◌≤◌, ◌<◌, max}
use mathlib.Core.Path.{◌≡◌, refl, sym, ap, subst, ◌∙◌}
use mathlib.Core.Bool.{Bool, true, false, not, cond, ◌&&◌}
use mathlib.Core.List.{List}
use native.Mathlib.Omega.{arith}
use lib.Dec.{leb, ltb, eqb}
use lib.ListN.{length, drop, length-drop}
use borrow.Author.Tests.{leb-true, leb-false, le-leb, ltb-true, ltb-false}
use Rattle.sets.specs.Sets.{From, has, empty, insert, only, between, smallest, largest}
use Rattle.sets.proofs.Bools.{and_left, and_right, or_right}
use Rattle.sets.proofs.Has.{has-only, From-low, From-only, From_raise}
use Rattle.sets.proofs.Smallest.{smallest-few, largest-few, From-drop, has_drop_sub}
use Rattle.numbers.specs.Capacities.{top_number}
use Rattle.rising.proofs.Meaning.{Rising, rises_are, are_rising, rising_only, rising_smallest, rising_largest, rising_insert, rising_union, rising_sub}
use Rattle.rising.proofs.Inserts.{insert_le}
use Rattle.rising.proofs.Changes.{only_le}
use Rattle.requested_fragments.specs.Entries.{Entry, samples_of, requested, sent}
use Rattle.requested_fragments.specs.Table.{entries_of, samples_room, words_room, asked_in, marked_in}
use Rattle.requested_fragments.proofs.Meaning.{Within}
use Rattle.requested_fragments.proofs.Form.{marked_again}
use Rattle.requested_fragments.proofs.Both.{Valid as EntriesValid, rooms_pass, rooms_hold_lem, rooms_long, entries_valid}
use Rattle.rtps_reader_proxy.specs.Reader.{Reader, fresh, with_unsent, with_gaps, with_frags, base_of, is_ahead, is_late, acked_after, staying, wanted, acknowledge, notified, marked_sent, removed_before, untaken, needs_room, gap_inserted, gap_up_to, needs_slot, frags_requested, frag_sent}
use Rattle.rtps_reader_proxy.specs.Record.{room_for}
use Rattle.reader_record.specs.Whole.{Valid}
use Rattle.rtps_reader_proxy.proofs.UnsentCalls.{untaken-is}
use Rattle.rtps_reader_proxy.proofs.FragCalls.{request_again}
use Rattle.reader_record.proofs.Whole.{entries_in_lem, asks_out}

-- "A match adds a reader with acked 0 and empty sets"
pub fresh-valid : (m : ℕ) → 1 ≤ m → m ≤ 1024 → Valid (fresh m)
fresh-valid m lo hi =
    record { acked = omega arith; cap-low = lo; cap_high = hi; unsent-few = omega arith; unsent = refl; prefix = omega arith; gaps-few = omega arith; gaps = refl; frags-few = omega arith; frags = refl; asks = tt }

-- a run whose numbers are all above q
raised : (p q : ℕ) (l : List ℕ) → Rising p l → ((n : ℕ) → has l n ≡ true → q < n) → Rising q l
raised p q l r h = record { from = From_raise (suc p) (suc q) l r.from h; top = r.top }

module _ (r : Reader) (v : Valid r) where
  rises : Rising 0 r.unsent
  rises = rises_are 0 r.unsent v.unsent

  abbrev floor : ℕ
  floor = max r.prefix (r.acked - 1)

  gap-rises : Rising (max r.prefix (r.acked - 1)) r.gaps
  gap-rises = rises_are (max r.prefix (r.acked - 1)) r.gaps v.gaps

  -- other unsent numbers, gaps and entries
  with_unsent_lem : (u : List ℕ) → length u ≤ r.cap → Rising 0 u → Valid (with_unsent u r)
  with_unsent_lem u few up =
      record { acked = v.acked; cap-low = v.cap-low; cap_high = v.cap_high; unsent-few = few; unsent = are_rising 0 u up; prefix = v.prefix; gaps-few = v.gaps-few; gaps = v.gaps; frags-few = v.frags-few; frags = v.frags; asks = v.asks }

  with_gaps_lem : (e : ℕ) (g : List ℕ) → e ≤ top_number → length g ≤ 256 → Rising (max e (r.acked - 1)) g → Valid (with_gaps e g r)
  with_gaps_lem e g top few up =
      record { acked = v.acked; cap-low = v.cap-low; cap_high = v.cap_high; unsent-few = v.unsent-few; unsent = v.unsent; prefix = top; gaps-few = few; gaps = are_rising (max e (r.acked - 1)) g up; frags-few = v.frags-few; frags = v.frags; asks = v.asks }

  with_frags_lem : (es : List Entry) → EntriesValid es → Valid (with_frags es r)
  with_frags_lem es w =
      record { acked = v.acked; cap-low = v.cap-low; cap_high = v.cap_high; unsent-few = v.unsent-few; unsent = v.unsent; prefix = v.prefix; gaps-few = v.gaps-few; gaps = v.gaps; frags-few = w.small; frags = w.rises; asks = asks_out es w.asks }

  pub notified-valid : (n : ℕ) → 1 ≤ n → n ≤ top_number → Valid (notified n r)
  notified-valid n lo hi = with_unsent_lem (largest r.cap (insert n r.unsent)) (largest-few r.cap (insert n r.unsent)) (rising_largest 0 r.cap (insert n r.unsent) (rising_insert 0 n r.unsent lo hi rises))

  only-valid : (q : ℕ → Bool) → Valid (with_unsent (only q r.unsent) r)
  only-valid q = with_unsent_lem (only q r.unsent) (omega (arith, only_le q r.unsent, v.unsent-few)) (rising_only 0 q r.unsent rises)

  pub marked-valid : (n : ℕ) → Valid (marked_sent n r)
  marked-valid n = only-valid (λ m. not (eqb n m))

  pub removed-valid : (n : ℕ) → Valid (removed_before n r)
  removed-valid n = only-valid (leb n)

  pub untaken-valid : (k : ℕ) → Valid (with_unsent (untaken k r.unsent) r)
  untaken-valid k =
      let e : untaken k r.unsent ≡ drop k r.unsent = untaken-is k 1 r.unsent rises.from in
      subst (λ (u : List ℕ). Valid (with_unsent u r)) (sym e)
      (with_unsent_lem (drop k r.unsent) (omega (arith, length-drop k r.unsent, v.unsent-few)) (rising_sub 0 r.unsent (drop k r.unsent) rises (From-drop k 1 r.unsent rises.from) (has_drop_sub k r.unsent)))

  -- a gap member, where it takes no room or finds it
  pub inserted_valid : (n : ℕ) → n ≤ top_number → (leb 256 (length r.gaps) && needs_room n r) ≡ false → Valid (gap_inserted n r)
  inserted_valid n hi e = go (needs_room n r) refl (leb 256 (length r.gaps)) refl e
    where
      go : (t : Bool) → needs_room n r ≡ t → (s : Bool) → leb 256 (length r.gaps) ≡ s → (s && t) ≡ false → Valid (with_gaps r.prefix (cond t (insert n r.gaps) r.gaps) r)
      go false p s q e = v
      go true p true q e = absurd (clash e)
        where
          clash : true ≡ false → ⊥
          clash w = let o : ◌≡◌ {A = ℕ} 0 1 = cc in omega arith
      go true p false q e =
          let a = ltb-true r.prefix n (and_left (ltb r.prefix n) (leb r.acked n && not (has r.gaps n)) p) in
          let b = leb-true r.acked n (and_left (leb r.acked n) (not (has r.gaps n)) (and_right (ltb r.prefix n) (leb r.acked n && not (has r.gaps n)) p)) in
          with_gaps_lem r.prefix (insert n r.gaps) v.prefix (omega (arith, insert_le n r.gaps, leb-false 256 (length r.gaps) q)) (rising_insert floor n r.gaps (omega arith) hi gap-rises)

  -- a member of the part of a set that passes a test passes it, and is in the set
  passes : (q : ℕ → Bool) (l : List ℕ) (n : ℕ) → has (only q l) n ≡ true → (q n ≡ true) × (has l n ≡ true)
  passes q l n h = let e = sym (has-only q l n) ∙ h in (and_left (q n) (has l n) e, and_right (q n) (has l n) e)

  pub up_to_valid : (e : ℕ) → e ≤ top_number → Valid (gap_up_to e r)
  up_to_valid e hi =
      with_gaps_lem (max r.prefix e) (only (ltb e) r.gaps) (omega (arith, v.prefix)) (omega (arith, only_le (ltb e) r.gaps, v.gaps-few))
      (raised floor (max (max r.prefix e) (r.acked - 1)) (only (ltb e) r.gaps) (rising_only floor (ltb e) r.gaps gap-rises)
      (λ n h. let p = passes (ltb e) r.gaps n h in omega (arith, ltb-true e n p.0, From-low (suc floor) r.gaps n gap-rises.from p.1)))

  -- an acknowledgement that isn't refused; the members rise
  pub acknowledged-valid : (last b k : ℕ) (ms : List ℕ) → From k ms → last ≤ top_number → is_ahead last b ≡ false → Valid (acknowledge last b ms r)
  acknowledged-valid last b k ms f top behind =
      record {
        acked = omega (arith, v.acked, ltb-false (suc last) (base_of b) behind);
        cap-low = v.cap-low;
        cap_high = v.cap_high;
        unsent-few = smallest-few r.cap (wanted last b ms r.acked r.unsent);
        unsent = are_rising 0 (smallest r.cap (wanted last b ms r.acked r.unsent)) (rising_smallest 0 r.cap (wanted last b ms r.acked r.unsent) (rising_union 0 (between a last ms) (staying last b r.acked r.unsent) asked (stays (is_late r.acked b))));
        prefix = v.prefix;
        gaps-few = omega (arith, only_le (leb a) r.gaps, v.gaps-few);
        gaps = are_rising (max r.prefix (a - 1)) (only (leb a) r.gaps) kept;
        frags-few = v.frags-few;
        frags = v.frags;
        asks = v.asks;
      }
    where
      a : ℕ
      a = acked_after r.acked b

      asked : Rising 0 (between (acked_after r.acked b) last ms)
      asked =
          record {
            from = From_raise k 1 (between (acked_after r.acked b) last ms) (From-only k (λ n. leb (acked_after r.acked b) n && leb n last) ms f)
                (λ n h. omega (arith, leb-true (acked_after r.acked b) n (and_left (leb (acked_after r.acked b) n) (leb n last) (passes (λ n. leb (acked_after r.acked b) n && leb n last) ms n h).0)));
            top = λ n h. omega (arith, leb-true n last (and_right (leb (acked_after r.acked b) n) (leb n last) (passes (λ n. leb (acked_after r.acked b) n && leb n last) ms n h).0), top);
          }

      stays : (t : Bool) → Rising 0 (cond t r.unsent (between (base_of b) last r.unsent))
      stays true = rises
      stays false = rising_only 0 (λ n. leb (base_of b) n && leb n last) r.unsent rises

      kept : Rising (max r.prefix (acked_after r.acked b - 1)) (only (leb (acked_after r.acked b)) r.gaps)
      kept =
          raised floor (max r.prefix (acked_after r.acked b - 1)) (only (leb (acked_after r.acked b)) r.gaps) (rising_only floor (leb (acked_after r.acked b)) r.gaps gap-rises)
          (λ n h.
          let p = passes (leb (acked_after r.acked b)) r.gaps n h in
          omega (arith, leb-true (acked_after r.acked b) n p.0, From-low (suc floor) r.gaps n gap-rises.from p.1))

  -- fragments: by the rooms of the entries
  abbrev S : List ℕ
  S = samples_room 16 r.frags

  abbrev W : List ℕ
  W = words_room 16 r.frags

  pub requested-valid : (n : ℕ) (ms : List ℕ) → From 1 ms → Within ms 64 → 0 < n → n ≤ top_number → (leb 16 (length r.frags) && needs_slot n ms r) ≡ false → Valid (frags_requested n ms r)
  requested-valid n ms f w lo hi e =
      let c = length r.frags in
      let hold : entries_of c S W ≡ r.frags = rooms_hold_lem 16 r.frags (entries_in_lem r v) v.frags-few in
      let all : room_for 1 16 c S ≡ true = or_right (leb 1 (length S - c)) (leb 16 (length S)) (le-leb 16 (length S) (omega (arith, rooms_long 16 r.frags v.frags-few))) in
      let y = request_again c S W (rooms_pass 16 r.frags (entries_in_lem r v) v.frags-few (omega arith)) n ms f w lo hi all (ap (λ (es : List Entry). leb 16 c && (not (empty ms) && not (has (samples_of es) n))) hold ∙ e) in
      with_frags_lem (requested n ms r.frags)
      (subst EntriesValid (y.1 ∙ ap (requested n ms) hold) (entries_valid (asked_in n ms c S W).result (asked_in n ms c S W).first (asked_in n ms c S W).second y.0))

  pub sent-valid : (n f : ℕ) → Valid (frag_sent n f r)
  sent-valid n f =
      let c = length r.frags in
      let hold : entries_of c S W ≡ r.frags = rooms_hold_lem 16 r.frags (entries_in_lem r v) v.frags-few in
      let y = marked_again c S W n f (rooms_pass 16 r.frags (entries_in_lem r v) v.frags-few (omega arith)) in
      with_frags_lem (sent n f r.frags)
      (subst EntriesValid (y.1 ∙ ap (sent n f) hold) (entries_valid (marked_in n f c S W).result (marked_in n f c S W).first (marked_in n f c S W).second y.0))
