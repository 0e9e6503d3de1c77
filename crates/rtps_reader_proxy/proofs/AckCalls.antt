-- The acknowledgement: what stays, what joins, and the whole call. Assumes nothing.
use Prim.Native.Nat.{ℕ, suc, ◌+◌, ◌-◌, ◌≤◌, ◌<◌, min, max}
use mathlib.Core.Path.{◌≡◌, refl, sym, ap, ◌∙◌}
use mathlib.Core.Bool.{Bool, true, false, not, cond, ◌&&◌, ◌||◌, true≢false}
use mathlib.Core.List.{List}
use native.Mathlib.Omega.{arith}
use lib.Dec.{leb}
use lib.ListN.{length, take, length-take}
use lib.Seq.{length-take-le}
use borrow.Author.Tests.{lt-ltb, le-ltb, ltb-false, not-false}
use Rattle.sets.specs.Sets.{From, only, between, union, smallest}
use Rattle.sets.proofs.Bools.{and_left, and_right}
use Rattle.sets.proofs.Has.{From_weak}
use Rattle.numbers.specs.Capacities.{top_number}
use Rattle.numbers.specs.Number.{rank_of, negative, in_range}
use Rattle.numbers.specs.Refusals.{answer_of}
use Rattle.numbers.specs.Promise.{Gives1, Gives2}
use Rattle.numbers.specs.declared.answer.Answer.{Answer}
use Rattle.numbers.specs.declared.sequence_number.SequenceNumber.{SequenceNumber}
use Rattle.numbers.specs.Answers.{earlier, in_turn}
use Rattle.numbers.proofs.Refused.{clear}
use Rattle.numbers.proofs.Answered.{left-done, turn-done}
use Rattle.numbers.proofs.Ranks.{in_range_lem}
use Rattle.number_sets.specs.declared.sequence_number_set.SequenceNumberSet.{SequenceNumberSet}
use Rattle.number_sets.specs.Bits.{members}
use Rattle.number_sets.specs.Calls.{sequence_set}
use Rattle.number_sets.proofs.Meaning.{members-few}
use Rattle.rising.specs.Runs.{run_coherent, room_of, in_room, from_on, before}
use Rattle.rising.proofs.Meaning.{RunIs, run_is, in_room_lem, room-is, room_ok, room_take, room-length, from_only, rising_only}
use Rattle.rising.proofs.Changes.{between-room, only_le}
use Rattle.joined_runs.specs.Joined.{joined_in}
use Rattle.joined_runs.proofs.Meaning.{join_is}
use Rattle.rtps_reader_proxy.specs.declared.proxy.ReaderProxy.{ReaderProxy}
use Rattle.rtps_reader_proxy.specs.declared.acks.AckNacked.{AckNacked}
use Rattle.rtps_reader_proxy.specs.Reader.{base_of, is_late, is_ahead, staying, wanted, acked_after, left_out_of}
use Rattle.rtps_reader_proxy.specs.Record.{proxy_coherent, unsent_coherent, gaps_coherent, gap_floor}
use Rattle.rtps_reader_proxy.specs.Acks.{ack_rows, ack_fits, ack_leaves, by_both, run_left, Stayable, Ackable, acked_with}
use Rattle.rtps_reader_proxy.proofs.Parts.{room_for_lem, smallest-fits, union_le}
use Rattle.rtps_reader_proxy.proofs.UnsentCalls.{UnsentIs, unsent-is}
use Rattle.rtps_reader_proxy.proofs.GapCalls.{GapsAre, gaps_are}

-- what stays
module _ (count : ℕ) (room : List ℕ) (last a base b : ℕ) (k : Stayable count room last) (eb : b ≡ max base 1) where
  run : RunIs 0 count room
  run = run_is 0 count room k.run

  pub stay_late : b < a → Gives1 count room (run_left (length (staying last base a (take count room))) (length room) (staying last base a (take count room)))
  stay_late h =
      let e : is_late a base ≡ true = lt-ltb (base_of base) a (omega arith) in
      rw e (record { result = sym (length-take-le count room run.fits); first = room-is 0 count room run })

  pub stay_some : a ≤ b → (c n : ℕ) (v u : List ℕ) → Gives1 c v (in_room (from_on b) count room) → Gives1 n u (in_room (before (last + 1)) c v)
      → Gives1 n u (run_left (length (staying last base a (take count room))) (length room) (staying last base a (take count room)))
  stay_some h c n v u g j =
      let e : is_late a base ≡ false = le-ltb (base_of base) a (omega arith) in
      let y = between-room 0 count room run b last c n v u g j in
      let z : between b last (take count room) ≡ between (base_of base) last (take count room) = ap (λ (x : ℕ). between x last (take count room)) eb in
      rw e (record { result = y.0 ∙ ap length z; first = y.1 ∙ ap (room_of (length room)) z })

-- the room that is left passes the check again
stayed_ok : (count last base a : ℕ) (room : List ℕ) → RunIs 0 count room → run_coherent 0 (length (staying last base a (take count room))) (room_of (length room) (staying last base a (take count room))) ≡ true
stayed_ok count last base a room r = go (is_late a base)
  where
    few : length (take count room) ≤ length room
    few = omega (arith, length-take count room)

    go : (t : Bool) → run_coherent 0 (length (cond t (take count room) (between (base_of base) last (take count room)))) (room_of (length room) (cond t (take count room) (between (base_of base) last (take count room)))) ≡ true
    go true = room_ok 0 (length room) (take count room) few r.rises
    go false =
        room_ok 0 (length room) (between (base_of base) last (take count room)) (omega (arith, only_le (λ n. leb (base_of base) n && leb n last) (take count room), few))
        (rising_only 0 (λ n. leb (base_of base) n && leb n last) (take count room) r.rises)

module _ (h : ReaderProxy) (unsent gaps : List ℕ) (set : SequenceNumberSet) (last : ℕ) (k : Ackable h unsent gaps set last) where
  us : UnsentIs h unsent
  us = unsent-is h unsent k.unsent-coherent

  gs : GapsAre h gaps
  gs = gaps_are h gaps k.gaps-coherent

  abbrev A : ℕ
  A = rank_of h.all_acked_before

  abbrev B : ℕ
  B = rank_of set.base

  abbrev old : List ℕ
  old = take h.unsent_count unsent

  abbrev held : List ℕ
  held = take h.gap_count gaps

  pub stayable : Stayable h.unsent_count unsent last
  stayable = record { run = and_right (leb (length unsent) h.unsent_cap) (run_coherent 0 h.unsent_count unsent) (and_right (proxy_coherent h) (leb (length unsent) h.unsent_cap && run_coherent 0 h.unsent_count unsent) k.unsent-coherent); top = k.top }

  module _ (a base low c : ℕ) (v : List ℕ) (ea : a ≡ rank_of h.all_acked_before) (eb : base ≡ rank_of set.base) (el : low ≡ max a (max base 1))
      (s : Gives1 c v (run_left (length (staying last base a (take h.unsent_count unsent))) (length unsent) (staying last base a (take h.unsent_count unsent)))) where
    low-is : low ≡ acked_after A B
    low-is = el ∙ ap (λ (x : ℕ). max x (max base 1)) ea ∙ ap (λ (x : ℕ). max A (max x 1)) eb

    stays : staying last base a old ≡ staying last B A old
    stays = ap (λ (x : ℕ). staying last base x old) ea ∙ ap (λ (x : ℕ). staying last x A old) eb

    kept_run : RunIs 0 c v
    kept_run = run_is 0 c v (rw (s.result, s.first) (stayed_ok h.unsent_count last base a unsent us.run))

    run-kept : take c v ≡ staying last B A old
    run-kept = rw (s.result, s.first) (room_take (length unsent) (staying last base a old)) ∙ stays

    stays-few : length (staying last base a old) ≤ length old
    stays-few = few (is_late a base)
      where
        few : (t : Bool) → length (cond t old (between (base_of base) last old)) ≤ length old
        few true = omega arith
        few false = only_le (λ n. leb (base_of base) n && leb n last) old

    long_kept : length v ≡ length unsent
    long_kept = ap length s.first ∙ room-length (length unsent) (staying last base a old) (omega (arith, stays-few, length-take h.unsent_count unsent))

    module _ (total kept : ℕ) (u g : List ℕ) (r : AckNacked)
        (j : Gives1 total u (joined_in set low last c v))
        (w : Gives1 kept g (in_room (from_on low) h.gap_count gaps)) (er : r ≡ acked_with low total kept h) where
      t : (total ≡ length (union (between low last (members (sequence_set set))) (take c v))) × (u ≡ room_of (length v) (smallest (length v) (union (between low last (members (sequence_set set))) (take c v))))
      t = join_is c v kept_run set low last k.bits k.base (omega arith) total u j

      all_is : union (between low last (members (sequence_set set))) (take c v) ≡ wanted last B (members (sequence_set set)) A old
      all_is = ap (λ (y : ℕ). union (between y last (members (sequence_set set))) (take c v)) low-is ∙ ap (union (between (acked_after A B) last (members (sequence_set set)))) run-kept

      -- what is lent has room for all of it, or is the whole room
      all_fits : smallest (length unsent) (wanted last B (members (sequence_set set)) A old) ≡ smallest h.unsent_cap (wanted last B (members (sequence_set set)) A old)
      all_fits =
          smallest-fits (min set.count 256) h.unsent_cap h.unsent_count unsent (wanted last B (members (sequence_set set)) A old)
          (room_for_lem (min set.count 256) h.unsent_cap h.unsent_count unsent us.run.fits k.fits) us.long
          (omega (
            arith,
            k.bits,
            ap length stays,
            stays-few,
            length-take h.unsent_count unsent,
            members-few (sequence_set set),
            only_le (λ n. leb (acked_after A B) n && leb n last) (members (sequence_set set)),
            union_le (between (acked_after A B) last (members (sequence_set set))) (staying last B A old),
          ))

      pub acknowledged-is : Gives2 r u g (ack_leaves set last h unsent gaps)
      acknowledged-is =
          let tl : total ≡ length (wanted last B (members (sequence_set set)) A old) = t.0 ∙ ap length all_is in
          let lo : total - h.unsent_cap ≡ left_out_of last B (members (sequence_set set)) (by_both h unsent gaps) = ap (λ (y : ℕ). y - h.unsent_cap) tl in
          let cu : total - (total - h.unsent_cap) ≡ length (smallest h.unsent_cap (wanted last B (members (sequence_set set)) A old)) = omega (arith, length-take h.unsent_cap (wanted last B (members (sequence_set set)) A old)) in
          let fr : From 1 held = From_weak 1 (suc (gap_floor h)) held (omega arith) gs.run.rises.from in
          let y = in_room_lem (gap_floor h) h.gap_count gaps (from_on low) (only (leb low) held) gs.run (from_only low 1 held fr) (omega (arith, only_le (leb low) held, length-take h.gap_count gaps)) kept g w in
          let gk : only (leb low) held ≡ only (leb (acked_after A B)) held = ap (λ (z : ℕ). only (leb z) held) low-is in
          let ck : kept ≡ length (only (leb (acked_after A B)) held) = y.0 ∙ ap length gk in
          record {
            result = er ∙ rw (cu, lo, ck, low-is);
            first =
                t.1 ∙ ap (λ (z : ℕ). room_of z (smallest z (union (between low last (members (sequence_set set))) (take c v)))) long_kept
                ∙ ap (λ (z : List ℕ). room_of (length unsent) (smallest (length unsent) z)) all_is ∙ ap (room_of (length unsent)) all_fits;
            second = y.1 ∙ ap (room_of (length gaps)) gk;
          }

-- THE WHOLE CALL

module _ (set : SequenceNumberSet) (last : SequenceNumber) (h : ReaderProxy) (unsent gaps : List ℕ) (a : Answer) (q : a ≡ answer_of (ack_rows h unsent gaps set last)) where
  module _ (z : a.number ≡ 0) where
    pub ackable : (end : ℕ) → end ≡ rank_of last → Ackable h unsent gaps set end
    ackable end e =
        let c = clear (ack_rows h unsent gaps set last) a q z in
        let all = not-false (ack_fits h unsent set && (unsent_coherent h unsent && gaps_coherent h gaps)) (c 1 refl) in
        let both = and_right (ack_fits h unsent set) (unsent_coherent h unsent && gaps_coherent h gaps) all in
        let rg = or_none_lem (negative set.base) (not (in_range last top_number)) (c 2 refl) in
        record {
          fits = and_left (ack_fits h unsent set) (unsent_coherent h unsent && gaps_coherent h gaps) all;
          unsent-coherent = and_left (unsent_coherent h unsent) (gaps_coherent h gaps) both;
          gaps-coherent = and_right (unsent_coherent h unsent) (gaps_coherent h gaps) both;
          bits = ltb-false 256 set.count (c 3 refl);
          base = rg.0;
          top = omega (arith, (in_range_lem last top_number (not-false (in_range last top_number) rg.1)).1);
          behind = ap (λ (x : ℕ). is_ahead x (rank_of set.base)) e ∙ c 12 refl;
        }
      where
        or_none_lem : (x y : Bool) → (x || y) ≡ false → (x ≡ false) × (y ≡ false)
        or_none_lem true y e = (e, absurd (true≢false e))
        or_none_lem false y e = (refl, e)

-- as one of a step's calls
module _ (beside after : Answer) (set : SequenceNumberSet) (last : SequenceNumber) (h : ReaderProxy) (unsent gaps : List ℕ) (own : Answer) (q : own ≡ answer_of (ack_rows h unsent gaps set last))
    (all : Answer) (qa : all ≡ earlier own beside) (a : Answer) (qt : a ≡ in_turn all after) where
  module _ (z : a.number ≡ 0) where
    pub own_done : own.number ≡ 0
    own_done = left-done own beside (sym (ap (λ (x : Answer). x.number) qa) ∙ (turn-done all after (sym (ap (λ (x : Answer). x.number) qt) ∙ z)).0)
