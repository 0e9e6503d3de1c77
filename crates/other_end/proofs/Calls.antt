-- The other calls on a reader's record: one that isn't refused leaves it valid, leaves acked and cap, and adds nothing unsent. Assumes nothing.
use Prim.Native.Nat.{ℕ, ◌≤◌, max}
use mathlib.Core.Path.{◌≡◌, refl, subst}
use mathlib.Core.Bool.{Bool, true, false, not, ◌||◌, true≢false}
use mathlib.Core.List.{List}
use lib.Dec.{ltb, leb, eqb}
use native.Mathlib.Omega.{arith}
use borrow.Author.Tests.{ltb-false, leb-true, eqb-true, not-false}
use Rattle.sets.specs.Sets.{From}
use Rattle.sets.proofs.Bools.{and_right}
use Rattle.sets.proofs.Has.{From-only}
use Rattle.numbers.specs.Capacities.{top_number}
use Rattle.numbers.specs.Number.{rank_of, negative, valid_rank}
use Rattle.numbers.specs.Refusals.{answer_of, is_done, Rows}
use Rattle.numbers.proofs.Refused.{Clear, clear}
use Rattle.number_sets.specs.Bits.{members}
use Rattle.number_sets.specs.Calls.{fragment_set}
use Rattle.requested_fragments.proofs.Meaning.{Within as WithinWords}
use Rattle.requested_fragments.proofs.AskForm.{askable-within, askable-rises}
use Rattle.rtps_reader_proxy.specs.Reader.{Reader}
use Rattle.rtps_reader_proxy.proofs.FragCalls.{can_ask}
use Rattle.reader_record.specs.Whole.{Valid}
use Rattle.reader_record.proofs.Kept.{marked-valid, removed-valid, inserted_valid, up_to_valid, requested-valid, sent-valid}
use Rattle.other_end.specs.Calls.{ReaderCall, gap_at, gap_to, ask_frags, sent_frag, mark_sent, remove_before, result, call_rows}
use Rattle.other_end.proofs.Records.{Above, Within, within-only}

-- a call that is done meets no row
pub done-clear : (r : Rows) → is_done (answer_of r) ≡ true → Clear r
done-clear r e = clear r (answer_of r) refl (eqb-true (answer_of r).number 0 e)

pub both_false : (a b : Bool) → (a || b) ≡ false → (a ≡ false) × (b ≡ false)
both_false true b e = absurd (true≢false e)
both_false false b e = (refl, e)

-- acked, cap and the unsent numbers of a call's result
pub call-acked : (c : ReaderCall) (r : Reader) → (result c r).acked ≡ r.acked
call-acked (gap_at n) r = refl
call-acked (gap_to e) r = refl
call-acked (ask_frags n z) r = refl
call-acked (sent_frag n f) r = refl
call-acked (mark_sent n) r = refl
call-acked (remove_before n) r = refl

pub call-cap : (c : ReaderCall) (r : Reader) → (result c r).cap ≡ r.cap
call-cap (gap_at n) r = refl
call-cap (gap_to e) r = refl
call-cap (ask_frags n z) r = refl
call-cap (sent_frag n f) r = refl
call-cap (mark_sent n) r = refl
call-cap (remove_before n) r = refl

pub above_call : (c : ReaderCall) (r : Reader) → Above r → Above (result c r)
above_call (gap_at n) r a = a
above_call (gap_to e) r a = a
above_call (ask_frags n z) r a = a
above_call (sent_frag n f) r a = a
above_call (mark_sent n) r a = From-only (max 1 r.acked) (λ k. not (eqb (rank_of n) k)) r.unsent a
above_call (remove_before n) r a = From-only (max 1 r.acked) (leb (rank_of n)) r.unsent a

pub within-call : (c : ReaderCall) (last : ℕ) (r : Reader) → Within last r → Within last (result c r)
within-call (gap_at n) last r w = record { acked = w.acked; high = w.high }
within-call (gap_to e) last r w = record { acked = w.acked; high = w.high }
within-call (ask_frags n z) last r w = record { acked = w.acked; high = w.high }
within-call (sent_frag n f) last r w = record { acked = w.acked; high = w.high }
within-call (mark_sent n) last r w = within-only last r w (λ k. not (eqb (rank_of n) k))
within-call (remove_before n) last r w = within-only last r w (leb (rank_of n))

module _ (last : ℕ) (r : Reader) (v : Valid r) where
  pub valid-call : (c : ReaderCall) → last ≤ top_number → is_done (answer_of (call_rows last c r)) ≡ true → Valid (result c r)
  valid-call (gap_at n) q e =
      let k = done-clear (call_rows last (gap_at n) r) e in
      let s = not-false (valid_rank (rank_of n)) (both_false (not (valid_rank (rank_of n))) (ltb last (rank_of n)) (k 2 refl)).0 in
      inserted_valid r v (rank_of n) (leb-true (rank_of n) top_number (and_right (leb 1 (rank_of n)) (leb (rank_of n) top_number) s)) (k 9 refl)
  valid-call (gap_to e) q d =
      let k = done-clear (call_rows last (gap_to e) r) d in
      let b = ltb-false last (rank_of e) (both_false (negative e) (ltb last (rank_of e)) (k 2 refl)).1 in
      up_to_valid r v (rank_of e) (omega arith)
  valid-call (ask_frags n z) q e =
      let k = done-clear (call_rows last (ask_frags n z) r) e in
      let a = can_ask n z (k 2 refl) in
      requested-valid r v (rank_of n) (members (fragment_set z)) (subst (From 1) a.all (askable-rises z)) (subst (λ (l : List ℕ). WithinWords l 64) a.all (askable-within z)) a.low a.high (k 10 refl)
  valid-call (sent_frag n f) q e = sent-valid r v (rank_of n) f.0
  valid-call (mark_sent n) q e = marked-valid r v (rank_of n)
  valid-call (remove_before n) q e = removed-valid r v (rank_of n)
