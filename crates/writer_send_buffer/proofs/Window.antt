-- The window and the backlog: what a write that found room leaves, and when a write would block. Assumes nothing.
use Prim.Native.Nat.{ℕ, ◌+◌, ◌-◌, ◌<◌, ◌≤◌}
use mathlib.Core.Path.{◌≡◌, refl, sym, ap}
use mathlib.Core.Bool.{Bool, true, false, not, cond, ◌&&◌, ◌||◌}
use native.Mathlib.Omega.{arith}
use lib.Dec.{leb, ltb}
use borrow.Author.Tests.{leb-false, ltb-true, le-ltb}
use Rattle.sets.proofs.Bools.{and_left, and_right}
use Rattle.numbers.specs.Refusals.{answer_of}
use Rattle.writer_send_buffer.specs.Flow.{Flow, may_block, has_room, trims, full, used_up, admitted, admit_rows}
use Rattle.writer_send_buffer.proofs.Sound.{Fits}

module _ (f : Flow) (opted : Bool) (plain : f.kind.builtin ≡ false) where
  module _ (blocks : may_block f opted ≡ true) where
    rest : has_room f opted ≡ true → (not (leb f.limits.backlog (f.last - f.sent)) && (not f.kind.reliable || (not f.present || ltb (f.last + 1 - f.acked) f.limits.window))) ≡ true
    rest e = rw (plain, blocks) at e

    -- any write that may block leaves at most `backlog` unsent
    pub backlog_kept : has_room f opted ≡ true → (admitted f opted).last - f.sent ≤ f.limits.backlog
    backlog_kept e =
        let k : f.last - f.sent < f.limits.backlog = leb-false _ _ (of_not (leb f.limits.backlog (f.last - f.sent)) (and_left (not (leb f.limits.backlog (f.last - f.sent))) (not f.kind.reliable || (not f.present || ltb (f.last + 1 - f.acked) f.limits.window)) (rest e))) in
        omega arith
      where
        of_not : (b : Bool) → not b ≡ true → b ≡ false
        of_not true e = sym e
        of_not false e = refl

  -- with a reliable reader, a reliable writer's write leaves at most `window` numbers from the stored frontier through the last
  pub window_kept : f.kind.reliable ≡ true → f.present ≡ true → has_room f opted ≡ true → (admitted f opted).last + 1 - f.acked ≤ f.limits.window
  window_kept r p e =
      let b : may_block f opted ≡ true = ap (λ (t : Bool). t || opted) r in
      let q : ltb (f.last + 1 - f.acked) f.limits.window ≡ true =
      rw (r, p) at (and_right (not (leb f.limits.backlog (f.last - f.sent))) (not f.kind.reliable || (not f.present || ltb (f.last + 1 - f.acked) f.limits.window)) (rest b e)) in
      let k : f.last + 1 - f.acked < f.limits.window = ltb-true _ _ q in
      omega arith

-- where all is coherent, the payload fits and numbers are left, a write is answered 6 just where it has no room
pub would_block : (len : ℕ) (f : Flow) (opted : Bool) → len ≤ f.limits.slot_bytes → used_up f ≡ false → has_room f opted ≡ false → (answer_of (admit_rows true len f opted)).number ≡ 6
would_block len f opted l u e = rw (le-ltb f.limits.slot_bytes len l, u, e)

pub would_not_block : (len : ℕ) (f : Flow) (opted : Bool) → has_room f opted ≡ true → (answer_of (admit_rows true len f opted)).number ≡ 6 → ⊥
would_not_block len f opted e six = go (ltb f.limits.slot_bytes len) (used_up f) (full f opted) (rw e at six)
  where
    go : (a b c : Bool) → ◌≡◌ {A = ℕ} (cond a 4 (cond b 5 (cond c 7 0))) 6 → ⊥
    go true b c q = omega arith
    go false true c q = omega arith
    go false false true q = omega arith
    go false false false q = omega arith

-- where trimming applies, the store is never full; and what trimming leaves is at most `retain`
pub trims_make_room : (f : Flow) (opted : Bool) → trims f opted ≡ true → full f opted ≡ false
trims_make_room f opted e = rw e

pub trims_to_retain : (f : Flow) (opted : Bool) → Fits f → trims f opted ≡ true → (admitted f opted).last + 1 - (admitted f opted).first ≤ f.limits.retain
trims_to_retain f opted h e = rw e (omega arith)

-- a reliable writer trims nothing while a reliable reader is present: it may still have to repair
pub no_trim_with_readers : (f : Flow) (opted : Bool) → f.kind.reliable ≡ true → f.present ≡ true → trims f opted ≡ false
no_trim_with_readers f opted r p = go f.kind.builtin f.kind.volatile f.kind.reliable f.present r p
  where
    go : (b v r p : Bool) → r ≡ true → p ≡ true → (not b && (not (r || opted) || (r && (v && not p)))) ≡ false
    go true v r p e q = refl
    go false true r p e q = rw (e, q)
    go false false r p e q = rw e

-- the oldest go: what trimming keeps is the newest, without a hole
pub trims_the_oldest : (f : Flow) (opted : Bool) → f.first ≤ (admitted f opted).first
trims_the_oldest f opted = go (trims f opted) refl
  where
    go : (t : Bool) → trims f opted ≡ t → f.first ≤ (admitted f opted).first
    go true e = rw e (omega arith)
    go false e = rw e (omega arith)
