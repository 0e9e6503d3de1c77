-- What holds of a line's record beside its being valid: its unsent numbers are not below acked, and no number is past the last one. Assumes nothing.
use Prim.Native.Nat.{ℕ, suc, ◌+◌, ◌-◌, ◌≤◌, max}
use mathlib.Core.Path.{◌≡◌, refl, sym, ◌∙◌}
use mathlib.Core.Bool.{Bool, true, false, cond, ◌&&◌, false≢true}
use mathlib.Core.Logic.{◌⊎◌, inl, inr}
use mathlib.Core.List.{List}
use lib.Dec.{leb, eqb}
use lib.ListN.{length}
use native.Mathlib.Omega.{arith}
use borrow.Author.Tests.{ltb-true, ltb-false, leb-true, eqb-true, le-leb}
use Rattle.sets.specs.Sets.{has, From, insert, only, between, smallest}
use Rattle.sets.proofs.Bools.{or_false, and_left, and_right, and_both}
use Rattle.sets.proofs.Has.{has-insert, has-union, has-only, has-between, From_weak, From-insert, From-union, From-only, From_raise}
use Rattle.sets.proofs.Smallest.{From-smallest, From-largest, has_take_sub, has_drop_sub}
use Rattle.rtps_reader_proxy.specs.Reader.{Reader, fresh, with_unsent, base_of, is_late, acked_after, staying, wanted, acknowledge, notified}

-- membership, read the other way
pub in_only : (p : ℕ → Bool) (l : List ℕ) (n : ℕ) → has (only p l) n ≡ true → (p n ≡ true) × (has l n ≡ true)
in_only p l n e = let w = sym (has-only p l n) ∙ e in (and_left (p n) (has l n) w, and_right (p n) (has l n) w)

pub in_insert : (x n : ℕ) (l : List ℕ) → has (insert x l) n ≡ true → (x ≡ n) ⊎ (has l n ≡ true)
in_insert x n l e = elim (or_false (eqb x n) (has l n) (sym (has-insert x n l) ∙ e)) [ inl w ↦ inl (eqb-true x n w) | inr w ↦ inr w ]

pub in_between : (lo hi : ℕ) (l : List ℕ) (n : ℕ) → has (between lo hi l) n ≡ true → (lo ≤ n) × (n ≤ hi) × (has l n ≡ true)
in_between lo hi l n e =
    let w = in_only (λ k. leb lo k && leb k hi) l n e in
    (leb-true lo n (and_left (leb lo n) (leb n hi) w.0), leb-true n hi (and_right (leb lo n) (leb n hi) w.0), w.1)

pub between_in : (lo hi : ℕ) (l : List ℕ) (n : ℕ) → lo ≤ n → n ≤ hi → has l n ≡ true → has (between lo hi l) n ≡ true
between_in lo hi l n p q e =
    has-between lo hi l n ∙ and_both (leb lo n && leb n hi) (has l n) (and_both (leb lo n) (leb n hi) (le-leb lo n p) (le-leb n hi q)) e

-- THE ACKNOWLEDGEMENT: what it wants unsent is not below the new acked number, nor above the last

module _ (last b a : ℕ) (u : List ℕ) (ms : List ℕ) where
  pub wanted_rise : From (max 1 a) u → From (acked_after a b) (wanted last b ms a u)
  wanted_rise rise = From-union (acked_after a b) (between (acked_after a b) last ms) (staying last b a u) (λ n w. (in_between (acked_after a b) last ms n w).0) (stay (is_late a b) refl)
    where
      stay : (t : Bool) → is_late a b ≡ t → From (acked_after a b) (cond t u (between (base_of b) last u))
      stay true e = From_weak (acked_after a b) (max 1 a) u (omega (arith, ltb-true (base_of b) a e)) rise
      stay false e =
          From_raise (max 1 a) (acked_after a b) (between (base_of b) last u) (From-only (max 1 a) (λ k. leb (base_of b) k && leb k last) u rise)
          (λ n w. omega (arith, ltb-false (base_of b) a e, (in_between (base_of b) last u n w).0))

  pub wanted_high : ((n : ℕ) → has u n ≡ true → n ≤ last) → (n : ℕ) → has (wanted last b ms a u) n ≡ true → n ≤ last
  wanted_high top n e = go (or_false (has (between (acked_after a b) last ms) n) (has (staying last b a u) n) (sym (has-union (between (acked_after a b) last ms) (staying last b a u) n) ∙ e))
    where
      old : (t : Bool) → has (cond t u (between (base_of b) last u)) n ≡ true → n ≤ last
      old true w = top n w
      old false w = (in_between (base_of b) last u n w).1

      go : (has (between (acked_after a b) last ms) n ≡ true) ⊎ (has (staying last b a u) n ≡ true) → n ≤ last
      go (inl w) = (in_between (acked_after a b) last ms n w).1
      go (inr w) = old (is_late a b) w

-- unsent numbers are not below acked
abbrev pub Above : Reader → Type 0
Above r = From (max 1 r.acked) r.unsent

-- no number is past the last one
pub record Within (last : ℕ) (r : Reader) : Type 0 where
  pub acked : r.acked ≤ suc last
  pub high : (n : ℕ) → has r.unsent n ≡ true → n ≤ last

pub within-fresh : (last m : ℕ) → Within last (fresh m)
within-fresh last m = record { acked = omega arith; high = λ n e. absurd (false≢true e) }

module _ (last : ℕ) (r : Reader) (h : Within last r) where
  -- fewer unsent numbers: marked sent, or removed
  pub within-only : (p : ℕ → Bool) → Within last (with_unsent (only p r.unsent) r)
  within-only p = record { acked = h.acked; high = λ n e. h.high n (in_only p r.unsent n e).1 }

  -- one more
  pub within-notified : Within (last + 1) (notified (last + 1) r)
  within-notified = record { acked = omega (arith, h.acked); high = λ n e. go n (in_insert (last + 1) n r.unsent (has_drop_sub (length grown - r.cap) grown n e)) }
    where
      grown : List ℕ
      grown = insert (last + 1) r.unsent

      go : (n : ℕ) → (last + 1 ≡ n) ⊎ (has r.unsent n ≡ true) → n ≤ last + 1
      go n (inl w) = omega (arith, w)
      go n (inr w) = omega (arith, h.high n w)

  pub above_notified : Above r → Above (notified (last + 1) r)
  above_notified a =
      From-largest r.cap (max 1 r.acked) (insert (last + 1) r.unsent) (From-insert (max 1 r.acked) (last + 1) r.unsent (omega (arith, h.acked)) a)

  pub within-acked : (b : ℕ) (ms : List ℕ) → base_of b ≤ suc last → Within last (acknowledge last b ms r)
  within-acked b ms q =
      record { acked = omega (arith, h.acked); high = λ n e. wanted_high last b r.acked r.unsent ms h.high n (has_take_sub r.cap (wanted last b ms r.acked r.unsent) n e) }

  pub above_acked : (b : ℕ) (ms : List ℕ) → Above r → Above (acknowledge last b ms r)
  above_acked b ms a =
      From_weak (max 1 (acked_after r.acked b)) (acked_after r.acked b) (smallest r.cap (wanted last b ms r.acked r.unsent)) (omega arith)
      (From-smallest r.cap (acked_after r.acked b) (wanted last b ms r.acked r.unsent) (wanted_rise last b r.acked r.unsent ms a))
