-- The steps keep the record coherent; the record on natural numbers, and back. Assumes nothing.
use Prim.Native.Nat.{ℕ, ◌+◌, ◌-◌, ◌<◌, ◌≤◌}
use mathlib.Core.Path.{◌≡◌, refl, ap, ◌∙◌}
use mathlib.Core.Bool.{Bool, true, false, not, cond, ◌&&◌}
use native.Mathlib.Omega.{arith}
use lib.IntN.{ℤ, pos, negsuc}
use lib.Dec.{leb, ltb, eqb}
use borrow.Author.Tests.{eqb-false, eqb-true, leb-false, lt-ltb, ltb-false, not-false}
use Rattle.sets.proofs.Bools.{and_both}
use Rattle.numbers.specs.Number.{rank_of, negative, number_at, below0, nat_of}
use Rattle.numbers.specs.Refusals.{answer_of, is_done, unless}
use Rattle.numbers.specs.Promise.{Left1}
use Rattle.numbers.specs.declared.answer.Answer.{Answer}
use Rattle.numbers.specs.declared.sequence_number.SequenceNumber.{SequenceNumber}
use Rattle.numbers.proofs.Refused.{clear}
use Rattle.writer_send_buffer.specs.declared.limits.Kind.{Kind}
use Rattle.writer_send_buffer.specs.declared.limits.Limits.{Limits}
use Rattle.writer_send_buffer.specs.declared.flow.WriterSendBuffer.{WriterSendBuffer}
use Rattle.writer_send_buffer.specs.Flow.{Flow, allowed, flow_view_coherent, blank, trims, full, used_up, trimmed, admitted, ahead, stored, raised, evicted}
use Rattle.writer_send_buffer.specs.Buffer.{flow_view, flow_form, flow_coherent, ranged}
use Rattle.writer_send_buffer.proofs.Sound.{Fits, Allowed, allowed-is, is-fits, coherent-is}

-- ---- numbers
pub rank_at : (n : ℕ) → n < 9223372036854775808 → rank_of (number_at n) ≡ n
rank_at n h = rw (lt-ltb n 9223372036854775808 h)

pub at_least_0 : (n : ℕ) → negative (number_at n) ≡ false
at_least_0 n = go (ltb n 9223372036854775808)
  where
    go : (t : Bool) → below0 (cond t (pos n) (pos 0)) ≡ false
    go true = refl
    go false = refl

-- the number of the rank of a number that is at least 0
pub at_rank : (s : SequenceNumber) → negative s ≡ false → rank_of s < 9223372036854775808 → number_at (rank_of s) ≡ s
at_rank s n h = λ i. record { 0 = go s.0 n h i }
  where
    go : (z : ℤ) → below0 z ≡ false → nat_of z < 9223372036854775808 → cond (ltb (nat_of z) 9223372036854775808) (pos (nat_of z)) (pos 0) ≡ z
    go (pos n) e h = rw (lt-ltb n 9223372036854775808 h)
    go (negsuc n) e h = let o : ◌≡◌ {A = ℕ} 0 1 = cc in absurd (omega arith)

pub positive : (s : SequenceNumber) → 1 ≤ rank_of s → negative s ≡ false
positive s h = go s.0 h
  where
    go : (z : ℤ) → 1 ≤ nat_of z → below0 z ≡ false
    go (pos n) h = refl
    go (negsuc n) h = absurd (omega arith)

-- ---- the record on natural numbers, and back
pub view_form : (f : Flow) → Fits f → flow_view (flow_form f) ≡ f
view_form f h =
    let l = rank_at f.last (omega (arith, h.last-most)) in
    let r = rank_at f.first (omega (arith, h.first_in, h.last-most)) in
    let s = rank_at f.sent (omega (arith, h.sent_in, h.last-most)) in
    let a = rank_at f.acked (omega (arith, h.acked_in, h.last-most)) in
    λ i. record { last = l i; first = r i; sent = s i; acked = a i; present = f.present; kind = f.kind; limits = f.limits }

pub form_view : (f : WriterSendBuffer) → flow_coherent f ≡ true → flow_form (flow_view f) ≡ f
form_view f e =
    let c = coherent-is f e in
    let h = c.numbers in
    let l = at_rank f.last c.last_not (omega (arith, h.last-most)) in
    let r = at_rank f.first (positive f.first h.first_some) (omega (arith, h.first_in, h.last-most)) in
    let s = at_rank f.sent c.sent_not (omega (arith, h.sent_in, h.last-most)) in
    let a = at_rank f.acked (positive f.acked h.acked-some) (omega (arith, h.acked_in, h.last-most)) in
    λ i. record { last = l i; first = r i; sent = s i; acked = a i; present = f.present; kind = f.kind; limits = f.limits }

-- a coherent record comes of each that fits
pub form_coherent : (f : Flow) → Fits f → flow_coherent (flow_form f) ≡ true
form_coherent f h =
    and_both (not (negative (number_at f.last))) (not (negative (number_at f.sent)) && flow_view_coherent (flow_view (flow_form f))) (ap not (at_least_0 f.last))
    (and_both (not (negative (number_at f.sent))) (flow_view_coherent (flow_view (flow_form f))) (ap not (at_least_0 f.sent)) (ap flow_view_coherent (view_form f h) ∙ is-fits f h))

-- ---- the steps
pub fits-blank : (k : Kind) (l : Limits) → allowed l ≡ true → Fits (blank k l)
fits-blank k l e =
    record { last-most = omega arith; first_some = omega arith; first_in = omega arith; held = omega arith; sent_in = omega arith; acked-some = omega arith; acked_in = omega arith; are_allowed = e }

module _ (f : Flow) (h : Fits f) where
  -- where a write is not refused, at most S samples are held after it, and none older comes back
  pub record After (opted : Bool) : Type 0 where
    pub low : f.first ≤ trimmed f opted
    pub high : trimmed f opted ≤ f.last + 1
    pub held : f.last + 2 - trimmed f opted ≤ f.limits.slots

  pub after : (opted : Bool) → full f opted ≡ false → After opted
  after opted e = go (trims f opted) refl e
    where
      a : Allowed f.limits
      a = allowed-is f.limits h.are_allowed

      go : (t : Bool) → trims f opted ≡ t → (not t && leb f.limits.slots (f.last + 1 - f.first)) ≡ false → After opted
      go true t e =
          record {
            low = rw t (omega arith);
            high = rw t (omega (arith, h.first_in, a.retain_some));
            held = rw t (omega (arith, a.retain_few));
          }
      go false t e =
          let k = leb-false f.limits.slots (f.last + 1 - f.first) e in
          record { low = rw t (omega arith); high = rw t h.first_in; held = rw t (omega (arith, h.first_in)) }

  pub fits-admitted : (opted : Bool) → used_up f ≡ false → full f opted ≡ false → Fits (admitted f opted)
  fits-admitted opted u e =
      let a = after opted e in
      let n : f.last ≡ 9223372036854775806 → ⊥ = eqb-false f.last 9223372036854775806 u in
      record {
        last-most = omega (arith, h.last-most);
        first_some = omega (arith, h.first_some, a.low);
        first_in = omega (arith, a.high);
        held = omega (arith, a.held);
        sent_in = omega (arith, h.sent_in);
        acked-some = h.acked-some;
        acked_in = omega (arith, h.acked_in);
        are_allowed = h.are_allowed;
      }

  pub fits-stored : (a : ℕ) → ahead a f ≡ false → Fits (stored a f)
  fits-stored a e =
      let k = ltb-false (f.last + 1) a e in
      let s : 1 ≤ cond (eqb a 0) f.acked a = some (eqb a 0) refl in
      let m : cond (eqb a 0) f.acked a ≤ f.last + 1 = most (eqb a 0) k in
      record {
        last-most = h.last-most;
        first_some = h.first_some;
        first_in = h.first_in;
        held = h.held;
        sent_in = h.sent_in;
        acked-some = s;
        acked_in = m;
        are_allowed = h.are_allowed;
      }
    where
      some : (t : Bool) → eqb a 0 ≡ t → 1 ≤ cond t f.acked a
      some true q = h.acked-some
      some false q = let n : a ≡ 0 → ⊥ = eqb-false a 0 q in omega arith

      most : (t : Bool) → a ≤ f.last + 1 → cond t f.acked a ≤ f.last + 1
      most true k = h.acked_in
      most false k = k

  pub fits-raised : (k : ℕ) → ltb f.last k ≡ false → Fits (raised k f)
  fits-raised k e =
      let m = ltb-false f.last k e in
      record {
        last-most = h.last-most;
        first_some = h.first_some;
        first_in = h.first_in;
        held = h.held;
        sent_in = omega (arith, h.sent_in);
        acked-some = h.acked-some;
        acked_in = h.acked_in;
        are_allowed = h.are_allowed;
      }

  pub fits-evicted : (k : ℕ) → ahead k f ≡ false → Fits (evicted k f)
  fits-evicted k e =
      let m = ltb-false (f.last + 1) k e in
      record {
        last-most = h.last-most;
        first_some = omega (arith, h.first_some);
        first_in = omega (arith, h.first_in);
        held = omega (arith, h.held);
        sent_in = h.sent_in;
        acked-some = h.acked-some;
        acked_in = h.acked_in;
        are_allowed = h.are_allowed;
      }

-- what holds of a record and of what a step makes of it holds of what the call leaves, refused or not
module _ {A : Type 0} (P : WriterSendBuffer → Type 0) (say : Answer → A) (ok : A) (f : WriterSendBuffer) (out : Bool) (g : Flow) where
  abbrev pub left_by : Left1 A WriterSendBuffer
  left_by = unless (ranged (flow_coherent f) out) (λ a. record { result = say a; first = f }) (record { result = ok; first = flow_form g })

  pub by_range : P f → (Fits (flow_view f) → out ≡ false → P (flow_form g)) → P left_by.first
  by_range p q = go (is_done (answer_of (ranged (flow_coherent f) out))) refl
    where
      go : (t : Bool) → is_done (answer_of (ranged (flow_coherent f) out)) ≡ t
          → P (cond {A = Left1 A WriterSendBuffer} t (record { result = ok; first = flow_form g }) (record { result = say (answer_of (ranged (flow_coherent f) out)); first = f })).first
      go true d =
          let c = clear (ranged (flow_coherent f) out) (answer_of (ranged (flow_coherent f) out)) refl (eqb-true _ _ d) in
          q (coherent-is f (not-false _ (c 1 refl))).numbers (c 2 refl)
      go false d = p
