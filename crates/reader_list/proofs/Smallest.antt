-- The frontier is the smallest acked over the reliable readers, raised to 1 at least; absent, just where there is none. Assumes nothing.
use Prim.Native.Nat.{ℕ, zero, suc, ◌<◌, ◌≤◌, min, max}
use mathlib.Core.Path.{◌≡◌, refl, sym, ap, ◌∙◌}
use mathlib.Core.Bool.{Bool, true, false, cond, ◌||◌}
use mathlib.Core.Logic.{◌⊎◌, inl, inr}
use mathlib.Core.List.{List, [], ◌∷◌}
use native.Mathlib.Omega.{arith}
use lib.Dec.{ltb, eqb}
use borrow.Author.Tests.{lt-ltb, ltb-true, ltb-false, eqb-true, eqb-false}
use lib.ListN.{get_or, set}
use Rattle.reader_list.specs.Slots.{frontier_of, frontier_at}
use Rattle.reader_list.specs.Readers.{Head, free, meet, frontier, place_of_id, is_there, matched}

meet_low : (a b : ℕ) → 1 ≤ a → (1 ≤ meet a b) × (meet a b ≤ a)
meet_low zero b h = absurd (omega arith)
meet_low (suc a) zero h = (omega arith, omega arith)
meet_low (suc a) (suc b) h = (omega arith, omega arith)

meet_right : (a b : ℕ) → 1 ≤ b → (1 ≤ meet a b) × (meet a b ≤ b)
meet_right zero b h = (h, omega arith)
meet_right (suc a) zero h = absurd (omega arith)
meet_right (suc a) (suc b) h = (omega arith, omega arith)

-- it is that of one of the two
meet_one : (a b : ℕ) → 1 ≤ a → (meet a b ≡ a) ⊎ ((1 ≤ b) × (meet a b ≡ b))
meet_one zero b h = absurd (omega arith)
meet_one (suc a) zero h = inl refl
meet_one (suc a) (suc b) h = go (ltb a b) refl
  where
    go : (t : Bool) → ltb a b ≡ t → (min (suc a) (suc b) ≡ suc a) ⊎ ((1 ≤ suc b) × (min (suc a) (suc b) ≡ suc b))
    go true e = let k = ltb-true a b e in inl (omega arith)
    go false e = let k = ltb-false a b e in inr (omega arith, omega arith)

-- no reliable reader is below it, and where there is one, it is present
pub at_most_each : (hs : List Head) (k : ℕ) → (get_or hs k free).reliable ≡ true → (1 ≤ frontier hs) × (frontier hs ≤ max 1 (get_or hs k free).acked)
at_most_each [] k e = let o : ◌≡◌ {A = ℕ} 0 1 = cc in absurd (omega arith)
at_most_each (h ∷ hs) zero e = rw e (meet_low (max 1 h.acked) (frontier hs) (omega arith))
at_most_each (h ∷ hs) (suc k) e = go h.reliable (at_most_each hs k e)
  where
    go : (b : Bool) → (1 ≤ frontier hs) × (frontier hs ≤ max 1 (get_or hs k free).acked)
        → (1 ≤ cond b (meet (max 1 h.acked) (frontier hs)) (frontier hs)) × (cond b (meet (max 1 h.acked) (frontier hs)) (frontier hs) ≤ max 1 (get_or hs k free).acked)
    go true w = let m = meet_right (max 1 h.acked) (frontier hs) w.0 in (m.0, omega (arith, m.1, w.1))
    go false w = w

-- it is that of a reliable reader, where it is present
pub record Reached (hs : List Head) : Type 0 where
  pub place : ℕ
  pub reliable : (get_or hs place free).reliable ≡ true
  pub is : frontier hs ≡ max 1 (get_or hs place free).acked

pub is-reached : (hs : List Head) → 1 ≤ frontier hs → Reached hs
is-reached [] h = absurd (omega arith)
is-reached (x ∷ hs) h = go x.reliable refl h (is-reached hs)
  where
    later : Reached hs → (n : ℕ) → n ≡ frontier hs → (b : Bool) → x.reliable ≡ b → cond b (meet (max 1 x.acked) (frontier hs)) (frontier hs) ≡ n → Reached (x ∷ hs)
    later r n e b q f = record { place = suc r.place; reliable = r.reliable; is = ap (λ (t : Bool). cond t (meet (max 1 x.acked) (frontier hs)) (frontier hs)) q ∙ f ∙ e ∙ r.is }

    go : (b : Bool) → x.reliable ≡ b → 1 ≤ cond b (meet (max 1 x.acked) (frontier hs)) (frontier hs) → (1 ≤ frontier hs → Reached hs) → Reached (x ∷ hs)
    go false q l r = later (r l) (frontier hs) refl false q refl
    go true q l r =
        elim (meet_one (max 1 x.acked) (frontier hs) (omega arith)) [
          | inl e ↦ record { place = 0; reliable = q; is = ap (λ (t : Bool). cond t (meet (max 1 x.acked) (frontier hs)) (frontier hs)) q ∙ e }
          | inr e ↦ later (r e.0) (frontier hs) refl true q e.1
        ]

-- a reliable reader's match lowers it to 1, where there is a free slot
pub match_lowers : (i : ℕ) (hs : List Head) → is_there 0 hs ≡ true → frontier (matched i true hs) ≡ 1
match_lowers i [] e = let o : ◌≡◌ {A = ℕ} 0 1 = cc in absurd (omega arith)
match_lowers i (h ∷ hs) e = go (eqb h.id 0) e (match_lowers i hs)
  where
    one : (n : ℕ) → meet 1 n ≡ 1
    one zero = refl
    one (suc n) = omega arith

    two : (a : ℕ) → 1 ≤ a → meet a 1 ≡ 1
    two zero h = absurd (omega arith)
    two (suc a) h = omega arith

    on : (b : Bool) → frontier (matched i true hs) ≡ 1 → cond b (meet (max 1 h.acked) (frontier (matched i true hs))) (frontier (matched i true hs)) ≡ 1
    on true r = rw r (two (max 1 h.acked) (omega arith))
    on false r = r

    go : (t : Bool) → (t || is_there 0 hs) ≡ true → (is_there 0 hs ≡ true → frontier (matched i true hs) ≡ 1)
        → frontier (set (h ∷ hs) (cond t 0 (suc (place_of_id 0 hs))) (record { id = i; reliable = true; acked = 0; below = false })) ≡ 1
    go true q r = one (frontier hs)
    go false q r = on h.reliable (r q)

-- the frontier as a struct, read back
pub frontier_back : (a : ℕ) → a < 9223372036854775808 → frontier_of (frontier_at a) ≡ a
frontier_back a h = go (eqb a 0) refl
  where
    go : (t : Bool) → eqb a 0 ≡ t → frontier_of (frontier_at a) ≡ a
    go true e = rw e (sym (eqb-true a 0 e))
    go false e =
        let n : a ≡ 0 → ⊥ = eqb-false a 0 e in
        rw (e, lt-ltb a 9223372036854775808 h) (omega arith)
