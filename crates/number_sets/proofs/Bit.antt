-- One word's bits: those of a shifted word, of a word cut at a place, of a word with a bit set. Assumes nothing.
use Prim.Native.Nat.{ℕ, zero, suc, ◌+◌, ◌-◌, ◌*◌, ◌/◌, ◌%◌, ◌^◌, ◌≤◌, ◌<◌}
use mathlib.Core.Path.{◌≡◌, refl, sym, ap, subst, ◌∙◌}
use mathlib.Core.Bool.{Bool, true, false, ◌&&◌}
use mathlib.Core.Logic.{◌⊎◌, inl, inr}
use lib.Dec.{eqb, ltb, leb}
use lib.Pow.{pow_pos, pow-add, pow_mono, shl-shr, shr-shr, field, mod-mod-pow, mod-pow-add}
use lib.Count.{count_leading_zeros, leading_top}
use native.Mathlib.Omega.{arith}
use native.Mathlib.Nat.{div-eq_of_lt, div-eq_of_lt-le, mul-mod_left, pow-suc, zero-div, lt_of_lt_of_le, mod-lt, mod-eq_of_lt, mul_assoc, div-mul-le_self, lt_of_le_of_lt}
use borrow.Author.Tests.{ltb-true, ltb-false, leb-true, leb-false, le-ltb}
use Rattle.sets.proofs.Bools.{decide, and_no}
use Rattle.number_sets.specs.Bits.{bit_of}
use Rattle.number_sets.specs.Words.{BitsKept}

-- the digit of worth 2 ^ e
abbrev pub digit : ℕ → ℕ → Bool
digit w e = eqb ((w / 2 ^ e) % 2) 1

pub digit_zero : (e : ℕ) → digit 0 e ≡ false
digit_zero e = ap (λ (x : ℕ). eqb (x % 2) 1) (zero-div (2 ^ e))

-- none above the number
pub digit_over : (w e s : ℕ) → w < 2 ^ s → s ≤ e → digit w e ≡ false
digit_over w e s h k = ap (λ (x : ℕ). eqb (x % 2) 1) (div-eq_of_lt (lt_of_lt_of_le h (pow_mono k)))

-- the low s digits are the number's
pub digit_low : (w e s : ℕ) → e < s → digit (w % 2 ^ s) e ≡ digit w e
digit_low w e s h =
    let d : s ≡ suc (s - suc e) + e = omega arith in
    let q : w % 2 ^ s / 2 ^ e ≡ w / 2 ^ e % 2 ^ suc (s - suc e) = ap (λ (x : ℕ). w % 2 ^ x / 2 ^ e) d ∙ field w (suc (s - suc e)) e in
    let m : suc (s - suc e) ≡ s - suc e + 1 = omega arith in
    ap (λ (x : ℕ). eqb (x % 2) 1) (q ∙ ap (λ (x : ℕ). w / 2 ^ e % 2 ^ x) m)
    ∙ ap (λ (x : ℕ). eqb x 1) (mod-mod-pow (w / 2 ^ e) (s - suc e) 1)

-- a shift up moves them, a shift down moves them back
pub digit_up : (w a e : ℕ) → digit (w * 2 ^ a) (a + e) ≡ digit w e
digit_up w a e = ap (λ (x : ℕ). eqb (x % 2) 1) (sym (shr-shr (w * 2 ^ a) a e) ∙ ap (λ (x : ℕ). x / 2 ^ e) (shl-shr w a))

pub digit_down : (w a e : ℕ) → digit (w / 2 ^ a) e ≡ digit w (a + e)
digit_down w a e = ap (λ (x : ℕ). eqb (x % 2) 1) (shr-shr w a e)

-- below a shift there is none
pub digit_under : (w a e : ℕ) → e < a → digit (w * 2 ^ a) e ≡ false
digit_under w a e h =
    let d : a ≡ suc (a - suc e) + e = omega arith in
    let q : w * 2 ^ a / 2 ^ e ≡ w * 2 ^ suc (a - suc e) =
    ap (λ (x : ℕ). w * 2 ^ x / 2 ^ e) d ∙ ap (λ (x : ℕ). w * x / 2 ^ e) (pow-add 2 (suc (a - suc e)) e)
    ∙ ap (λ (x : ℕ). x / 2 ^ e) (mul_assoc' w (2 ^ suc (a - suc e)) (2 ^ e)) ∙ shl-shr (w * 2 ^ suc (a - suc e)) e in
    let r : w * 2 ^ suc (a - suc e) ≡ w * 2 ^ (a - suc e) * 2 = ap (λ (x : ℕ). w * x) (pow-suc 2 (a - suc e)) ∙ mul_assoc' w (2 ^ (a - suc e)) 2 in
    ap (λ (x : ℕ). eqb (x % 2) 1) (q ∙ r) ∙ ap (λ (x : ℕ). eqb x 1) (mul-mod_left (w * 2 ^ (a - suc e)) 2)
  where
    mul_assoc' : (x y z : ℕ) → x * (y * z) ≡ x * y * z
    mul_assoc' x y z = sym (mul_assoc x y z)

-- what a word shifted up by a within 32 bits is: its low digits, shifted
pub shifted : (w a : ℕ) → a ≤ 32 → (w * 2 ^ a) % 2 ^ 32 ≡ w % 2 ^ (32 - a) * 2 ^ a
shifted w a h =
    let d : 32 ≡ 32 - a + a = omega arith in
    ap (λ (x : ℕ). (w * 2 ^ a) % 2 ^ x) d
    ∙ mod-pow-add (w * 2 ^ a) (32 - a) a
    ∙ ap (λ (x : ℕ). x % 2 ^ (32 - a) * 2 ^ a + (w * 2 ^ a) % 2 ^ a) (shl-shr w a)
    ∙ ap (λ (x : ℕ). w % 2 ^ (32 - a) * 2 ^ a + x) (mul-mod_left w (2 ^ a))
    ∙ omega arith

low_small : (w a : ℕ) → w % 2 ^ (32 - a) < 2 ^ (32 - a)
low_small w a = mod-lt w (pow_pos (32 - a))

-- A BIT FOUND: the zeros above the shifted word's highest digit
module _ (w a v : ℕ) (h : a < 32) (is : v ≡ (w * 2 ^ a) % 2 ^ 32) where
  v_is : v ≡ w % 2 ^ (32 - a) * 2 ^ a
  v_is = is ∙ shifted w a (omega arith)

  -- a place at or after a, in the shifted word and in the word
  there : (t : ℕ) → a + t < 32 → digit v (31 - t) ≡ bit_of w (a + t)
  there t k =
      let e : 31 - t ≡ a + (31 - (a + t)) = omega arith in
      ap (λ (x : ℕ). digit v x) e ∙ ap (λ (x : ℕ). digit x (a + (31 - (a + t)))) v_is
      ∙ digit_up (w % 2 ^ (32 - a)) a (31 - (a + t)) ∙ digit_low w (31 - (a + t)) (32 - a) (omega arith)

  pub none_left : v ≡ 0 → (i : ℕ) → a ≤ i → i < 32 → bit_of w i ≡ false
  none_left z i l u =
      let e : i ≡ a + (i - a) = omega arith in
      ap (bit_of w) e ∙ sym (there (i - a) (omega arith)) ∙ ap (λ (x : ℕ). digit x (31 - (i - a))) z ∙ digit_zero (31 - (i - a))

  module _ (some : v ≡ 0 → ⊥) where
    small : v < 2 ^ 32
    small = subst (λ (x : ℕ). x < 2 ^ 32) (sym is) (mod-lt (w * 2 ^ a) (pow_pos 32))

    top : (j : ℕ) × (count_leading_zeros 32 v + suc j ≡ 32) × (2 ^ j ≤ v) × (v < 2 ^ suc j)
    top = leading_top 32 v (omega arith) small

    low-some : (q : ℕ) → v ≡ q * 2 ^ a → 2 ^ a ≤ v
    low-some zero e = absurd (some (e ∙ omega arith))
    low-some (suc q) e = omega arith

    above : a ≤ top.0
    above = elim (decide (leb a top.0)) [
      | inl e ↦ leb-true a top.0 e
      | inr e ↦ absurd (omega (arith, low-some (w % 2 ^ (32 - a)) v_is, top.3, pow_mono {i = suc top.0} {j = a} (leb-false a top.0 e)))
    ]

    pub lead_in : a + count_leading_zeros 32 v < 32
    lead_in = omega (arith, top.1, above)

    pub lead_set : bit_of w (a + count_leading_zeros 32 v) ≡ true
    lead_set =
        let e : 31 - count_leading_zeros 32 v ≡ top.0 = omega (arith, top.1) in
        let d : v / 2 ^ top.0 ≡ 1 = div-eq_of_lt-le {k = 1} (2 ^ top.0) {m = v} (omega (arith, top.2)) (omega (arith, top.3, pow-suc 2 top.0)) in
        sym (there (count_leading_zeros 32 v) lead_in) ∙ ap (λ (x : ℕ). digit v x) e ∙ ap (λ (x : ℕ). eqb (x % 2) 1) d

    pub lead_none : (i : ℕ) → a ≤ i → i < a + count_leading_zeros 32 v → bit_of w i ≡ false
    lead_none i l u =
        let e : i ≡ a + (i - a) = omega arith in
        ap (bit_of w) e ∙ sym (there (i - a) (omega (arith, lead_in))) ∙ digit_over v (31 - (i - a)) (suc top.0) top.3 (omega (arith, top.1, lead_in))

-- BITS KEPT
pub kept-none : (w a e : ℕ) → e ≤ a → BitsKept w a e 0
kept-none w a e h = record { small = pow_pos 32; bits = λ i k. digit_zero (31 - i) ∙ sym (none i) }
  where
    none : (i : ℕ) → ((leb a i && ltb i e) && bit_of w i) ≡ false
    none i = elim (decide (leb a i)) [
      | inl p ↦ rw (p, le-ltb i e (omega (arith, leb-true a i p))) refl
      | inr p ↦ rw p refl
    ]

module _ (w a e : ℕ) (h : a < e) (k : e ≤ 32) where
  low-is : (w * 2 ^ a) % 2 ^ 32 / 2 ^ a ≡ w % 2 ^ (32 - a)
  low-is = ap (λ (x : ℕ). x / 2 ^ a) (shifted w a (omega arith)) ∙ shl-shr (w % 2 ^ (32 - a)) a

  cut_small : (x : ℕ) → x < 2 ^ 32 → (x / 2 ^ (32 - e) * 2 ^ (32 - e)) % 2 ^ 32 ≡ x / 2 ^ (32 - e) * 2 ^ (32 - e)
  cut_small x l = mod-eq_of_lt (lt_of_le_of_lt (div-mul-le_self x (2 ^ (32 - e))) l)

  cut_bit : (i : ℕ) → i < 32 → bit_of (w % 2 ^ (32 - a) / 2 ^ (32 - e) * 2 ^ (32 - e)) i ≡ ((leb a i && ltb i e) && bit_of w i)
  cut_bit i u = go (decide (ltb i e)) (decide (leb a i))
    where
      go : (ltb i e ≡ true) ⊎ (ltb i e ≡ false) → (leb a i ≡ true) ⊎ (leb a i ≡ false) → bit_of (w % 2 ^ (32 - a) / 2 ^ (32 - e) * 2 ^ (32 - e)) i ≡ ((leb a i && ltb i e) && bit_of w i)
      go (inr f) g = digit_under (w % 2 ^ (32 - a) / 2 ^ (32 - e)) (32 - e) (31 - i) (omega (arith, ltb-false i e f)) ∙ sym (ap (λ (t : Bool). (leb a i && t) && bit_of w i) f ∙ ap (λ (t : Bool). t && bit_of w i) (and_no (leb a i)))
      go (inl f) g =
          let d : 31 - i ≡ 32 - e + (e - suc i) = omega (arith, ltb-true i e f) in
          ap (λ (x : ℕ). digit (w % 2 ^ (32 - a) / 2 ^ (32 - e) * 2 ^ (32 - e)) x) d
          ∙ digit_up (w % 2 ^ (32 - a) / 2 ^ (32 - e)) (32 - e) (e - suc i)
          ∙ digit_down (w % 2 ^ (32 - a)) (32 - e) (e - suc i)
          ∙ ap (λ (x : ℕ). digit (w % 2 ^ (32 - a)) x) (sym d)
          ∙ last g
          ∙ sym (ap (λ (t : Bool). (leb a i && t) && bit_of w i) f)
        where
          last : (leb a i ≡ true) ⊎ (leb a i ≡ false) → digit (w % 2 ^ (32 - a)) (31 - i) ≡ ((leb a i && true) && bit_of w i)
          last (inl p) = digit_low w (31 - i) (32 - a) (omega (arith, leb-true a i p)) ∙ sym (ap (λ (t : Bool). (t && true) && bit_of w i) p)
          last (inr p) = digit_over (w % 2 ^ (32 - a)) (31 - i) (32 - a) (low_small w a) (omega (arith, leb-false a i p)) ∙ sym (ap (λ (t : Bool). (t && true) && bit_of w i) p)

  pub kept-some : BitsKept w a e (((w * 2 ^ a) % 2 ^ 32 / 2 ^ a / 2 ^ (32 - e) * 2 ^ (32 - e)) % 2 ^ 32)
  kept-some =
      let s : w % 2 ^ (32 - a) < 2 ^ 32 = lt_of_lt_of_le (low_small w a) (pow_mono {i = 32 - a} {j = 32} (omega arith)) in
      let r : ((w * 2 ^ a) % 2 ^ 32 / 2 ^ a / 2 ^ (32 - e) * 2 ^ (32 - e)) % 2 ^ 32 ≡ w % 2 ^ (32 - a) / 2 ^ (32 - e) * 2 ^ (32 - e) =
      ap (λ (x : ℕ). (x / 2 ^ (32 - e) * 2 ^ (32 - e)) % 2 ^ 32) low-is ∙ cut_small (w % 2 ^ (32 - a)) s in
      record { small = mod-lt _ (pow_pos 32); bits = λ i u. ap (λ (x : ℕ). bit_of x i) r ∙ cut_bit i u }
