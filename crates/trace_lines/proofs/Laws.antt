-- Laws of keys and numbers, in the shapes that the loops ask for. Assumes nothing.
use Prim.Native.Nat.{ℕ, zero, suc, ◌+◌, ◌-◌, ◌*◌, ◌^◌, ◌<◌, ◌≤◌}
use mathlib.Core.Path.{◌≡◌, refl, sym, ap, ◌∙◌}
use mathlib.Core.Bool.{Bool, true, false, cond, ◌&&◌}
use mathlib.Core.List.{List, [], ◌∷◌}
use native.Mathlib.Nat.{mul-le-mul_right, mul-le-mul_left, mul_assoc, pow-succ', mul-one, le_trans}
use native.Mathlib.Omega.{arith}
use lib.Dec.{ltb, leb, eqb}
use lib.ListN.{length, take, drop, get_or, length-take}
use borrow.Author.Tests.{leb-true, ltb-true, ltb-false}
use Rattle.sets.proofs.Loops.{here, done}
use Rattle.sets.proofs.Bools.{and_left, and_right}
use Rattle.std.specs.Cmp.Lexicographic.{pointwise}
use Rattle.std.specs.Borrow.{Bor}
use Rattle.std.specs.Prelude.{Option, Some, None, MatchOption}
use Rattle.std.specs.List.{prefix_len}
use Rattle.std.proofs.lemmas.List.{get_or-take}
use Rattle.std.proofs.lemmas.List.Sums.{prefix_len_passes, prefix_len_stops}
use Rattle.trace_lines.specs.Words.{rest, bad, past_key, nothing, is_digit, up_to63, digits_read, number_in, rest_of}

-- ---- a key, as the library's comparison finds it
pub past_is : (k s : List ℕ) → cond (pointwise eqb (take (length k) s) k) (rest (drop (length k) s)) bad ≡ past_key k s
past_is [] s = refl
past_is (x ∷ k) [] = refl
past_is (x ∷ k) (y ∷ s) = go (eqb y x) (past_is k s)
  where
    go : (t : Bool) → cond (pointwise eqb (take (length k) s) k) (rest (drop (length k) s)) bad ≡ past_key k s
        → cond (t && pointwise eqb (take (length k) s) k) (rest (drop (length k) s)) bad ≡ cond t (past_key k s) bad
    go true e = e
    go false e = refl

pub stripped : (k s : List ℕ) (r : Option (Bor (List ℕ))) → MatchOption r (pointwise eqb (take (length k) s) k ≡ false) (λ x. (pointwise eqb (take (length k) s) k ≡ true) × (x.now ≡ drop (length k) s) × (length x.now + length k ≡ length s)) → rest_of r ≡ past_key k s
stripped k s None h = rw h at (past_is k s)
stripped k s (Some x) h = ap rest h.1 ∙ rw h.0 at (past_is k s)

-- ---- the digits at the front
abbrev pub run : List ℕ → ℕ
run s = prefix_len is_digit s

pub digit_low : (b : ℕ) → is_digit b ≡ true → 48 ≤ b
digit_low b h = leb-true _ _ (and_left (leb 48 b) (leb b 57) h)

pub digit_high : (b : ℕ) → is_digit b ≡ true → b ≤ 57
digit_high b h = leb-true _ _ (and_right (leb 48 b) (leb b 57) h)

module _ (s : List ℕ) (i : ℕ) (v : ℕ) where
  pub digits_more : (k : ℕ) → i < length s → is_digit (get_or s i 0) ≡ true → (k ≡ 0 → ⊥) → digits_read k v (drop i s) ≡ digits_read (k - 1) (v * 10 + (get_or s i 0 - 48)) (drop (i + 1) s)
  digits_more zero h d n = absurd (n refl)
  digits_more (suc k) h d n =
      let q : suc k - 1 ≡ k = omega arith in
      rw (here s i h, d, q)

  pub digits_other : (k : ℕ) → i < length s → is_digit (get_or s i 0) ≡ false → digits_read k v (drop i s) ≡ up_to63 v (drop i s)
  digits_other zero h d = rw (here s i h, d)
  digits_other (suc k) h d = rw (here s i h, d)

  pub digits_end : (k : ℕ) → length s ≤ i → digits_read k v (drop i s) ≡ up_to63 v (drop i s)
  digits_end k h = rw (done s i h)

-- no digit, or too many
pub run_none : (s : List ℕ) → run s ≡ 0 → nothing ≡ number_in s
run_none [] h = refl
run_none (b ∷ s) h = go (is_digit b) refl
  where
    go : (t : Bool) → is_digit b ≡ t → nothing ≡ cond t (digits_read 18 (b - 48) s) nothing
    go true e = absurd (omega (arith, rw e at h))
    go false e = refl

pub run_long : (k v : ℕ) (s : List ℕ) → k < run s → nothing ≡ digits_read k v s
run_long k v [] h = absurd (omega arith)
run_long zero v (b ∷ s) h = go (is_digit b) refl
  where
    go : (t : Bool) → is_digit b ≡ t → nothing ≡ cond t nothing (up_to63 v (b ∷ s))
    go true e = refl
    go false e = absurd (omega (arith, rw e at h))
run_long (suc k) v (b ∷ s) h = go (is_digit b) refl (run_long k (v * 10 + (b - 48)) s)
  where
    go : (t : Bool) → is_digit b ≡ t → (k < run s → nothing ≡ digits_read k (v * 10 + (b - 48)) s) → nothing ≡ cond t (digits_read k (v * 10 + (b - 48)) s) (up_to63 v (b ∷ s))
    go true e f = f (omega (arith, rw e at h))
    go false e f = absurd (omega (arith, rw e at h))

pub run_starts : (s : List ℕ) → (run s ≡ 0 → ⊥) → number_in s ≡ digits_read 19 0 s
run_starts [] h = absurd (h refl)
run_starts (b ∷ s) h = go (is_digit b) refl
  where
    go : (t : Bool) → is_digit b ≡ t → cond t (digits_read 18 (b - 48) s) nothing ≡ cond t (digits_read 18 (0 * 10 + (b - 48)) s) (up_to63 0 (b ∷ s))
    go true e = ap (λ (v : ℕ). digits_read 18 v s) (omega arith)
    go false e = absurd (h (rw e refl))

pub run_ends : (k v : ℕ) (s : List ℕ) → digits_read k v (drop (run s) s) ≡ up_to63 v (drop (run s) s)
run_ends k v s = go (ltb (run s) (length s)) refl
  where
    go : (t : Bool) → ltb (run s) (length s) ≡ t → digits_read k v (drop (run s) s) ≡ up_to63 v (drop (run s) s)
    go true e =
        let h : run s < length s = ltb-true (run s) (length s) e in
        digits_other s (run s) v k h (prefix_len_stops is_digit s 0 h)
    go false e = digits_end s (run s) v k (ltb-false (run s) (length s) e)

-- ---- 19 digits fit
pub fits_more : (v k d : ℕ) → d ≤ 9 → (k ≡ 0 → ⊥) → (v + 1) * 10 ^ k ≤ 10000000000000000000 → (v * 10 + d + 1) * 10 ^ (k - 1) ≤ 10000000000000000000
fits_more v zero d h n b = absurd (n refl)
fits_more v (suc k) d h n b =
    let q : suc k - 1 ≡ k = omega arith in
    let p : v * 10 + d + 1 ≤ (v + 1) * 10 = omega arith in
    let r : (v + 1) * 10 * 10 ^ k ≡ (v + 1) * 10 ^ suc k = mul_assoc (v + 1) 10 (10 ^ k) ∙ ap (λ (x : ℕ). (v + 1) * x) (sym (pow-succ' 10 k)) in
    rw q (le_trans (mul-le-mul_right (10 ^ k) p) (rw r b))

pow_some : (k : ℕ) → 1 ≤ 10 ^ k
pow_some zero = omega arith
pow_some (suc k) = rw (pow-succ' 10 k) (omega (arith, pow_some k))

pub fits_one : (v k : ℕ) → v * 10 ^ k ≤ 10000000000000000000 → v ≤ 10000000000000000000
fits_one v k h = le_trans (rw mul-one at (mul-le-mul_left v (pow_some k))) h

-- ---- one digit more, of the n that stand at the front of s
module _ (s ds : List ℕ) (n i v x : ℕ) (en : n ≡ run s) (ed : ds ≡ take n s) (most : n ≤ 19) (h : i < length ds) (ex : x ≡ get_or ds i 0 - 48) where
  before : i < n
  before = omega (arith, ap length ed, length-take n s)

  within : i < length s
  within = omega (arith, ap length ed, length-take n s)

  at : get_or ds i 0 ≡ get_or s i 0
  at = ap (λ (l : List ℕ). get_or l i 0) ed ∙ get_or-take n s i 0 before

  digit : is_digit (get_or s i 0) ≡ true
  digit = prefix_len_passes is_digit s i 0 (omega (arith, before))

  pub digit_from : 48 ≤ get_or ds i 0
  digit_from = omega (arith, at, digit_low (get_or s i 0) digit)

  ten : x ≤ 9
  ten = omega (arith, at, digit_high (get_or s i 0) digit)

  left : 19 - (i + 1) ≡ 19 - i - 1
  left = omega arith

  some : 19 - i ≡ 0 → ⊥
  some e = omega (arith, before)

  module _ (b : (v + 1) * 10 ^ (19 - i) ≤ 10000000000000000000) where
    pub digit_fits : (v * 10 + x + 1) * 10 ^ (19 - (i + 1)) ≤ 10000000000000000000
    digit_fits = rw left (fits_more v (19 - i) x ten some b)

    pub digit-small : v * 10 + x + 1 ≤ 10000000000000000000
    digit-small = fits_one (v * 10 + x + 1) (19 - (i + 1)) digit_fits

  pub digit_read : number_in s ≡ digits_read (19 - i) v (drop i s) → number_in s ≡ digits_read (19 - (i + 1)) (v * 10 + x) (drop (i + 1) s)
  digit_read e =
      let y : x ≡ get_or s i 0 - 48 = omega (arith, at) in
      rw (left, y) (e ∙ digits_more s i v (19 - i) within digit some)

-- all read, n digits and no more
pub run_read : (s : List ℕ) (n i v : ℕ) → n ≡ run s → i ≡ n → number_in s ≡ digits_read (19 - i) v (drop i s) → number_in s ≡ up_to63 v (drop n s)
run_read s n i v en ei e = e ∙ rw (ei, en) (run_ends (19 - run s) v s)
