-- The scans: what is left to read, from i on. Assumes nothing.
use Rattle.std.proofs.Common.{Some, ◌≡◌, ℕ, zero, suc, ◌+◌, ◌-◌, ◌*◌, ◌%◌, ◌^◌, ◌<◌, ◌≤◌, min, Bool, true, false, ◌&&◌, eqb, ltb, leb, ◌⊎◌, List, [], ◌∷◌, length, get_or, take, drop, sym, refl, ap, ◌∙◌, ap₂, inl, inr, arith, take_all, ltb-false, ltb-true, le-ltb, lt-ltb, eq-eqb, ne_eqb, eqb-true, le-leb, leb-false, leb-true}
use lib.Bits.{bit_or, bit_and, or_add_and, or_lt, and_block, and_le_l, and_le_r}
use borrow.Author.Tests.{eqb-false, lt-leb}
use Rattle.std.specs.List.{fold, slice_get}
use Rattle.std.proofs.lemmas.Option.{slice_get_within, get_or_from_slice_get}
use Rattle.sets.proofs.Bools.{decide, and_assoc, and_yes, and_no, and_left}
use Rattle.numbers.specs.Capacities.{top_number}
use Rattle.rising.specs.Runs.{rises_above, zeros, holds_at}
use Rattle.sets.proofs.Loops.{here}

or_zero : (a b : ℕ) → eqb (bit_or a b) 0 ≡ (eqb a 0 && eqb b 0)
or_zero a b = go (decide (eqb a 0)) (decide (eqb b 0))
  where
    go : (eqb a 0 ≡ true) ⊎ (eqb a 0 ≡ false) → (eqb b 0 ≡ true) ⊎ (eqb b 0 ≡ false) → eqb (bit_or a b) 0 ≡ (eqb a 0 && eqb b 0)
    go (inl p) (inl q) = rw (p, q) (eq-eqb (bit_or a b) 0 (omega (arith, or_add_and a b, eqb-true a 0 p, eqb-true b 0 q)))
    go (inl p) (inr q) = rw (p, q) (ne_eqb (bit_or a b) 0 (λ e. eqb-false b 0 q (omega (arith, e, or_add_and a b, and_le_l a b))))
    go (inr p) q = rw p (ne_eqb (bit_or a b) 0 (λ e. eqb-false a 0 p (omega (arith, e, or_add_and a b, and_le_r a b))))

-- all or-ed, from a on
fold_or : (s : List ℕ) (a : ℕ) → eqb (fold bit_or a s) 0 ≡ (eqb a 0 && zeros s)
fold_or [] a = sym (and_yes (eqb a 0))
fold_or (x ∷ xs) a = fold_or xs (bit_or a x) ∙ ap (λ (t : Bool). t && zeros xs) (or_zero a x) ∙ and_assoc (eqb a 0) (eqb x 0) (zeros xs)

pub fold_zeros : (s : List ℕ) → eqb (fold bit_or 0 s) 0 ≡ zeros s
fold_zeros s = fold_or s 0

and_mix : (a b c d : Bool) → ((a && b) && (c && d)) ≡ ((a && c) && (b && d))
and_mix true true c d = refl
and_mix true false c d = sym (and_no c)
and_mix false b c d = refl

-- THE RISING TEST: below 2^63 the top bit of a wrapping difference tells the smaller

abbrev pub top : ℕ
top = 9223372036854775808

-- the top bit of an or, and of an and
or_top : (a b : ℕ) → ltb (bit_or a b) top ≡ (ltb a top && ltb b top)
or_top a b = go (decide (ltb a top)) (decide (ltb b top))
  where
    go : (ltb a top ≡ true) ⊎ (ltb a top ≡ false) → (ltb b top ≡ true) ⊎ (ltb b top ≡ false)
        → ltb (bit_or a b) top ≡ (ltb a top && ltb b top)
    go (inl p) (inl q) = rw (p, q) (lt-ltb (bit_or a b) top (or_lt 63 a b (ltb-true a top p) (ltb-true b top q)))
    go (inl p) (inr q) = rw (p, q) (le-ltb (bit_or a b) top (omega (arith, or_add_and a b, and_le_l a b, ltb-false b top q)))
    go (inr p) q = rw p (le-ltb (bit_or a b) top (omega (arith, or_add_and a b, and_le_r a b, ltb-false a top p)))

pub both_top : (a b : ℕ) → top ≤ a → a < 18446744073709551616 → top ≤ b → b < 18446744073709551616 → top ≤ bit_and a b
both_top a b p q r s =
    let x = a - top in
    let y = b - top in
    let ex : a ≡ 1 * 2 ^ 63 + x = omega arith in
    let ey : b ≡ 1 * 2 ^ 63 + y = omega arith in
    let e : bit_and a b ≡ bit_and 1 1 * 2 ^ 63 + bit_and x y = ap₂ bit_and ex ey ∙ and_block 63 1 1 x y (omega arith) (omega arith) in
    omega (arith, e)

and_top : (a b : ℕ) → a < 18446744073709551616 → b < 18446744073709551616 → leb top (bit_and a b) ≡ (leb top a && leb top b)
and_top a b m n = go (decide (leb top a)) (decide (leb top b))
  where
    go : (leb top a ≡ true) ⊎ (leb top a ≡ false) → (leb top b ≡ true) ⊎ (leb top b ≡ false) → leb top (bit_and a b) ≡ (leb top a && leb top b)
    go (inl p) (inl q) = rw (p, q) (le-leb top (bit_and a b) (both_top a b (leb-true top a p) m (leb-true top b q) n))
    go (inl p) (inr q) = rw (p, q) (lt-leb top (bit_and a b) (omega (arith, and_le_r a b, leb-false top b q)))
    go (inr p) q = rw p (lt-leb top (bit_and a b) (omega (arith, and_le_l a b, leb-false top a p)))

-- so far no number had the top bit, and every difference did
abbrev pub climbs : ℕ → ℕ → Bool
climbs high up = ltb high top && leb top up

-- x is a sample number, and what follows rises from it
abbrev pub rest : ℕ → List ℕ → Bool
rest x l = leb x top_number && rises_above x l

module _ (high up a b r : ℕ) (m : up < 18446744073709551616) (n : r < 18446744073709551616) (w : (r + b) % 2 ^ 64 ≡ a) where
  one_step : b ≤ top_number → climbs (bit_or high a) (bit_and up r) ≡ (climbs high up && (leb a top_number && ltb a b))
  one_step s =
      ap₂ ◌&&◌ (or_top high a) (and_top up r m n)
      ∙ and_mix (ltb high top) (ltb a top) (leb top up) (leb top r)
      ∙ ap (λ (x : Bool). climbs high up && x) (go (decide (ltb a b)) (decide (ltb a top)))
    where
      go : (ltb a b ≡ true) ⊎ (ltb a b ≡ false) → (ltb a top ≡ true) ⊎ (ltb a top ≡ false) → (ltb a top && leb top r) ≡ (leb a top_number && ltb a b)
      go (inl p) q = let h = ltb-true a b p in rw (p, lt-ltb a top (omega arith), le-leb a top_number (omega arith), le-leb top r (omega arith))
      go (inr p) (inl q) =
          let h = ltb-false a b p in
          let k = ltb-true a top q in
          rw (p, q, lt-leb top r (omega arith)) (sym (and_no (leb a top_number)))
      go (inr p) (inr q) = rw (p, q) (sym (and_no (leb a top_number)))

  steps : (l : List ℕ) → (climbs high up && rest a (b ∷ l)) ≡ (climbs (bit_or high a) (bit_and up r) && rest b l)
  steps l = go (decide (rest b l))
    where
      go : (rest b l ≡ true) ⊎ (rest b l ≡ false) → (climbs high up && rest a (b ∷ l)) ≡ (climbs (bit_or high a) (bit_and up r) && rest b l)
      go (inl p) =
          let s : b ≤ top_number = leb-true b top_number (and_left (leb b top_number) (rises_above b l) p) in
          rw (p, and_yes (ltb a b), and_yes (climbs (bit_or high a) (bit_and up r))) (sym (one_step s))
      go (inr p) = rw (p, and_no (ltb a b), and_no (leb a top_number), and_no (climbs high up), and_no (climbs (bit_or high a) (bit_and up r)))

pub rises-first : (p : ℕ) (s : List ℕ) → 0 < length s → rises_above p s ≡ (ltb p (get_or s 0 0) && rest (get_or s 0 0) (drop 1 s))
rises-first p [] h = absurd (omega arith)
rises-first p (x ∷ xs) h = refl

pub rises_more : (s : List ℕ) (i high up r : ℕ) (q t : Bool) → 1 ≤ i → i < length s → up < 18446744073709551616 → r < 18446744073709551616
    → (r + get_or s i 0) % 2 ^ 64 ≡ get_or s (i - 1) 0 → q ≡ (t && (climbs high up && rest (get_or s (i - 1) 0) (drop i s)))
    → q ≡ (t && (climbs (bit_or high (get_or s (i - 1) 0)) (bit_and up r) && rest (get_or s (i + 1 - 1) 0) (drop (i + 1) s)))
rises_more s i high up r q t o h m n w e =
    let z : i + 1 - 1 ≡ i = omega arith in
    rw z (e ∙ ap (λ (x : Bool). t && x) (ap (λ (l : List ℕ). climbs high up && rest (get_or s (i - 1) 0) l) (here s i h) ∙ steps high up (get_or s (i - 1) 0) (get_or s i 0) r m n w (drop (i + 1) s)))

-- the first isn't above p, or the last is no sample number: then they don't rise. Else it goes by the steps between
rises_not : (p : ℕ) (s : List ℕ) → 0 < length s → get_or s 0 0 ≤ p → false ≡ rises_above p s
rises_not p s h k = sym (rises-first p s h ∙ ap (λ (t : Bool). t && rest (get_or s 0 0) (drop 1 s)) (le-ltb p (get_or s 0 0) k))

past : (p k : ℕ) (s : List ℕ) → length s ≡ suc k → top_number < get_or s k 0 → false ≡ rises_above p s
past p k [] e h = absurd (omega arith)
past p zero (x ∷ xs) e h = rw (lt-leb x top_number h) (sym (and_no (ltb p x)))
past p (suc k) (x ∷ xs) e h = rw (← (past x k xs (omega arith) h), and_no (leb x top_number), and_no (ltb p x))

rises-past : (p : ℕ) (s : List ℕ) → 0 < length s → top_number < get_or s (length s - 1) 0 → false ≡ rises_above p s
rises-past p s h k = past p (length s - 1) s (omega arith) k

module _ (p : ℕ) (s : List ℕ) (x : ℕ) (f : Some x ≡ slice_get s 0) where
  some : 0 < length s
  some = slice_get_within s 0 x (sym f)

  pub rises_low : x ≤ p → false ≡ rises_above p s
  rises_low h = rises_not p s some (omega (arith, get_or_from_slice_get s 0 x 0 (sym f)))

  pub rises_high : (y : ℕ) → Some y ≡ slice_get s (length s - 1) → top_number < y → false ≡ rises_above p s
  rises_high y l h = rises-past p s some (omega (arith, get_or_from_slice_get s (length s - 1) y 0 (sym l)))

-- a difference that wraps
pub wrapped : (a b : ℕ) → a < 2 ^ 64 → b < 2 ^ 64 → (((a + (18446744073709551616 - b)) % 18446744073709551616 + b) % 2 ^ 64 ≡ a) × ((a + (18446744073709551616 - b)) % 18446744073709551616 < 18446744073709551616)
wrapped a b h k = (omega arith, omega arith)

-- whether n stands at i
pub holds_in_lem : (n : ℕ) (l : List ℕ) (i : ℕ) → i < length l → eqb (get_or l i 0) n ≡ holds_at n l i
holds_in_lem n [] i h = absurd (omega arith)
holds_in_lem n (m ∷ ms) zero h = refl
holds_in_lem n (m ∷ ms) (suc i) h = holds_in_lem n ms i (omega arith)

pub holds_out : (n : ℕ) (l : List ℕ) (i : ℕ) → length l ≤ i → false ≡ holds_at n l i
holds_out n [] i h = refl
holds_out n (m ∷ ms) zero h = absurd (omega arith)
holds_out n (m ∷ ms) (suc i) h = holds_out n ms i (omega arith)

pub take_min : (c : ℕ) (s : List ℕ) → take (min c (length s)) s ≡ take c s
take_min c s = go (leb c (length s)) refl
  where
    go : (t : Bool) → leb c (length s) ≡ t → take (min c (length s)) s ≡ take c s
    go true e = let w = leb-true c (length s) e in let z : min c (length s) ≡ c = omega arith in ap (λ (k : ℕ). take k s) z
    go false e = let w = leb-false c (length s) e in take_all (min c (length s)) s (omega arith) ∙ sym (take_all c s (omega arith))
