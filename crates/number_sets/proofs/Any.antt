-- Whether any number of a list passes a test, number by number; below 2^63 the top bit of a wrapping difference tells the smaller. Assumes nothing.
use Prim.Native.Nat.{ℕ, ◌+◌, ◌-◌, ◌%◌, ◌≤◌, ◌<◌}
use mathlib.Core.Path.{◌≡◌, sym, ap, ap₂, refl, ◌∙◌}
use mathlib.Core.Bool.{Bool, true, false, ◌||◌}
use mathlib.Core.List.{List}
use mathlib.Core.Logic.{◌⊎◌, inl, inr}
use lib.Bits.{bit_or, bit_and, or_add_and, or_lt, and_le_l, and_le_r}
use lib.Dec.{ltb, leb}
use lib.ListN.{length, get_or, drop}
use native.Mathlib.Omega.{arith}
use borrow.Author.Tests.{ltb-true, ltb-false, leb-true, leb-false, le-leb, lt-leb, lt-ltb, le-ltb}
use Rattle.std.specs.List.{list_any}
use Rattle.sets.proofs.Bools.{decide, or_assoc, or_no}
use Rattle.sets.proofs.Loops.{here, done}
use Rattle.rising.proofs.Scans.{top, both_top}

-- one more is looked at: t tells of those before i, u of it too
pub any_step : (p : ℕ → Bool) (s : List ℕ) (i : ℕ) (q t u : Bool) → i < length s → u ≡ (t || p (get_or s i 0)) → q ≡ (t || list_any p (drop i s)) → q ≡ (u || list_any p (drop (i + 1) s))
any_step p s i q t u h f e =
    e ∙ ap (λ (l : List ℕ). t || list_any p l) (here s i h) ∙ sym (or_assoc t (p (get_or s i 0)) (list_any p (drop (i + 1) s)))
    ∙ ap (λ (v : Bool). v || list_any p (drop (i + 1) s)) (sym f)

pub any_end : (p : ℕ → Bool) (s : List ℕ) (i : ℕ) (q t : Bool) → length s ≤ i → q ≡ (t || list_any p (drop i s)) → t ≡ q
any_end p s i q t h e = sym (e ∙ ap (λ (l : List ℕ). t || list_any p l) (done s i h) ∙ or_no t)

-- the top bit of an or, and of an and
or_high : (a b : ℕ) → leb top (bit_or a b) ≡ (leb top a || leb top b)
or_high a b = go (decide (leb top a)) (decide (leb top b))
  where
    go : (leb top a ≡ true) ⊎ (leb top a ≡ false) → (leb top b ≡ true) ⊎ (leb top b ≡ false) → leb top (bit_or a b) ≡ (leb top a || leb top b)
    go (inl p) q = rw p (le-leb top (bit_or a b) (omega (arith, or_add_and a b, and_le_r a b, leb-true top a p)))
    go (inr p) (inl q) = rw (p, q) (le-leb top (bit_or a b) (omega (arith, or_add_and a b, and_le_l a b, leb-true top b q)))
    go (inr p) (inr q) = rw (p, q) (lt-leb top (bit_or a b) (or_lt 63 a b (leb-false top a p) (leb-false top b q)))

and_low : (a b : ℕ) → a < 18446744073709551616 → b < 18446744073709551616 → ltb (bit_and a b) top ≡ (ltb a top || ltb b top)
and_low a b m n = go (decide (ltb a top)) (decide (ltb b top))
  where
    go : (ltb a top ≡ true) ⊎ (ltb a top ≡ false) → (ltb b top ≡ true) ⊎ (ltb b top ≡ false) → ltb (bit_and a b) top ≡ (ltb a top || ltb b top)
    go (inl p) q = rw p (lt-ltb (bit_and a b) top (omega (arith, and_le_l a b, ltb-true a top p)))
    go (inr p) (inl q) = rw (p, q) (lt-ltb (bit_and a b) top (omega (arith, and_le_r a b, ltb-true b top q)))
    go (inr p) (inr q) = rw (p, q) (le-ltb (bit_and a b) top (both_top a b (ltb-false a top p) m (ltb-false b top q) n))

pub or_not : (a c : ℕ) → c < 18446744073709551616 → leb top (bit_or a (18446744073709551615 - c)) ≡ (leb top a || ltb c top)
or_not a c m = or_high a (18446744073709551615 - c) ∙ ap (λ (t : Bool). leb top a || t) (go (decide (ltb c top)))
  where
    go : (ltb c top ≡ true) ⊎ (ltb c top ≡ false) → leb top (18446744073709551615 - c) ≡ ltb c top
    go (inl p) = let h = ltb-true c top p in rw p (le-leb top (18446744073709551615 - c) (omega arith))
    go (inr p) = let h = ltb-false c top p in rw p (lt-leb top (18446744073709551615 - c) (omega arith))

or_mix : (a b c d : Bool) → ((a || b) || (c || d)) ≡ ((a || c) || (b || d))
or_mix true b c d = refl
or_mix false true true d = refl
or_mix false true false d = refl
or_mix false false c d = refl

-- r is the difference of x and b, for a b of at most 2^63
module _ (x b r : ℕ) (low : b ≤ top) (m : x < 18446744073709551616) (n : r < 18446744073709551616) (w : (r + b) % 18446744073709551616 ≡ x) where
  less : leb top (bit_and (18446744073709551615 - x) r) ≡ ltb x b
  less = go (decide (ltb x b)) (decide (ltb x top))
    where
      go : (ltb x b ≡ true) ⊎ (ltb x b ≡ false) → (ltb x top ≡ true) ⊎ (ltb x top ≡ false) → leb top (bit_and (18446744073709551615 - x) r) ≡ ltb x b
      go (inl p) q =
          let h = ltb-true x b p in
          rw p (le-leb top (bit_and (18446744073709551615 - x) r) (both_top (18446744073709551615 - x) r (omega arith) (omega arith) (omega arith) n))
      go (inr p) (inl q) =
          let h = ltb-false x b p in
          let k = ltb-true x top q in
          rw p (lt-leb top (bit_and (18446744073709551615 - x) r) (omega (arith, and_le_r (18446744073709551615 - x) r)))
      go (inr p) (inr q) =
          let k = ltb-false x top q in
          rw p (lt-leb top (bit_and (18446744073709551615 - x) r) (omega (arith, and_le_l (18446744073709551615 - x) r)))

  more : (leb top x || ltb r top) ≡ leb b x
  more = go (decide (leb top x)) (decide (leb b x))
    where
      go : (leb top x ≡ true) ⊎ (leb top x ≡ false) → (leb b x ≡ true) ⊎ (leb b x ≡ false) → (leb top x || ltb r top) ≡ leb b x
      go (inl p) q = let k = leb-true top x p in rw p (sym (le-leb b x (omega arith)))
      go (inr p) (inl q) =
          let k = leb-false top x p in
          let h = leb-true b x q in
          rw (p, q) (lt-ltb r top (omega arith))
      go (inr p) (inr q) =
          let k = leb-false top x p in
          let h = leb-false b x q in
          rw (p, q) (le-ltb r top (omega arith))

  pub less_or : (a : ℕ) → leb top (bit_or a (bit_and (18446744073709551615 - x) r)) ≡ (leb top a || ltb x b)
  less_or a = or_high a (bit_and (18446744073709551615 - x) r) ∙ ap (λ (t : Bool). leb top a || t) less

  pub more_or : (a c : ℕ) → c < 18446744073709551616 → (leb top (bit_or a x) || ltb (bit_and c r) top) ≡ ((leb top a || ltb c top) || leb b x)
  more_or a c f =
      ap₂ ◌||◌ (or_high a x) (and_low c r f n) ∙ or_mix (leb top a) (leb top x) (ltb c top) (ltb r top)
      ∙ ap (λ (t : Bool). (leb top a || ltb c top) || t) more
