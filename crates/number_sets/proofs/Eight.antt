-- Eight words and their bits: words are told apart by their bits, and those made from a test have the bits that it passes. Assumes nothing.
use Prim.Native.Nat.{ℕ, zero, suc, ◌+◌, ◌-◌, ◌*◌, ◌/◌, ◌%◌, ◌^◌, ◌≤◌, ◌<◌}
use mathlib.Core.Path.{◌≡◌, refl, sym, ap, subst, ◌∙◌}
use mathlib.Core.Bool.{Bool, true, false, cond, ◌&&◌}
use mathlib.Core.List.{List, ◌∷◌}
use mathlib.Core.Logic.{◌⊎◌, inl, inr}
use lib.Dec.{eqb, ltb, leb}
use lib.ListN.{length, get_or, get_or-eq_default}
use lib.Seq.{ext_get_or}
use native.Mathlib.Omega.{arith}
use native.Mathlib.Nat.{div-one, div-div-eq-div-mul, pow-succ', pow-suc, div-add-mod, div-lt_iff_lt-mul, zero-lt-suc}
use borrow.Author.Tests.{eqb-true, eqb-false, eq-eqb, ne_eqb, ltb-true, ltb-false, leb-true, leb-false, le-leb, lt-ltb}
use Rattle.sets.specs.Sets.{has, only, those}
use Rattle.sets.proofs.Bools.{decide, and_no}
use Rattle.sets.proofs.Has.{has-only, From-only}
use Rattle.sets.proofs.Those.{From-those, has_those_is}
use Rattle.std.specs.Prelude.{None}
use Rattle.std.specs.Bool.{then_some}
use Rattle.sets.proofs.First.{first-is, empty-none, empty-some}
use Rattle.number_sets.proofs.First.{first_none, first_some}
use Rattle.number_sets.specs.Bits.{bit_of, bit_at, next_bit, word_of, words_of, eight_words}
use Rattle.number_sets.proofs.Bit.{digit, digit_zero}

-- eight words of 32 bits
pub record Eight (ws : List ℕ) : Type 0 where
  pub long : length ws ≡ 8
  pub fit : (k : ℕ) → get_or ws k 0 < 2 ^ 32

pub bit_past : (ws : List ℕ) (i : ℕ) → length ws ≡ 8 → 256 ≤ i → bit_at ws i ≡ false
bit_past ws i e h = ap (λ (w : ℕ). bit_of w (i % 32)) (get_or-eq_default ws 0 {n = i / 32} (omega arith)) ∙ digit_zero (31 - i % 32)

-- two tests that agree both ways
pub leb-same : (a b c d : ℕ) → (a ≤ b → c ≤ d) → (c ≤ d → a ≤ b) → leb a b ≡ leb c d
leb-same a b c d f g = go (decide (leb a b))
  where
    go : (leb a b ≡ true) ⊎ (leb a b ≡ false) → leb a b ≡ leb c d
    go (inl e) = e ∙ sym (le-leb c d (f (leb-true a b e)))
    go (inr e) = e ∙ sym (other (decide (leb c d)))
      where
        other : (leb c d ≡ true) ⊎ (leb c d ≡ false) → leb c d ≡ false
        other (inl z) = absurd (omega (arith, g (leb-true c d z), leb-false a b e))
        other (inr z) = z

pub ltb-same : (a b c d : ℕ) → (a < b → c < d) → (c < d → a < b) → ltb a b ≡ ltb c d
ltb-same a b c d f g = go (decide (ltb a b))
  where
    go : (ltb a b ≡ true) ⊎ (ltb a b ≡ false) → ltb a b ≡ ltb c d
    go (inl e) = e ∙ sym (lt-ltb c d (f (ltb-true a b e)))
    go (inr e) = e ∙ sym (other (decide (ltb c d)))
      where
        other : (ltb c d ≡ true) ⊎ (ltb c d ≡ false) → ltb c d ≡ false
        other (inl z) = absurd (omega (arith, g (ltb-true c d z), ltb-false a b e))
        other (inr z) = z

pub eqb_same : (a b c d : ℕ) → (a ≡ b → c ≡ d) → (c ≡ d → a ≡ b) → eqb a b ≡ eqb c d
eqb_same a b c d f g = go (decide (eqb a b))
  where
    go : (eqb a b ≡ true) ⊎ (eqb a b ≡ false) → eqb a b ≡ eqb c d
    go (inl e) = e ∙ sym (eq-eqb c d (f (eqb-true a b e)))
    go (inr e) = e ∙ sym (ne_eqb c d (λ (z : c ≡ d). eqb-false a b e (g z)))

-- A WORD IS ITS BITS

pub halved : (w k : ℕ) → w < 2 ^ suc k → w / 2 < 2 ^ k
halved w k h = (div-lt_iff_lt-mul (zero-lt-suc 1)).1 (subst (λ (x : ℕ). w < x) (pow-suc 2 k) h)

pub up : (w e : ℕ) → digit (w / 2) e ≡ digit w (suc e)
up w e = ap (λ (x : ℕ). eqb (x % 2) 1) (div-div-eq-div-mul w 2 (2 ^ e) ∙ ap (λ (x : ℕ). w / x) (sym (pow-succ' 2 e)))

pub low_digit : (w : ℕ) (t : Bool) → digit w 0 ≡ t → w % 2 ≡ cond t 1 0
low_digit w t e = go (w % 2) refl (omega arith) t (sym (ap (λ (x : ℕ). eqb (x % 2) 1) (div-one w)) ∙ e)
  where
    go : (r : ℕ) → w % 2 ≡ r → r < 2 → (t : Bool) → eqb (w % 2) 1 ≡ t → w % 2 ≡ cond t 1 0
    go r q h true f = eqb-true (w % 2) 1 f
    go zero q h false f = q
    go (suc zero) q h false f = absurd (eqb-false (w % 2) 1 f q)
    go (suc (suc r)) q h false f = absurd (omega arith)

word_is : (p : ℕ → Bool) (s k w : ℕ) → w < 2 ^ k → ((j : ℕ) → j < k → digit w (k - suc j) ≡ p (s + j)) → w ≡ word_of p s k
unfolding word_of
word_is p s zero w h e = omega arith
word_is p s (suc k) w h e =
    let r : w / 2 ≡ word_of p s k = word_is p s k (w / 2) (halved w k h) (λ j l.
    let d : suc (k - suc j) ≡ suc k - suc j = omega arith in
    up w (k - suc j) ∙ ap (digit w) d ∙ e j (omega arith)) in
    let z : suc k - suc k ≡ 0 = omega arith in
    let o : w % 2 ≡ cond (p (s + k)) 1 0 = low_digit w (p (s + k)) (ap (digit w) (sym z) ∙ e k (omega arith)) in
    let b : w ≡ w / 2 * 2 + w % 2 = omega arith in
    b ∙ ap (λ (x : ℕ). x * 2 + w % 2) r ∙ ap (λ (x : ℕ). word_of p s k * 2 + x) o

word_bit : (p : ℕ → Bool) (s k j : ℕ) → j < k → digit (word_of p s k) (k - suc j) ≡ p (s + j)
unfolding word_of
word_bit p s zero j h = absurd (omega arith)
word_bit p s (suc k) j h = go (decide (ltb j k)) (word_bit p s k j)
  where
    small : (t : Bool) → cond t 1 0 ≤ 1
    small true = omega arith
    small false = omega arith

    odd : (t : Bool) → eqb (cond t 1 0) 1 ≡ t
    odd true = refl
    odd false = refl

    go : (ltb j k ≡ true) ⊎ (ltb j k ≡ false) → (j < k → digit (word_of p s k) (k - suc j) ≡ p (s + j)) → digit (word_of p s k * 2 + cond (p (s + k)) 1 0) (suc k - suc j) ≡ p (s + j)
    go (inl e) r =
        let q : j < k = ltb-true j k e in
        let w : suc k - suc j ≡ suc (k - suc j) = omega arith in
        let half : (word_of p s k * 2 + cond (p (s + k)) 1 0) / 2 ≡ word_of p s k = omega (arith, small (p (s + k))) in
        ap (digit (word_of p s k * 2 + cond (p (s + k)) 1 0)) w
        ∙ sym (up (word_of p s k * 2 + cond (p (s + k)) 1 0) (k - suc j))
        ∙ ap (λ (z : ℕ). digit z (k - suc j)) half
        ∙ r q
    go (inr e) r =
        let q : j ≡ k = omega (arith, ltb-false j k e) in
        let w : suc k - suc j ≡ 0 = omega arith in
        let low : (word_of p s k * 2 + cond (p (s + k)) 1 0) % 2 ≡ cond (p (s + k)) 1 0 = omega (arith, small (p (s + k))) in
        ap (digit (word_of p s k * 2 + cond (p (s + k)) 1 0)) w
        ∙ ap (λ (z : ℕ). eqb (z % 2) 1) (div-one (word_of p s k * 2 + cond (p (s + k)) 1 0))
        ∙ ap (λ (z : ℕ). eqb z 1) low
        ∙ odd (p (s + k))
        ∙ ap (λ (z : ℕ). p (s + z)) (sym q)

words_long : (p : ℕ → Bool) (s m : ℕ) → length (words_of p s m) ≡ m
unfolding words_of
words_long p s zero = refl
words_long p s (suc m) = ap suc (words_long p (s + 32) m)

word_at : (p : ℕ → Bool) (s m w : ℕ) → w < m → get_or (words_of p s m) w 0 ≡ word_of p (s + 32 * w) 32
unfolding words_of
word_at p s zero w h = absurd (omega arith)
word_at p s (suc m) zero h = ap (λ (z : ℕ). word_of p z 32) (omega arith)
word_at p s (suc m) (suc w) h = word_at p (s + 32) m w (omega arith) ∙ ap (λ (z : ℕ). word_of p z 32) (omega arith)

-- the words made from a test have its bits
pub bit_of_lem : (p : ℕ → Bool) (i : ℕ) → i < 256 → bit_at (eight_words p) i ≡ p i
bit_of_lem p i h =
    ap (λ (z : ℕ). eqb ((z / 2 ^ (31 - i % 32)) % 2) 1) (word_at p 0 8 (i / 32) (omega arith))
    ∙ ap (λ (z : ℕ). eqb ((word_of p (0 + 32 * (i / 32)) 32 / 2 ^ z) % 2) 1) (omega arith)
    ∙ word_bit p (0 + 32 * (i / 32)) 32 (i % 32) (omega arith)
    ∙ ap p (omega (arith, div-add-mod i 32))

-- and are the only ones
pub words_are : (p : ℕ → Bool) (ws : List ℕ) → Eight ws → ((i : ℕ) → i < 256 → bit_at ws i ≡ p i) → ws ≡ eight_words p
words_are p ws h e = ext_get_or 0 ws (eight_words p) (h.long ∙ sym (words_long p 0 8)) go
  where
    go : (k : ℕ) → k < length ws → get_or ws k 0 ≡ get_or (eight_words p) k 0
    go k l = word_is p (0 + 32 * k) 32 (get_or ws k 0) (h.fit k) bit ∙ sym (word_at p 0 8 k (omega (arith, h.long)))
      where
        bit : (j : ℕ) → j < 32 → digit (get_or ws k 0) (32 - suc j) ≡ p (0 + 32 * k + j)
        bit j u =
            let q : (32 * k + j) / 32 ≡ k = omega arith in
            let r : (32 * k + j) % 32 ≡ j = omega arith in
            let d : 32 - suc j ≡ 31 - j = omega arith in
            ap (digit (get_or ws k 0)) d
            ∙ sym (ap (λ (x : ℕ). bit_of (get_or ws x 0) ((32 * k + j) % 32)) q ∙ ap (bit_of (get_or ws k 0)) r)
            ∙ e (32 * k + j) (omega (arith, h.long)) ∙ ap p (omega arith)

-- only the test's answers count
word_same : (p q : ℕ → Bool) (s k : ℕ) → ((j : ℕ) → j < k → p (s + j) ≡ q (s + j)) → word_of p s k ≡ word_of q s k
unfolding word_of
word_same p q s zero h = refl
word_same p q s (suc k) h =
    ap (λ (x : ℕ). x * 2 + cond (p (s + k)) 1 0) (word_same p q s k (λ j l. h j (omega arith)))
    ∙ ap (λ (t : Bool). word_of q s k * 2 + cond t 1 0) (h k (omega arith))

words-agree : (p q : ℕ → Bool) (s m : ℕ) → ((j : ℕ) → j < 32 * m → p (s + j) ≡ q (s + j)) → words_of p s m ≡ words_of q s m
unfolding words_of
words-agree p q s zero h = refl
words-agree p q s (suc m) h =
    ap (λ (w : ℕ). w ∷ words_of p (s + 32) m) (word_same p q s 32 (λ j l. h j (omega arith)))
    ∙ ap (λ (l : List ℕ). word_of q s 32 ∷ l) (words-agree p q (s + 32) m (λ j l.
    let e : s + 32 + j ≡ s + (32 + j) = omega arith in
    ap p e ∙ h (32 + j) (omega arith) ∙ ap q (sym e)))

pub words_same : (p q : ℕ → Bool) → ((i : ℕ) → i < 256 → p i ≡ q i) → eight_words p ≡ eight_words q
words_same p q h = words-agree p q 0 8 (λ j l. let e : 0 + j ≡ j = omega arith in ap p e ∙ h j (omega arith) ∙ ap q (sym e))

-- and they are eight words
word_small : (p : ℕ → Bool) (s k : ℕ) → word_of p s k < 2 ^ k
unfolding word_of
word_small p s zero = omega arith
word_small p s (suc k) = go (p (s + k)) (word_small p s k)
  where
    go : (t : Bool) → word_of p s k < 2 ^ k → word_of p s k * 2 + cond t 1 0 < 2 ^ suc k
    go true h = omega (arith, pow-suc 2 k)
    go false h = omega (arith, pow-suc 2 k)

pub eight_words_lem : (p : ℕ → Bool) → Eight (eight_words p)
eight_words_lem p = record { long = words_long p 0 8; fit = λ k. fits k (decide (ltb k 8)) }
  where
    fits : (k : ℕ) → (ltb k 8 ≡ true) ⊎ (ltb k 8 ≡ false) → get_or (eight_words p) k 0 < 2 ^ 32
    fits k (inl e) = subst (λ (x : ℕ). x < 2 ^ 32) (sym (word_at p 0 8 k (ltb-true k 8 e))) (word_small p (0 + 32 * k) 32)
    fits k (inr e) = subst (λ (x : ℕ). x < 2 ^ 32) (sym (get_or-eq_default (eight_words p) 0 {n = k} (omega (arith, words_long p 0 8, ltb-false k 8 e)))) (omega arith)

-- THE NEXT BIT

module _ (ws : List ℕ) (k c : ℕ) where
  pub has_left : (m : ℕ) → has (only (leb c) (those k 0 (bit_at ws))) m ≡ (leb c m && ((leb 0 m && ltb m (0 + k)) && bit_at ws m))
  has_left m = has-only (leb c) (those k 0 (bit_at ws)) m ∙ ap (λ (t : Bool). leb c m && t) (has_those_is k 0 (bit_at ws) m)

  -- a test that fails
  off : (m : ℕ) → (c ≤ m → m < k → bit_at ws m ≡ false) → has (only (leb c) (those k 0 (bit_at ws))) m ≡ false
  off m f = has_left m ∙ go (decide (leb c m)) (decide (ltb m (0 + k)))
    where
      go : (leb c m ≡ true) ⊎ (leb c m ≡ false) → (ltb m (0 + k) ≡ true) ⊎ (ltb m (0 + k) ≡ false) → (leb c m && ((leb 0 m && ltb m (0 + k)) && bit_at ws m)) ≡ false
      go (inr e) g = rw e refl
      go (inl e) (inr g) = rw (e, g, and_no (leb 0 m)) refl
      go (inl e) (inl g) = rw (f (leb-true c m e) (omega (arith, ltb-true m (0 + k) g)), and_no (leb 0 m && ltb m (0 + k)), and_no (leb c m)) refl

  pub next_bit_none : ((m : ℕ) → c ≤ m → m < k → bit_at ws m ≡ false) → None ≡ next_bit ws k c
  next_bit_none f = sym (first_none (only (leb c) (those k 0 (bit_at ws))) (empty-none (only (leb c) (those k 0 (bit_at ws))) (λ m. off m (f m))))

  pub next_bit_is : (r : ℕ) → c ≤ r → bit_at ws r ≡ true → ((m : ℕ) → c ≤ m → m < r → bit_at ws m ≡ false) → then_some (ltb r k) r ≡ next_bit ws k c
  next_bit_is r l e f = go (decide (ltb r k))
    where
      go : (ltb r k ≡ true) ⊎ (ltb r k ≡ false) → then_some (ltb r k) r ≡ next_bit ws k c
      go (inl g) =
          let h : r < k = ltb-true r k g in
          let here : has (only (leb c) (those k 0 (bit_at ws))) r ≡ true =
          has_left r ∙ rw (le-leb c r l, le-leb 0 r (omega arith), lt-ltb r (0 + k) (omega arith), e) refl in
          ap (λ (t : Bool). then_some t r) g
          ∙ sym (first_some r (only (leb c) (those k 0 (bit_at ws))) (empty-some r (only (leb c) (those k 0 (bit_at ws))) here)
          (first-is 0 0 r (only (leb c) (those k 0 (bit_at ws))) (From-only 0 (leb c) (those k 0 (bit_at ws)) (From-those k 0 (bit_at ws))) here (λ m q. off m (λ a b. f m a q))))
      go (inr g) =
          let h : k ≤ r = ltb-false r k g in
          ap (λ (t : Bool). then_some t r) g ∙ next_bit_none (λ m a b. f m a (omega arith))
