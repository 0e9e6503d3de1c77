-- The numbers that join a set, one by one. Assumes nothing.
use Prim.Native.Nat.{ℕ, zero, suc, ◌+◌, ◌-◌, ◌/◌, ◌%◌, ◌^◌, ◌≤◌, ◌<◌, max}
use mathlib.Core.Path.{◌≡◌, refl, sym, ap, ◌∙◌}
use mathlib.Core.Bool.{Bool, true, false, cond, ◌&&◌, ◌||◌}
use mathlib.Core.List.{List, [], ◌∷◌}
use mathlib.Core.Logic.{◌⊎◌, inl, inr}
use lib.Dec.{eqb, ltb, leb}
use lib.ListN.{length, get_or, set, drop, length-set, drop_of_length-le}
use lib.Seq.{get_or-set_same, get_or-set_other, drop-cons}
use lib.Bits.{bit_or, or_shr, or_mod, or_lt}
use lib.Pow.{pow_pos, pow-add, pow-lt, shl-shr}
use native.Mathlib.Omega.{arith}
use native.Mathlib.Numerals.{add-one}
use native.Mathlib.Nat.{div_self, div-eq_of_lt, mul-mod_left, pow-suc, div-add-mod}
use borrow.Author.Tests.{eqb-true, eqb-false, ne_eqb, ltb-true, ltb-false, leb-true, leb-false, le-leb, lt-leb}
use Rattle.sets.specs.Sets.{has}
use Rattle.sets.proofs.Bools.{decide, or_assoc, or_no}
use Rattle.number_sets.specs.Bits.{bit_of, bit_at, eight_words, in_window, span}
use Rattle.std.specs.Prelude.{Some, None}
use Rattle.number_sets.specs.Words.{place_in}
use Rattle.number_sets.proofs.Bit.{digit}
use Rattle.number_sets.proofs.Eight.{Eight, eqb_same, words_are, bit_of_lem}

-- bit j of 2 ^ k
pub one_bit : (k j : ℕ) → 2 ^ k / 2 ^ j % 2 ≡ cond (eqb j k) 1 0
one_bit k j = go (eqb j k) refl (ltb j k) refl
  where
    go : (t : Bool) → eqb j k ≡ t → (u : Bool) → ltb j k ≡ u → 2 ^ k / 2 ^ j % 2 ≡ cond t 1 0
    go true e u f =
        ap (λ (x : ℕ). 2 ^ x / 2 ^ j % 2) (sym (eqb-true j k e)) ∙ ap (λ (x : ℕ). x % 2) (div_self (pow_pos j))
    go false e true f =
        let h : j < k = ltb-true j k f in
        let w : k ≡ suc (k - suc j) + j = omega arith in
        ap (λ (x : ℕ). 2 ^ x / 2 ^ j % 2) w
        ∙ ap (λ (x : ℕ). x / 2 ^ j % 2) (pow-add 2 (suc (k - suc j)) j)
        ∙ ap (λ (x : ℕ). x % 2) (shl-shr (2 ^ suc (k - suc j)) j)
        ∙ ap (λ (x : ℕ). x % 2) (pow-suc 2 (k - suc j))
        ∙ mul-mod_left (2 ^ (k - suc j)) 2
    go false e false f =
        let h : k < j = omega (arith, ltb-false j k f, eqb-false j k e) in
        ap (λ (x : ℕ). x % 2) (div-eq_of_lt (pow-lt h))

pub two : (n : ℕ) → (n % 2 ≡ 0) ⊎ (n % 2 ≡ 1)
two n = go (n % 2) (omega arith)
  where
    go : (r : ℕ) → r < 2 → (r ≡ 0) ⊎ (r ≡ 1)
    go zero h = inl refl
    go (suc zero) h = inr refl
    go (suc (suc r)) h = absurd (omega arith)

pub or_digit : (w k j : ℕ) → digit (bit_or w (2 ^ k)) j ≡ (digit w j || eqb j k)
or_digit w k j =
    ap (λ (x : ℕ). eqb (x % 2) 1) (or_shr w (2 ^ k) j)
    ∙ ap (λ (x : ℕ). eqb x 1) (or_mod (w / 2 ^ j) (2 ^ k / 2 ^ j) 1)
    ∙ ap (λ (x : ℕ). eqb (bit_or (w / 2 ^ j % 2) x) 1) (one_bit k j)
    ∙ go (eqb j k) (two (w / 2 ^ j))
  where
    go : (t : Bool) → (w / 2 ^ j % 2 ≡ 0) ⊎ (w / 2 ^ j % 2 ≡ 1) → eqb (bit_or (w / 2 ^ j % 2) (cond t 1 0)) 1 ≡ (eqb (w / 2 ^ j % 2) 1 || t)
    go true (inl e) = rw e refl
    go true (inr e) = rw e refl
    go false (inl e) = rw e refl
    go false (inr e) = rw e refl

-- the words with the bit at place p set
abbrev pub with_bit : List ℕ → ℕ → List ℕ
with_bit ws p = set ws (p / 32) (bit_or (get_or ws (p / 32) 0) (2 ^ (31 - p % 32)))

module _ (ws : List ℕ) (p : ℕ) (h : Eight ws) (u : p < 256) where
  in_ws : p / 32 < length ws
  in_ws = omega (arith, h.long)

  with_eight : Eight (with_bit ws p)
  with_eight = record { long = length-set ws (p / 32) _ ∙ h.long; fit = λ k. fits k (decide (eqb k (p / 32))) }
    where
      fits : (k : ℕ) → (eqb k (p / 32) ≡ true) ⊎ (eqb k (p / 32) ≡ false) → get_or (with_bit ws p) k 0 < 2 ^ 32
      fits k (inl e) = rw (eqb-true k (p / 32) e, get_or-set_same ws (p / 32) (bit_or (get_or ws (p / 32) 0) (2 ^ (31 - p % 32))) 0 in_ws) (or_lt 32 (get_or ws (p / 32) 0) (2 ^ (31 - p % 32)) (h.fit (p / 32)) (pow-lt {i = 31 - p % 32} {j = 32} (omega arith)))
      fits k (inr e) = rw (get_or-set_other ws (p / 32) k (bit_or (get_or ws (p / 32) 0) (2 ^ (31 - p % 32))) 0 (eqb-false k (p / 32) e)) (h.fit k)

  with_bit_lem : (i : ℕ) → bit_at (with_bit ws p) i ≡ (bit_at ws i || eqb p i)
  with_bit_lem i = go (decide (eqb (i / 32) (p / 32)))
    where
      go : (eqb (i / 32) (p / 32) ≡ true) ⊎ (eqb (i / 32) (p / 32) ≡ false) → bit_at (with_bit ws p) i ≡ (bit_at ws i || eqb p i)
      go (inl e) =
          let q : i / 32 ≡ p / 32 = eqb-true (i / 32) (p / 32) e in
          ap (λ (x : ℕ). bit_of (get_or (with_bit ws p) x 0) (i % 32)) q
          ∙ ap (λ (x : ℕ). bit_of x (i % 32)) (get_or-set_same ws (p / 32) (bit_or (get_or ws (p / 32) 0) (2 ^ (31 - p % 32))) 0 in_ws)
          ∙ or_digit (get_or ws (p / 32) 0) (31 - p % 32) (31 - i % 32)
          ∙ ap (λ (t : Bool). bit_of (get_or ws (p / 32) 0) (i % 32) || t) (eqb_same (31 - i % 32) (31 - p % 32) p i (λ z. omega (arith, div-add-mod i 32, div-add-mod p 32)) (λ z. ap (λ (x : ℕ). 31 - x % 32) (sym z)))
          ∙ ap (λ (x : ℕ). bit_of (get_or ws x 0) (i % 32) || eqb p i) (sym q)
      go (inr e) =
          ap (λ (x : ℕ). bit_of x (i % 32)) (get_or-set_other ws (p / 32) (i / 32) (bit_or (get_or ws (p / 32) 0) (2 ^ (31 - p % 32))) 0 (eqb-false (i / 32) (p / 32) e))
          ∙ sym (or_no (bit_at ws i))
          ∙ ap (λ (t : Bool). bit_at ws i || t) (sym (ne_eqb p i (λ (z : p ≡ i). eqb-false (i / 32) (p / 32) e (ap (λ (x : ℕ). x / 32) (sym z)))))

-- THE LOOP: what is to be comes of what is there and the numbers left
pub record Joining (q : ℕ → Bool) (c b : ℕ) (ns : List ℕ) (count : ℕ) (words : List ℕ) (i : ℕ) : Type 0 where
  pub eight : Eight words
  pub small : count < 2 ^ 32
  pub counts : max c (span b (in_window b ns)) ≡ max count (span b (in_window b (drop i ns)))
  pub bits : (k : ℕ) → k < 256 → (q k || has ns (b + k)) ≡ (bit_at words k || has (drop i ns) (b + k))

-- the number at i, and those after it
next-left : (ns : List ℕ) (i : ℕ) → i < length ns → drop i ns ≡ get_or ns i 0 ∷ drop (i + 1) ns
next-left ns i h = rw (add-one, drop-cons ns i 0)

-- a number has a place if it lies in the window
module _ (b n : ℕ) where
  place_cases : (t u : Bool) → leb b n ≡ t → ltb n (b + 256) ≡ u → (p : ℕ) → cond (t && u) (Some (n - b)) None ≡ Some p → (n ≡ b + p) × (p < 256)
  place_cases true true e f p z =
      let s : n - b ≡ p = cc in
      let lo = leb-true b n e in
      let hi = ltb-true n (b + 256) f in (omega arith, omega arith)
  place_cases true false e f p z = cc
  place_cases false u e f p z = cc

  placed : (p : ℕ) → place_in b n ≡ Some p → (n ≡ b + p) × (p < 256)
  placed p e = place_cases (leb b n) (ltb n (b + 256)) refl refl p e

  unplaced : place_in b n ≡ None → (n < b) ⊎ (b + 256 ≤ n)
  unplaced e = go (leb b n) refl (ltb n (b + 256)) refl e
    where
      go : (t : Bool) → leb b n ≡ t → (u : Bool) → ltb n (b + 256) ≡ u → cond (t && u) (Some (n - b)) None ≡ None → (n < b) ⊎ (b + 256 ≤ n)
      go false f u g z = inl (leb-false b n f)
      go true f false g z = inr (ltb-false n (b + 256) g)
      go true f true g z = cc

outside : (b n : ℕ) → (n < b) ⊎ (b + 256 ≤ n) → (leb b n && leb n (b + 255)) ≡ false
outside b n (inl h) = rw (lt-leb b n h) refl
outside b n (inr h) = rw (le-leb b n (omega arith), lt-leb n (b + 255) (omega arith)) refl

module _ (q : ℕ → Bool) (c b : ℕ) (ns : List ℕ) (count : ℕ) (words : List ℕ) (i : ℕ) (h : Joining q c b ns count words i) (u : i < length ns) where
  counts_on : max c (span b (in_window b ns)) ≡ max count (span b (in_window b (get_or ns i 0 ∷ drop (i + 1) ns)))
  counts_on = h.counts ∙ ap (λ (l : List ℕ). max count (span b (in_window b l))) (next-left ns i u)

  bits-on : (k : ℕ) → k < 256 → (q k || has ns (b + k)) ≡ (bit_at words k || (eqb (get_or ns i 0) (b + k) || has (drop (i + 1) ns) (b + k)))
  bits-on k w = h.bits k w ∙ ap (λ (l : List ℕ). bit_at words k || has l (b + k)) (next-left ns i u)

  pub joining_skip : place_in b (get_or ns i 0) ≡ None → Joining q c b ns count words (i + 1)
  joining_skip e =
      let o = unplaced b (get_or ns i 0) e in
      let w = in_window b (drop (i + 1) ns) in
      record {
        eight = h.eight;
        small = h.small;
        counts = counts_on ∙ ap (λ (t : Bool). max count (span b (cond t (get_or ns i 0 ∷ w) w))) (outside b (get_or ns i 0) o);
        bits = λ k v. bits-on k v ∙ ap (λ (t : Bool). bit_at words k || (t || has (drop (i + 1) ns) (b + k))) (ne_eqb (get_or ns i 0) (b + k) (off k v o));
      }
    where
      off : (k : ℕ) → k < 256 → (get_or ns i 0 < b) ⊎ (b + 256 ≤ get_or ns i 0) → get_or ns i 0 ≡ b + k → ⊥
      off k v (inl w) z = omega arith
      off k v (inr w) z = omega arith

  pub joining_set : (p : ℕ) → place_in b (get_or ns i 0) ≡ Some p → Joining q c b ns (max count (p + 1)) (with_bit words p) (i + 1)
  joining_set p e =
      let a : get_or ns i 0 ≡ b + p = (placed b (get_or ns i 0) p e).0 in
      let l : p < 256 = (placed b (get_or ns i 0) p e).1 in
      let w = in_window b (drop (i + 1) ns) in
      let t : (leb b (get_or ns i 0) && leb (get_or ns i 0) (b + 255)) ≡ true = rw (le-leb b (get_or ns i 0) (omega arith), le-leb (get_or ns i 0) (b + 255) (omega arith)) refl in
      let m : max count (max (suc (get_or ns i 0) - b) (span b (in_window b (drop (i + 1) ns)))) ≡ max (max count (p + 1)) (span b (in_window b (drop (i + 1) ns))) = omega arith in
      record {
        eight = with_eight words p h.eight l;
        small = omega (arith, h.small);
        counts = counts_on ∙ ap (λ (s : Bool). max count (span b (cond s (get_or ns i 0 ∷ w) w))) t ∙ m;
        bits = λ k v. bits-on k v
            ∙ ap (λ (s : Bool). bit_at words k || (s || has (drop (i + 1) ns) (b + k))) (eqb_same (get_or ns i 0) (b + k) p k (λ z. omega arith) (λ z. omega arith))
            ∙ sym (or_assoc (bit_at words k) (eqb p k) (has (drop (i + 1) ns) (b + k)))
            ∙ ap (λ (s : Bool). s || has (drop (i + 1) ns) (b + k)) (sym (with_bit_lem words p h.eight l k));
      }

pub joining_end : (c b : ℕ) (ns ws old : List ℕ) (count : ℕ) (words : List ℕ) (i : ℕ) → old ≡ eight_words (λ k. (leb 0 k && ltb k c) && bit_at ws k) → Joining (bit_at old) c b ns count words i → length ns ≤ i
    → (count ≡ max c (span b (in_window b ns))) × (words ≡ eight_words (λ k. (ltb k c && bit_at ws k) || has ns (b + k)))
joining_end c b ns ws old count words i o h l =
    let e : drop i ns ≡ [] = drop_of_length-le ns l in
    let m : max count 0 ≡ count = omega arith in (
      sym (h.counts ∙ ap (λ (s : List ℕ). max count (span b (in_window b s))) e ∙ m),
      words_are (λ k. (ltb k c && bit_at ws k) || has ns (b + k)) words h.eight (λ k u.
          sym (ap (λ (t : Bool). t || has ns (b + k)) (sym (start k u)) ∙ h.bits k u ∙ ap (λ (s : List ℕ). bit_at words k || has s (b + k)) e ∙ or_no (bit_at words k))),
    )
  where
    start : (k : ℕ) → k < 256 → bit_at old k ≡ (ltb k c && bit_at ws k)
    start k u = ap (λ (s : List ℕ). bit_at s k) o ∙ bit_of_lem (λ j. (leb 0 j && ltb j c) && bit_at ws j) k u ∙ ap (λ (t : Bool). (t && ltb k c) && bit_at ws k) (le-leb 0 k (omega arith))
