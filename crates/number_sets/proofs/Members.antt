-- The members of a set, place by place: what a cut and numbers that join leave, how many there are, which comes next. Assumes nothing.
use Prim.Native.Nat.{ℕ, ◌+◌, ◌-◌, ◌^◌, ◌≤◌, ◌<◌, min}
use mathlib.Core.Path.{◌≡◌, refl, sym, ap, ◌∙◌}
use mathlib.Core.Bool.{Bool, true, false, ◌&&◌, ◌||◌, true≢false}
use mathlib.Core.List.{List}
use Rattle.std.specs.Prelude.{Option, Some, None, slice_get, unwrap_or}
use Rattle.std.specs.Bool.{then_some}
use mathlib.Core.Logic.{◌⊎◌, inl, inr}
use lib.Dec.{ltb, leb}
use lib.ListN.{length}
use native.Mathlib.Omega.{arith}
use borrow.Author.Tests.{ltb-true, ltb-false, leb-true, leb-false, le-leb, lt-ltb, le-ltb}
use Rattle.sets.specs.Sets.{has, union, only, between, those}
use Rattle.sets.proofs.Bools.{decide, and_left, and_right, or_comm}
use Rattle.sets.proofs.Has.{has-between, has-union, From-only}
use Rattle.sets.proofs.Those.{From-those, has_those_is, those_shift}
use Rattle.sets.proofs.First.{first-is, empty-none, empty-some}
use Rattle.number_sets.proofs.First.{first_none, first_some, first_gone, first_found}
use Rattle.number_sets.specs.Bits.{bit_at, next_bit, marked, eight_words, words_for, in_window}
use Rattle.number_sets.proofs.Eight.{leb-same, ltb-same, words_same, has_left}

-- whether a place is a member
pub has-marked : (k b : ℕ) (ws : List ℕ) (n : ℕ) → has (marked k b ws) n ≡ ((leb b n && ltb n (b + k)) && bit_at ws (n - b))
has-marked k b ws n = has_those_is k b (λ m. bit_at ws (m - b)) n

pub has-place : (k b : ℕ) (ws : List ℕ) (i : ℕ) → has (marked k b ws) (b + i) ≡ (ltb i k && bit_at ws i)
has-place k b ws i =
    let e : b + i - b ≡ i = omega arith in
    has-marked k b ws (b + i)
    ∙ ap (λ (t : Bool). (t && ltb (b + i) (b + k)) && bit_at ws (b + i - b)) (le-leb b (b + i) (omega arith))
    ∙ ap (λ (t : Bool). t && bit_at ws (b + i - b)) (ltb-same (b + i) (b + k) i k (λ z. omega arith) (λ z. omega arith))
    ∙ ap (λ (m : ℕ). ltb i k && bit_at ws m) e

ltb-min : (i x y : ℕ) → ltb i (min x y) ≡ (ltb i x && ltb i y)
ltb-min i x y = go (decide (ltb i x)) (decide (ltb i y))
  where
    go : (ltb i x ≡ true) ⊎ (ltb i x ≡ false) → (ltb i y ≡ true) ⊎ (ltb i y ≡ false) → ltb i (min x y) ≡ (ltb i x && ltb i y)
    go (inl e) (inl f) = lt-ltb i (min x y) (omega (arith, ltb-true i x e, ltb-true i y f)) ∙ sym (rw (e, f) refl)
    go (inr e) f = le-ltb i (min x y) (omega (arith, ltb-false i x e)) ∙ sym (rw e refl)
    go (inl e) (inr f) = le-ltb i (min x y) (omega (arith, ltb-false i y f)) ∙ sym (rw (e, f) refl)

pub cut_words : (lo hi k b : ℕ) (ws : List ℕ)
    → eight_words (λ i. (leb (lo - b) i && ltb i (min (min (hi + 1 - b) 256) k)) && bit_at ws i) ≡ words_for b (between lo hi (marked k b ws))
cut_words lo hi k b ws =
    words_same (λ i. (leb (lo - b) i && ltb i (min (min (hi + 1 - b) 256) k)) && bit_at ws i) (λ i. has (between lo hi (marked k b ws)) (b + i)) (λ i u.
    ap (λ (t : Bool). (t && ltb i (min (min (hi + 1 - b) 256) k)) && bit_at ws i) (leb-same (lo - b) i lo (b + i) (λ z. omega arith) (λ z. omega arith))
    ∙ ap (λ (t : Bool). (leb lo (b + i) && t) && bit_at ws i) (ltb-min i (min (hi + 1 - b) 256) k)
    ∙ ap (λ (t : Bool). (leb lo (b + i) && (t && ltb i k)) && bit_at ws i) (lt_le i hi b u)
    ∙ group (leb lo (b + i)) (leb (b + i) hi) (ltb i k) (bit_at ws i)
    ∙ ap (λ (t : Bool). (leb lo (b + i) && leb (b + i) hi) && t) (sym (has-place k b ws i))
    ∙ sym (has-between lo hi (marked k b ws) (b + i)))
  where
    lt_le : (i h c : ℕ) → i < 256 → ltb i (min (h + 1 - c) 256) ≡ leb (c + i) h
    lt_le i h c u = go (decide (leb (c + i) h))
      where
        go : (leb (c + i) h ≡ true) ⊎ (leb (c + i) h ≡ false) → ltb i (min (h + 1 - c) 256) ≡ leb (c + i) h
        go (inl e) = lt-ltb i (min (h + 1 - c) 256) (omega (arith, leb-true (c + i) h e)) ∙ sym e
        go (inr e) = le-ltb i (min (h + 1 - c) 256) (omega (arith, leb-false (c + i) h e)) ∙ sym e

    group : (p q r s : Bool) → ((p && (q && r)) && s) ≡ ((p && q) && (r && s))
    group true true r s = refl
    group true false r s = refl
    group false q r s = refl

-- in the window all numbers count
has_window : (b : ℕ) (ns : List ℕ) (i : ℕ) → i < 256 → has (in_window b ns) (b + i) ≡ has ns (b + i)
has_window b ns i u =
    has-between b (b + 255) ns (b + i)
    ∙ ap (λ (t : Bool). (t && leb (b + i) (b + 255)) && has ns (b + i)) (le-leb b (b + i) (omega arith))
    ∙ ap (λ (t : Bool). t && has ns (b + i)) (le-leb (b + i) (b + 255) (omega arith))

pub joined_words : (k b : ℕ) (ws ns : List ℕ) → eight_words (λ i. (ltb i k && bit_at ws i) || has ns (b + i)) ≡ words_for b (union (in_window b ns) (marked k b ws))
joined_words k b ws ns =
    words_same (λ i. (ltb i k && bit_at ws i) || has ns (b + i)) (λ i. has (union (in_window b ns) (marked k b ws)) (b + i)) (λ i u.
    sym (has-union (in_window b ns) (marked k b ws) (b + i)
    ∙ ap (λ (t : Bool). t || has (marked k b ws) (b + i)) (has_window b ns i u)
    ∙ ap (λ (t : Bool). has ns (b + i) || t) (has-place k b ws i)
    ∙ or_comm (has ns (b + i)) (ltb i k && bit_at ws i)))

pub size_is : (k b : ℕ) (ws : List ℕ) → length (those k 0 (bit_at ws)) ≡ length (marked k b ws)
size_is k b ws = those_shift k 0 b (bit_at ws) (λ n. bit_at ws (n - b)) (λ i u. let e : 0 + i ≡ b + i - b = omega arith in ap (bit_at ws) e)

-- THE NEXT MEMBER

-- what the next bit tells: there is one at place i
pub record NextIs (ws : List ℕ) (k c i : ℕ) : Type 0 where
  pub low : c ≤ i
  pub high : i < k
  pub bit : bit_at ws i ≡ true
  pub none : (m : ℕ) → c ≤ m → m < i → bit_at ws m ≡ false

module _ (ws : List ℕ) (k c : ℕ) where
  left_off : (m : ℕ) → c ≤ m → m < k → has (only (leb c) (those k 0 (bit_at ws))) m ≡ false → bit_at ws m ≡ false
  left_off m a b f =
      let t : (leb c m && ((leb 0 m && ltb m (0 + k)) && bit_at ws m)) ≡ false = sym (has_left ws k c m) ∙ f in
      rw (le-leb c m a, le-leb 0 m (omega arith), lt-ltb m (0 + k) (omega arith)) at t

  pub next_bit_gone : next_bit ws k c ≡ None → (m : ℕ) → c ≤ m → m < k → bit_at ws m ≡ false
  next_bit_gone e m a b = left_off m a b (first_gone (only (leb c) (those k 0 (bit_at ws))) e m)

  pub next_bit_some : (i : ℕ) → next_bit ws k c ≡ Some i → NextIs ws k c i
  next_bit_some i e =
      let f = first_found 0 i (only (leb c) (those k 0 (bit_at ws))) (From-only 0 (leb c) (those k 0 (bit_at ws)) (From-those k 0 (bit_at ws))) e in
      let t : (leb c i && ((leb 0 i && ltb i (0 + k)) && bit_at ws i)) ≡ true = sym (has_left ws k c i) ∙ f.0 in
      let s = and_right (leb c i) ((leb 0 i && ltb i (0 + k)) && bit_at ws i) t in
      let lo : c ≤ i = leb-true c i (and_left (leb c i) ((leb 0 i && ltb i (0 + k)) && bit_at ws i) t) in
      let hi : i < k = omega (arith, ltb-true i (0 + k) (and_right (leb 0 i) (ltb i (0 + k)) (and_left (leb 0 i && ltb i (0 + k)) (bit_at ws i) s))) in
      record { low = lo; high = hi; bit = and_right (leb 0 i && ltb i (0 + k)) (bit_at ws i) s; none = λ m a b. left_off m a (omega arith) (f.1 m b) }

-- what a member from c through top is
record Within (k b : ℕ) (ws : List ℕ) (c top n : ℕ) : Type 0 where
  pub above : c ≤ n
  pub below : n ≤ top
  pub low : b ≤ n
  pub high : n < b + k
  pub bit : bit_at ws (n - b) ≡ true

within : (k b : ℕ) (ws : List ℕ) (c top n : ℕ) → has (between c top (marked k b ws)) n ≡ true → Within k b ws c top n
within k b ws c top n e =
    let t : ((leb c n && leb n top) && ((leb b n && ltb n (b + k)) && bit_at ws (n - b))) ≡ true = sym (has-between c top (marked k b ws) n ∙ ap (λ (t : Bool). (leb c n && leb n top) && t) (has-marked k b ws n)) ∙ e in
    let p = and_left (leb c n && leb n top) ((leb b n && ltb n (b + k)) && bit_at ws (n - b)) t in
    let q = and_right (leb c n && leb n top) ((leb b n && ltb n (b + k)) && bit_at ws (n - b)) t in
    let r = and_left (leb b n && ltb n (b + k)) (bit_at ws (n - b)) q in
    record {
      above = leb-true c n (and_left (leb c n) (leb n top) p);
      below = leb-true n top (and_right (leb c n) (leb n top) p);
      low = leb-true b n (and_left (leb b n) (ltb n (b + k)) r);
      high = ltb-true n (b + k) (and_right (leb b n) (ltb n (b + k)) r);
      bit = and_right (leb b n && ltb n (b + k)) (bit_at ws (n - b)) q;
    }

module _ (k b : ℕ) (ws : List ℕ) (c top : ℕ) where
  off : ((n : ℕ) → Within k b ws c top n → ⊥) → (n : ℕ) → has (between c top (marked k b ws)) n ≡ false
  off f n = elim (decide (has (between c top (marked k b ws)) n)) [ inl e ↦ absurd (f n (within k b ws c top n e)) | inr e ↦ e ]

  none_is : ((n : ℕ) → Within k b ws c top n → ⊥) → None ≡ slice_get (between c top (marked k b ws)) 0
  none_is f = sym (first_none (between c top (marked k b ws)) (empty-none (between c top (marked k b ws)) (off f)))

  pub next-none : next_bit ws k (c - b) ≡ None → None ≡ slice_get (between c top (marked k b ws)) 0
  next-none e = none_is (λ n w. true≢false (sym w.bit ∙ next_bit_gone ws k (c - b) e (n - b) (omega (arith, w.above, w.low)) (omega (arith, w.high, w.low))))

  module _ (i : ℕ) (e : next_bit ws k (c - b) ≡ Some i) where
    next : NextIs ws k (c - b) i
    next = next_bit_some ws k (c - b) i e

    -- no member from c on stands before place i
    before : (n : ℕ) → Within k b ws c top n → n < b + i → ⊥
    before n w u = true≢false (sym w.bit ∙ next.none (n - b) (omega (arith, w.above, w.low)) (omega (arith, w.low)))

    next-over : top < b + i → None ≡ slice_get (between c top (marked k b ws)) 0
    next-over h = none_is (λ n w. before n w (omega (arith, w.below)))

    next-some : b + i ≤ top → Some (b + i) ≡ slice_get (between c top (marked k b ws)) 0
    next-some g =
        sym (first_some (b + i) (between c top (marked k b ws)) (empty-some (b + i) (between c top (marked k b ws)) here)
        (first-is 0 b (b + i) (between c top (marked k b ws)) (From-only b (λ n. leb c n && leb n top) (marked k b ws) (From-those k b (λ n. bit_at ws (n - b)))) here below))
      where
        here : has (between c top (marked k b ws)) (b + i) ≡ true
        here =
            has-between c top (marked k b ws) (b + i)
            ∙ ap (λ (t : Bool). (leb c (b + i) && leb (b + i) top) && t) (has-place k b ws i)
            ∙ rw (le-leb c (b + i) (omega (arith, next.low)), le-leb (b + i) top g, lt-ltb i k next.high, next.bit) refl

        below : (m : ℕ) → m < b + i → has (between c top (marked k b ws)) m ≡ false
        below m u = elim (decide (has (between c top (marked k b ws)) m)) [ inl z ↦ absurd (before m (within k b ws c top m z) u) | inr z ↦ z ]

    pub next-here : then_some (leb (b + i) top) (b + i) ≡ slice_get (between c top (marked k b ws)) 0
    next-here = go (decide (leb (b + i) top))
      where
        go : (leb (b + i) top ≡ true) ⊎ (leb (b + i) top ≡ false) → then_some (leb (b + i) top) (b + i) ≡ slice_get (between c top (marked k b ws)) 0
        go (inl z) = ap (λ (t : Bool). then_some t (b + i)) z ∙ next-some (leb-true (b + i) top z)
        go (inr z) = ap (λ (t : Bool). then_some t (b + i)) z ∙ next-over (leb-false (b + i) top z)

    -- nor does any number go past the 64-bit ones
    pub next-past : top < 2 ^ 64 → (b + i < 2 ^ 64 → ⊥) → None ≡ slice_get (between c top (marked k b ws)) 0
    next-past t z = next-over (omega arith)

  -- the count stands for no bit
  module _ (i : ℕ) (e : i ≡ unwrap_or (next_bit ws k (c - b)) k) where
    pub next-is : then_some (ltb i k && leb (b + i) top) (b + i) ≡ slice_get (between c top (marked k b ws)) 0
    next-is = go (next_bit ws k (c - b)) refl
      where
        go : (o : Option ℕ) → next_bit ws k (c - b) ≡ o → then_some (ltb i k && leb (b + i) top) (b + i) ≡ slice_get (between c top (marked k b ws)) 0
        go None q =
            let z : i ≡ k = e ∙ ap (λ (o : Option ℕ). unwrap_or o k) q in
            ap (λ (t : Bool). then_some (t && leb (b + i) top) (b + i)) (le-ltb i k (omega arith)) ∙ next-none q
        go (Some j) q =
            let z : i ≡ j = e ∙ ap (λ (o : Option ℕ). unwrap_or o k) q in
            let f = q ∙ ap (λ (x : ℕ). Some x) (sym z) in
            ap (λ (t : Bool). then_some (t && leb (b + i) top) (b + i)) (lt-ltb i k (next i f).high) ∙ next-here i f

    pub next-off : top < 2 ^ 64 → (b + i < 2 ^ 64 → ⊥) → None ≡ slice_get (between c top (marked k b ws)) 0
    next-off t y = go (next_bit ws k (c - b)) refl
      where
        go : (o : Option ℕ) → next_bit ws k (c - b) ≡ o → None ≡ slice_get (between c top (marked k b ws)) 0
        go None q = next-none q
        go (Some j) q =
            let z : i ≡ j = e ∙ ap (λ (o : Option ℕ). unwrap_or o k) q in
            next-past i (q ∙ ap (λ (x : ℕ). Some x) (sym z)) t y
