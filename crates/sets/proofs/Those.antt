-- The numbers of a stretch that pass a test, number by number. Assumes nothing.
use Prim.Native.Nat.{ℕ, zero, suc, ◌+◌, ◌≤◌, ◌<◌}
use mathlib.Core.Path.{◌≡◌, refl, sym, ap, ◌∙◌}
use mathlib.Core.Bool.{Bool, true, false, cond, ◌&&◌, ◌||◌, true≢false, false≢true}
use mathlib.Core.Logic.{◌⊎◌, inl, inr}
use mathlib.Core.List.{List, [], ◌∷◌, ◌++◌}
use lib.Dec.{ltb, leb, eqb}
use lib.ListN.{length}
use native.Mathlib.Omega.{arith}
use borrow.Author.Tests.{ltb-true, ltb-false, leb-true, leb-false, eqb-true, eqb-false, ne_eqb}
use Rattle.sets.specs.Sets.{has, From, those}
use Rattle.sets.proofs.Bools.{or_right, clash, decide}
use Rattle.sets.proofs.Has.{lt_of_le_of_ne, From_weak}

pub has-those : (k b : ℕ) (p : ℕ → Bool) (n : ℕ) → b ≤ n → n < b + k → p n ≡ true → has (those k b p) n ≡ true
has-those zero b p n l q e = absurd (omega arith)
has-those (suc k) b p n l q e = go (p b) refl (decide (eqb b n)) (has-those k (suc b) p n)
  where
    rest : (b ≡ n → ⊥) → (suc b ≤ n → n < suc b + k → p n ≡ true → has (those k (suc b) p) n ≡ true) → has (those k (suc b) p) n ≡ true
    rest d r = r (lt_of_le_of_ne l d) (omega arith) e

    go : (t : Bool) → p b ≡ t → (eqb b n ≡ true) ⊎ (eqb b n ≡ false) → (suc b ≤ n → n < suc b + k → p n ≡ true → has (those k (suc b) p) n ≡ true) → has (cond t (b ∷ those k (suc b) p) (those k (suc b) p)) n ≡ true
    go true f (inl g) r = ap (λ (t : Bool). t || has (those k (suc b) p) n) g
    go true f (inr g) r = or_right (eqb b n) (has (those k (suc b) p) n) (rest (eqb-false b n g) r)
    go false f (inl g) r = clash (p n) e (ap p (sym (eqb-true b n g)) ∙ f)
    go false f (inr g) r = rest (eqb-false b n g) r

-- only the test's answers count
pub those-same : (k b : ℕ) (p q : ℕ → Bool) → ((n : ℕ) → b ≤ n → n < b + k → p n ≡ q n) → those k b p ≡ those k b q
those-same zero b p q h = refl
those-same (suc k) b p q h =
    ap (λ (t : Bool). cond t (b ∷ those k (suc b) p) (those k (suc b) p)) (h b (omega arith) (omega arith))
    ∙ ap (λ (l : List ℕ). cond (q b) (b ∷ l) l) (those-same k (suc b) p q (λ n l w. h n (omega arith) (omega arith)))

pub From-those : (k b : ℕ) (p : ℕ → Bool) → From b (those k b p)
From-those zero b p = tt
From-those (suc k) b p = go (p b) (From-those k (suc b) p)
  where
    go : (t : Bool) → From (suc b) (those k (suc b) p) → From b (cond t (b ∷ those k (suc b) p) (those k (suc b) p))
    go true r = (omega arith, r)
    go false r = From_weak b (suc b) (those k (suc b) p) (omega arith) r

-- n alone, or none
abbrev pub single : Bool → ℕ → List ℕ
single t n = cond t (n ∷ []) []

pub those_snoc : (k b : ℕ) (p : ℕ → Bool) → those (suc k) b p ≡ those k b p ++ single (p (b + k)) (b + k)
those_snoc zero b p = ap (λ (n : ℕ). single (p n) n) (omega arith)
those_snoc (suc k) b p = go (p b) (those_snoc k (suc b) p ∙ ap (λ (n : ℕ). those k (suc b) p ++ single (p n) n) (omega arith))
  where
    go : (t : Bool) → those (suc k) (suc b) p ≡ those k (suc b) p ++ single (p (b + suc k)) (b + suc k)
        → cond t (b ∷ those (suc k) (suc b) p) (those (suc k) (suc b) p) ≡ cond t (b ∷ those k (suc b) p) (those k (suc b) p) ++ single (p (b + suc k)) (b + suc k)
    go true e = ap (λ (l : List ℕ). b ∷ l) e
    go false e = e

pub those-length : (k b : ℕ) (p : ℕ → Bool) → length (those k b p) ≤ k
those-length zero b p = omega arith
those-length (suc k) b p = go (p b) (those-length k (suc b) p)
  where
    go : (t : Bool) → length (those k (suc b) p) ≤ k → length (cond t (b ∷ those k (suc b) p) (those k (suc b) p)) ≤ suc k
    go true h = omega arith
    go false h = omega arith

pub those-append : (m k b : ℕ) (p : ℕ → Bool) → those (m + k) b p ≡ those m b p ++ those k (b + m) p
those-append zero k b p =
    let e : 0 + k ≡ k = omega arith in
    let f : b ≡ b + 0 = omega arith in
    ap (λ (n : ℕ). those n b p) e ∙ ap (λ (n : ℕ). those k n p) f
those-append (suc m) k b p =
    let e : suc m + k ≡ suc (m + k) = omega arith in
    let f : suc b + m ≡ b + suc m = omega arith in
    ap (λ (n : ℕ). those n b p) e ∙ go (p b) (those-append m k (suc b) p ∙ ap (λ (n : ℕ). those m (suc b) p ++ those k n p) f)
  where
    go : (t : Bool) → those (m + k) (suc b) p ≡ those m (suc b) p ++ those k (b + suc m) p
        → cond t (b ∷ those (m + k) (suc b) p) (those (m + k) (suc b) p) ≡ cond t (b ∷ those m (suc b) p) (those m (suc b) p) ++ those k (b + suc m) p
    go true e = ap (λ (l : List ℕ). b ∷ l) e
    go false e = e

pub those-none : (k b : ℕ) (p : ℕ → Bool) → ((n : ℕ) → b ≤ n → n < b + k → p n ≡ false) → those k b p ≡ []
those-none zero b p h = refl
those-none (suc k) b p h = rw (h b (omega arith) (omega arith)) (those-none k (suc b) p (λ n l w. h n (omega arith) (omega arith)))

-- whether n is one of them, for any n
pub has_those_is : (k b : ℕ) (p : ℕ → Bool) (n : ℕ) → has (those k b p) n ≡ ((leb b n && ltb n (b + k)) && p n)
has_those_is k b p n = go (decide (leb b n)) (decide (ltb n (b + k))) (decide (p n))
  where
    out : (j c : ℕ) → (n < c) ⊎ (c + j ≤ n) → has (those j c p) n ≡ false
    out zero c h = refl
    out (suc j) c h = pick (p c) (out j (suc c) (elim h [ inl q ↦ inl (omega arith) | inr q ↦ inr (omega arith) ])) (ne_eqb c n (elim h [ inl q ↦ λ z. omega arith | inr q ↦ λ z. omega arith ]))
      where
        pick : (t : Bool) → has (those j (suc c) p) n ≡ false → eqb c n ≡ false → has (cond t (c ∷ those j (suc c) p) (those j (suc c) p)) n ≡ false
        pick true e f = rw f e
        pick false e f = e

    fails : (j c : ℕ) → p n ≡ false → has (those j c p) n ≡ false
    fails zero c e = refl
    fails (suc j) c e = pick (p c) refl (fails j (suc c) e)
      where
        pick : (t : Bool) → p c ≡ t → has (those j (suc c) p) n ≡ false → has (cond t (c ∷ those j (suc c) p) (those j (suc c) p)) n ≡ false
        pick true f r = rw (ne_eqb c n (λ (z : c ≡ n). true≢false (sym f ∙ ap p z ∙ e))) r
        pick false f r = r

    go : (leb b n ≡ true) ⊎ (leb b n ≡ false) → (ltb n (b + k) ≡ true) ⊎ (ltb n (b + k) ≡ false) → (p n ≡ true) ⊎ (p n ≡ false) → has (those k b p) n ≡ ((leb b n && ltb n (b + k)) && p n)
    go (inl e) (inl f) (inl g) = has-those k b p n (leb-true b n e) (ltb-true n (b + k) f) g ∙ sym (rw (e, f, g) refl)
    go (inl e) (inl f) (inr g) = fails k b g ∙ sym (rw (e, f, g) refl)
    go (inl e) (inr f) g = out k b (inr (ltb-false n (b + k) f)) ∙ sym (rw (e, f) refl)
    go (inr e) f g = out k b (inl (leb-false b n e)) ∙ sym (rw e refl)

-- counted from b on or from 0 on
pub those_shift : (k b c : ℕ) (p q : ℕ → Bool) → ((i : ℕ) → i < k → p (b + i) ≡ q (c + i)) → length (those k b p) ≡ length (those k c q)
those_shift zero b c p q h = refl
those_shift (suc k) b c p q h =
    let e : b + 0 ≡ b = omega arith in
    let f : c + 0 ≡ c = omega arith in
    go (p b) (q c) (ap p (sym e) ∙ h 0 (omega arith) ∙ ap q f)
    (those_shift k (suc b) (suc c) p q (λ i w.
    let u : suc b + i ≡ b + suc i = omega arith in
    let v : c + suc i ≡ suc c + i = omega arith in
    ap p u ∙ h (suc i) (omega arith) ∙ ap q v))
  where
    go : (s t : Bool) → s ≡ t → length (those k (suc b) p) ≡ length (those k (suc c) q)
        → length (cond s (b ∷ those k (suc b) p) (those k (suc b) p)) ≡ length (cond t (c ∷ those k (suc c) q) (those k (suc c) q))
    go true true e r = ap suc r
    go true false e r = absurd (true≢false e)
    go false true e r = absurd (false≢true e)
    go false false e r = r
