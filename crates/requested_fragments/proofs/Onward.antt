-- The members of a set from one number on, one by one. Assumes nothing.
use Prim.Native.Nat.{ℕ, suc, ◌+◌, ◌≤◌, ◌<◌}
use mathlib.Core.Path.{◌≡◌, refl, sym, ap, subst, ◌∙◌}
use mathlib.Core.Bool.{Bool, true, false, ◌&&◌, ◌||◌}
use mathlib.Core.List.{List, [], ◌∷◌}
use mathlib.Core.Logic.{◌⊎◌, inl, inr}
use native.Mathlib.Omega.{arith}
use lib.Dec.{leb}
use borrow.Author.Tests.{leb-true, leb-false, le-leb, eq-eqb, ne_eqb}
use Rattle.std.specs.Prelude.{Some, None, slice_get}
use Rattle.sets.specs.Sets.{has, From, between}
use Rattle.sets.proofs.Bools.{decide, and_left, and_right}
use Rattle.sets.proofs.Has.{has-between, From-only}
use Rattle.sets.proofs.Ext.{ext, From_off}
use Rattle.requested_fragments.specs.Table.{ask_all}
use Rattle.requested_fragments.specs.Words.{asking}

module _ (b c top : ℕ) (l : List ℕ) (g : From b l) where
  -- where the first is x, the others are those from x + 1 on
  rest : (x : ℕ) (xs : List ℕ) → between c top l ≡ x ∷ xs → (c ≤ x) × (x ≤ top) × (xs ≡ between (x + 1) top l)
  rest x xs e = (lo, hi, ext (suc x) b xs (between (x + 1) top l) f.1 (From-only b (λ n. leb (x + 1) n && leb n top) l g) all)
    where
      f : From b (x ∷ xs)
      f = subst (From b) e (From-only b (λ n. leb c n && leb n top) l g)

      at : ((leb c x && leb x top) && has l x) ≡ true
      at = sym (has-between c top l x) ∙ ap (λ (m : List ℕ). has m x) e ∙ ap (λ (t : Bool). t || has xs x) (eq-eqb x x refl)

      lo : c ≤ x
      lo = leb-true c x (and_left (leb c x) (leb x top) (and_left (leb c x && leb x top) (has l x) at))

      hi : x ≤ top
      hi = leb-true x top (and_right (leb c x) (leb x top) (and_left (leb c x && leb x top) (has l x) at))

      all : (n : ℕ) → has xs n ≡ has (between (x + 1) top l) n
      all n = go (decide (leb (x + 1) n))
        where
          go : (leb (x + 1) n ≡ true) ⊎ (leb (x + 1) n ≡ false) → has xs n ≡ has (between (x + 1) top l) n
          go (inl p) =
              let q : x < n = omega (arith, leb-true (x + 1) n p) in
              sym (ap (λ (t : Bool). t || has xs n) (ne_eqb x n (λ (z : x ≡ n). omega arith)))
              ∙ ap (λ (m : List ℕ). has m n) (sym e) ∙ has-between c top l n
              ∙ ap (λ (t : Bool). (t && leb n top) && has l n) (le-leb c n (omega (arith, lo)) ∙ sym p)
              ∙ sym (has-between (x + 1) top l n)
          go (inr p) =
              From_off (suc x) xs n f.1 (omega (arith, leb-false (x + 1) n p))
              ∙ sym (has-between (x + 1) top l n ∙ ap (λ (t : Bool). (t && leb n top) && has l n) p)

-- ---- the loop that asks for them
pub record Asked (ms : List ℕ) (b : ℕ) (ws₀ ws : List ℕ) (from : ℕ) : Type 0 where
  pub left : ask_all (between 1 4096 ms) ws₀ ≡ ask_all (between from 4096 ms) ws

module _ (ms : List ℕ) (b : ℕ) (g : From b ms) (ws₀ ws : List ℕ) (from : ℕ) (h : Asked ms b ws₀ ws from) where
  pub asked_next : (f : ℕ) → slice_get (between from 4096 ms) 0 ≡ Some f → (from ≤ f) × (f ≤ 4096) × Asked ms b ws₀ (asking f ws) (f + 1)
  asked_next f e = go (between from 4096 ms) refl e
    where
      go : (m : List ℕ) → between from 4096 ms ≡ m → slice_get m 0 ≡ Some f → (from ≤ f) × (f ≤ 4096) × Asked ms b ws₀ (asking f ws) (f + 1)
      go [] q z = cc
      go (x ∷ xs) q z =
          let same : x ≡ f = cc in
          let r = rest b from 4096 ms g x xs q in
          subst (λ (y : ℕ). (from ≤ y) × (y ≤ 4096) × Asked ms b ws₀ (asking y ws) (y + 1)) same
          (r.0, r.1, record { left = h.left ∙ ap (λ (m : List ℕ). ask_all m ws) q ∙ ap (λ (m : List ℕ). ask_all m (asking x ws)) r.2 })

  pub asked_end : slice_get (between from 4096 ms) 0 ≡ None → ws ≡ ask_all (between 1 4096 ms) ws₀
  asked_end z = sym (h.left ∙ go (between from 4096 ms) z)
    where
      go : (m : List ℕ) → slice_get m 0 ≡ None → ask_all m ws ≡ ws
      go [] q = refl
      go (x ∷ xs) q = cc
