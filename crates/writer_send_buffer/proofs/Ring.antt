-- The lengths of samples in a row, around the ring of slots: they stand in one part of it, or in two. Assumes nothing.
use Prim.Native.Nat.{ℕ, zero, suc, ◌+◌, ◌-◌, ◌*◌, ◌/◌, ◌%◌, ◌<◌, ◌≤◌}
use mathlib.Core.Path.{◌≡◌, refl, sym, ap, ap₂, ◌∙◌}
use mathlib.Core.Bool.{Bool, ◌&&◌}
use mathlib.Core.List.{List}
use native.Mathlib.Nat.{mod-eq_of_lt, mod-lt, mod-add-div', add-mul-mod_self_right, zero-add, add-zero, suc-add, add-suc, add-mul, one-mul}
use native.Mathlib.Omega.{arith}
use lib.Dec.{leb}
use lib.ListN.{length, take, drop, get_or, length-drop, length-take, take-append-drop}
use Rattle.std.proofs.Math.Bool.{and_comm}
use Rattle.std.proofs.lemmas.List.{take-take}
use lib.Seq.{take_all}
use Rattle.sets.proofs.Bools.{and_assoc}
use Rattle.sets.proofs.Loops.{here}
use Rattle.writer_send_buffer.specs.Samples.{lengths_fit, all_at_most}
use Rattle.writer_send_buffer.proofs.AtMost.{at_most_append}

-- a run of c samples and the d after them
fit_split : (l : List ℕ) (s b m c d : ℕ) → lengths_fit l s b m (c + d) ≡ (lengths_fit l s b m c && lengths_fit l s b (m + c) d)
fit_split l s b m zero d = rw (zero-add, add-zero) refl
fit_split l s b m (suc c) d =
    rw (suc-add c d, add-suc m c, ← suc-add m c)
    (ap (λ (x : Bool). leb (get_or l (m % s) 0) b && x) (fit_split l s b (suc m) c d) ∙ sym (and_assoc (leb (get_or l (m % s) 0) b) (lengths_fit l s b (suc m) c) (lengths_fit l s b (suc m + c) d)))

-- a run that ends within the ring
fit_part : (l : List ℕ) (b q a m c : ℕ) → m ≡ a + q * length l → a + c ≤ length l → lengths_fit l (length l) b m c ≡ all_at_most b (take c (drop a l))
fit_part l b q a m zero e h = refl
fit_part l b q a m (suc c) e h =
    let k : a < length l = omega arith in
    let s : m % length l ≡ a = ap (λ (x : ℕ). x % length l) e ∙ add-mul-mod_self_right a q (length l) ∙ mod-eq_of_lt k in
    let n : suc m ≡ a + 1 + q * length l = omega (arith, e) in
    rw (s, here l a k) (ap (λ (x : Bool). leb (get_or l a 0) b && x) (fit_part l b q (a + 1) (suc m) c n (omega arith)))

module _ (l : List ℕ) (b m c : ℕ) (some : 0 < length l) where
  at : m ≡ m % length l + m / length l * length l
  at = sym (mod-add-div' m (length l))

  -- one part, or two: what stands from the first on, and what stands before it
  module _ (back : List ℕ) (is : back ≡ drop (m % length l) l) where
    pub fit_one : c ≤ length back → all_at_most b (take c back) ≡ lengths_fit l (length l) b m c
    fit_one h = rw is (sym (fit_part l b (m / length l) (m % length l) m c at (omega (arith, mod-lt m some, simp (is, length-drop) at h))))

    pub fit_two : (front : List ℕ) → front ≡ take (m % length l) l → c ≤ length l → length back ≤ c → (all_at_most b back && all_at_most b (take (c - length back) front)) ≡ lengths_fit l (length l) b m c
    fit_two front e held h =
        let a = m % length l in
        let k : a < length l = mod-lt m some in
        let p = length back in
        let q : p ≡ length l - a = rw is (length-drop a l) in
        let y : c ≡ p + (c - p) = omega arith in
        let z : m + p ≡ 0 + (m / length l + 1) * length l = rw (add-mul, one-mul) (omega (arith, at)) in
        let w : lengths_fit l (length l) b m p ≡ all_at_most b back = fit_part l b (m / length l) a m p at (omega arith) ∙ ap (all_at_most b) (ap (take p) (sym is) ∙ take_all p back (omega arith)) in
        sym
        (ap (lengths_fit l (length l) b m) y ∙ fit_split l (length l) b m p (c - p)
        ∙ ap₂ ◌&&◌ w (fit_part l b (m / length l + 1) 0 (m + p) (c - p) z (omega arith) ∙ ap (all_at_most b) (sym (rw e (take-take (c - p) a l (omega arith))))))

-- all of it: in two parts, which may be looked at in the other order
pub fit_all : (l : List ℕ) (b m c : ℕ) → 0 < length l → c ≡ length l → all_at_most b l ≡ lengths_fit l (length l) b m c
fit_all l b m c some e =
    let a = m % length l in
    let k : a < length l = mod-lt m some in
    ap (all_at_most b) (sym (take-append-drop a l)) ∙ at_most_append b (take a l) (drop a l) ∙ and_comm (all_at_most b (take a l)) (all_at_most b (drop a l))
    ∙ rw (take_all (c - length (drop a l)) (take a l) (omega (arith, length-drop a l, length-take a l))) at (fit_two l b m c some (drop a l) refl (take a l) refl (omega arith) (omega (arith, length-drop a l)))
