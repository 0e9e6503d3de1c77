-- Slots lie within the store, and don't meet: what is written into one is not seen in another. Assumes nothing.
use Prim.Native.Nat.{ℕ, ◌+◌, ◌-◌, ◌*◌, ◌/◌, ◌%◌, ◌<◌, ◌≤◌}
use mathlib.Core.Path.{◌≡◌, refl, sym, ap, ◌∙◌}
use mathlib.Core.List.{List, ◌++◌, append_assoc}
use mathlib.Core.Logic.{⊎_elim}
use native.Mathlib.Nat.{div-add-mod', mul-le-mul_right, add-mul, one-mul}
use native.Mathlib.Omega.{arith}
use lib.ListN.{length, take, drop, length-append, length-take, length-drop, take-append-drop}
use lib.Seq.{drop-append-le, take-append-le, drop-append-add, drop-drop, length-take-le, take_at, drop_at}
use Rattle.std.proofs.lemmas.Bool.{cases_lt}
use Rattle.writer_send_buffer.specs.Samples.{with_bytes}

-- the slot i of s slots of b bytes ends within
pub slot_in : {i s : ℕ} (b : ℕ) → i < s → i * b + b ≤ s * b
slot_in {i} {s} b h = let p : i + 1 ≤ s = omega arith in rw (add-mul, one-mul) at (mul-le-mul_right b p)

-- numbers less than s apart have different slots
pub apart : (s n m : ℕ) → n < m → m < n + s → n % s ≡ m % s → ⊥
apart s n m h k e =
    ⊎_elim
    (λ l. let p : n / s + 1 ≤ m / s = omega arith in omega (arith, slot_in s l, div-add-mod' n s, div-add-mod' m s))
    (λ l. omega (arith, mul-le-mul_right s l, div-add-mod' n s, div-add-mod' m s))
    (cases_lt (n / s) (m / s))

module _ (s : List ℕ) (a : ℕ) (p : List ℕ) (fits : a + length p ≤ length s) where
  pub over-length : length (with_bytes s a p) ≡ length s
  over-length = simp (length-append, length-take, length-drop) (omega arith)

  front : length (take a s ++ p) ≡ a + length p
  front = simp (length-append, length-take) (omega arith)

  -- what was written
  pub over-same : take (length p) (drop a (with_bytes s a p)) ≡ p
  over-same = rw (drop_at (take a s) _ a (length-take-le a s (omega arith))) (take_at p _ (length p) refl)

  -- what stands past it
  pub over-past : (b c : ℕ) → a + length p ≤ b → take c (drop b (with_bytes s a p)) ≡ take c (drop b s)
  over-past b c h =
      let e : b ≡ length (take a s ++ p) + (b - (a + length p)) = omega (arith, front) in
      let k : a + length p + (b - (a + length p)) ≡ b = omega arith in
      ap (take c)
      (ap (drop b) (sym (append_assoc (take a s) p (drop (a + length p) s)))
      ∙ ap (λ (x : ℕ). drop x ((take a s ++ p) ++ drop (a + length p) s)) e
      ∙ drop-append-add (take a s ++ p) (drop (a + length p) s) (b - (a + length p))
      ∙ drop-drop (b - (a + length p)) (a + length p) s
      ∙ ap (λ (x : ℕ). drop x s) k)

  -- what stands before it
  before : (r : List ℕ) (b c : ℕ) → b + c ≤ a → take c (drop b (take a s ++ r)) ≡ take c (drop b (take a s))
  before r b c h =
      let n : length (take a s) ≡ a = length-take-le a s (omega arith) in
      rw (drop-append-le b (take a s) r (omega arith)) (take-append-le c (drop b (take a s)) r (rw (length-drop, n) (omega arith)))

  pub over-before : (b c : ℕ) → b + c ≤ a → take c (drop b (with_bytes s a p)) ≡ take c (drop b s)
  over-before b c h = before (p ++ drop (a + length p) s) b c h ∙ sym (before (drop a s) b c h) ∙ rw (take-append-drop a s) refl

-- the slot j of b bytes, after a write into the slot i
pub over_other : (s : List ℕ) (p : List ℕ) (b i j c : ℕ) → i * b + b ≤ length s → length p ≤ b → c ≤ b → (j ≡ i → ⊥)
    → take c (drop (j * b) (with_bytes s (i * b) p)) ≡ take c (drop (j * b) s)
over_other s p b i j c h k l d =
    ⊎_elim
    (λ u. over-before s (i * b) p (omega arith) (j * b) c (omega (arith, slot_in b u)))
    (λ u. let v : i < j = omega arith in over-past s (i * b) p (omega arith) (j * b) c (omega (arith, slot_in b v)))
    (cases_lt j i)
