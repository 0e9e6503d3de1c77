-- One bit of a word: what a set bit and a turned bit leave. Assumes nothing.
use Prim.Native.Nat.{ℕ, ◌/◌, ◌%◌, ◌^◌}
use mathlib.Core.Path.{◌≡◌, refl, ap, ◌∙◌}
use mathlib.Core.Bool.{Bool, true, false, not, cond, ◌&&◌, ◌||◌}
use mathlib.Core.Logic.{◌⊎◌, inl, inr}
use lib.Dec.{eqb}
use lib.Bits.{bit_or, bit_xor, xor_shr, xor_mod}
use borrow.Author.Tests.{eqb-true}
use Rattle.number_sets.proofs.Join.{one_bit, two, or_digit}
use Rattle.requested_fragments.specs.Words.{low_bit_of}

pub or_bit : (w k j : ℕ) → low_bit_of (bit_or w (2 ^ k)) j ≡ (low_bit_of w j || eqb j k)
or_bit = or_digit

-- where bit k is set, turning it clears it
pub xor_bit : (w k j : ℕ) → low_bit_of w k ≡ true → low_bit_of (bit_xor w (2 ^ k)) j ≡ (not (eqb j k) && low_bit_of w j)
xor_bit w k j h =
    ap (λ (x : ℕ). eqb (x % 2) 1) (xor_shr w (2 ^ k) j)
    ∙ ap (λ (x : ℕ). eqb x 1) (xor_mod (w / 2 ^ j) (2 ^ k / 2 ^ j) 1)
    ∙ ap (λ (x : ℕ). eqb (bit_xor (w / 2 ^ j % 2) x) 1) (one_bit k j)
    ∙ go (eqb j k) refl (two (w / 2 ^ j))
  where
    go : (t : Bool) → eqb j k ≡ t → (w / 2 ^ j % 2 ≡ 0) ⊎ (w / 2 ^ j % 2 ≡ 1) → eqb (bit_xor (w / 2 ^ j % 2) (cond t 1 0)) 1 ≡ (not t && eqb (w / 2 ^ j % 2) 1)
    go true f r =
        let e : w / 2 ^ j % 2 ≡ 1 = ap (λ (x : ℕ). w / 2 ^ x % 2) (eqb-true j k f) ∙ eqb-true (w / 2 ^ k % 2) 1 h in
        rw e refl
    go false f (inl e) = rw e refl
    go false f (inr e) = rw e refl
