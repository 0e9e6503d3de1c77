-- Whether a number is in a range, as two tests. Assumes nothing.
use Prim.Native.Nat.{ℕ}
use mathlib.Core.Path.{◌≡◌}
use mathlib.Core.Bool.{false, ◌&&◌}
use lib.Dec.{leb}
use native.Mathlib.Omega.{arith}
use Rattle.std.specs.Ordering.{partial_le, nat_cmp}
use Rattle.std.specs.Prelude.{Some}
use Rattle.std.specs.Range.{range_inclusive_start, range_inclusive_end, range_inclusive_exhausted, range_inclusive_contains}
use Rattle.std.proofs.lemmas.Bool.Decides.{nat_tests}
use Rattle.std.specs.declared.ops.RangeInclusive.{RangeInclusive}

le_is : (a b : ℕ) → partial_le (λ x y. Some (nat_cmp x y)) a b ≡ leb a b
le_is a b = grind (arith, nat_tests)

pub between : (r : RangeInclusive ℕ) (x a b : ℕ) → range_inclusive_start r ≡ a → range_inclusive_end r ≡ b → range_inclusive_exhausted r ≡ false
    → range_inclusive_contains (λ x y. Some (nat_cmp x y)) r x ≡ (leb a x && leb x b)
between r x a b s e u = simp (s, e, u, le_is)
