-- A sequence number in its range and its natural number say the same. Assumes nothing.
use Prim.Native.Nat.{ℕ, ◌≤◌, ◌<◌}
use mathlib.Core.Path.{◌≡◌, refl, ap}
use mathlib.Core.Bool.{Bool, true, false, not, ◌&&◌, cond, true≢false, false≢true}
use native.Mathlib.Omega.{arith}
use lib.Dec.{leb, ltb}
use lib.IntN.{ℤ, pos, negsuc}
use borrow.Author.Tests.{leb-true, le-leb, lt-ltb}
use Rattle.numbers.specs.Number.{nat_of, rank_of, negative, below0, in_range, number_at}
use Rattle.numbers.specs.declared.sequence_number.SequenceNumber.{SequenceNumber}

pub rank_back : (n : ℕ) → n < 9223372036854775808 → rank_of (number_at n) ≡ n
rank_back n h = rw (lt-ltb n 9223372036854775808 h)

pub number_back : (s : SequenceNumber) → negative s ≡ false → rank_of s < 9223372036854775808 → number_at (rank_of s) ≡ s
number_back s p h = ap (λ (z : ℤ). record { 0 = z }) (go s.0 p h)
  where
    go : (z : ℤ) → below0 z ≡ false → nat_of z < 9223372036854775808 → cond (ltb (nat_of z) 9223372036854775808) (pos (nat_of z)) (pos 0) ≡ z
    go (pos n) p h = rw (lt-ltb n 9223372036854775808 h)
    go (negsuc n) p h = absurd (true≢false p)

-- what the test of a range says
pub in_range_lem : (s : SequenceNumber) (top : ℕ) → in_range s top ≡ true → (negative s ≡ false) × (rank_of s ≤ top)
in_range_lem s top e = go (negative s) refl e
  where
    go : (t : Bool) → negative s ≡ t → (not t && leb (rank_of s) top) ≡ true → (negative s ≡ false) × (rank_of s ≤ top)
    go true p e = absurd (false≢true e)
    go false p e = (p, leb-true (rank_of s) top e)

pub range_back : (s : SequenceNumber) (top : ℕ) → top < 9223372036854775808 → in_range s top ≡ true → number_at (rank_of s) ≡ s
range_back s top h e = let r = in_range_lem s top e in number_back s r.0 (omega (arith, r.1))

pub range_of : (n top : ℕ) → top < 9223372036854775808 → n ≤ top → in_range (number_at n) top ≡ true
range_of n top h q = rw (lt-ltb n 9223372036854775808 (omega arith), le-leb n top q)
