-- The fragments that a run of 64-bit words asks for. Fragment f, from 1 on, is the bit of worth 2^((f−1) mod 64) in word (f−1) div 64.
-- Assumes nothing.
use Rattle.std.specs.Prelude.{ℕ, ◌-◌, ◌*◌, ◌/◌, ◌%◌, ◌^◌, Bool, cond, Option, List, eqb, leb, length, get_or, set, slice_get}
use Rattle.std.specs.Int.Bits.{bit_or, bit_xor}
use Rattle.sets.specs.Sets.{has, only, those}

-- bit k of a word
abbrev pub low_bit_of : ℕ → ℕ → Bool
low_bit_of w k = eqb (w / 2 ^ k % 2) 1

-- the bit at place p, from 0 on
abbrev pub low_bit_at : List ℕ → ℕ → Bool
low_bit_at ws p = low_bit_of (get_or ws (p / 64) 0) (p % 64)

-- the fragments asked for, as a rising list
abbrev pub fragments_of : List ℕ → List ℕ
fragments_of ws = those (64 * length ws) 1 (λ f. low_bit_at ws (f - 1))

-- the words with fragment f asked for; a number that they have no bit for changes nothing
abbrev pub asking : ℕ → List ℕ → List ℕ
asking f ws = cond (eqb f 0) ws (set ws ((f - 1) / 64) (bit_or (get_or ws ((f - 1) / 64) 0) (2 ^ ((f - 1) % 64))))

-- the words with fragment f not asked for
abbrev pub not_asking : ℕ → List ℕ → List ℕ
not_asking f ws = cond (has (fragments_of ws) f) (set ws ((f - 1) / 64) (bit_xor (get_or ws ((f - 1) / 64) 0) (2 ^ ((f - 1) % 64)))) ws

-- the smallest fragment at or after f
abbrev pub next_in : ℕ → List ℕ → Option ℕ
next_in f ws = slice_get (only (leb f) (fragments_of ws)) 0
