-- Sets as RTPS writes them: a base, a bit count, and 32-bit words, the first bit highest; and the way back, from numbers to words. Assumes nothing.
use Rattle.std.specs.Prelude.{ℕ, zero, suc, ◌+◌, ◌-◌, ◌*◌, ◌/◌, ◌%◌, ◌^◌, max, Bool, cond, Option, List, [], ◌∷◌, eqb, leb, get_or, slice_get}
use Rattle.number_sets.specs.declared.number_set.NumberSet as natural
use Rattle.sets.specs.Sets.{has, only, between, those}

-- a set of either kind, in natural numbers: a base, a count, and a list of words
abbrev pub NumberSet : Type 0
NumberSet = natural.NumberSet

-- "Bit i (from 0) is the bit of worth 2^(31−i mod 32) in word i div 32"
abbrev pub bit_of : ℕ → ℕ → Bool
bit_of w i = eqb ((w / 2 ^ (31 - i)) % 2) 1

abbrev pub bit_at : List ℕ → ℕ → Bool
bit_at ws i = bit_of (get_or ws (i / 32) 0) (i % 32)

-- "it stands for base+i. Bits at or past the count are ignored"
abbrev pub marked : ℕ → ℕ → List ℕ → List ℕ
marked k b ws = those k b (λ n. bit_at ws (n - b))

abbrev pub members : NumberSet → List ℕ
members z = marked z.count z.base z.words

-- the first bit at or after c of those below k
abbrev pub next_bit : List ℕ → ℕ → ℕ → Option ℕ
next_bit ws k c = slice_get (only (leb c) (those k 0 (bit_at ws))) 0

-- the other way: the k bits from s on that the test gives, the first highest; and the words of 32 of them
unfoldable pub word_of : (ℕ → Bool) → ℕ → ℕ → ℕ
word_of p s zero = 0
word_of p s (suc k) = word_of p s k * 2 + cond (p (s + k)) 1 0

unfoldable pub words_of : (ℕ → Bool) → ℕ → ℕ → List ℕ
words_of p s zero = []
words_of p s (suc m) = word_of p s 32 ∷ words_of p (s + 32) m

-- the eight words with the bits of which the test is true
abbrev pub eight_words : (ℕ → Bool) → List ℕ
eight_words p = words_of p 0 8

-- the words of a set with the base b and the members l
abbrev pub words_for : ℕ → List ℕ → List ℕ
words_for b l = eight_words (λ i. has l (b + i))

-- of any numbers, those that a set with the base b can have; and how many bits hold them
abbrev pub in_window : ℕ → List ℕ → List ℕ
in_window b = between b (b + 255)

abbrev pub span : ℕ → List ℕ → ℕ
span b [] = 0
span b (n ∷ ns) = max (suc n - b) (span b ns)
