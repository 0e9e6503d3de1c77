-- The model reader: a line at the other end. Every step computes. Assumes nothing.
use Rattle.std.specs.Prelude.{ℕ, suc, ◌-◌, min, max, not, cond, List, [], ◌∷◌, eqb}
use Rattle.sets.specs.Sets.{has, insert, those}
use Rattle.number_sets.specs.Bits.{NumberSet, words_for}
use Rattle.numbers.specs.Capacities.{most_bits}

-- the smallest number from b on that is not in a set that rises from b
abbrev pub gap_from : ℕ → List ℕ → ℕ
gap_from b [] = b
gap_from b (x ∷ xs) = cond (eqb x b) (gap_from (suc b) xs) b

-- of the k numbers from b on, those that are not in the set
abbrev pub missing : ℕ → ℕ → List ℕ → List ℕ
missing k b l = those k b (λ n. not (has l n))

-- "The model reader keeps received numbers and a highest known number": `settled` and `known`.
-- `samples`, those of the settled that came as data, is kept for the theorem's statement alone
pub record Model : Type 0 where
  pub settled : List ℕ
  pub known : ℕ
  pub samples : List ℕ

-- "it starts with none and 0"
abbrev pub unread : Model
unread = record { settled = []; known = 0; samples = [] }

-- "Data, or a gap, for n settles n and raises known to n; a heartbeat raises it to last"
abbrev pub got_data : ℕ → Model → Model
got_data n m = record { settled = insert n m.settled; known = max n m.known; samples = insert n m.samples }

abbrev pub got_gap : ℕ → Model → Model
got_gap n m = record { settled = insert n m.settled; known = max n m.known; samples = m.samples }

abbrev pub got_beat : ℕ → Model → Model
got_beat k m = record { settled = m.settled; known = max k m.known; samples = m.samples }

-- "Its base is the smallest positive number not settled"
abbrev pub base : Model → ℕ
base m = gap_from 1 m.settled

-- "all unsettled numbers from base through the smaller of known and base+255": so many numbers are looked at, and these are asked for
abbrev pub bits : Model → ℕ
bits m = min (suc m.known - base m) most_bits

abbrev pub model_asks : Model → List ℕ
model_asks m = missing (bits m) (base m) m.settled

-- "Its ACKNACK has that base, and as members" these, in the words of RTPS
abbrev pub ack_nack : Model → NumberSet
ack_nack m = record { base = base m; count = bits m; words = words_for (base m) (model_asks m) }
