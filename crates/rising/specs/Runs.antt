-- Runs of numbers in lent room, as lists; each definition is for any list. What they are for a rising one is said in the words of `sets` and proved
-- (proofs/Meaning.antt). Assumes nothing.
use Rattle.std.specs.Prelude.{ℕ, zero, suc, ◌+◌, ◌-◌, max, Bool, true, false, cond, ◌&&◌, List, [], ◌∷◌, ◌++◌, length, take, drop, replicate, ◌==◌, nat_le, nat_lt, get_or, set}
use Rattle.sets.specs.Sets.{insert, smallest, largest}
use Rattle.numbers.specs.Capacities.{top_number}
use Rattle.numbers.specs.Promise.{Left1}

-- strictly rising, all above p and none above 2^63−2
abbrev pub rises_above : ℕ → List ℕ → Bool
rises_above p [] = true
rises_above p (x ∷ xs) = nat_lt p x && (nat_le x top_number && rises_above x xs)

abbrev pub zeros : List ℕ → Bool
zeros [] = true
zeros (x ∷ xs) = x == 0 && zeros xs

-- a room that holds `count` such numbers, and zero in what it doesn't use
abbrev pub run_coherent : ℕ → ℕ → List ℕ → Bool
run_coherent p count room = nat_le count (length room) && (rises_above p (take count room) && zeros (drop count room))

-- the room of m numbers that holds l so
abbrev pub room_of : ℕ → List ℕ → List ℕ
room_of m l = l ++ replicate (m - length l) 0

-- the place of n: how many at the start are below it; and whether n stands at i
abbrev pub place_of : ℕ → List ℕ → ℕ
place_of n [] = 0
place_of n (x ∷ xs) = cond (nat_le n x) 0 (suc (place_of n xs))

abbrev pub holds_at : ℕ → List ℕ → ℕ → Bool
holds_at n [] i = false
holds_at n (x ∷ xs) zero = x == n
holds_at n (x ∷ xs) (suc i) = holds_at n xs i

-- without the k numbers from i on; with n at i; with k zeros from i on
abbrev pub cut_out : ℕ → ℕ → List ℕ → List ℕ
cut_out i k l = take i l ++ drop (i + k) l

abbrev pub put_in : ℕ → ℕ → List ℕ → List ℕ
put_in i n l = take i l ++ (n ∷ drop i l)

abbrev pub opened : ℕ → ℕ → List ℕ → List ℕ
opened i k l = take i l ++ (replicate k 0 ++ drop i l)

abbrev pub opened_within : ℕ → ℕ → ℕ → List ℕ → List ℕ
opened_within m i k l = smallest m (opened i k l)

-- by the place of n: without n; those from n on; those before n
abbrev pub removed : ℕ → List ℕ → List ℕ
removed n l = cond (holds_at n l (place_of n l)) (cut_out (place_of n l) 1 l) l

abbrev pub from_on : ℕ → List ℕ → List ℕ
from_on n l = drop (place_of n l) l

abbrev pub before : ℕ → List ℕ → List ℕ
before n l = take (place_of n l) l

-- n joins where that makes no more than m; n joins, and of more than m the smallest go
abbrev pub insert_within : ℕ → ℕ → List ℕ → List ℕ
insert_within m n l = cond (nat_le (length (insert n l)) m) (insert n l) l

abbrev pub newest : ℕ → ℕ → List ℕ → List ℕ
newest m n l = largest m (insert n l)

-- the room a, in which c numbers stood, with l in their place: zero in what they used and l doesn't
abbrev pub over : List ℕ → ℕ → List ℕ → List ℕ
over a c l = l ++ (replicate (c - length l) 0 ++ drop (max c (length l)) a)

-- what a change f of the run of `count` numbers leaves: how many there are now, and the room. A count past the room changes nothing
abbrev pub in_room : (List ℕ → List ℕ) → ℕ → List ℕ → Left1 ℕ (List ℕ)
in_room f count a =
    cond (nat_le count (length a))
    (record { result = length (f (take count a)); first = over a count (f (take count a)) })
    (record { result = count; first = a })

-- n joins: after the numbers of a run, where there is room and the last is below it; else as one of the newest
abbrev pub run_with : ℕ → ℕ → List ℕ → Left1 ℕ (List ℕ)
run_with n count a =
    cond (nat_lt count (length a) && nat_lt (get_or a (count - 1) 0) n)
    (record { result = count + 1; first = set a count n })
    (in_room (newest (length a) n) count a)

-- l in a room from its start, as far as it fits, and what stood there after it
abbrev pub filled : List ℕ → List ℕ → List ℕ
filled l room = take (length room) l ++ drop (length l) room
