-- The reader list on natural numbers, and document 01's steps on it. The promises of the code and the theorem about both ends cite these.
-- A list has a fixed number of slots. A free slot is all zeros: readers have ids from 1 on.
-- Every one computes. Assumes nothing.
use Rattle.std.specs.Prelude.{ℕ, zero, suc, min, max, Bool, true, false, not, cond, ◌&&◌, ◌||◌, List, [], ◌∷◌, leb, eqb, length, get_or, set}
use Rattle.numbers.specs.Capacities.{most_readers}

pub record Head : Type 0 where
  pub id : ℕ
  pub reliable : Bool
  pub acked : ℕ
  pub below : Bool

-- a reader's acked is a natural number from its match on; `below` says that a lent slot has one below 0, which counts as 0 but isn't zero
abbrev pub free : Head
free = record { id = 0; reliable = false; acked = 0; below = false }

-- THE FRONTIER: a number from 1 on; 0 stands for an absent one

-- the smaller, where 0 is absent
abbrev pub meet : ℕ → ℕ → ℕ
meet zero b = b
meet (suc a) zero = suc a
meet (suc a) (suc b) = min (suc a) (suc b)

-- "The frontier is the smallest acked over the reliable readers, raised to 1 at least; with none, it is absent"
abbrev pub frontier : List Head → ℕ
frontier [] = 0
frontier (h ∷ hs) = cond h.reliable (meet (max 1 h.acked) (frontier hs)) (frontier hs)

-- PLACES

-- the first place of an id (of id 0: of a free slot), or the number of slots
abbrev pub place_of_id : ℕ → List Head → ℕ
place_of_id i [] = 0
place_of_id i (h ∷ hs) = cond (eqb h.id i) 0 (suc (place_of_id i hs))

-- whether a slot has the id
abbrev pub is_there : ℕ → List Head → Bool
is_there i [] = false
is_there i (h ∷ hs) = eqb h.id i || is_there i hs

abbrev pub head_at : ℕ → List Head → Head
head_at i hs = get_or hs (place_of_id i hs) free

-- THE STEPS: each changes one slot

-- "A match adds a reader with acked 0": in the first free slot
abbrev pub matched : ℕ → Bool → List Head → List Head
matched i r hs = set hs (place_of_id 0 hs) (record { id = i; reliable = r; acked = 0; below = false })

-- "a departure removes it": its slot is free again
abbrev pub departed : ℕ → List Head → List Head
departed i hs = set hs (place_of_id i hs) free

-- a reader's acked set
abbrev pub acknowledged : ℕ → ℕ → List Head → List Head
acknowledged i a hs = set hs (place_of_id i hs) (record { id = i; reliable = (head_at i hs).reliable; acked = a; below = false })

-- COHERENCE

-- a slot is a reader's, with an id from 1 on, or all zeros
abbrev pub slot_coherent : Head → Bool
slot_coherent h = not (eqb h.id 0) || (not h.reliable && (eqb h.acked 0 && not h.below))

abbrev pub slots_coherent : List Head → Bool
slots_coherent [] = true
slots_coherent (h ∷ hs) = slot_coherent h && slots_coherent hs

-- no other slot has the same id, unless it is free
abbrev pub different : List Head → Bool
different [] = true
different (h ∷ hs) = (eqb h.id 0 || not (is_there h.id hs)) && different hs

-- "ids at least 1, all different", in 1 to 64 slots
abbrev pub readers_coherent : List Head → Bool
readers_coherent hs = leb 1 (length hs) && (leb (length hs) most_readers && (slots_coherent hs && different hs))
