-- What a change of one slot would leave, known before the slot is stored. Assumes nothing.
use Rattle.std.specs.Prelude.{refl, ℕ, max, false, cond, List, [], ◌∷◌, eqb, get_or, set, Option, Some, None, Result, Ok, Err}
use Rattle.numbers.specs.Number.{rank_of, negative, number_at}
use Rattle.numbers.specs.Refusals.{row, unless, done}
use Rattle.numbers.specs.Promise.{Left1}
use Rattle.numbers.specs.declared.answer.Answer.{Answer}
use Rattle.reader_list.specs.declared.heads.ReaderHead.{ReaderHead}
use Rattle.reader_list.specs.declared.heads.AckedFrontier.{AckedFrontier}
use Rattle.reader_list.specs.declared.calls.Match.{Match}
use Rattle.reader_list.specs.declared.calls.Acked.{Acked}
use Rattle.reader_list.specs.declared.calls.Front.{Front}
use Rattle.reader_list.specs.declared.changes.Slot.{Slot}
use Rattle.reader_list.specs.Readers.{Head, meet, frontier, place_of_id, is_there}
use Rattle.reader_list.specs.Slots.{readers, list_coherent, free_slot, frontier_at, list_rows, id_unknown, match_rows, depart_rows_of, front_of}

-- the first place of an id, of id 0: of a free slot; or none
abbrev pub place_found : ℕ → List Head → Option ℕ
place_found i hs = cond (is_there i hs) (Some (place_of_id i hs)) None

-- the readers with another id
abbrev pub others : ℕ → List Head → List Head
others i [] = []
others i (h ∷ hs) = cond (eqb h.id i) (others i hs) (h ∷ others i hs)

-- a frontier with one reader more
abbrev pub front_joined : ℕ → ReaderHead → ℕ
front_joined n h = cond h.reliable (meet n (max 1 (rank_of h.acked))) n

-- the frontier once a head stands in the slot of an id
abbrev pub front_stored : List ReaderHead → ℕ → ReaderHead → AckedFrontier
front_stored hs i h = frontier_at (front_joined (frontier (others i (readers hs))) h)

-- the frontier of the list that a change leaves: once its slot is stored, or where it is refused the list's own
abbrev pub front_with : List ReaderHead → ℕ → Result Slot Answer → Front
front_with hs i (Ok s) = record { answer = done; frontier = front_stored hs i s.head }
front_with hs i (Err a) = front_of hs

-- THE SLOTS

-- of a reader, in a coherent list
abbrev pub reader_slot : List ReaderHead → ℕ → Result Slot Answer
reader_slot hs i =
    unless (row 11 refl (id_unknown i (readers hs)) ∷ []) Err
    (Ok (record { place = place_of_id i (readers hs); head = get_or hs (place_of_id i (readers hs)) free_slot }))

abbrev pub found_slot : List ReaderHead → ℕ → Result Slot Answer
found_slot hs i =
    unless (list_rows false (list_coherent hs) false (id_unknown i (readers hs)) false) Err
    (Ok (record { place = place_of_id i (readers hs); head = get_or hs (place_of_id i (readers hs)) free_slot }))

-- as each call would store it
abbrev pub match_slot : List ReaderHead → Match → Result Slot Answer
match_slot hs m =
    unless (match_rows hs m) Err
    (Ok (record { place = place_of_id 0 (readers hs); head = record { id = m.id; reliable = m.reliable; acked = number_at 0 } }))

abbrev pub depart_slot : List ReaderHead → ℕ → Result Slot Answer
depart_slot hs i =
    unless (depart_rows_of (list_coherent hs) i (readers hs)) Err
    (Ok (record { place = place_of_id i (readers hs); head = free_slot }))

abbrev pub ack_slot : List ReaderHead → Acked → Result Slot Answer
ack_slot hs a =
    unless (list_rows false (list_coherent hs) (negative a.acked) (id_unknown a.id (readers hs)) false) Err
    (Ok (record { place = place_of_id a.id (readers hs); head = record { id = a.id; reliable = (get_or hs (place_of_id a.id (readers hs)) free_slot).reliable; acked = a.acked } }))

-- the list with the slot stored, where the call isn't refused
abbrev pub list_changed : List ReaderHead → Result Slot Answer → Left1 Answer (List ReaderHead)
list_changed hs (Ok s) = record { result = done; first = set hs s.place s.head }
list_changed hs (Err a) = record { result = a; first = hs }
