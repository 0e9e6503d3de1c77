-- The lent list as it is declared, and what each call on it leaves. Assumes nothing.
use Rattle.std.specs.Prelude.{refl, ℕ, max, Bool, false, not, cond, ◌&&◌, ◌||◌, List, [], ◌∷◌, leb, eqb, get_or, set}
use Rattle.numbers.specs.Capacities.{most_unsent}
use Rattle.numbers.specs.Number.{rank_of, negative, number_at}
use Rattle.numbers.specs.Refusals.{row, unless, done, Rows}
use Rattle.numbers.specs.Promise.{Left1}
use Rattle.numbers.specs.declared.answer.Answer.{Answer}
use Rattle.reader_list.specs.declared.heads.ReaderHead.{ReaderHead}
use Rattle.reader_list.specs.declared.heads.AckedFrontier.{AckedFrontier}
use Rattle.reader_list.specs.declared.calls.Match.{Match}
use Rattle.reader_list.specs.declared.calls.Acked.{Acked}
use Rattle.reader_list.specs.declared.calls.Found.{Found}
use Rattle.reader_list.specs.declared.calls.Front.{Front}
use Rattle.reader_list.specs.Readers.{Head, frontier, place_of_id, is_there, readers_coherent}

-- the list on natural numbers
abbrev pub head_view : ReaderHead → Head
head_view h = record { id = h.id; reliable = h.reliable; acked = rank_of h.acked; below = negative h.acked }

abbrev pub readers : List ReaderHead → List Head
readers [] = []
readers (h ∷ hs) = head_view h ∷ readers hs

-- and back, where none is below 0
abbrev pub head_form : Head → ReaderHead
head_form h = record { id = h.id; reliable = h.reliable; acked = number_at h.acked }

abbrev pub list_form : List Head → List ReaderHead
list_form [] = []
list_form (h ∷ hs) = head_form h ∷ list_form hs

abbrev pub list_coherent : List ReaderHead → Bool
list_coherent hs = readers_coherent (readers hs)

abbrev pub free_slot : ReaderHead
free_slot = record { id = 0; reliable = false; acked = number_at 0 }

-- a frontier's natural number, "raised to 1 at least", 0 for an absent one; and back
abbrev pub frontier_of : AckedFrontier → ℕ
frontier_of a = cond a.present (max 1 (rank_of a.acked)) 0

abbrev pub frontier_at : ℕ → AckedFrontier
frontier_at a = record { present = not (eqb a 0); acked = number_at a }

-- THE ROWS

abbrev pub list_rows : Bool → Bool → Bool → Bool → Bool → Rows
list_rows limit coherent range reader full = row 13 refl limit ∷ row 1 refl (not coherent) ∷ row 2 refl range ∷ row 11 refl reader ∷ row 8 refl full ∷ []

-- "11: reader id 0, unknown, or already there"
abbrev pub id_unknown : ℕ → List Head → Bool
id_unknown i hs = eqb i 0 || not (is_there i hs)

abbrev pub id_taken : ℕ → List Head → Bool
id_taken i hs = eqb i 0 || is_there i hs

-- "unsent cap M, per reader: 1 to 1,024"
abbrev pub cap_allowed : ℕ → Bool
cap_allowed m = leb 1 m && leb m most_unsent

-- what refuses a match, and a departure: by the list on natural numbers, and whether it is coherent
abbrev pub match_rows_of : Bool → ℕ → ℕ → List Head → Rows
match_rows_of coherent m i hs = list_rows (not (cap_allowed m)) coherent false (id_taken i hs) (not (is_there 0 hs))

abbrev pub depart_rows_of : Bool → ℕ → List Head → Rows
depart_rows_of coherent i hs = list_rows false coherent false (id_unknown i hs) false

-- QUESTIONS

abbrev pub front_of : List ReaderHead → Front
front_of hs =
    unless (list_rows false (list_coherent hs) false false false)
    (λ no. record { answer = no; frontier = frontier_at 0 })
    (record { answer = done; frontier = frontier_at (frontier (readers hs)) })

abbrev pub found_of : List ReaderHead → ℕ → Found
found_of hs i =
    unless (list_rows false (list_coherent hs) false (id_unknown i (readers hs)) false)
    (λ no. record { answer = no; place = 0; head = free_slot })
    (record { answer = done; place = place_of_id i (readers hs); head = get_or hs (place_of_id i (readers hs)) free_slot })

-- CHANGES: each of one slot

abbrev pub match_rows : List ReaderHead → Match → Rows
match_rows hs m = match_rows_of (list_coherent hs) m.cap m.id (readers hs)

-- "A match adds a reader with acked 0"
abbrev pub match_of : List ReaderHead → Match → Left1 Answer (List ReaderHead)
match_of hs m =
    unless (match_rows hs m)
    (λ no. record { result = no; first = hs })
    (record { result = done; first = set hs (place_of_id 0 (readers hs)) (record { id = m.id; reliable = m.reliable; acked = number_at 0 }) })

abbrev pub depart_of : List ReaderHead → ℕ → Left1 Answer (List ReaderHead)
depart_of hs i =
    unless (depart_rows_of (list_coherent hs) i (readers hs))
    (λ no. record { result = no; first = hs })
    (record { result = done; first = set hs (place_of_id i (readers hs)) free_slot })

-- a reader's acked is at least 0
abbrev pub ack_of : List ReaderHead → Acked → Left1 Answer (List ReaderHead)
ack_of hs a =
    unless (list_rows false (list_coherent hs) (negative a.acked) (id_unknown a.id (readers hs)) false)
    (λ no. record { result = no; first = hs })
    (record { result = done; first = set hs (place_of_id a.id (readers hs)) (record { id = a.id; reliable = (get_or hs (place_of_id a.id (readers hs)) free_slot).reliable; acked = a.acked }) })
