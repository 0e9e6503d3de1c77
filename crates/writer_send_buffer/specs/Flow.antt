-- The flow record on natural numbers, and document 01's steps on it. The promises of the code and the theorem about both ends cite these.
-- Every one computes. Assumes nothing.
use Rattle.std.specs.Prelude.{refl, ℕ, ◌+◌, ◌-◌, max, Bool, true, false, not, cond, ◌&&◌, ◌||◌, List, [], ◌∷◌, ltb, leb, eqb}
use Rattle.numbers.specs.Capacities.{most_window, most_slots, most_slot_bytes, top_number}
use Rattle.numbers.specs.Refusals.{row, Rows}
use Rattle.writer_send_buffer.specs.declared.limits.Kind.{Kind}
use Rattle.writer_send_buffer.specs.declared.limits.Limits.{Limits}

pub record Flow : Type 0 where
  pub last : ℕ
  pub first : ℕ
  pub sent : ℕ
  pub acked : ℕ
  pub present : Bool
  pub kind : Kind
  pub limits : Limits

-- every row holds
abbrev pub all_of : List Bool → Bool
all_of [] = true
all_of (b ∷ []) = b
all_of (b ∷ (c ∷ bs)) = b && all_of (c ∷ bs)

-- COHERENCE

-- "sample slots S; bytes per slot: 1 to 256; 1 to 8,192", "window, backlog: up to 2^31−1", "retain: up to S"; none 0
abbrev pub limit_rows : Limits → List Bool
limit_rows l =
    leb 1 l.window ∷ leb l.window most_window
    ∷ leb 1 l.backlog ∷ leb l.backlog most_window
    ∷ leb 1 l.retain ∷ leb l.retain l.slots
    ∷ leb 1 l.slots ∷ leb l.slots most_slots
    ∷ leb 1 l.slot_bytes ∷ leb l.slot_bytes most_slot_bytes
    ∷ []

abbrev pub allowed : Limits → Bool
allowed l = all_of (limit_rows l)

-- "0 ≤ last ≤ 2^63−2, 1 ≤ first ≤ last+1, last+1−first ≤ S, 0 ≤ sent ≤ last, 1 ≤ acked ≤ last+1 and its limits, none 0, are within the table"
abbrev pub coherent_rows : Flow → List Bool
coherent_rows f =
    leb f.last top_number
    ∷ leb 1 f.first ∷ leb f.first (f.last + 1)
    ∷ leb (f.last + 1 - f.first) f.limits.slots
    ∷ leb f.sent f.last
    ∷ leb 1 f.acked ∷ leb f.acked (f.last + 1)
    ∷ allowed f.limits
    ∷ []

abbrev pub flow_view_coherent : Flow → Bool
flow_view_coherent f = all_of (coherent_rows f)

-- a new writer's: nothing written, sent or retained, and no reader
abbrev pub blank : Kind → Limits → Flow
blank k l = record { last = 0; first = 1; sent = 0; acked = 1; present = false; kind = k; limits = l }

-- "0 counts as 1"
abbrev pub limits_counted : Limits → Limits
limits_counted l = record { window = max 1 l.window; backlog = max 1 l.backlog; retain = max 1 l.retain; slots = l.slots; slot_bytes = l.slot_bytes }

-- ADMISSION

-- "may-block is: reliable writer, or the write opted in"
abbrev pub may_block : Flow → Bool → Bool
may_block f opted = f.kind.reliable || opted

-- "built-in, yes; not may-block, yes; last−sent ≥ backlog, no; not reliable or no reliable reader, yes; else last−acked+1 < window"
abbrev pub has_room : Flow → Bool → Bool
has_room f opted =
    f.kind.builtin
    || (not (may_block f opted)
    || (not (leb f.limits.backlog (f.last - f.sent))
    && (not f.kind.reliable
    || (not f.present
    || ltb (f.last + 1 - f.acked) f.limits.window))))

-- "applies if not built-in and either not may-block, or reliable, volatile and with no reliable reader"
abbrev pub trims : Flow → Bool → Bool
trims f opted = not f.kind.builtin && (not (may_block f opted) || (f.kind.reliable && (f.kind.volatile && not f.present)))

-- "Where it doesn't apply and S samples are held: 7"
abbrev pub full : Flow → Bool → Bool
full f opted = not (trims f opted) && leb f.limits.slots (f.last + 1 - f.first)

-- "sequence numbers used up (last is 2^63−2)"
abbrev pub used_up : Flow → Bool
used_up f = eqb f.last top_number

-- "Trimming to `retain`, oldest first": the oldest retained once last + 1 is in
abbrev pub trimmed : Flow → Bool → ℕ
trimmed f opted = cond (trims f opted) (max f.first (f.last + 2 - f.limits.retain)) f.first

-- "The number is last+1"
abbrev pub admitted : Flow → Bool → Flow
admitted f opted = record { last = f.last + 1; first = trimmed f opted; sent = f.sent; acked = f.acked; present = f.present; kind = f.kind; limits = f.limits }

-- what refuses a write of `len` bytes: the record and the lent store aren't coherent, 4, 5, 6, 7
abbrev pub admit_rows : Bool → ℕ → Flow → Bool → Rows
admit_rows coherent len f opted =
    (row 1 refl (not coherent)
    ∷ row 4 refl (ltb f.limits.slot_bytes len)
    ∷ row 5 refl (used_up f)
    ∷ row 6 refl (not (has_room f opted))
    ∷ row 7 refl (full f opted)
    ∷ [])

-- FRONTIERS. A frontier is a number from 1 on; 0 stands for an absent one.

-- "A frontier above last+1 is refused with 2"
abbrev pub ahead : ℕ → Flow → Bool
ahead a f = ltb (f.last + 1) a

-- "so is a sent frontier above last"
abbrev pub unwritten : ℕ → Flow → Bool
unwritten n f = ltb f.last n

-- "Storing it may lower it"
abbrev pub stored : ℕ → Flow → Flow
stored a f = record { last = f.last; first = f.first; sent = f.sent; acked = cond (eqb a 0) f.acked a; present = not (eqb a 0); kind = f.kind; limits = f.limits }

-- "yes if it rose, if readers appeared, or if they went"
abbrev pub wakes : ℕ → Flow → Bool
wakes a f = cond (eqb a 0) f.present (not f.present || ltb f.acked a)

-- "A higher sent frontier wakes too; one not higher changes nothing"
abbrev pub raised : ℕ → Flow → Flow
raised k f = record { last = f.last; first = f.first; sent = max f.sent k; acked = f.acked; present = f.present; kind = f.kind; limits = f.limits }

-- "Acked-through any t: yes if no reliable reader is present or acked > t"
abbrev pub acked_through : ℕ → Flow → Bool
acked_through t f = not f.present || ltb t f.acked

-- RETENTION

-- "k ≤ first does nothing, k up to last+1 moves first, k above is refused with 2" (`ahead`)
abbrev pub evicted : ℕ → Flow → Flow
evicted k f = record { last = f.last; first = max f.first k; sent = f.sent; acked = f.acked; present = f.present; kind = f.kind; limits = f.limits }

-- "Retained is first through last"
abbrev pub retained : ℕ → Flow → Bool
retained n f = leb f.first n && leb n f.last
