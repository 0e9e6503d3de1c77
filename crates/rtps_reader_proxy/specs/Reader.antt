-- A reader as the writer keeps it, on natural numbers and rising lists, and document 01's steps on it. The promises of the code and the theorem about
-- both ends cite these. Every step computes. Assumes nothing.
use Rattle.std.specs.Prelude.{ℕ, zero, suc, ◌-◌, max, Bool, not, cond, ◌&&◌, ◌||◌, List, [], ◌∷◌, ltb, leb, length}
use Rattle.sets.specs.Sets.{has, empty, insert, union, only, between, without, smallest, largest}
use Rattle.requested_fragments.specs.Entries.{Entry, samples_of, requested, sent}

pub record Reader : Type 0 where
  pub acked : ℕ
  pub cap : ℕ
  pub unsent : List ℕ
  pub prefix : ℕ
  pub gaps : List ℕ
  pub frags : List Entry

-- "A match adds a reader with acked 0 and empty sets"
abbrev pub fresh : ℕ → Reader
fresh m = record { acked = 0; cap = m; unsent = []; prefix = 0; gaps = []; frags = [] }

-- THE PARTS, each with its own update: what was acknowledged, the unsent numbers, the pending gap, the requested fragments
abbrev pub with_acked : ℕ → Reader → Reader
with_acked a r = record { acked = a; cap = r.cap; unsent = r.unsent; prefix = r.prefix; gaps = r.gaps; frags = r.frags }

abbrev pub with_unsent : List ℕ → Reader → Reader
with_unsent u r = record { acked = r.acked; cap = r.cap; unsent = u; prefix = r.prefix; gaps = r.gaps; frags = r.frags }

abbrev pub with_gaps : ℕ → List ℕ → Reader → Reader
with_gaps p g r = record { acked = r.acked; cap = r.cap; unsent = r.unsent; prefix = p; gaps = g; frags = r.frags }

abbrev pub with_frags : List Entry → Reader → Reader
with_frags es r = record { acked = r.acked; cap = r.cap; unsent = r.unsent; prefix = r.prefix; gaps = r.gaps; frags = es }

-- WHAT AN ACKNOWLEDGEMENT DOES: `b` is the set's base, `ms` its members, `a` is A, `u` the unsent numbers

-- "Base 0, invalid in the standard, counts as 1"
abbrev pub base_of : ℕ → ℕ
base_of b = max b 1

-- "b > last+1: answer 12"
abbrev pub is_ahead : ℕ → ℕ → Bool
is_ahead last b = ltb (suc last) (base_of b)

-- "b < A (late)"
abbrev pub is_late : ℕ → ℕ → Bool
is_late a b = ltb (base_of b) a

-- "A stays" if late, "otherwise: A becomes b"
abbrev pub acked_after : ℕ → ℕ → ℕ
acked_after a b = max a (base_of b)

-- "older unsent numbers stay" if late; otherwise "those from b through last"
abbrev pub staying : ℕ → ℕ → ℕ → List ℕ → List ℕ
staying last b a u = cond (is_late a b) u (between (base_of b) last u)

-- "members from A through last join", or from b through last; member 0 is dropped, since that begins at 1
abbrev pub wanted : ℕ → ℕ → List ℕ → ℕ → List ℕ → List ℕ
wanted last b ms a u = union (between (acked_after a b) last ms) (staying last b a u)

-- "If the result would hold more than M numbers, the M smallest stay"; "gap members below b go"; "Requested fragments aren't touched"
abbrev pub acknowledge : ℕ → ℕ → List ℕ → Reader → Reader
acknowledge last b ms r =
    with_acked (acked_after r.acked b)
    (with_unsent (smallest r.cap (wanted last b ms r.acked r.unsent))
    (with_gaps r.prefix (only (leb (acked_after r.acked b)) r.gaps) r))

-- "the count is the size of the untrimmed set less M, or 0"
abbrev pub left_out_of : ℕ → ℕ → List ℕ → Reader → ℕ
left_out_of last b ms r = length (wanted last b ms r.acked r.unsent) - r.cap

-- UNSENT NUMBERS

-- "A new sample's number .. joins the unsent set; above M the smallest go"
abbrev pub notified : ℕ → Reader → Reader
notified n r = with_unsent (largest r.cap (insert n r.unsent)) r

-- "removes one number"; "removes all below its argument"
abbrev pub marked_sent : ℕ → Reader → Reader
marked_sent n r = with_unsent (without n r.unsent) r

abbrev pub removed_before : ℕ → Reader → Reader
removed_before n r = with_unsent (only (leb n) r.unsent) r

-- up to k times: the first unsent number is taken and marked sent
abbrev pub taken : ℕ → List ℕ → List ℕ
taken zero u = []
taken (suc k) [] = []
taken (suc k) (n ∷ u) = n ∷ taken k (without n u)

abbrev pub untaken : ℕ → List ℕ → List ℕ
untaken zero u = u
untaken (suc k) [] = []
untaken (suc k) (n ∷ u) = untaken k (without n u)

-- THE PENDING GAP

-- "Members at or below the prefix end, below A or already held take no room"
abbrev pub needs_room : ℕ → Reader → Bool
needs_room n r = ltb r.prefix n && (leb r.acked n && not (has r.gaps n))

abbrev pub gap_inserted : ℕ → Reader → Reader
gap_inserted n r = with_gaps r.prefix (cond (needs_room n r) (insert n r.gaps) r.gaps) r

-- "a prefix runs from 1 to the largest end accepted"; "end 0 changes nothing"
abbrev pub gap_up_to : ℕ → Reader → Reader
gap_up_to e r = with_gaps (max r.prefix e) (only (ltb e) r.gaps) r

-- "The pending gap is the prefix and single members, all without numbers below A": whether n is in it
abbrev pub in_pending_gap : Reader → ℕ → Bool
in_pending_gap r n = (leb 1 n && leb r.acked n) && (leb n r.prefix || has r.gaps n)

-- those of it from c on that are single members, and the first of it from c on
abbrev pub next_gap : ℕ → Reader → List ℕ
next_gap c r = cond (leb (max c (max 1 r.acked)) r.prefix) (max c (max 1 r.acked) ∷ []) (only (leb (max c (max 1 r.acked))) r.gaps)

-- REQUESTED FRAGMENTS

-- a request takes a slot if it asks for something, of a sample of which nothing is requested yet
abbrev pub needs_slot : ℕ → List ℕ → Reader → Bool
needs_slot n ms r = not (empty ms) && not (has (samples_of r.frags) n)

-- "A request sets bits for one sample"; "An empty request makes no entry"
abbrev pub frags_requested : ℕ → List ℕ → Reader → Reader
frags_requested n ms r = with_frags (requested n ms r.frags) r

-- "Marking one sent clears its bit and drops an entry left empty"
abbrev pub frag_sent : ℕ → ℕ → Reader → Reader
frag_sent n f r = with_frags (sent n f r.frags) r
