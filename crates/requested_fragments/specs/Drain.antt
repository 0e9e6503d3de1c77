-- The customer's complaint: every fragment asked for comes up. Assumes nothing.
use Rattle.std.specs.Prelude.{ℕ, zero, suc, ◌≤◌, Bool, false, cond, ◌&&◌, ◌||◌, List, [], ◌∷◌, ◌++◌, ◌≡◌, eqb}
use Rattle.sets.specs.Sets.{From, has, empty}
use Rattle.requested_fragments.specs.Entries.{Entry, sent, next_sample, next_fragment}

-- samples that rise from s on, each with fragments that rise from 1 on, and at least one
abbrev pub EntriesCoherent : ℕ → List Entry → Type 0
EntriesCoherent s [] = Unit {0}
EntriesCoherent s (e ∷ es) = (s ≤ e.sample) × (From 1 e.frags × ((empty e.frags ≡ false) × EntriesCoherent (suc e.sample) es))

-- one fragment of one sample
pub record Piece : Type 0 where
  pub sample : ℕ
  pub frag : ℕ

abbrev pub pieces_of : ℕ → List ℕ → List Piece
pieces_of n [] = []
pieces_of n (f ∷ fs) = record { sample = n; frag = f } ∷ pieces_of n fs

-- all that is asked for
abbrev pub all_asked : List Entry → List Piece
all_asked [] = []
all_asked (e ∷ es) = pieces_of e.sample e.frags ++ all_asked es

-- a run of at most k turns of 'next fragment from 1, mark it sent': what it offered, and what is left
pub record DrainRun : Type 0 where
  pub offered : List Piece
  pub left : List Entry

abbrev pub offering : Piece → DrainRun → DrainRun
offering p r = record { offered = p ∷ r.offered; left = r.left }

abbrev pub turns : ℕ → List Entry → DrainRun
turns zero es = record { offered = []; left = es }
turns (suc k) es =
    cond (eqb (next_fragment 1 es) 0)
    (record { offered = []; left = es })
    (offering (record { sample = next_sample es; frag = next_fragment 1 es }) (turns k (sent (next_sample es) (next_fragment 1 es) es)))

-- how often a piece stands in a list; and whether it is asked for
abbrev pub times : ℕ → ℕ → List Piece → ℕ
times n f [] = 0
times n f (p ∷ ps) = cond (eqb p.sample n && eqb p.frag f) (suc (times n f ps)) (times n f ps)

abbrev pub is_asked : ℕ → ℕ → List Entry → Bool
is_asked n f [] = false
is_asked n f (e ∷ es) = (eqb e.sample n && has e.frags f) || is_asked n f es
