-- What requested fragments mean: rising samples, each with the rising numbers of its requested fragments. Every step computes.
-- Assumes nothing.
use Rattle.std.specs.Prelude.{ℕ, Bool, true, false, cond, List, [], ◌∷◌, eqb, leb}
use Rattle.sets.specs.Sets.{union, without, only, empty, first_or}

pub record Entry : Type 0 where
  pub sample : ℕ
  pub frags : List ℕ

abbrev pub entry : ℕ → List ℕ → Entry
entry n fs = record { sample = n; frags = fs }

-- an entry that asks for nothing isn't kept
abbrev pub keep : Entry → List Entry → List Entry
keep e es = cond (empty e.frags) es (e ∷ es)

-- "A request sets bits for one sample"
abbrev pub requested_some : ℕ → List ℕ → List Entry → List Entry
requested_some n ms [] = entry n ms ∷ []
requested_some n ms (e ∷ es) =
    cond (eqb e.sample n)
    (entry e.sample (union ms e.frags) ∷ es)
    (cond (leb n e.sample) (entry n ms ∷ e ∷ es) (e ∷ requested_some n ms es))

-- "An empty request makes no entry"
abbrev pub requested : ℕ → List ℕ → List Entry → List Entry
requested n ms es = cond (empty ms) es (requested_some n ms es)

-- "Marking one sent clears its bit and drops an entry left empty; not requested, whatever its number: nothing changes"
abbrev pub sent : ℕ → ℕ → List Entry → List Entry
sent n f [] = []
sent n f (e ∷ es) = cond (eqb e.sample n) (keep (entry e.sample (without f e.frags)) es) (e ∷ sent n f es)

-- those of the samples from b on
abbrev pub entries_from : ℕ → List Entry → List Entry
entries_from b [] = []
entries_from b (e ∷ es) = cond (leb b e.sample) (e ∷ entries_from b es) (entries_from b es)

-- "The next fragment is the smallest requested number, at or after any number given, of the smallest sample held"
abbrev pub next_sample : List Entry → ℕ
next_sample [] = 0
next_sample (e ∷ es) = e.sample

-- 0: none
abbrev pub next_fragment : ℕ → List Entry → ℕ
next_fragment f [] = 0
next_fragment f (e ∷ es) = first_or 0 (only (leb f) e.frags)

-- whether any is requested
abbrev pub some : List Entry → Bool
some [] = false
some (e ∷ es) = true

abbrev pub samples_of : List Entry → List ℕ
samples_of [] = []
samples_of (e ∷ es) = e.sample ∷ samples_of es
