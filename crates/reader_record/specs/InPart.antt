-- What is said of a call that is lent the start of a room and not the whole; `rest` is what is not lent. Assumes nothing.
use Rattle.std.specs.Prelude.{◌≡◌, List, ◌++◌, ℕ}
use Rattle.numbers.specs.Promise.{Left1, Left2}

-- it answers as if the whole were lent, and what it leaves of the part, with the rest, is what it would leave of the whole
abbrev pub AsWhole : {A : Type 0} → List ℕ → Left1 A (List ℕ) → Left1 A (List ℕ) → Type 0
AsWhole rest part whole = (part.result ≡ whole.result) × (part.first ++ rest ≡ whole.first)

-- the same of two rooms
abbrev pub AsWholes : {A : Type 0} → List ℕ → List ℕ → Left2 A (List ℕ) (List ℕ) → Left2 A (List ℕ) (List ℕ) → Type 0
AsWholes rest other part whole = (part.result ≡ whole.result) × ((part.first ++ rest ≡ whole.first) × (part.second ++ other ≡ whole.second))
