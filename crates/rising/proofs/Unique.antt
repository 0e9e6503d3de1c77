-- A promise allows one result: any two that it allows are equal, with the room. The other promises are equations. Assumes nothing.
use Rattle.std.proofs.Common.{◌≡◌, ℕ, List}
use Rattle.numbers.specs.Promise.{Gives1}
use Rattle.numbers.proofs.One.{one1}
use Rattle.rising.specs.Runs.{in_room}

-- `cut`, `open`, `remove`, `keep_from`, `keep_before`, `insert` and `insert_newest` of a run in a room
pub room_one : (f : List ℕ → List ℕ) (c : ℕ) (a : List ℕ) {r s : ℕ} {u v : List ℕ} → Gives1 r u (in_room f c a) → Gives1 s v (in_room f c a) → (r ≡ s) × (u ≡ v)
room_one f c a p q = one1 p q
