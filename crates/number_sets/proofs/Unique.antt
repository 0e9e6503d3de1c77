-- A promise allows one result: any two results of a call that its promise allows are equal, with the room. The other promises are equations. Assumes nothing.
use mathlib.Core.Path.{◌≡◌}
use mathlib.Core.List.{List}
use Prim.Native.Nat.{ℕ}
use Rattle.numbers.specs.Refusals.{Rows}
use Rattle.numbers.specs.Promise.{Gives1}
use Rattle.numbers.proofs.One.{one1}
use Rattle.number_sets.specs.declared.sequence_number_set.Listed.{Listed}
use Rattle.number_sets.specs.Calls.{members_listed}

pub list_members_one : (rows : Rows) (l room : List ℕ) {r s : Listed} {u v : List ℕ} → Gives1 r u (members_listed rows l room) → Gives1 s v (members_listed rows l room) → (r ≡ s) × (u ≡ v)
list_members_one rows l room p q = one1 p q
