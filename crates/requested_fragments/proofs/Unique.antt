-- A promise allows one result: any two results of a call that its promise allows are equal, with the rooms. The other promises are equations. Assumes nothing.
use Prim.Native.Nat.{ℕ}
use mathlib.Core.Path.{◌≡◌}
use mathlib.Core.List.{List}
use Rattle.numbers.specs.Promise.{Gives2}
use Rattle.numbers.proofs.One.{one2}
use Rattle.requested_fragments.specs.Table.{marked_in, asked_in}

pub mark_sent_one : (n f c : ℕ) (S W : List ℕ) {r s : ℕ} {u v x y : List ℕ} → Gives2 r u x (marked_in n f c S W) → Gives2 s v y (marked_in n f c S W) → (r ≡ s) × (u ≡ v) × (x ≡ y)
mark_sent_one n f c S W p q = one2 p q

pub request_one : (n : ℕ) (ms : List ℕ) (c : ℕ) (S W : List ℕ) {r s : ℕ} {u v x y : List ℕ} → Gives2 r u x (asked_in n ms c S W) → Gives2 s v y (asked_in n ms c S W) → (r ≡ s) × (u ≡ v) × (x ≡ y)
request_one n ms c S W p q = one2 p q
