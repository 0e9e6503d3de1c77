-- Two results that a promise allows are equal. Assumes nothing.
use Prim.Native.Nat.{ℕ}
use mathlib.Core.Path.{◌≡◌}
use mathlib.Core.List.{List}
use Rattle.numbers.specs.Promise.{Gives3}
use Rattle.numbers.proofs.One.{one3}
use Rattle.trace_readers.specs.declared.state.Trace.{Trace}
use Rattle.trace_readers.specs.declared.state.Followed.{Followed}
use Rattle.trace_run.specs.Follow.{follow_of}

module _ (line : List ℕ) (t : Trace) (store large small : List ℕ) (r s : Followed) (u v w x y z : List ℕ) where
  pub one_line : Gives3 r u v w (follow_of line t store large small) → Gives3 s x y z (follow_of line t store large small) → (r ≡ s) × (u ≡ x) × (v ≡ y) × (w ≡ z)
  one_line p q = one3 p q
