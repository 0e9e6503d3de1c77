-- The steps of answering a line. Assumes nothing.
use Prim.Native.Nat.{ℕ, ◌-◌, ◌≤◌}
use mathlib.Core.Path.{◌≡◌, subst}
use mathlib.Core.List.{List}
use native.Mathlib.Omega.{arith}
use lib.ListN.{length, take}
use borrow.Author.Tests.{le-ltb}
use Rattle.numbers.specs.Promise.{Gives3}
use Rattle.trace_readers.specs.declared.state.Trace.{Trace}
use Rattle.trace_readers.specs.declared.state.Followed.{Followed}
use Rattle.trace_run.specs.Follow.{follow_of}
use Rattle.trace_answers.specs.Shown.{follow_held}

module _ (held : ℕ) (line : List ℕ) (t : Trace) (store large small : List ℕ) where
  pub held_whole : (f : Followed) (u v w : List ℕ) → held ≤ length line → Gives3 f u v w (follow_of (take (held - 0) line) t store large small) → Gives3 f u v w (follow_held held line t store large small)
  held_whole f u v w h g =
      let e : held - 0 ≡ held = omega arith in
      rw (le-ltb (length line) held h) (subst (λ (k : ℕ). Gives3 f u v w (follow_of (take k line) t store large small)) e g)
