-- `reaches` meets its contract. Assumes nothing.
use Prim.Native.Nat.{ℕ, ◌+◌}
use Rattle.std.specs.Prelude.{Option, is_some, slice_get, leb}
use mathlib.Core.Path.{ap, ◌∙◌}
use mathlib.Core.List.{List}
use native.Mathlib.Omega.{arith}
use Rattle.sets.specs.Sets.{only}
use Rattle.number_sets.specs.Bits.{members}
use Rattle.number_sets.proofs.First.{first_there}
use Rattle.number_sets.specs.Calls.{fragment_set}
use Rattle.number_sets.proofs.Meaning.{onward_all}
use Rattle.number_sets.proofs.fragment_number_set.FragmentNumberSet.reaches.Goals as goal

pub returns : goal.returns
returns c =
    let g = c.args.self in
    let z = fragment_set g in
    let b = c.rank.ensures in
    let e = onward_all z c.args.n (c.rank.result + c.from.result) (omega (arith, b)) in
    c.is_some.ensures ∙ ap (λ (o : Option ℕ). is_some o) c.next_rank.ensures ∙ ap (λ (l : List ℕ). is_some (slice_get l 0)) e ∙ first_there (only (leb c.args.n) (members z))
