-- `any` meets its contract. Assumes nothing.
use mathlib.Core.Path.{ap, ◌∙◌}
use mathlib.Core.Bool.{not}
use native.Mathlib.Omega.{arith}
use Rattle.requested_fragments.proofs.Frags.{zeros_is}
use Rattle.requested_fragments.proofs.bits.any.Goals as goal

pub returns : goal.returns
returns c = ap not (c.all_zero.ensures ∙ zeros_is c.args.words.now (λ k. omega (arith, c.type_inv.words k)))
