-- `search_bits` meets its contract. Assumes nothing.
use native.Mathlib.Omega.{arith}
use mathlib.Core.Path.{sym, ◌∙◌}
use Rattle.requested_fragments.proofs.Frags.{search_found, search_none}
use Rattle.requested_fragments.proofs.bits.search_bits.Goals as goal

pub returns-then-asks : goal.returns-then-asks
returns-then-asks c = search_found _ _ _ c.loop-n.invariant (sym c.asks.ensures ∙ c.if-asks.true)

pub returns : goal.returns
returns c = search_none _ _ _ c.loop-n.invariant c.requires (omega arith)
