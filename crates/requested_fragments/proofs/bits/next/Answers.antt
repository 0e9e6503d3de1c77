-- `next` meets its contract. Assumes nothing.
use Prim.Native.Nat.{ℕ}
use mathlib.Core.Path.{ap, ◌∙◌}
use lib.ListN.{take}
use Rattle.requested_fragments.specs.Words.{next_in}
use Rattle.std.proofs.lemmas.List.{take_min}
use Rattle.requested_fragments.proofs.bits.next.Goals as goal

pub returns : goal.returns
returns c =
    let g = c.args in
    c.search_bits.ensures ∙ ap (λ (k : ℕ). next_in g.f (take k g.words.now)) c.min-end.ensures ∙ ap (next_in g.f) (take_min 64 g.words.now)
