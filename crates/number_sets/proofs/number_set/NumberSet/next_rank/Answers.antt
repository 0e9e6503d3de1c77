-- `next_rank` meets its contract. Assumes nothing.
use Prim.Native.Nat.{ℕ, ◌+◌, ◌-◌}
use mathlib.Core.Path.{◌≡◌, ap, ◌∙◌}
use Rattle.std.specs.Prelude.{Option, unwrap_or}
use Rattle.number_sets.specs.Bits.{next_bit}
use Rattle.number_sets.proofs.Members.{next-is, next-off}
use Rattle.number_sets.proofs.number_set.NumberSet.next_rank.Goals as goal

pub returns-in_err-n : goal.returns-in_err-n
returns-in_err-n c =
    let g = c.args in
    let z = g.self.now in
    let e : c.unwrap_or-i.result ≡ unwrap_or (next_bit z.words z.count (g.from - z.base)) z.count =
    c.unwrap_or-i.ensures ∙ ap (λ (o : Option ℕ). unwrap_or o z.count) (c.next_bit-found.ensures ∙ ap (next_bit z.words z.count) c.saturating_sub.ensures) in
    c.from_residual.ensures ∙ next-off z.count z.base z.words g.from g.top c.unwrap_or-i.result e c.ranges.top.fits c.in_err-n.ensures

pub returns : goal.returns
returns c =
    let g = c.args in
    let z = g.self.now in
    let e : c.unwrap_or-i.result ≡ unwrap_or (next_bit z.words z.count (g.from - z.base)) z.count =
    c.unwrap_or-i.ensures ∙ ap (λ (o : Option ℕ). unwrap_or o z.count) (c.next_bit-found.ensures ∙ ap (next_bit z.words z.count) c.saturating_sub.ensures) in
    let n : c.in_ok-n.n ≡ z.base + c.unwrap_or-i.result = c.in_ok-n.ensures.1 in
    rw (c.then_some.ensures, n) (next-is z.count z.base z.words g.from g.top c.unwrap_or-i.result e)
