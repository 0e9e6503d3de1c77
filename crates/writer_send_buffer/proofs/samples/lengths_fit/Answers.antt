-- `lengths_fit` meets its contract: in all of the ring, in one part of it, or in two. Assumes nothing.
use mathlib.Core.Path.{ap₂, ◌∙◌}
use mathlib.Core.Bool.{◌&&◌}
use native.Mathlib.Omega.{arith}
use Rattle.writer_send_buffer.proofs.Ring.{fit_all, fit_one, fit_two}
use Rattle.writer_send_buffer.proofs.samples.lengths_fit.Goals as goal

pub returns-then-held-lens : goal.returns-then-held-lens
returns-then-held-lens c = c.all_at_most.ensures ∙ fit_all _ _ c.args.from _ c.requires.some (omega arith)

pub returns-then-held-back : goal.returns-then-held-back
returns-then-held-back c = c.all_at_most-then-held-back.ensures ∙ fit_one _ _ c.args.from _ c.requires.some _ c.split_at.ensures.back (omega arith)

pub returns : goal.returns
returns c =
    ap₂ ◌&&◌ c.all_at_most-2.ensures c.all_at_most-3.ensures ∙ fit_two _ _ c.args.from _ c.requires.some _ c.split_at.ensures.back _ c.split_at.ensures.front c.requires.held (omega arith)
