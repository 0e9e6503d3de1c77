-- `holds_at` meets its contract. Assumes nothing.
use Rattle.std.proofs.Common.{rules}
use Rattle.rising.proofs.Scans.{holds_in_lem, holds_out}
use Rattle.rising.proofs.run.holds_at.Goals as goal

pub returns : goal.returns
returns c = search (rules, holds_in_lem, holds_out)
