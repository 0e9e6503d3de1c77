-- `joined` meets its contract. Assumes nothing.
use mathlib.Core.Path.{sym, ◌∙◌}
use Rattle.number_sets.proofs.Join.{joining_skip, joining_set, joining_end}
use Rattle.number_sets.proofs.Members.{joined_words}
use Rattle.number_sets.proofs.number_set.NumberSet.joined.Goals as goal
use Rattle.number_sets.proofs.number_set.NumberSet.joined.Goals.{in-Some, in_default}

pub loop-n-preserved : goal.loop-n-preserved
loop-n-preserved c =
    let l = c.loop-n in
    let u = c.loop-n-test.true in
    elim c.match-place_of.branch [ in-Some w ↦ rw (w.count-is, w.words-is, w.max-count.ensures, w.marked.ensures) (joining_set _ _ _ _ _ _ _ l.invariant u _ (sym c.place_of.ensures ∙ w.in-Some.is)) | in_default w ↦ rw (w.count-is, w.words-is) (joining_skip _ _ _ _ _ _ _ l.invariant u (sym c.place_of.ensures ∙ w.in_default.is)) ]

pub returns : goal.returns
returns c =
    let g = c.args in
    let e = joining_end g.self.count g.self.base g.numbers.now g.self.words _ _ _ _ c.cut_bits-words.ensures c.loop-n.invariant c.loop-n-test.false in
    rw (e.0, e.1, joined_words g.self.count g.self.base g.self.words g.numbers.now)
