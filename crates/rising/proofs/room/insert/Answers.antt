-- `insert` meets its contract. Assumes nothing.
use Rattle.std.proofs.Common.{ℕ, List, ap, ◌∙◌, rules}
use Rattle.rising.specs.Runs.{place_of, holds_at}
use Rattle.rising.proofs.Inserts.{place_in, insert-held, insert-full, insert-put}
use Rattle.rising.proofs.room.insert.Goals as goal

pub returns-then-holds_at : goal.returns-then-holds_at
returns-then-holds_at c =
    let a = c.args in
    let i = c.place-i.result in
    let at = c.place-i.ensures ∙ ap (place_of a.n) c.held-held.ensures in
    let is = c.holds_at.ensures ∙ ap (λ (l : List ℕ). holds_at a.n l i) c.held-held.ensures in
    insert-held a.count a.n i a.s.now at c.holds_at.result is c.if-holds_at.true

pub put-requires : goal.put-requires
put-requires c =
    let a = c.args in
    (place_in a.count a.n c.place-i.result a.s.now (c.place-i.ensures ∙ ap (place_of a.n) c.held-held.ensures), search rules)

pub returns-then-count-s : goal.returns-then-count-s
returns-then-count-s c =
    let a = c.args in
    let i = c.place-i.result in
    let at = c.place-i.ensures ∙ ap (place_of a.n) c.held-held.ensures in
    let is = c.holds_at.ensures ∙ ap (λ (l : List ℕ). holds_at a.n l i) c.held-held.ensures in
    insert-put a.count a.n i a.s.now at c.holds_at.result is c.put.result c.put.new.s c.put.ensures c.if-holds_at.false c.if-count-s.true

pub returns-else-count-s : goal.returns-else-count-s
returns-else-count-s c =
    let a = c.args in
    let i = c.place-i.result in
    let at = c.place-i.ensures ∙ ap (place_of a.n) c.held-held.ensures in
    let is = c.holds_at.ensures ∙ ap (λ (l : List ℕ). holds_at a.n l i) c.held-held.ensures in
    insert-full a.count a.n i a.s.now at c.holds_at.result is c.if-holds_at.false c.if-count-s.false
