-- `request_some` meets its contract. Assumes nothing.
use mathlib.Core.Path.{sym, ◌∙◌}
use Prim.Native.Nat.{◌≤◌, ◌<◌, ◌+◌}
use native.Mathlib.Omega.{arith}
use Rattle.requested_fragments.specs.Table.{askable}
use Rattle.requested_fragments.proofs.Laws.{fits}
use Rattle.requested_fragments.proofs.Requests.{place-small, inside, asked_held, asked_full, asked_new}
use borrow.Author.Rules.{rules}
use Rattle.requested_fragments.proofs.ask.request_some.Goals as goal

pub overflow_mul-a : goal.overflow_mul-a
overflow_mul-a c =
    let args = c.args in
    let pre = c.requires in
    let place = c.place-e in
    let h : place.result ≤ args.count = place-small args.n args.count (askable args.set) args.samples.now args.words.now pre.0 pre.1 pre.2 place.result place.ensures in
    search rules

pub ask_block-requires : goal.ask_block-requires
ask_block-requires c =
    let args = c.args in
    let pre = c.requires in
    let place = c.place-e in
    let holds_at = c.holds_at in
    let h : place.result < args.count = inside args.n args.count (askable args.set) args.samples.now args.words.now pre.0 pre.1 pre.2 place.result place.ensures (sym holds_at.ensures ∙ c.if-holds_at.true) in
    omega arith

pub returns-then-holds_at : goal.returns-then-holds_at
returns-then-holds_at c =
    let args = c.args in
    let pre = c.requires in
    let place = c.place-e in
    let holds_at = c.holds_at in
    let if1 = c.if-holds_at in
    let ask-block = c.ask_block in
    asked_held args.n args.count (askable args.set) args.samples.now args.words.now pre.0 pre.1 pre.2 place.result place.ensures _ (sym holds_at.ensures ∙ if1.true) ask-block.ensures

pub returns-then-not-rooms_hold : goal.returns-then-not-rooms_hold
returns-then-not-rooms_hold c =
    let args = c.args in
    let pre = c.requires in
    let place = c.place-e in
    asked_full args.n args.count (askable args.set) args.samples.now args.words.now pre.0 pre.1 pre.2 place.result place.ensures (sym c.rooms_hold.ensures ∙ c.if-not-rooms_hold.true) (sym c.holds_at.ensures ∙ c.if-holds_at.false)

pub new_block-requires : goal.new_block-requires
new_block-requires c =
    let args = c.args in
    let pre = c.requires in
    let place = c.place-e in
    let h : place.result ≤ args.count = place-small args.n args.count (askable args.set) args.samples.now args.words.now pre.0 pre.1 pre.2 place.result place.ensures in
    (omega arith, omega (arith, (fits (args.count + 1) args.samples.now args.words.now (sym c.rooms_hold.ensures ∙ c.if-not-rooms_hold.false)).1))

pub returns : goal.returns
returns c =
    let args = c.args in
    let pre = c.requires in
    let place = c.place-e in
    let holds_at = c.holds_at in
    let if1 = c.if-holds_at in
    let h = fits (args.count + 1) args.samples.now args.words.now (sym c.rooms_hold.ensures ∙ c.if-not-rooms_hold.false) in
    let new-block = c.new_block in
    let insert = c.insert in
    asked_new args.n args.count (askable args.set) args.samples.now args.words.now pre.0 pre.1 pre.2 place.result place.ensures _ _ _ (sym holds_at.ensures ∙ if1.false) (omega (arith, h.0)) (omega (arith, h.1)) new-block.ensures insert.ensures
