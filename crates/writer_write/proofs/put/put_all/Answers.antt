-- `put_all` meets its contract. Assumes nothing.
use Rattle.std.proofs.Common.{◌*◌, ◌+◌, ◌≤◌, ◌<◌, length, add-one, ◌∙◌, arith, rules}
use Rattle.writer_write.proofs.Parts.{within}
use Rattle.writer_write.proofs.Walks.{proxies-turn, room-turn}
use Rattle.writer_write.proofs.Unchanged.{not_put}
use Rattle.writer_write.proofs.put.put_all.Goals as goal

pub returns-then-not-is_done : goal.returns-then-not-is_done
returns-then-not-is_done c = not_put c.args.numbered c.args.proxies.now c.args.unsent.now (search rules)

pub loop-i-preserved : goal.loop-i-preserved
loop-i-preserved c =
    let l = c.loop-i in
    let s = c.stride_of-stride.result in
    let join = c.join_newest-proxy in
    let here : l.i < length l.proxies = omega arith in
    let whole : l.i * s + s ≤ length c.args.unsent.now = rw c.stride_of-stride.ensures (within l.i (length c.args.proxies.now) (length c.args.unsent.now) c.loop-i-test.true) in
    let room : l.i * s + s ≤ length l.unsent = omega arith in
    rw add-one (
      proxies-turn c.rank-n.result s l.proxies l.unsent l.i _ here room c.own_of.result join.result join.new.s c.own_of.ensures join.ensures ∙ l.invariant.0,
      room-turn c.rank-n.result s l.proxies l.unsent l.i _ here room c.own_of.result join.result join.new.s c.own_of.ensures join.ensures ∙ l.invariant.1,
    )
