use Rattle.std.proofs.Common.{◌≡◌}
use Rattle.writer_write.proofs.Walks.{proxies_at, room_at}
use Rattle.writer_write.proofs.put.put_all.Given as goal

-- the places that are done, with what comes of those that are left, are what comes of all
abbrev pub invariant-loop-i : goal.invariant-loop-i
invariant-loop-i l =
    (proxies_at l.n l.stride l.i l.proxies l.unsent ≡ proxies_at l.n l.stride 0 l.initial.proxies l.initial.unsent)
    × (room_at l.n l.stride l.i l.proxies l.unsent ≡ room_at l.n l.stride 0 l.initial.proxies l.initial.unsent)
