use Rattle.std.proofs.Common.{◌≡◌, ◌*◌, ◌&&◌, leb, length, drop}
use Rattle.writer_write.proofs.Walks.{all_looked}
use Rattle.writer_write.proofs.coherent.places_coherent.Given as goal

-- whether the places that are done are coherent, with those that are left, is whether all are
abbrev pub invariant-loop-i : goal.invariant-loop-i
invariant-loop-i l =
    (l.coherent && all_looked l.stride (drop l.i l.proxies) (drop (l.i * l.stride) l.unsent)) ≡ (leb (length l.proxies) 64 && all_looked l.stride l.proxies l.unsent)
