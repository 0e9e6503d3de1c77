use Rattle.std.proofs.Common.{◌≡◌, ◌+◌, ◌*◌, drop}
use Rattle.rising.specs.Runs.{place_of}
use Rattle.rising.proofs.run.place.Given as goal

abbrev pub invariant-loop-j : goal.invariant-loop-j
invariant-loop-j l = place_of l.n l.s ≡ 4 * l.j + place_of l.n (drop (4 * l.j) l.s)

abbrev pub invariant-loop-i : goal.invariant-loop-i
invariant-loop-i l = place_of l.n l.s ≡ l.i + place_of l.n (drop l.i l.s)

abbrev pub invariant-loop-i-2 : goal.invariant-loop-i-2
invariant-loop-i-2 l = place_of l.n l.s ≡ l.i + place_of l.n (drop l.i l.s)
