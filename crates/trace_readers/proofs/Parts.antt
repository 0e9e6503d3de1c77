-- A part of a room, as the code cuts it and as it is defined. Assumes nothing.
use Prim.Native.Nat.{ℕ, ◌+◌, ◌-◌}
use mathlib.Core.Path.{◌≡◌, ap, ◌∙◌}
use mathlib.Core.List.{List, ◌++◌}
use native.Mathlib.Omega.{arith}
use lib.ListN.{take, drop}
use Rattle.trace_readers.specs.Rooms.{part, put}

same : (a n : ℕ) → a + n - a ≡ n
same a n = omega arith

pub part_as : (a b n : ℕ) (s : List ℕ) → a ≡ b → take (a + n - a) (drop a s) ≡ part b n s
part_as a b n s e = ap (λ (m : ℕ). take m (drop a s)) (same a n) ∙ ap (λ (x : ℕ). part x n s) e

pub put_as : (a b n : ℕ) (u v s : List ℕ) → a ≡ b → u ≡ v → take a s ++ (u ++ drop (a + n - a) (drop a s)) ≡ put b n v s
put_as a b n u v s e f =
    ap (λ (m : ℕ). take a s ++ (u ++ drop m (drop a s))) (same a n)
    ∙ ap (λ (x : ℕ). put x n u s) e
    ∙ ap (λ (x : List ℕ). put b n x s) f
