-- Laws of the input's cuts, as the code goes along a piece. Assumes nothing.
use Prim.Native.Nat.{ℕ, ◌+◌, ◌<◌, ◌≤◌, min}
use mathlib.Core.Path.{◌≡◌, refl, sym, ap}
use mathlib.Core.Bool.{Bool, true, false, cond}
use mathlib.Core.List.{List, [], ◌∷◌, ◌++◌}
use native.Mathlib.Nat.{lt_irrefl}
use native.Mathlib.Omega.{arith}
use lib.Dec.{eqb}
use lib.ListN.{length, set}
use Rattle.numbers.specs.Promise.{Left1}
use Rattle.trace_text.specs.declared.lines.Cut.{Cut}
use Rattle.trace_text.specs.Cuts.{cut_of}

-- a cut goes on
not_back : (s : List ℕ) (at n : ℕ) (line : List ℕ) → at ≤ (cut_of at s n line).result.at
not_back [] at n line = omega arith
not_back (b ∷ s) at n line = go (eqb b 10) (not_back s (at + 1) (min n (length line) + 1) (set line n b))
  where
    go : (y : Bool) → at + 1 ≤ (cut_of (at + 1) s (min n (length line) + 1) (set line n b)).result.at
        → at ≤ (cond y (record { result = record { at = at + 1; held = n; ended = true }; first = line }) (cut_of (at + 1) s (min n (length line) + 1) (set line n b))).result.at
    go true h = omega arith
    go false h = omega arith

pub cut_goes : (at : ℕ) (s : List ℕ) (n : ℕ) (line : List ℕ) → 0 < length s → at < (cut_of at s n line).result.at
cut_goes at [] n line h = absurd (lt_irrefl 0 h)
cut_goes at (b ∷ s) n line h = go (eqb b 10) (not_back s (at + 1) (min n (length line) + 1) (set line n b))
  where
    go : (y : Bool) → at + 1 ≤ (cut_of (at + 1) s (min n (length line) + 1) (set line n b)).result.at
        → at < (cond y (record { result = record { at = at + 1; held = n; ended = true }; first = line }) (cut_of (at + 1) s (min n (length line) + 1) (set line n b))).result.at
    go true h = omega arith
    go false h = omega arith

-- WHERE A PIECE ENDS DOESN'T MATTER: bytes that come in two pieces are cut as if they came in one. The second is gone on with, unless the
-- line ended in the first.
abbrev pub gone_on : Left1 Cut (List ℕ) → List ℕ → Left1 Cut (List ℕ)
gone_on o b = cond o.result.ended o (cut_of o.result.at b o.result.held o.first)

pick : (y : Bool) (one more both : Left1 Cut (List ℕ)) (b : List ℕ) → one.result.ended ≡ true → both ≡ gone_on more b → cond y one both ≡ gone_on (cond y one more) b
pick true one more both b e h = sym (ap (λ (t : Bool). cond t one (cut_of one.result.at b one.result.held one.first)) e)
pick false one more both b e h = h

pub cut_append : (a b : List ℕ) (at n : ℕ) (line : List ℕ) → cut_of at (a ++ b) n line ≡ gone_on (cut_of at a n line) b
cut_append [] b at n line = refl
cut_append (x ∷ a) b at n line =
    pick (eqb x 10) (record { result = record { at = at + 1; held = n; ended = true }; first = line })
    (cut_of (at + 1) a (min n (length line) + 1) (set line n x)) (cut_of (at + 1) (a ++ b) (min n (length line) + 1) (set line n x)) b refl
    (cut_append a b (at + 1) (min n (length line) + 1) (set line n x))
