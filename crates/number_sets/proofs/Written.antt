-- The set written for given numbers. Assumes nothing.
use Prim.Native.Nat.{ℕ, ◌+◌, max}
use mathlib.Core.Path.{◌≡◌, ◌∙◌}
use mathlib.Core.List.{List, []}
use native.Mathlib.Omega.{arith}
use Rattle.sets.specs.Sets.{has, union}
use Rattle.sets.proofs.Bools.{or_no}
use Rattle.sets.proofs.Has.{has-union}
use Rattle.number_sets.specs.Bits.{in_window, span, words_for}
use Rattle.number_sets.specs.Words.{joined}
use Rattle.number_sets.proofs.Eight.{words_same}

-- numbers that join an empty set
pub joined_empty : (b : ℕ) (ws ns : List ℕ) → joined (record { base = b; count = 0; words = ws }) ns ≡ record { base = b; count = span b (in_window b ns); words = words_for b (in_window b ns) }
joined_empty b ws ns =
    let w = in_window b ns in
    let c : max 0 (span b (in_window b ns)) ≡ span b (in_window b ns) = omega arith in
    let e : words_for b (union (in_window b ns) []) ≡ words_for b (in_window b ns) =
    words_same (λ i. has (union w []) (b + i)) (λ i. has w (b + i)) (λ i u. has-union w [] (b + i) ∙ or_no (has w (b + i))) in
    rw (c, e)
