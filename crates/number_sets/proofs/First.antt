-- The first of a list as what it is asked for. Assumes nothing.
use Prim.Native.Nat.{ℕ, suc, ◌<◌}
use mathlib.Core.Path.{◌≡◌, refl, ap}
use mathlib.Core.Bool.{Bool, true, false, not, ◌||◌, true≢false, false≢true}
use mathlib.Core.List.{List, [], ◌∷◌}
use native.Mathlib.Omega.{arith}
use borrow.Author.Tests.{eq-eqb, ne_eqb}
use Rattle.std.specs.Prelude.{Some, None, is_some, slice_get}
use Rattle.sets.specs.Sets.{has, From, empty, first_or}
use Rattle.sets.proofs.Ext.{From_off}

-- there is none, or there is one
pub first_none : (l : List ℕ) → empty l ≡ true → slice_get l 0 ≡ None
first_none [] e = refl
first_none (x ∷ xs) e = absurd (false≢true e)

pub first_some : (x : ℕ) (l : List ℕ) → empty l ≡ false → first_or 0 l ≡ x → slice_get l 0 ≡ Some x
first_some x [] e f = absurd (true≢false e)
first_some x (y ∷ ys) e f = ap (λ (n : ℕ). Some n) f

pub first_there : (l : List ℕ) → is_some (slice_get l 0) ≡ not (empty l)
first_there [] = refl
first_there (x ∷ xs) = refl

-- and back: where there is none the list has nothing, and the first of a rising one is in it, with nothing below it
pub first_gone : (l : List ℕ) → slice_get l 0 ≡ None → (m : ℕ) → has l m ≡ false
first_gone [] e m = refl
first_gone (x ∷ xs) e m = cc

pub first_found : (b i : ℕ) (l : List ℕ) → From b l → slice_get l 0 ≡ Some i → (has l i ≡ true) × ((m : ℕ) → m < i → has l m ≡ false)
first_found b i [] h e = cc
first_found b i (x ∷ xs) h e =
    let s : x ≡ i = cc in (
      ap (λ (t : Bool). t || has xs i) (eq-eqb x i s),
      λ m u. rw (ne_eqb x m (λ (z : x ≡ m). omega arith)) (From_off (suc x) xs m h.1 (omega arith)),
    )
