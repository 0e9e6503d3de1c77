-- A question for the next number: whatever isn't coherent gets 1, and else only the right number counts. Assumes nothing.
use Prim.Native.Nat.{ℕ}
use mathlib.Core.Path.{◌≡◌, refl, ap, ◌∙◌}
use mathlib.Core.Bool.{Bool, true, false}
use mathlib.Core.List.{[], ◌∷◌}
use Rattle.numbers.specs.Refusals.{row}
use Rattle.numbers.specs.Cursor.{next_number}

pub next-same : (bad none none' : Bool) (n n' : ℕ) → (bad ≡ false → (none ≡ none') × (n ≡ n'))
    → next_number (row 1 refl bad ∷ row 14 refl none ∷ []) n ≡ next_number (row 1 refl bad ∷ row 14 refl none' ∷ []) n'
next-same true none none' n n' h = refl
next-same false none none' n n' h =
    ap (λ (t : Bool). next_number (row 1 refl false ∷ row 14 refl t ∷ []) n) (h refl).0 ∙ ap (next_number (row 1 refl false ∷ row 14 refl none' ∷ [])) (h refl).1
