-- A question for the next number, by what the code found: the first of those that it looks at, if there is one. Assumes nothing.
use Rattle.std.proofs.Common.{◌≡◌, ℕ, Bool, true, false, not, List, [], ◌∷◌, refl, ◌∙◌}
use Rattle.std.specs.Prelude.{Option, Some, None, is_some, is_none, unwrap_or}
use Rattle.std.specs.List.{slice_get}
use Rattle.sets.specs.Sets.{empty, first_or}
use Rattle.numbers.specs.Refusals.{row}
use Rattle.numbers.specs.Cursor.{next_number}
use Rattle.numbers.proofs.Next.{next-same}
use Rattle.rising.proofs.Changes.{first-or}

pub next-found : (bad : Bool) (l : List ℕ) (r : Option ℕ) (t : Bool) (n : ℕ) → (bad ≡ false → r ≡ slice_get l 0) → is_some r ≡ not t → n ≡ unwrap_or r 0
    → next_number (row 1 refl bad ∷ row 14 refl t ∷ []) n ≡ next_number (row 1 refl bad ∷ row 14 refl (empty l) ∷ []) (first_or 0 l)
next-found bad l r t n e et en = next-same bad t (empty l) n (first_or 0 l) (λ b. let f = first-or l r (e b) in (missing r t et ∙ f.0, en ∙ f.1))
  where
    missing : (r : Option ℕ) (t : Bool) → is_some r ≡ not t → t ≡ is_none r
    missing (Some x) true e = cc
    missing (Some x) false e = refl
    missing None true e = refl
    missing None false e = cc
