-- A law of the words. Assumes nothing.
use Prim.Native.Nat.{ℕ}
use mathlib.Core.Path.{◌≡◌, refl}
use mathlib.Core.Bool.{cond}
use mathlib.Core.List.{List}
use lib.Dec.{eqb}
use borrow.Author.Tests.{ne_eqb}

-- a row that doesn't hold is passed by
pub past1 : (n a : ℕ) (k l : List ℕ) → (n ≡ a → ⊥) → l ≡ cond (eqb n a) k l
past1 n a k l p = rw (ne_eqb n a p) refl
