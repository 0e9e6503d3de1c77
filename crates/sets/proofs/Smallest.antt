-- The m smallest and the m largest of a set. Assumes nothing.
use Prim.Native.Nat.{ℕ, zero, suc, ◌+◌, ◌-◌, ◌≤◌, ◌<◌}
use mathlib.Core.Path.{◌≡◌, refl}
use mathlib.Core.Bool.{Bool, true, false, ◌||◌, false≢true}
use native.Mathlib.Nat.{lt_irrefl}
use mathlib.Core.List.{List, [], ◌∷◌}
use lib.Dec.{eqb}
use lib.ListN.{length, take, drop, length-take, length-drop}
use native.Mathlib.Omega.{arith}
use Rattle.sets.specs.Sets.{has, From, smallest, largest}
use Rattle.sets.proofs.Bools.{or_right}
use Rattle.sets.proofs.Has.{From-low, From_weak}

pub From-take : (k b : ℕ) (l : List ℕ) → From b l → From b (take k l)
From-take zero b l h = tt
From-take (suc k) b [] h = tt
From-take (suc k) b (x ∷ xs) h = (h.0, From-take k (suc x) xs h.1)

pub From-drop : (k b : ℕ) (l : List ℕ) → From b l → From b (drop k l)
From-drop zero b l h = h
From-drop (suc k) b [] h = tt
From-drop (suc k) b (x ∷ xs) h = From_weak b (suc x) (drop k xs) (omega (arith, h.0)) (From-drop k (suc x) xs h.1)

pub has_take_sub : (k : ℕ) (l : List ℕ) (n : ℕ) → has (take k l) n ≡ true → has l n ≡ true
has_take_sub zero l n e = absurd (false≢true e)
has_take_sub (suc k) [] n e = e
has_take_sub (suc k) (x ∷ xs) n e = go (eqb x n) e (has_take_sub k xs n)
  where
    go : (t : Bool) → (t || has (take k xs) n) ≡ true → (has (take k xs) n ≡ true → has xs n ≡ true) → (t || has xs n) ≡ true
    go true f r = refl
    go false f r = r f

pub has_drop_sub : (k : ℕ) (l : List ℕ) (n : ℕ) → has (drop k l) n ≡ true → has l n ≡ true
has_drop_sub zero l n e = e
has_drop_sub (suc k) [] n e = e
has_drop_sub (suc k) (x ∷ xs) n e = or_right (eqb x n) (has xs n) (has_drop_sub k xs n e)

-- of a rising set from b, the M smallest hold all of it that is below b + M
pub has-take : (m b : ℕ) (l : List ℕ) (n : ℕ) → From b l → n < b + m → has l n ≡ true → has (take m l) n ≡ true
has-take zero b l n h q e = absurd (lt_irrefl n (omega (arith, From-low b l n h e)))
has-take (suc m) b [] n h q e = e
has-take (suc m) b (x ∷ xs) n h q e = go (eqb x n) e (has-take m (suc x) xs n h.1 (omega (arith, h.0)))
  where
    go : (t : Bool) → (t || has xs n) ≡ true → (has xs n ≡ true → has (take m xs) n ≡ true) → (t || has (take m xs) n) ≡ true
    go true f r = refl
    go false f r = r f

pub From-smallest : (m b : ℕ) (l : List ℕ) → From b l → From b (smallest m l)
From-smallest m b l h = From-take m b l h

pub From-largest : (m b : ℕ) (l : List ℕ) → From b l → From b (largest m l)
From-largest m b l h = From-drop (length l - m) b l h

pub smallest-few : (m : ℕ) (l : List ℕ) → length (smallest m l) ≤ m
smallest-few m l = rw length-take (omega arith)

pub largest-few : (m : ℕ) (l : List ℕ) → length (largest m l) ≤ m
largest-few m l = rw length-drop (omega arith)
