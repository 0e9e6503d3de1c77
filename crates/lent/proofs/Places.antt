-- Places in a list, and a fold from one place on: what the walks share. Assumes nothing.
use mathlib.Core.Path.{◌≡◌}
use Prim.Native.Nat.{ℕ, ◌<◌, ◌≤◌, ◌^◌, ◌*◌, ◌+◌, ◌-◌}
use native.Mathlib.Nat.{mul-le-mul_right, le_of_lt}
use native.Mathlib.Numerals.{add-one}
use native.Mathlib.Omega.{arith}
use mathlib.Core.List.{List, foldl}
use lib.ListN.{length, get_or, drop as past, drop_of_length-le}
use lib.Seq.{drop-cons}
use mir.Syntax.{Ty, w64, ty_int}

abbrev pub word : Ty
word = ty_int w64

pub place-fits : (s : ℕ) {i n : ℕ} → i < n → n * s < 2 ^ 63 → i * s < 2 ^ 64
place-fits s l room = omega (arith, mul-le-mul_right s (le_of_lt l))

pub next_fits : {i n : ℕ} → i < n → n < 2 ^ 64 → i + 1 < 2 ^ 64
next_fits l f = omega arith

pub nearer : {i n : ℕ} → i < n → n - (i + 1) < n - i
nearer l = omega arith

-- one element more, and none
module _ {X Y : Type 0} (step : Y → X → Y) (d : X) (ys : List X) (i : ℕ) (a all : Y) where
  pub one_more : i < length ys → foldl step a (past i ys) ≡ all → foldl step (step a (get_or ys i d)) (past (i + 1) ys) ≡ all
  one_more l e = rw add-one (rw (drop-cons ys i d l) at e)

  pub none_left : length ys ≤ i → foldl step a (past i ys) ≡ all → a ≡ all
  none_left l e = rw (drop_of_length-le ys l) at e
