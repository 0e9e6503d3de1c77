-- What a call promises: its result and the later content of each thing that it was lent, each an equation with a part of one computed outcome.
-- Assumes nothing.
use Rattle.std.specs.Prelude.{◌≡◌}

-- what a call leaves: its result, and the later content of one to four things lent
pub record Left1 (A B : Type 0) : Type 0 where
  pub result : A
  pub first : B

pub record Left2 (A B C : Type 0) : Type 0 where
  pub result : A
  pub first : B
  pub second : C

pub record Left3 (A B C D : Type 0) : Type 0 where
  pub result : A
  pub first : B
  pub second : C
  pub third : D

pub record Left4 (A B C D E : Type 0) : Type 0 where
  pub result : A
  pub first : B
  pub second : C
  pub third : D
  pub fourth : E

-- the promise: they are those of the outcome
pub record Gives1 {A B : Type 0} (r : A) (u : B) (o : Left1 A B) : Type 0 where
  pub result : r ≡ o.result
  pub first : u ≡ o.first

pub record Gives2 {A B C : Type 0} (r : A) (u : B) (v : C) (o : Left2 A B C) : Type 0 where
  pub result : r ≡ o.result
  pub first : u ≡ o.first
  pub second : v ≡ o.second

pub record Gives3 {A B C D : Type 0} (r : A) (u : B) (v : C) (w : D) (o : Left3 A B C D) : Type 0 where
  pub result : r ≡ o.result
  pub first : u ≡ o.first
  pub second : v ≡ o.second
  pub third : w ≡ o.third

pub record Gives4 {A B C D E : Type 0} (r : A) (u : B) (v : C) (w : D) (x : E) (o : Left4 A B C D E) : Type 0 where
  pub result : r ≡ o.result
  pub first : u ≡ o.first
  pub second : v ≡ o.second
  pub third : w ≡ o.third
  pub fourth : x ≡ o.fourth
