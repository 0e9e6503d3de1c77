-- What the words of a line say: keys and numbers. "Numbers are 1 to 19 digits, up to 2^63−1, no sign". Assumes nothing.
use Rattle.std.specs.Prelude.{ℕ, zero, suc, ◌+◌, ◌-◌, ◌*◌, Bool, true, false, cond, ◌&&◌, List, [], ◌∷◌, Option, Some, None, ltb, leb, eqb}
use Prim.Native.String.{String, [] as none, ◌∷◌ as cons}
use Prim.Native.Char.{code}
use Rattle.std.specs.Borrow.{Bor}

-- the bytes of a text
abbrev pub bytes : String → List ℕ
bytes none = []
bytes (cons c s) = code c ∷ bytes s

-- what is left of a line, unless it is bad
pub data Rest : Type 0 where
  rest : List ℕ → Rest
  bad : Rest

-- past the key k
abbrev pub past_key : List ℕ → List ℕ → Rest
past_key [] s = rest s
past_key (x ∷ k) [] = bad
past_key (x ∷ k) (y ∷ s) = cond (eqb y x) (past_key k s) bad

abbrev pub after_key : List ℕ → Rest → Rest
after_key k (rest s) = past_key k s
after_key k bad = bad

-- a number, and what is left after it
pub record Read : Type 0 where
  pub value : ℕ
  pub after : Rest

abbrev pub nothing : Read
nothing = record { value = 0; after = bad }

abbrev pub is_digit : ℕ → Bool
is_digit b = leb 48 b && leb b 57

-- up to 2^63−1
abbrev pub up_to63 : ℕ → List ℕ → Read
up_to63 v s = cond (ltb v 9223372036854775808) (record { value = v; after = rest s }) nothing

-- at most k digits more
abbrev pub digits_read : ℕ → ℕ → List ℕ → Read
digits_read k v [] = up_to63 v []
digits_read zero v (b ∷ s) = cond (is_digit b) nothing (up_to63 v (b ∷ s))
digits_read (suc k) v (b ∷ s) = cond (is_digit b) (digits_read k (v * 10 + (b - 48)) s) (up_to63 v (b ∷ s))

-- 1 to 19 digits
abbrev pub number_in : List ℕ → Read
number_in [] = nothing
number_in (b ∷ s) = cond (is_digit b) (digits_read 18 (b - 48) s) nothing

abbrev pub number_of : Rest → Read
number_of (rest s) = number_in s
number_of bad = nothing

-- a key, and the number behind it
abbrev pub field : List ℕ → Rest → Read
field k r = number_of (after_key k r)

-- two fields, one after the other
pub record Two : Type 0 where
  pub first : ℕ
  pub second : ℕ
  pub after : Rest

abbrev pub two : List ℕ → List ℕ → Rest → Two
two k l r = record { first = (field k r).value; second = (field l (field k r).after).value; after = (field l (field k r).after).after }

-- whether the line ends here
abbrev pub line_ended : Rest → Bool
line_ended bad = false
line_ended (rest []) = true
line_ended (rest (b ∷ s)) = false

-- ---- the code's answers: what is left of a line, and a number with what is left after it
abbrev pub rest_of : Option (Bor (List ℕ)) → Rest
rest_of None = bad
rest_of (Some s) = rest s.now

abbrev pub read_of : Option (ℕ × Bor (List ℕ)) → Read
read_of None = nothing
read_of (Some p) = record { value = p.0; after = rest p.1.now }
