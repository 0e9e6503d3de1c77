-- From the commands to what a line says. Assumes nothing.
use Prim.Native.Nat.{ℕ, ◌-◌, ◌<◌, ◌≤◌}
use mathlib.Core.Path.{◌≡◌, refl, sym, ap, ◌∙◌}
use mathlib.Core.Bool.{Bool, true, false, cond}
use mathlib.Core.List.{List, [], ◌++◌, append-nil}
use native.Mathlib.Omega.{arith}
use lib.ListN.{length, take, drop, replicate, length-take, length-drop}
use borrow.Author.Tests.{le-leb, lt-leb}
use Rattle.std.specs.Prelude.{Option, Some, None, MatchOption}
use Rattle.numbers.specs.Promise.{Gives1}
use Rattle.sets.proofs.Loops.{done}
use Rattle.trace_lines.specs.declared.command.Command.{Command}
use Rattle.trace_lines.specs.Words.{bytes, rest, Read, field, Two, two, line_ended}
use Rattle.trace_lines.specs.Lines.{Said, op_new, op_match, op_write, op_ack, op_sent, op_frag, op_evict, unknown, at_end, or_else, new_said, match_said, write_said, sent_said, evict_said, plain_said, line_said, said, command_of, numbers_in, Says, count_in, command_left}

-- ---- the first that says something
pub or_is : (x y : Said) (r : Option Command) → MatchOption (command_of x) (r ≡ command_of y) (λ c. r ≡ Some c) → r ≡ command_of (or_else x y)
or_is (op_new a b c d) y r h = h
or_is (op_match a) y r h = h
or_is (op_write a) y r h = h
or_is (op_ack a b l) y r h = h
or_is (op_sent a b) y r h = h
or_is (op_frag a b l) y r h = h
or_is (op_evict a) y r h = h
or_is unknown y r h = h

pub or_else_is : (x y : Said) (o r : Option Command) (P : Type 0) → o ≡ command_of x → (P → r ≡ command_of y) → MatchOption o P (λ c. r ≡ Some c) → r ≡ command_of (or_else x y)
or_else_is x y None r P e f h = or_is x y r (rw (← e) (f h))
or_else_is x y (Some c) r P e f h = or_is x y r (rw (← e) h)

pub or_else-assoc : (x y z : Said) → or_else (or_else x y) z ≡ or_else x (or_else y z)
or_else-assoc (op_new a b c d) y z = refl
or_else-assoc (op_match a) y z = refl
or_else-assoc (op_write a) y z = refl
or_else-assoc (op_ack a b l) y z = refl
or_else-assoc (op_sent a b) y z = refl
or_else-assoc (op_frag a b l) y z = refl
or_else-assoc (op_evict a) y z = refl
or_else-assoc unknown y z = refl

pub first-says : (x y : Said) (c : Command) → Some c ≡ command_of x → x ≡ or_else x y
first-says (op_new a b c d) y r h = refl
first-says (op_match a) y r h = refl
first-says (op_write a) y r h = refl
first-says (op_ack a b l) y r h = refl
first-says (op_sent a b) y r h = refl
first-says (op_frag a b l) y r h = refl
first-says (op_evict a) y r h = refl
first-says unknown y r h = cc

pub second-says : (x y : Said) → None ≡ command_of x → y ≡ or_else x y
second-says (op_new a b c d) y h = cc
second-says (op_match a) y h = cc
second-says (op_write a) y h = cc
second-says (op_ack a b l) y h = cc
second-says (op_sent a b) y h = cc
second-says (op_frag a b l) y h = cc
second-says (op_evict a) y h = cc
second-says unknown y h = refl

-- a promise about one saying is one about an equal saying
pub says_as : {r : Option Command} {room : List ℕ} (c d : Said) → c ≡ d → Says c r room → Says d r room
says_as {r} {room} c d e g = rw (← e) g

-- a plain line has no numbers for the room
none-cond : (t : Bool) (c : Said) → numbers_in c ≡ [] → numbers_in (cond t c unknown) ≡ []
none-cond true c e = e
none-cond false c e = refl

none_one : (r : Read) (f : ℕ → Said) → ((n : ℕ) → numbers_in (f n) ≡ []) → numbers_in (at_end r.after (f r.value)) ≡ []
none_one r f e = none-cond (line_ended r.after) (f r.value) (e r.value)

none-two : (r : Two) (f : ℕ → ℕ → Said) → ((m n : ℕ) → numbers_in (f m n) ≡ []) → numbers_in (at_end r.after (f r.first r.second)) ≡ []
none-two r f e = none-cond (line_ended r.after) (f r.first r.second) (e r.first r.second)

none_or : (x y : Said) → numbers_in x ≡ [] → numbers_in y ≡ [] → numbers_in (or_else x y) ≡ []
none_or (op_new a b c d) y p q = refl
none_or (op_match a) y p q = refl
none_or (op_write a) y p q = refl
none_or (op_ack a b l) y p q = p
none_or (op_sent a b) y p q = refl
none_or (op_frag a b l) y p q = p
none_or (op_evict a) y p q = refl
none_or unknown y p q = q

pub plain_none : (s : List ℕ) → numbers_in (plain_said s) ≡ []
plain_none s =
    let t = two (bytes "op=new window=") (bytes " backlog=") (rest s) in
    none_or (new_said s) (or_else (match_said s) (or_else (write_said s) (or_else (sent_said s) (evict_said s))))
    (none-two (two (bytes " retain=") (bytes " slots=") t.after) (op_new t.first t.second) (λ (m n : ℕ). refl))
    (none_or (match_said s) (or_else (write_said s) (or_else (sent_said s) (evict_said s)))
    (none_one (field (bytes "op=match reader=") (rest s)) op_match (λ (n : ℕ). refl))
    (none_or (write_said s) (or_else (sent_said s) (evict_said s))
    (none_one (field (bytes "op=write len=") (rest s)) op_write (λ (n : ℕ). refl))
    (none_or (sent_said s) (evict_said s)
    (none-two (two (bytes "op=sent reader=") (bytes " seq=") (rest s)) op_sent (λ (m n : ℕ). refl))
    (none_one (field (bytes "op=evict before=") (rest s)) op_evict (λ (n : ℕ). refl)))))

pub plain-says : (s : List ℕ) (r : Option Command) (room : List ℕ) → r ≡ command_of (plain_said s) → Says (plain_said s) r room
plain-says s r room e = record { command = e; stand = ap (λ (l : List ℕ). take (length l) room) (plain_none s) ∙ sym (plain_none s) }

-- ---- the room
count-is : (c : Said) → count_in (command_of c) ≡ length (numbers_in c)
count-is (op_new a b c d) = refl
count-is (op_match a) = refl
count-is (op_write a) = refl
count-is (op_ack a b l) = refl
count-is (op_sent a b) = refl
count-is (op_frag a b l) = refl
count-is (op_evict a) = refl
count-is unknown = refl

module _ (c : Said) (r : Option Command) (room : List ℕ) (g : Says c r room) (n : ℕ) (e : n ≡ count_in r) where
  held : n ≡ length (numbers_in c)
  held = e ∙ ap count_in g.command ∙ count-is c

  pub held_fits : n ≤ length room
  held_fits = omega (arith, held, ap length g.stand, length-take (length (numbers_in c)) room)

  -- the rest of it cleared: z is what a part of it becomes
  pub cleared : (k : ℕ) (z : List ℕ) → length room ≡ k → z ≡ replicate (length room - n) 0
      → Gives1 r (take n room ++ (z ++ drop (length room - n) (drop n room))) (command_left k c)
  cleared k z q h =
      let gone : drop (length room - n) (drop n room) ≡ [] = done (drop n room) (length room - n) (rw length-drop (omega arith)) in
      record {
        result = g.command;
        first = rw (gone, append-nil, h, ← q, held) (ap (λ (l : List ℕ). l ++ replicate (length room - length (numbers_in c)) 0) g.stand);
      }

-- ---- what is said, of a line that is not too long
pub short_is : (k : ℕ) (s : List ℕ) → length s ≤ 512 → line_said k s ≡ said k s
short_is k s h = rw (le-leb (length s) 512 h) refl

pub long_is : (k : ℕ) (s : List ℕ) → 512 < length s → unknown ≡ said k s
long_is k s h = rw (lt-leb (length s) 512 h) refl

pub given_as : {r : Option Command} {room : List ℕ} (n : ℕ) (c d : Said) → c ≡ d → Gives1 r room (command_left n c) → Gives1 r room (command_left n d)
given_as {r} {room} n c d e g = rw (← e) g
