-- What a line says: exactly one command, or nothing. Assumes nothing.
use Rattle.std.specs.Prelude.{ℕ, ◌≡◌, cond, List, [], Option, Some, None, leb, length, take}
use Rattle.numbers.specs.Promise.{Left1}
use Rattle.trace_lines.specs.declared.command.Command.{Command}
use Rattle.trace_lines.specs.declared.command.Command.TheVariants.{New, Match, Write, Ack, Sent, Frag, Evict}
use Rattle.trace_lines.specs.Words.{Rest, rest, bytes, after_key, field, two, line_ended}
use Rattle.trace_lines.specs.Sets.{Members, these, none, set_said, numbers_room}

pub data Said : Type 0 where
  op_new : ℕ → ℕ → ℕ → ℕ → Said
  op_match : ℕ → Said
  op_write : ℕ → Said
  op_ack : ℕ → ℕ → List ℕ → Said
  op_sent : ℕ → ℕ → Said
  op_frag : ℕ → ℕ → List ℕ → Said
  op_evict : ℕ → Said
  unknown : Said

-- what is said, where the line ends here
abbrev pub at_end : Rest → Said → Said
at_end r c = cond (line_ended r) c unknown

abbrev pub with_set : Members → (List ℕ → Said) → Said
with_set (these l) c = c l
with_set none c = unknown

-- op=new window= backlog= retain= slots=
abbrev pub new_said : List ℕ → Said
new_said s =
    let t = two (bytes "op=new window=") (bytes " backlog=") (rest s) in
    let u = two (bytes " retain=") (bytes " slots=") t.after in
    at_end u.after (op_new t.first t.second u.first u.second)

-- op=match reader=
abbrev pub match_said : List ℕ → Said
match_said s = let r = field (bytes "op=match reader=") (rest s) in at_end r.after (op_match r.value)

-- op=write len=
abbrev pub write_said : List ℕ → Said
write_said s = let r = field (bytes "op=write len=") (rest s) in at_end r.after (op_write r.value)

-- op=ack reader= base= set=   "An `op=ack` number below its base gets 15"
abbrev pub ack_said : ℕ → List ℕ → Said
ack_said k s =
    let t = two (bytes "op=ack reader=") (bytes " base=") (rest s) in
    with_set (set_said k t.second (after_key (bytes " set=") t.after)) (op_ack t.first t.second)

-- op=sent reader= seq=
abbrev pub sent_said : List ℕ → Said
sent_said s = let t = two (bytes "op=sent reader=") (bytes " seq=") (rest s) in at_end t.after (op_sent t.first t.second)

-- op=frag reader= seq= set=
abbrev pub frag_said : ℕ → List ℕ → Said
frag_said k s =
    let t = two (bytes "op=frag reader=") (bytes " seq=") (rest s) in
    with_set (set_said k 0 (after_key (bytes " set=") t.after)) (op_frag t.first t.second)

-- op=evict before=
abbrev pub evict_said : List ℕ → Said
evict_said s = let r = field (bytes "op=evict before=") (rest s) in at_end r.after (op_evict r.value)

-- the first of some that says something
abbrev pub or_else : Said → Said → Said
or_else unknown d = d
or_else (op_new a b c d) e = op_new a b c d
or_else (op_match a) d = op_match a
or_else (op_write a) d = op_write a
or_else (op_ack a b l) d = op_ack a b l
or_else (op_sent a b) d = op_sent a b
or_else (op_frag a b l) d = op_frag a b l
or_else (op_evict a) d = op_evict a

-- a line without a set
abbrev pub plain_said : List ℕ → Said
plain_said s = or_else (new_said s) (or_else (match_said s) (or_else (write_said s) (or_else (sent_said s) (evict_said s))))

-- any line, with a set of at most k numbers
abbrev pub line_said : ℕ → List ℕ → Said
line_said k s = or_else (plain_said s) (or_else (ack_said k s) (frag_said k s))

-- "reads lines of at most 512 bytes": what a line says, with a set of at most k numbers
abbrev pub said : ℕ → List ℕ → Said
said k s = cond (leb (length s) 512) (line_said k s) unknown

-- ---- the code's answer: the command, with the numbers of its set in the room
abbrev pub command_of : Said → Option Command
command_of (op_new w b r s) = Some (New w b r s)
command_of (op_match r) = Some (Match r)
command_of (op_write n) = Some (Write n)
command_of (op_ack r b l) = Some (Ack r b (length l))
command_of (op_sent r q) = Some (Sent r q)
command_of (op_frag r q l) = Some (Frag r q (length l))
command_of (op_evict k) = Some (Evict k)
command_of unknown = None

abbrev pub numbers_in : Said → List ℕ
numbers_in (op_new w b r s) = []
numbers_in (op_match r) = []
numbers_in (op_write n) = []
numbers_in (op_ack r b l) = l
numbers_in (op_sent r q) = []
numbers_in (op_frag r q l) = l
numbers_in (op_evict k) = []
numbers_in unknown = []

-- the numbers stand at the start of the room
pub record Says (c : Said) (r : Option Command) (room : List ℕ) : Type 0 where
  pub command : r ≡ command_of c
  pub stand : take (length (numbers_in c)) room ≡ numbers_in c

abbrev pub count_in : Option Command → ℕ
count_in None = 0
count_in (Some (New w b r s)) = 0
count_in (Some (Match r)) = 0
count_in (Some (Write n)) = 0
count_in (Some (Ack r b n)) = n
count_in (Some (Sent r q)) = 0
count_in (Some (Frag r q n)) = n
count_in (Some (Evict k)) = 0

-- a room of n words holds the numbers, and zero in the rest
abbrev pub command_left : ℕ → Said → Left1 (Option Command) (List ℕ)
command_left n c = record { result = command_of c; first = numbers_room n (numbers_in c) }
