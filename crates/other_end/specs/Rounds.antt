-- A clean round of a line, "with nothing else delivered and no write: heartbeat, ACKNACK taken, unsent numbers sent and received until none is left,
-- second ACKNACK taken"; and several of them. "Nothing else delivered" is read for the line: nothing else to it or from it. Whatever else goes on beside
-- it is free but a write, so that the rounds of several lines may interleave, each seeing only its own deliveries. Assumes nothing.
use Rattle.std.specs.Prelude.{ℕ, zero, suc, ◌+◌, ◌<◌, ◌≡◌, true, ◌⊎◌, List, [], ◌∷◌, length}
use Rattle.std.proofs.Math.Option.{Option, none, some}
use Rattle.sets.specs.Sets.{has}
use Rattle.other_end.specs.System.{Line, Body, sample, gap, beat, ack, Msg, State, Event, match, depart, write, sent_to, evict_to, call, heartbeat, send, reply, deliver, find, nth, run, step}

-- BESIDE A LINE

-- a message, if there is one, that is neither to the line i nor from it
abbrev pub Elsewhere : ℕ → Option Msg → Type 0
Elsewhere i none = Unit {0}
Elsewhere i (some m) = m.line ≡ i → ⊥

-- the event, in the state s, is beside the line i: no write; no departure and no other call of i; and no delivery to i or from it. What is sent to i or
-- from it, and isn't delivered, is nothing to it; and a match of i is refused while i is there
abbrev pub Beside : ℕ → Event → State → Type 0
Beside i (match j r m) s = Unit {0}
Beside i (depart j) s = j ≡ i → ⊥
Beside i (write len opted) s = ⊥
Beside i (sent_to n) s = Unit {0}
Beside i (evict_to n) s = Unit {0}
Beside i (call j c) s = j ≡ i → ⊥
Beside i (heartbeat j) s = Unit {0}
Beside i (send j) s = Unit {0}
Beside i (reply j) s = Unit {0}
Beside i (deliver k) s = Elsewhere i (nth s.net k)

-- each of the events, in the state that it comes in
abbrev pub Each : (Event → State → Type 0) → List Event → State → Type 0
Each P [] s = Unit {0}
Each P (e ∷ es) s = P e s × Each P es (step e s)

-- THE ROUND

-- the event e puts a message into the network, and that message arrives, after events beside the line i. It is known by its place from the oldest: the
-- messages that were there before it. `deliver` counts from the newest
pub record Carried (i : ℕ) (e : Event) (s s' : State) : Type 0 where
  pub meanwhile : List Event
  pub beside : Each (Beside i) meanwhile (step e s)
  pub place : ℕ
  pub that : suc place + length s.net ≡ length (run meanwhile (step e s)).net
  pub ends : step (deliver place) (run meanwhile (step e s)) ≡ s'

-- a message is to its reader, not from it
abbrev pub Outward : Body → Type 0
Outward (sample n) = Unit {0}
Outward (gap n) = Unit {0}
Outward (beat k) = Unit {0}
Outward (ack z) = ⊥

-- the event delivers a message to the line i
pub record Arrives (i : ℕ) (e : Event) (s : State) : Type 0 where
  pub place : ℕ
  pub body : Body
  pub delivers : e ≡ deliver place
  pub that : nth s.net place ≡ some (record { line = i; body = body })
  pub outward : Outward body

-- between the two ACKNACKs what is sent to the line i arrives too, in any order, any number of times, among events beside it. What was sent to it before
-- may arrive as well, though document 01's round has no such delivery
abbrev pub RoundEvent : ℕ → Event → State → Type 0
RoundEvent i e s = Beside i e s ⊎ Arrives i e s

-- what a message says is settled at the line
abbrev pub SettledAt : Line → Body → Type 0
SettledAt l (sample n) = has l.model.settled n ≡ true
SettledAt l (gap n) = has l.model.settled n ≡ true
SettledAt l (beat k) = Unit {0}
SettledAt l (ack z) = Unit {0}

-- of all messages but the `old` ones, those to the line i, which is l, have been received
abbrev pub Received : ℕ → ℕ → Line → State → Type 0
Received i old l s = (k : ℕ) (m : Msg) → k + old < length s.net → nth s.net k ≡ some m → m.line ≡ i → SettledAt l m.body

-- a clean round of the line i, from s to s': the heartbeat arrives, and `heard` is the state then; events beside the line; an ACKNACK arrives, and `begun`
-- is the state then; any such exchange after which nothing is unsent and all that was sent to the line in it was received; a second ACKNACK arrives
pub record Round (i : ℕ) (s s' : State) : Type 0 where
  pub heard : State
  pub announced : Carried i (heartbeat i) s heard
  pub before : List Event
  pub beside : Each (Beside i) before heard
  pub begun : State
  pub first : Carried i (reply i) (run before heard) begun
  pub events : List Event
  pub exchange : Each (RoundEvent i) events begun
  pub drained : (l : Line) → find i (run events begun).lines ≡ some l → l.server.unsent ≡ []
  pub received : (l : Line) → find i (run events begun).lines ≡ some l → Received i (length begun.net) l (run events begun)
  pub second : Carried i (reply i) (run events begun) s'

-- ONE BY ONE, with nothing beside it: a clean round that computes

-- the heartbeat, and the first ACKNACK taken: the newest message is `deliver 0`'s
abbrev pub round_opened : ℕ → State → State
round_opened i s = run (heartbeat i ∷ deliver 0 ∷ reply i ∷ deliver 0 ∷ []) s

-- the second ACKNACK taken
abbrev pub round_closed : ℕ → State → State
round_closed i s = run (reply i ∷ deliver 0 ∷ []) s

-- n unsent numbers, each sent and at once received
abbrev pub sends : ℕ → ℕ → List Event
sends i zero = []
sends i (suc n) = send i ∷ deliver 0 ∷ sends i n

abbrev pub unsent_of : Option Line → ℕ
unsent_of none = 0
unsent_of (some l) = length l.server.unsent

abbrev pub drained : ℕ → State → State
drained i s = run (sends i (unsent_of (find i s.lines))) s

abbrev pub clean_round : ℕ → State → State
clean_round i s = round_closed i (drained i (round_opened i s))

-- SEVERAL ROUNDS, with anything before each but a write and the line's departure

abbrev pub Quiet : ℕ → List Event → Type 0
Quiet i [] = Unit {0}
Quiet i (write len opted ∷ es) = ⊥
Quiet i (depart j ∷ es) = (j ≡ i → ⊥) × Quiet i es
Quiet i (match j r m ∷ es) = Quiet i es
Quiet i (sent_to n ∷ es) = Quiet i es
Quiet i (evict_to n ∷ es) = Quiet i es
Quiet i (call j c ∷ es) = Quiet i es
Quiet i (heartbeat j ∷ es) = Quiet i es
Quiet i (send j ∷ es) = Quiet i es
Quiet i (reply j ∷ es) = Quiet i es
Quiet i (deliver k ∷ es) = Quiet i es

abbrev pub Rounds : ℕ → ℕ → State → State → Type 0
Rounds i zero s s' = s ≡ s'
Rounds i (suc r) s s' = (es : List Event) × Quiet i es × (t : State) × Round i (run es s) t × Rounds i r t s'

-- r rounds, one straight after the other, each number sent and received at once
abbrev pub clean_rounds : ℕ → ℕ → State → State
clean_rounds i zero s = s
clean_rounds i (suc r) s = clean_rounds i r (clean_round i s)
