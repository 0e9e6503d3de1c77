-- DEMAND 3, stated. It is proved in proofs/Demand3.antt; what goes wrong without each premise is computed in proofs/Needed.antt.
-- Assumes nothing.
use Rattle.std.specs.Prelude.{ℕ, suc, ◌+◌, ◌-◌, ◌/◌, ◌≤◌, ◌<◌, min, ◌≡◌, Bool, true, false, List, []}
use Rattle.std.proofs.Math.Option.{some}
use Rattle.sets.specs.Sets.{has}
use Rattle.writer_send_buffer.specs.declared.limits.Kind.{Kind}
use Rattle.writer_send_buffer.specs.declared.limits.Limits.{Limits}
use Rattle.writer_send_buffer.specs.Flow.{allowed, trims, acked_through}
use Rattle.other_end.specs.Model.{base}
use Rattle.other_end.specs.System.{Line, State, Event, find, run, start}
use Rattle.other_end.specs.Rounds.{Round, Rounds, clean_round, clean_rounds}
use Rattle.other_end.specs.Coherent.{Coherent}
use Rattle.other_end.specs.AsCalled.{Starts, AsCalled}
use Rattle.numbers.specs.Capacities.{most_readers, most_bits}

-- a state that the system comes to, from a new writer of any kind with any limits of the table and room for 1 to 64 readers, by any events in any order
pub record Reached (s : State) : Type 0 where
  pub kind : Kind
  pub limits : Limits
  pub slots : ℕ
  pub allowed : allowed limits ≡ true
  pub some : 1 ≤ slots
  pub few : slots ≤ most_readers
  pub events : List Event
  pub comes : run events (start kind limits slots) ≡ s

-- the reader i is there, and its id had not been matched before
pub record Present (s : State) (i : ℕ) (l : Line) : Type 0 where
  pub reached : Reached s
  pub there : find i s.lines ≡ some l
  pub anew : l.anew ≡ true

-- it is reliable and was matched before the first write (and is kept, since it is there); the writer is reliable, and has evicted up to the frontier only
pub record Kept (s : State) (i : ℕ) (l : Line) : Type 0 where
  pub present : Present s i l
  pub reliable : l.reliable ≡ true
  pub early : l.since ≡ 0
  pub writer : s.flow.kind.reliable ≡ true
  pub careful : s.careful ≡ true

-- the line has the sample n as data; and: it has n as data or was told of it as a gap
abbrev pub HasData : Line → ℕ → Type 0
HasData l n = has l.model.samples n ≡ true

abbrev pub HasSettled : Line → ℕ → Type 0
HasSettled l n = has l.model.settled n ≡ true

-- l, kept in s, is l' in s' and is still kept, unless an eviction went past the frontier meanwhile; and what it has below its base came as data
abbrev pub StaysKept : State → State → ℕ → Line → Line → Type 0
StaysKept s s' i l l' = Kept s i l → s'.careful ≡ true → Kept s' i l' × ((n : ℕ) → 1 ≤ n → n < base l'.model → HasData l' n)

-- what a clean round makes of the line l, where `last` is the last number written
pub record MovedOn (last : ℕ) (l l' : Line) : Type 0 where
  pub on : (n : ℕ) → base l.model + n ≡ suc last → base l.model + min n (min most_bits l.server.cap) ≤ base l'.model
  pub within : base l'.model ≤ suc last
  pub agree : l'.server.acked ≡ base l'.model
  pub clear : base l'.model ≡ suc last → l'.server.unsent ≡ []

-- n divided by c, rounded up
abbrev pub rounds_for : ℕ → ℕ → ℕ
rounds_for n c = (n + (c - 1)) / c

pub record Demand3 : Type 0 where
  -- 1. CREDIT: the writer never credits a kept line with a number whose data it hasn't received; nor does the stored frontier; and where
  -- `is_acked_through` says yes to t, it has the data of all through t
  pub credit : (s : State) (i : ℕ) (l : Line) → Kept s i l → (n : ℕ) → 1 ≤ n → n < l.server.acked → HasData l n
  pub frontier : (s : State) (i : ℕ) (l : Line) → Kept s i l → (n : ℕ) → 1 ≤ n → n < s.flow.acked → HasData l n
  pub through : (s : State) (i : ℕ) (l : Line) → Kept s i l → (t : ℕ) → acked_through t s.flow ≡ true → (n : ℕ) → 1 ≤ n → n ≤ t → HasData l n
  -- 2. EVICTION: no number that is no longer retained is missing at a kept line, and while it is there no write trims
  pub evicted : (s : State) (i : ℕ) (l : Line) → Kept s i l → (n : ℕ) → 1 ≤ n → n < s.flow.first → HasData l n
  pub untrimmed : (s : State) (i : ℕ) (l : Line) → Kept s i l → (opted : Bool) → trims s.flow opted ≡ false
  -- 3. A CLEAN ROUND moves any line on, in whatever order its numbers are sent and received, and whatever else but a write goes on beside it; one by one
  -- is such an order. A kept line stays kept, so that what it gained came as data
  pub round : (s s' : State) (i : ℕ) (l : Line) → Present s i l → Round i s s'
      → (l' : Line) × Present s' i l' × (s'.flow.last ≡ s.flow.last) × (l'.server.cap ≡ l.server.cap) × MovedOn s.flow.last l l' × StaysKept s s' i l l'
  pub one_by_one : (s : State) (i : ℕ) (l : Line) → Present s i l → Round i s (clean_round i s)
  -- 4. BEYOND THE DEMAND: any line, a late one too, is credited only with what it received or was told as a gap
  pub told : (s : State) (i : ℕ) (l : Line) → Present s i l → (n : ℕ) → 1 ≤ n → n < l.server.acked → HasSettled l n
  -- a line that is n behind is level after at most n / min(256, M) clean rounds, rounded up, whatever else but a write happens before and between them;
  -- after every one of them both ends hold the same next number; and a kept line stays kept
  pub level : (s s' : State) (i r : ℕ) (l : Line) → Present s i l → Rounds i r s s'
      → (l' : Line) × Present s' i l' × (s'.flow.last ≡ s.flow.last)
      × ((n : ℕ) → base l.model + n ≡ suc s.flow.last → rounds_for n (min most_bits l.server.cap) ≤ r → base l'.model ≡ suc s.flow.last)
      × (1 ≤ r → (l'.server.acked ≡ base l'.model) × (base l'.model ≡ suc s.flow.last → l'.server.unsent ≡ []))
      × StaysKept s s' i l l'
  -- and such rounds can always be had, as many as one likes
  pub always : (s : State) (i : ℕ) (l : Line) → Present s i l → (r : ℕ) → Rounds i r s (clean_rounds i r s)
  -- no call of the system is refused with 1
  pub coherent : (s : State) → Reached s → Coherent s
  -- and a new writer and every event of the writer are what its calls make: so all of the above is about these calls
  pub starts : (k : Kind) (l : Limits) (slots : ℕ) → allowed l ≡ true → Starts k l slots
  pub calls : (s : State) → Reached s → (e : Event) → AsCalled e s
