-- What becomes of a line while a round goes on: at the heartbeat, at an ACKNACK, and between the two ACKNACKs, in whatever order numbers are sent and
-- received, and whatever goes on beside it. Assumes nothing.
use Prim.Native.Nat.{ℕ, suc, ◌+◌, ◌≤◌, ◌<◌}
use mathlib.Core.Path.{◌≡◌, refl, sym, ap, subst, ◌∙◌}
use mathlib.Core.Bool.{Bool, true, false, not, cond, ◌||◌, true≢false, false≢true}
use mathlib.Core.Logic.{◌⊎◌, inl, inr}
use mathlib.Core.List.{List, [], ◌∷◌}
use mathlib.Core.Option.{Option, some}
use lib.Dec.{ltb, eqb}
use lib.ListN.{length}
use native.Mathlib.Omega.{arith}
use borrow.Author.Tests.{eqb-true, ne_eqb, le-ltb}
use Rattle.sets.specs.Sets.{has, insert, without}
use Rattle.sets.proofs.Bools.{or_right, and_both, decide}
use Rattle.sets.proofs.Has.{has-insert, has-without}
use Rattle.numbers.specs.Refusals.{row}
use Rattle.number_sets.specs.Bits.{NumberSet, members}
use Rattle.rtps_reader_proxy.specs.Reader.{base_of, is_ahead, acknowledge, marked_sent}
use Rattle.reader_list.specs.Readers.{is_there}
use Rattle.reader_list.specs.Slots.{id_unknown}
use Rattle.writer_send_buffer.specs.Flow.{retained}
use Rattle.other_end.specs.Model.{Model, got_data, got_gap, got_beat, base, bits, model_asks, ack_nack}
use Rattle.other_end.specs.System.{Line, Body, sample, gap, beat, ack, Msg, State, Event, heartbeat, send, reply, upd, nth, on_server, on_model, with_lines, post, tried, acknowledges, arrive, arrives, beat_to, reply_from, step, run}
use Rattle.other_end.specs.Rounds.{Each, Carried, Outward, RoundEvent, SettledAt, Received}
use Rattle.other_end.proofs.Gaps.{asks}
use Rattle.other_end.proofs.Found.{find-same}
use Rattle.other_end.proofs.Records.{Above}
use Rattle.other_end.proofs.Fine.{Fine, base-last}
use Rattle.other_end.proofs.Sound.{Sound}
use Rattle.other_end.proofs.Runs.{sound_step}
use Rattle.other_end.proofs.Beside.{Same, same, same-on, Sent, At, send-is, send-none, Grown, Aside, aside, Idle, carried_at}

-- no row of an ACKNACK holds
ack-done : (a b c : Bool) (x y : State) → a ≡ false → b ≡ false → c ≡ false → tried (row 3 refl a ∷ row 11 refl b ∷ row 12 refl c ∷ []) x y ≡ y
ack-done false false false x y p q r = refl
ack-done true b c x y p q r = absurd (true≢false p)
ack-done false true c x y p q r = absurd (true≢false q)
ack-done false false true x y p q r = absurd (true≢false r)

module _ (i : ℕ) (l : Line) (n : ℕ) (s : State) (a : At i l n s) where
  at_beat : At i (on_model (got_beat n) l) n (arrive i (beat n) s)
  at_beat = record { found = find-same i (on_model (got_beat n)) (λ x. refl) s.lines l a.found; last = a.last }

  -- the ACKNACK of a line whose id stands in the list is taken
  at_ack : Sound s → base l.model ≤ suc n → At i (on_server (acknowledge n (base l.model) (model_asks l.model)) l) n (arrive i (ack (ack_nack l.model)) s)
  at_ack h q =
      subst (λ (y : State). At i l' n y) (sym (ack-done (ltb 256 (bits l.model)) (id_unknown i s.heads) (is_ahead s.flow.last b) s (acknowledges i z s) (le-ltb 256 (bits l.model) (omega arith)) known near))
      (record {
        found =
            find-same i (on_server (acknowledge s.flow.last b (members z))) (λ x. refl) s.lines l a.found
            ∙ ap (λ (m : ℕ). some (on_server (acknowledge m b (members z)) l)) a.last
            ∙ ap (λ (ms : List ℕ). some (on_server (acknowledge n b ms) l)) (asks l.model);
        last = a.last;
      })
    where
      b : ℕ
      b = base l.model

      z : NumberSet
      z = ack_nack l.model

      l' : Line
      l' = on_server (acknowledge n (base l.model) (model_asks l.model)) l

      known : id_unknown i s.heads ≡ false
      known = let o = h.held i l a.found in ap (λ (t : Bool). t || not (is_there i s.heads)) (ne_eqb i 0 o.some_id) ∙ ap not o.there

      near : is_ahead s.flow.last (base l.model) ≡ false
      near = le-ltb (suc s.flow.last) (base_of (base l.model)) (omega (arith, a.last, q))

-- what the line is once it has heard the heartbeat, and what an ACKNACK makes of it
abbrev pub beaten : ℕ → Line → Line
beaten n l = on_model (got_beat n) l

abbrev pub replied : ℕ → Line → Line
replied n l = on_server (acknowledge n (base l.model) (model_asks l.model)) l

-- an ACKNACK is taken: the line that sent it was l, and is `line` by then, since numbers may have been sent to it meanwhile
pub record Replied (i : ℕ) (l : Line) (n : ℕ) (s : State) : Type 0 where
  pub line : Line
  pub sent : Sent l line
  pub credit : line.anew ≡ true → line.server.acked ≤ base line.model
  pub above : Above line.server
  pub within : base line.model ≤ suc n
  pub at : At i (replied n line) n s

module _ (i : ℕ) (l : Line) (n : ℕ) (s s' : State) (h : Sound s) (a : At i l n s) where
  pub carried_beat : Carried i (heartbeat i) s s' → (x : Line) × Sent l x × At i (beaten n x) n s'
  carried_beat c =
      let w = carried_at i l n s s' h a (heartbeat i) (beat n) (ap (λ (o : Option Line). beat_to i o s) a.found ∙ ap (λ (k : ℕ). post i (beat k) s) a.last) c in
      (w.2.line, w.2.sent, subst (At i (beaten n w.2.line) n) w.3 (at_beat i w.2.line n w.0 w.2.at))

  pub carried_ack : Carried i (reply i) s s' → Replied i l n s'
  carried_ack c = record { line = x; sent = w.2.sent; credit = fine.credit; above = fine.above; within = top; at = subst (At i (replied n x) n) ends (at_ack i x n w.0 w.2.at w.1 top) }
    where
      w : (t : State) × Sound t × Idle i l n t × (arrive i (ack (ack_nack l.model)) t ≡ s')
      w = carried_at i l n s s' h a (reply i) (ack (ack_nack l.model)) (ap (λ (o : Option Line). reply_from i o s) a.found) c

      x : Line
      x = w.2.line

      fine : Fine w.0.flow w.0.careful w.0.net w.2.line
      fine = w.1.lines i w.2.line w.2.at.found

      top : base w.2.line.model ≤ suc n
      top = omega (arith, base-last w.0.flow w.0.careful w.0.net w.2.line fine, w.2.at.last)

      ends : arrive i (ack (ack_nack w.2.line.model)) w.0 ≡ s'
      ends = ap (λ (m : Model). arrive i (ack (ack_nack m)) w.0) w.2.sent.model ∙ w.3

-- BETWEEN THE ACKNACKS

-- a message says that x is data or a gap; such a message to the line i was posted after the `old` ones
abbrev Tells : ℕ → Body → Type 0
Tells x (sample n) = n ≡ x
Tells x (gap n) = n ≡ x
Tells x (beat k) = ⊥
Tells x (ack z) = ⊥

abbrev Posted : ℕ → ℕ → ℕ → List Msg → Type 0
Posted i old x net = (k : ℕ) × (m : Msg) × (k + old < length net) × (nth net k ≡ some m) × (m.line ≡ i) × Tells x m.body

-- what the line l₁ has become: each number that was unsent is still so, or was posted
pub record Moving (i n old : ℕ) (l₁ : Line) (s : State) : Type 0 where
  pub line : Line
  pub at : At i line n s
  pub acked : line.server.acked ≡ l₁.server.acked
  pub same : Same l₁ line
  pub grow : (x : ℕ) → has l₁.model.settled x ≡ true → has line.model.settled x ≡ true
  pub known : l₁.model.known ≤ line.model.known
  pub out : (x : ℕ) → has l₁.server.unsent x ≡ true → (has line.server.unsent x ≡ true) ⊎ Posted i old x s.net
  pub long : old ≤ length s.net

tells : (n x : ℕ) (t : Bool) → n ≡ x → Tells x (cond t (sample n) (gap n))
tells n x true e = e
tells n x false e = e

module _ (i n old : ℕ) (l₁ : Line) where
  -- a message more in front
  posted_more : (x : ℕ) (p : Msg) (net : List Msg) → Posted i old x net → Posted i old x (p ∷ net)
  posted_more x p net w = (suc w.0, w.1, omega (arith, w.2), w.3, w.4, w.5)

  -- the line stays as it is
  moving_aside : (s t : State) → (h : Moving i n old l₁ s) → Aside i h.line n s.net t → Moving i n old l₁ t
  moving_aside s t h w = go w.grows
    where
      with_net : (net : List Msg) → t.net ≡ net → ((x : ℕ) → has l₁.server.unsent x ≡ true → (has h.line.server.unsent x ≡ true) ⊎ Posted i old x net) → old ≤ length net → Moving i n old l₁ t
      with_net net e out long =
          record {
            line = h.line;
            at = w.at;
            acked = h.acked;
            same = h.same;
            grow = h.grow;
            known = h.known;
            out = subst (λ (v : List Msg). (x : ℕ) → has l₁.server.unsent x ≡ true → (has h.line.server.unsent x ≡ true) ⊎ Posted i old x v) (sym e) out;
            long = subst (λ (v : List Msg). old ≤ length v) (sym e) long;
          }

      more : (x : ℕ) (p : Msg) → (has h.line.server.unsent x ≡ true) ⊎ Posted i old x s.net → (has h.line.server.unsent x ≡ true) ⊎ Posted i old x (p ∷ s.net)
      more x p (inl v) = inl v
      more x p (inr v) = inr (posted_more x p s.net v)

      go : Grown s.net t.net → Moving i n old l₁ t
      go (inl e) = with_net s.net e h.out h.long
      go (inr e) = with_net (e.0 ∷ s.net) e.1 (λ x v. more x e.0 (h.out x v)) (omega (arith, h.long))

  moving_send : (s : State) → Moving i n old l₁ s → Moving i n old l₁ (step (send i) s)
  moving_send s h = go h.line.server.unsent refl
    where
      go : (u : List ℕ) → h.line.server.unsent ≡ u → Moving i n old l₁ (step (send i) s)
      go [] e = subst (Moving i n old l₁) (sym (send-none i h.line n s h.at e)) h
      go (m ∷ ms) e =
          subst (Moving i n old l₁) (sym (send-is i h.line n s h.at m ms e))
          (record {
            line = on_server (marked_sent m) h.line;
            at = record { found = find-same i (on_server (marked_sent m)) (λ y. refl) s.lines h.line h.at.found; last = h.at.last };
            acked = h.acked;
            same = same-on l₁ h.line (on_server (marked_sent m) h.line) h.same (record { cap = refl; anew = refl; reliable = refl; since = refl });
            grow = h.grow;
            known = h.known;
            out = λ x w. sent x (h.out x w) (decide (eqb m x));
            long = omega (arith, h.long);
          })
        where
          new : Msg
          new = record { line = i; body = cond (retained m s.flow) (sample m) (gap m) }

          sent : (x : ℕ) → (has h.line.server.unsent x ≡ true) ⊎ Posted i old x s.net → (eqb m x ≡ true) ⊎ (eqb m x ≡ false)
              → (has (without m h.line.server.unsent) x ≡ true) ⊎ Posted i old x (record { line = i; body = cond (retained m s.flow) (sample m) (gap m) } ∷ s.net)
          sent x (inr p) d = inr (posted_more x new s.net p)
          sent x (inl w) (inl d) = inr (0, new, omega (arith, h.long), refl, refl, tells m x (retained m s.flow) (eqb-true m x d))
          sent x (inl w) (inr d) = inl (has-without m h.line.server.unsent x ∙ and_both (not (eqb m x)) (has h.line.server.unsent x) (ap not d) w)

  -- the line knows no less, and has settled no less
  moving_learn : (s : State) → Moving i n old l₁ s → (g : Model → Model) → ((m : Model) (x : ℕ) → has m.settled x ≡ true → has (g m).settled x ≡ true) → ((m : Model) → m.known ≤ (g m).known)
      → Moving i n old l₁ (with_lines (upd i (on_model g) s.lines) s)
  moving_learn s h g st kn =
      record {
        line = on_model g h.line;
        at = record { found = find-same i (on_model g) (λ y. refl) s.lines h.line h.at.found; last = h.at.last };
        acked = h.acked;
        same = same-on l₁ h.line (on_model g h.line) h.same (record { cap = refl; anew = refl; reliable = refl; since = refl });
        grow = λ y w. st h.line.model y (h.grow y w);
        known = omega (arith, h.known, kn h.line.model);
        out = h.out;
        long = h.long;
      }

  stays_in : (x y : ℕ) (u : List ℕ) → has u y ≡ true → has (insert x u) y ≡ true
  stays_in x y u w = has-insert x y u ∙ or_right (eqb x y) (has u y) w

  moving_arrive : (b : Body) (s : State) → Outward b → Moving i n old l₁ s → Moving i n old l₁ (arrive i b s)
  moving_arrive (sample x) s o h = moving_learn s h (got_data x) (λ m y w. stays_in x y m.settled w) (λ m. omega arith)
  moving_arrive (gap x) s o h = moving_learn s h (got_gap x) (λ m y w. stays_in x y m.settled w) (λ m. omega arith)
  moving_arrive (beat x) s o h = moving_learn s h (got_beat x) (λ m y w. w) (λ m. omega arith)
  moving_arrive (ack z) s o h = absurd o

  moving_step : (e : Event) (s : State) → RoundEvent i e s → Sound s → Moving i n old l₁ s → Moving i n old l₁ (step e s)
  moving_step e s (inl d) hs h = go (aside i h.line n s hs h.at e d)
    where
      go : (e ≡ send i) ⊎ Aside i h.line n s.net (step e s) → Moving i n old l₁ (step e s)
      go (inl q) = subst (λ (e : Event). Moving i n old l₁ (step e s)) (sym q) (moving_send s h)
      go (inr q) = moving_aside s (step e s) h q
  moving_step e s (inr d) hs h =
      let is : step e s ≡ arrive i d.body s = ap (λ (e : Event). step e s) d.delivers ∙ ap (λ (o : Option Msg). arrives o s) d.that in
      subst (Moving i n old l₁) (sym is) (moving_arrive d.body s d.outward h)

  pub moving_run : (es : List Event) (s : State) → Each (RoundEvent i) es s → Sound s → Moving i n old l₁ s → Moving i n old l₁ (run es s)
  moving_run [] s x hs h = h
  moving_run (e ∷ es) s x hs h = moving_run es (step e s) x.1 (sound_step s hs e) (moving_step e s x.0 hs h)

pub moving_start : (i n : ℕ) (l₁ : Line) (s : State) → At i l₁ n s → Moving i n (length s.net) l₁ s
moving_start i n l₁ s a =
    record { line = l₁; at = a; acked = refl; same = same l₁; grow = λ x w. w; known = omega arith; out = λ x w. inl w; long = omega arith }

-- what the line l has become once all that was unsent was sent and received
pub record Drained (l l' : Line) : Type 0 where
  pub empty : l'.server.unsent ≡ []
  pub acked : l'.server.acked ≡ l.server.acked
  pub same : Same l l'
  pub old : (x : ℕ) → has l.model.settled x ≡ true → has l'.model.settled x ≡ true
  pub new : (x : ℕ) → has l.server.unsent x ≡ true → has l'.model.settled x ≡ true
  pub known : l.model.known ≤ l'.model.known

pub moving_drained : (i n old : ℕ) (l₁ : Line) (s : State) → (h : Moving i n old l₁ s) → h.line.server.unsent ≡ [] → Received i old h.line s → Drained l₁ h.line
moving_drained i n old l₁ s h e r = record { empty = e; acked = h.acked; same = h.same; old = h.grow; new = λ x w. go x (h.out x w); known = h.known }
  where
    told : (x : ℕ) (b : Body) → Tells x b → SettledAt h.line b → has h.line.model.settled x ≡ true
    told x (sample m) t w = sym (ap (has h.line.model.settled) t) ∙ w
    told x (gap m) t w = sym (ap (has h.line.model.settled) t) ∙ w
    told x (beat m) t w = absurd t
    told x (ack z) t w = absurd t

    go : (x : ℕ) → (has h.line.server.unsent x ≡ true) ⊎ Posted i old x s.net → has h.line.model.settled x ≡ true
    go x (inl w) = absurd (false≢true (sym (ap (λ (v : List ℕ). has v x) e) ∙ w))
    go x (inr p) = told x p.1.body p.5 (r p.0 p.1 p.2 p.3 p.4)
