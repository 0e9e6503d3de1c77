-- One clean round, from any state that is sound: what it makes of the line. Assumes nothing.
use Prim.Native.Nat.{ℕ, zero, suc, ◌+◌, ◌≤◌, ◌<◌, min}
use mathlib.Core.Path.{◌≡◌, refl, ap, subst, ◌∙◌}
use mathlib.Core.Bool.{Bool, true, false, cond, ◌||◌}
use mathlib.Core.Logic.{◌⊎◌, inl, inr}
use mathlib.Core.List.{List, [], ◌∷◌, ◌++◌}
use mathlib.Core.Option.{some}
use lib.Dec.{ltb}
use lib.ListN.{length, take}
use native.Mathlib.Omega.{arith}
use borrow.Author.Tests.{ltb-true, ltb-false}
use Rattle.sets.specs.Sets.{has, union, between, smallest}
use Rattle.sets.proofs.Bools.{decide}
use Rattle.sets.proofs.Has.{has-union}
use Rattle.sets.proofs.Smallest.{has-take}
use Rattle.rtps_reader_proxy.specs.Reader.{base_of, is_late, acked_after, staying, wanted, acknowledge}
use Rattle.other_end.specs.Model.{Model, got_beat, base, bits, model_asks, missing}
use Rattle.other_end.specs.System.{Line, State, Event, heartbeat, reply, deliver, find, step, run}
use Rattle.other_end.specs.Rounds.{Carried, Round}
use Rattle.other_end.specs.Demand3.{MovedOn}
use Rattle.other_end.proofs.Gaps.{gap_ge, gap_all, gap-past, has-missing}
use Rattle.other_end.proofs.Records.{Above, between_in, wanted_rise}
use Rattle.other_end.proofs.Fine.{Fine}
use Rattle.other_end.proofs.Sound.{Sound}
use Rattle.other_end.proofs.Runs.{sound_run}
use Rattle.other_end.proofs.Beside.{Same, same-on, Sent, At, Idle, idle, idle_run}
use Rattle.other_end.proofs.Exchange.{beaten, replied, Replied, carried_beat, carried_ack, Moving, moving_run, moving_start, Drained, moving_drained}

-- A ROUND IS A RUN

abbrev pub Runs : State → State → Type 0
Runs s t = (es : List Event) × (run es s ≡ t)

run_both : (xs ys : List Event) (s : State) → run (xs ++ ys) s ≡ run ys (run xs s)
run_both [] ys s = refl
run_both (x ∷ xs) ys s = run_both xs ys (step x s)

pub runs_on : (s t u : State) → Runs s t → Runs t u → Runs s u
runs_on s t u p q = (p.0 ++ q.0, run_both p.0 q.0 s ∙ ap (run q.0) p.1 ∙ q.1)

pub sound_runs : (s t : State) → Sound s → Runs s t → Sound t
sound_runs s t h r = subst Sound r.1 (sound_run r.0 s h)

carried_runs : (i : ℕ) (e : Event) (s s' : State) → Carried i e s s' → Runs s s'
carried_runs i e s s' c = (e ∷ c.meanwhile ++ (deliver c.place ∷ []), run_both c.meanwhile (deliver c.place ∷ []) (step e s) ∙ c.ends)

-- until the heartbeat has arrived, the first ACKNACK is sent, has arrived, and the second is sent
module _ (i : ℕ) (s s' : State) (r : Round i s s') where
  runs_heard : Runs s r.heard
  runs_heard = carried_runs i (heartbeat i) s r.heard r.announced

  runs_reply : Runs s (run r.before r.heard)
  runs_reply = runs_on s r.heard (run r.before r.heard) runs_heard (r.before, refl)

  runs_begun : Runs s r.begun
  runs_begun = runs_on s (run r.before r.heard) r.begun runs_reply (carried_runs i (reply i) (run r.before r.heard) r.begun r.first)

  runs_drained : Runs s (run r.events r.begun)
  runs_drained = runs_on s r.begun (run r.events r.begun) runs_begun (r.events, refl)

  pub runs_round : Runs s s'
  runs_round = runs_on s (run r.events r.begun) s' runs_drained (carried_runs i (reply i) (run r.events r.begun) s' r.second)

-- THE TWO ACKNACKS

missing-none : (c b : ℕ) (l : List ℕ) → c ≡ 0 → missing c b l ≡ []
missing-none c b l e = ap (λ (z : ℕ). missing z b l) e

take_none : (c : ℕ) → ◌≡◌ {A = List ℕ} (take c []) []
take_none zero = refl
take_none (suc c) = refl

-- what is unsent once the first is taken holds all that is missing of the first numbers
module _ (n : ℕ) (l : Line) (credit : l.server.acked ≤ base l.model) (above : Above l.server) (kn : l.model.known ≡ n) where
  asked_for_lem : (s x : ℕ) → base l.model + s ≡ suc n → base l.model ≤ x → x < base l.model + min s (min 256 l.server.cap) → has l.model.settled x ≡ false
      → has (acknowledge n (base l.model) (model_asks l.model) l.server).unsent x ≡ true
  asked_for_lem s x q p w e =
      has-take l.server.cap (acked_after l.server.acked b) full x (wanted_rise n b l.server.acked l.server.unsent (model_asks l.model) above) (omega (arith, p, w)) joins
    where
      b : ℕ
      b = base l.model

      full : List ℕ
      full = wanted n (base l.model) (model_asks l.model) l.server.acked l.server.unsent

      wants : has (model_asks l.model) x ≡ true
      wants = has-missing (bits l.model) (base l.model) l.model.settled x p (omega (arith, p, w, q, kn)) e

      joins : has (wanted n (base l.model) (model_asks l.model) l.server.acked l.server.unsent) x ≡ true
      joins =
          has-union (between (acked_after l.server.acked (base l.model)) n (model_asks l.model)) (staying n (base l.model) l.server.acked l.server.unsent) x
          ∙ ap (λ (t : Bool). t || has (staying n (base l.model) l.server.acked l.server.unsent) x)
          (between_in (acked_after l.server.acked (base l.model)) n (model_asks l.model) x (omega (arith, p, gap_ge 1 l.model.settled, credit)) (omega (arith, p, w, q)) wants)

-- the second, of a line whose unsent numbers are all sent
closes : (n : ℕ) (l : Line) → l.server.acked ≤ base l.model → l.model.known ≡ n → l.server.unsent ≡ []
    → (acked_after l.server.acked (base l.model) ≡ base l.model) × (base l.model ≡ suc n → (acknowledge n (base l.model) (model_asks l.model) l.server).unsent ≡ [])
closes n l credit kn e = (omega (arith, credit, gap_ge 1 l.model.settled), none_left)
  where
    old : (t : Bool) → ◌≡◌ {A = List ℕ} (cond t [] (between (base_of (base l.model)) n [])) []
    old true = refl
    old false = refl

    none_left : base l.model ≡ suc n → smallest l.server.cap (wanted n (base l.model) (model_asks l.model) l.server.acked l.server.unsent) ≡ []
    none_left q =
        let w : model_asks l.model ≡ [] = missing-none (bits l.model) (base l.model) l.model.settled (omega (arith, q, kn)) in
        let v : staying n (base l.model) l.server.acked l.server.unsent ≡ [] =
        ap (staying n (base l.model) l.server.acked) e ∙ old (is_late l.server.acked (base l.model)) in
        ap (λ (ms : List ℕ). take l.server.cap (union (between (acked_after l.server.acked (base l.model)) n ms) (staying n (base l.model) l.server.acked l.server.unsent))) w
        ∙ ap (take l.server.cap) v ∙ take_none l.server.cap

-- THE ROUND

module _ (i : ℕ) (l : Line) (n : ℕ) (s s' : State) (h : Sound s) (a : At i l n s) (new : l.anew ≡ true) (r : Round i s s') where
  -- the states in which the two ACKNACKs are sent
  abbrev s₁ : State
  s₁ = run r.before r.heard

  abbrev s₂ : State
  s₂ = run r.events r.begun

  -- the line: when it hears the heartbeat, when it sends the first ACKNACK, and when that is taken
  b : (x : Line) × Sent l x × At i (beaten n x) n r.heard
  b = carried_beat i l n s r.heard h a r.announced

  w : Idle i (beaten n b.0) n s₁
  w = idle_run i (beaten n b.0) n r.before r.heard r.beside (sound_runs s r.heard h (runs_heard i s s' r)) (idle i (beaten n b.0) n r.heard b.2)

  c : Replied i w.line n r.begun
  c = carried_ack i w.line n s₁ r.begun (sound_runs s s₁ h (runs_reply i s s' r)) w.at r.first

  model : c.line.model ≡ got_beat n l.model
  model = c.sent.model ∙ w.sent.model ∙ ap (got_beat n) b.1.model

  is : Same l c.line
  is =
      same-on l w.line c.line
      (same-on l b.0 w.line b.1.same (record { cap = w.sent.same.cap; anew = w.sent.same.anew; reliable = w.sent.same.reliable; since = w.sent.same.since })) c.sent.same

  -- and when the second ACKNACK is sent, and taken
  m : Moving i n (length r.begun.net) (replied n c.line) s₂
  m =
      moving_run i n (length r.begun.net) (replied n c.line) r.events r.begun r.exchange (sound_runs s r.begun h (runs_begun i s s' r))
      (moving_start i n (replied n c.line) r.begun c.at)

  d : Drained (replied n c.line) m.line
  d = moving_drained i n (length r.begun.net) (replied n c.line) s₂ m (r.drained m.line m.at.found) (r.received m.line m.at.found)

  sound₂ : Sound s₂
  sound₂ = sound_runs s s₂ h (runs_drained i s s' r)

  fine₂ : Fine s₂.flow s₂.careful s₂.net m.line
  fine₂ = sound₂.lines i m.line m.at.found

  e : Replied i m.line n s'
  e = carried_ack i m.line n s₂ s' sound₂ m.at r.second

  was : Same l e.line
  was =
      same-on l m.line e.line
      (same-on l c.line m.line is (record { cap = d.same.cap; anew = d.same.anew; reliable = d.same.reliable; since = d.same.since })) e.sent.same

  -- what it knows
  known₁ : c.line.model.known ≡ n
  known₁ = ap (λ (y : Model). y.known) model ∙ omega (arith, (h.lines i l a.found).known, a.last)

  known₂ : e.line.model.known ≡ n
  known₂ = ap (λ (y : Model). y.known) e.sent.model ∙ omega (arith, d.known, known₁, fine₂.known, m.at.last)

  -- and what it has
  settled₁ : (x : ℕ) → has c.line.model.settled x ≡ has l.model.settled x
  settled₁ x = ap (λ (y : Model). has y.settled x) model

  gets : (k : ℕ) → base l.model + k ≡ suc n → (x : ℕ) → 1 ≤ x → x < base l.model + min k (min 256 l.server.cap) → has m.line.model.settled x ≡ true
  gets k q x p v = below (decide (ltb x (base l.model)))
    where
      start : base c.line.model ≡ base l.model
      start = ap base model

      later : (has l.model.settled x ≡ true) ⊎ (has l.model.settled x ≡ false) → base l.model ≤ x → has m.line.model.settled x ≡ true
      later (inl f) g = d.old x (settled₁ x ∙ f)
      later (inr f) g =
          d.new x (asked_for_lem n c.line (c.credit (is.anew ∙ new)) c.above known₁ k x (omega (arith, q, start)) (omega (arith, g, start)) (omega (arith, v, start, is.cap)) (settled₁ x ∙ f))

      below : (ltb x (base l.model) ≡ true) ⊎ (ltb x (base l.model) ≡ false) → has m.line.model.settled x ≡ true
      below (inl f) = d.old x (settled₁ x ∙ gap_all 1 l.model.settled x (h.lines i l a.found).rise p (ltb-true x (base l.model) f))
      below (inr f) = later (decide (has l.model.settled x)) (ltb-false x (base l.model) f)

  pub round_moves : (l' : Line) × (find i s'.lines ≡ some l') × (s'.flow.last ≡ n) × Same l l' × MovedOn n l l'
  round_moves = (replied n e.line, e.at.found, e.at.last, record { cap = was.cap; anew = was.anew; reliable = was.reliable; since = was.since }, moved)
    where
      ends : (acked_after e.line.server.acked (base e.line.model) ≡ base e.line.model) × (base e.line.model ≡ suc n → (acknowledge n (base e.line.model) (model_asks e.line.model) e.line.server).unsent ≡ [])
      ends = closes n e.line (e.credit (was.anew ∙ new)) known₂ (e.sent.none d.empty)

      moved : MovedOn n l (replied n e.line)
      moved =
          record {
            on = λ k q.
                let v = gap-past 1 (base l.model + min k (min 256 l.server.cap)) m.line.model.settled fine₂.rise (gets k q) in
                let z : base e.line.model ≡ base m.line.model = ap base e.sent.model in
                omega (arith, v, z);
            within = e.within;
            agree = ends.0;
            clear = ends.1;
          }
