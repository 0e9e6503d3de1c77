-- Sending and receiving the unsent numbers one by one is a clean round. Assumes nothing.
use Prim.Native.Nat.{ℕ, zero, suc, ◌+◌, ◌≤◌, ◌<◌, max}
use mathlib.Core.Path.{◌≡◌, refl, sym, ap, subst, ◌∙◌}
use mathlib.Core.Bool.{Bool, true, false, not, cond, ◌||◌}
use mathlib.Core.Logic.{inl, inr}
use mathlib.Core.List.{List, [], ◌∷◌}
use mathlib.Core.Option.{Option, some}
use lib.Dec.{eqb}
use lib.ListN.{length}
use native.Mathlib.Omega.{arith}
use borrow.Author.Tests.{eq-eqb, ne_eqb}
use Rattle.sets.specs.Sets.{has, From, insert, only, without}
use Rattle.sets.proofs.Bools.{or_right}
use Rattle.sets.proofs.Has.{has-insert}
use Rattle.rising.proofs.Meaning.{only_all}
use Rattle.rtps_reader_proxy.specs.Reader.{marked_sent}
use Rattle.writer_send_buffer.specs.Flow.{retained}
use Rattle.other_end.specs.Model.{got_data, got_gap, ack_nack}
use Rattle.other_end.specs.System.{Line, Body, sample, gap, beat, ack, Msg, State, Event, heartbeat, send, reply, deliver, find, upd, nth, on_server, on_model, with_lines, post, beat_to, reply_from, step, run}
use Rattle.other_end.specs.Rounds.{Each, Carried, Arrives, RoundEvent, round_opened, sends, unsent_of, drained, clean_round, SettledAt, Received, Round}
use Rattle.other_end.proofs.Found.{some-line, some_msg, find-same}
use Rattle.other_end.proofs.Sound.{Sound}
use Rattle.other_end.proofs.Runs.{sound_run}
use Rattle.other_end.proofs.Beside.{Sent, At, send-is}
use Rattle.other_end.proofs.Exchange.{beaten, replied, Replied, carried_beat, carried_ack}

without_head : (b m : ℕ) (ms : List ℕ) → From b (m ∷ ms) → without m (m ∷ ms) ≡ ms
without_head b m ms h =
    ap (λ (t : Bool). cond (not t) (m ∷ only (λ x. not (eqb m x)) ms) (only (λ x. not (eqb m x)) ms)) (eq-eqb m m refl)
    ∙ only_all (λ x. not (eqb m x)) (suc m) ms h.1 (λ x w. ap not (ne_eqb m x (λ (q : m ≡ x). omega arith)))

-- the line i of the state s has the numbers ms unsent, and all but the `old` messages have been received
record Waits (i n old : ℕ) (ms : List ℕ) (s : State) : Type 0 where
  line : Line
  at : At i line n s
  unsent : line.server.unsent ≡ ms
  long : old ≤ length s.net
  received : Received i old line s

waits_on : (i n old m : ℕ) (ms : List ℕ) (s : State) → Sound s → Waits i n old (m ∷ ms) s → Arrives i (deliver 0) (step (send i) s) × Waits i n old ms (step (deliver 0) (step (send i) s))
waits_on i n old m ms s h w =
    subst (λ (y : State). Arrives i (deliver 0) y × Waits i n old ms (step (deliver 0) y)) (sym (send-is i w.line n s w.at m ms w.unsent))
    (comes (retained m s.flow), go (retained m s.flow))
  where
    there : find i (upd i (on_server (marked_sent m)) s.lines) ≡ some (on_server (marked_sent m) w.line)
    there = find-same i (on_server (marked_sent m)) (λ x. refl) s.lines w.line w.at.found

    rest : without m w.line.server.unsent ≡ ms
    rest =
        ap (without m) w.unsent
        ∙ without_head (max 1 w.line.server.acked) m ms (subst (λ (v : List ℕ). From (max 1 w.line.server.acked) v) w.unsent (h.lines i w.line w.at.found).above)

    own : has (insert m w.line.model.settled) m ≡ true
    own = has-insert m m w.line.model.settled ∙ ap (λ (t : Bool). t || has w.line.model.settled m) (eq-eqb m m refl)

    more : (l' : Line) → l'.model.settled ≡ insert m w.line.model.settled → (b : Body) → SettledAt w.line b → SettledAt l' b
    more l' e (sample x) g = ap (λ (v : List ℕ). has v x) e ∙ has-insert m x w.line.model.settled ∙ or_right (eqb m x) (has w.line.model.settled x) g
    more l' e (gap x) g = ap (λ (v : List ℕ). has v x) e ∙ has-insert m x w.line.model.settled ∙ or_right (eqb m x) (has w.line.model.settled x) g
    more l' e (beat x) g = tt
    more l' e (ack z) g = tt

    all : (l' : Line) → l'.model.settled ≡ insert m w.line.model.settled → (b : Body) → SettledAt l' b
        → (k : ℕ) (p : Msg) → k + old < suc (length s.net) → nth (record { line = i; body = b } ∷ s.net) k ≡ some p → p.line ≡ i → SettledAt l' p.body
    all l' e b g zero p q f o = subst (λ (y : Msg). SettledAt l' y.body) (some_msg f) g
    all l' e b g (suc k) p q f o = more l' e p.body (w.received k p (omega arith) f o)

    comes : (t : Bool) → Arrives i (deliver 0) (post i (cond t (sample m) (gap m)) (with_lines (upd i (on_server (marked_sent m)) s.lines) s))
    comes true = record { place = 0; body = sample m; delivers = refl; that = refl; outward = tt }
    comes false = record { place = 0; body = gap m; delivers = refl; that = refl; outward = tt }

    go : (t : Bool) → Waits i n old ms (step (deliver 0) (post i (cond t (sample m) (gap m)) (with_lines (upd i (on_server (marked_sent m)) s.lines) s)))
    go true =
        record {
          line = on_model (got_data m) (on_server (marked_sent m) w.line);
          at = record { found = find-same i (on_model (got_data m)) (λ x. refl) (upd i (on_server (marked_sent m)) s.lines) (on_server (marked_sent m) w.line) there; last = w.at.last };
          unsent = rest;
          long = omega (arith, w.long);
          received = all (on_model (got_data m) (on_server (marked_sent m) w.line)) refl (sample m) own;
        }
    go false =
        record {
          line = on_model (got_gap m) (on_server (marked_sent m) w.line);
          at = record { found = find-same i (on_model (got_gap m)) (λ x. refl) (upd i (on_server (marked_sent m)) s.lines) (on_server (marked_sent m) w.line) there; last = w.at.last };
          unsent = rest;
          long = omega (arith, w.long);
          received = all (on_model (got_gap m) (on_server (marked_sent m) w.line)) refl (gap m) own;
        }

drains : (i n old : ℕ) (u : List ℕ) (s : State) → Sound s → Waits i n old u s → Each (RoundEvent i) (sends i (length u)) s × Waits i n old [] (run (sends i (length u)) s)
drains i n old [] s h w = (tt, w)
drains i n old (m ∷ ms) s h w =
    let o = waits_on i n old m ms s h w in
    let r = drains i n old ms (step (deliver 0) (step (send i) s)) (sound_run (send i ∷ deliver 0 ∷ []) s h) o.1 in
    ((inl tt, (inr o.0, r.0)), r.1)

-- the message that e puts into the network arrives at once
at_once : (i : ℕ) (e : Event) (b : Body) (s : State) → step e s ≡ post i b s → Carried i e s (step (deliver 0) (step e s))
at_once i e b s puts = record { meanwhile = []; beside = tt; place = 0; that = omega (arith, ap (λ (y : State). length y.net) puts); ends = refl }

beats : (i : ℕ) (l : Line) (s : State) → find i s.lines ≡ some l → Carried i (heartbeat i) s (run (heartbeat i ∷ deliver 0 ∷ []) s)
beats i l s found = at_once i (heartbeat i) (beat s.flow.last) s (ap (λ (o : Option Line). beat_to i o s) found)

replies : (i : ℕ) (l : Line) (s : State) → find i s.lines ≡ some l → Carried i (reply i) s (run (reply i ∷ deliver 0 ∷ []) s)
replies i l s found = at_once i (reply i) (ack (ack_nack l.model)) s (ap (λ (o : Option Line). reply_from i o s) found)

pub one_round : (i : ℕ) (l : Line) (s : State) → Sound s → find i s.lines ≡ some l → Round i s (clean_round i s)
one_round i l s h found =
    record {
      heard = run (heartbeat i ∷ deliver 0 ∷ []) s;
      announced = beats i l s found;
      before = [];
      beside = tt;
      begun = round_opened i s;
      first = first;
      events = sends i (unsent_of (find i (round_opened i s).lines));
      exchange = all.0;
      drained = λ l₂ e. subst (λ (y : Line). y.server.unsent ≡ []) (some-line (sym all.1.at.found ∙ e)) all.1.unsent;
      received = λ l₂ e. subst (λ (y : Line). Received i (length (round_opened i s).net) y (drained i (round_opened i s))) (some-line (sym all.1.at.found ∙ e)) all.1.received;
      second = replies i all.1.line (drained i (round_opened i s)) all.1.at.found;
    }
  where
    b : (x : Line) × Sent l x × At i (beaten s.flow.last x) s.flow.last (run (heartbeat i ∷ deliver 0 ∷ []) s)
    b = carried_beat i l s.flow.last s (run (heartbeat i ∷ deliver 0 ∷ []) s) h (record { found = found; last = refl }) (beats i l s found)

    first : Carried i (reply i) (run (heartbeat i ∷ deliver 0 ∷ []) s) (round_opened i s)
    first = replies i (beaten s.flow.last b.0) (run (heartbeat i ∷ deliver 0 ∷ []) s) b.2.found

    c : Replied i (beaten s.flow.last b.0) s.flow.last (round_opened i s)
    c = carried_ack i (beaten s.flow.last b.0) s.flow.last (run (heartbeat i ∷ deliver 0 ∷ []) s) (round_opened i s) (sound_run (heartbeat i ∷ deliver 0 ∷ []) s h) b.2 first

    all : Each (RoundEvent i) (sends i (unsent_of (find i (round_opened i s).lines))) (round_opened i s) × Waits i s.flow.last (length (round_opened i s).net) [] (drained i (round_opened i s))
    all =
        subst (λ (o : Option Line). Each (RoundEvent i) (sends i (unsent_of o)) (round_opened i s) × Waits i s.flow.last (length (round_opened i s).net) [] (run (sends i (unsent_of o)) (round_opened i s))) (sym c.at.found)
        (drains i s.flow.last (length (round_opened i s).net) (replied s.flow.last c.line).server.unsent (round_opened i s) (sound_run (heartbeat i ∷ deliver 0 ∷ reply i ∷ deliver 0 ∷ []) s h)
        (record { line = replied s.flow.last c.line; at = c.at; unsent = refl; long = omega arith; received = λ k m q e o. absurd (omega arith) }))
