-- What goes on beside a line leaves it as it is, but for numbers sent to it, leaves the last number, and moves no message of the network from its place.
-- Assumes nothing.
use Prim.Native.Nat.{ℕ, zero, suc, ◌+◌, ◌<◌}
use mathlib.Core.Path.{◌≡◌, refl, sym, ap, subst, ◌∙◌}
use mathlib.Core.Bool.{Bool, true, false, cond}
use mathlib.Core.Logic.{◌⊎◌, inl, inr}
use mathlib.Core.List.{List, [], ◌∷◌}
use mathlib.Core.Option.{Option, none, some}
use lib.Dec.{eqb}
use lib.ListN.{length}
use native.Mathlib.Omega.{arith}
use borrow.Author.Tests.{eqb-true, eqb-false, ne_eqb}
use Rattle.sets.specs.Sets.{without}
use Rattle.sets.proofs.Bools.{clash, decide}
use Rattle.numbers.specs.Number.{rank_of}
use Rattle.numbers.specs.Refusals.{answer_of, is_done, Rows}
use Rattle.number_sets.specs.Bits.{members}
use Rattle.rtps_reader_proxy.specs.Reader.{acknowledge, marked_sent}
use Rattle.reader_list.specs.Readers.{is_there}
use Rattle.writer_send_buffer.specs.Flow.{raised, retained}
use Rattle.other_end.specs.Model.{got_data, got_gap, got_beat, ack_nack}
use Rattle.other_end.specs.Calls.{ReaderCall, result, call_rows}
use Rattle.other_end.specs.System.{Line, Body, sample, gap, beat, ack, Msg, State, Event, match, depart, write, sent_to, evict_to, call, heartbeat, send, reply, deliver, find, upd, nth, on_server, on_model, with_lines, state_with_flow, post, tried, match_refusals, depart_refusals, newcomer, line_matched, line_departed, ack_refusals, acknowledges, called, sent_refusals, evict_refusals, evicts, arrive, arrives, send_first, send_to, beat_to, reply_from, step, run}
use Rattle.other_end.specs.Rounds.{Elsewhere, Beside, Each, Carried}
use Rattle.other_end.proofs.Found.{find-same, find_other, find-stays}
use Rattle.other_end.proofs.Calls.{done-clear, both_false}
use Rattle.other_end.proofs.Sound.{Sound}
use Rattle.other_end.proofs.Runs.{sound_step, sound_run}

-- what a line is as long as it is there
pub record Same (l l' : Line) : Type 0 where
  pub cap : l'.server.cap ≡ l.server.cap
  pub anew : l'.anew ≡ l.anew
  pub reliable : l'.reliable ≡ l.reliable
  pub since : l'.since ≡ l.since

pub same : (l : Line) → Same l l
same l = record { cap = refl; anew = refl; reliable = refl; since = refl }

pub same-on : (l x y : Line) → Same l x → Same x y → Same l y
same-on l x y p q = record { cap = q.cap ∙ p.cap; anew = q.anew ∙ p.anew; reliable = q.reliable ∙ p.reliable; since = q.since ∙ p.since }

-- the line l, but for numbers sent to it
pub record Sent (l x : Line) : Type 0 where
  pub same : Same l x
  pub model : x.model ≡ l.model
  pub none : l.server.unsent ≡ [] → x.server.unsent ≡ []

-- the reader i of the state s is l, and the last number is n
pub record At (i : ℕ) (l : Line) (n : ℕ) (s : State) : Type 0 where
  pub found : find i s.lines ≡ some l
  pub last : s.flow.last ≡ n

module _ (i : ℕ) (l : Line) (n : ℕ) (s : State) (a : At i l n s) where
  -- a send is the first unsent number's
  pub send-is : (m : ℕ) (ms : List ℕ) → l.server.unsent ≡ m ∷ ms → step (send i) s ≡ post i (cond (retained m s.flow) (sample m) (gap m)) (with_lines (upd i (on_server (marked_sent m)) s.lines) s)
  send-is m ms e = ap (λ (o : Option Line). send_to i o s) a.found ∙ ap (λ (u : List ℕ). send_first i u s) e

  pub send-none : l.server.unsent ≡ [] → step (send i) s ≡ s
  send-none e = ap (λ (o : Option Line). send_to i o s) a.found ∙ ap (λ (u : List ℕ). send_first i u s) e

-- ONE EVENT

-- at most one message more
abbrev pub Grown : List Msg → List Msg → Type 0
Grown net net' = (net' ≡ net) ⊎ ((m : Msg) × (net' ≡ m ∷ net))

-- what an event beside the line l, but for a send to it, makes of a state with the network `net`
pub record Aside (i : ℕ) (l : Line) (n : ℕ) (net : List Msg) (t : State) : Type 0 where
  pub at : At i l n t
  pub grows : Grown net t.net

module _ (i : ℕ) (l : Line) (n : ℕ) (s : State) (h : Sound s) (a : At i l n s) where
  unmoved : Aside i l n s.net s
  unmoved = record { at = a; grows = inl refl }

  aside_tried : (r : Rows) (y : State) → (is_done (answer_of r) ≡ true → Aside i l n s.net y) → Aside i l n s.net (tried r s y)
  aside_tried r y q = go (is_done (answer_of r)) refl
    where
      go : (t : Bool) → is_done (answer_of r) ≡ t → Aside i l n s.net (cond t y s)
      go true e = q e
      go false e = unmoved

  -- no id is matched while it is there, so a match that is done is another's
  pub match_other : (j m : ℕ) → is_done (answer_of (match_refusals j m s)) ≡ true → eqb i j ≡ false
  match_other j m d =
      let absent = (both_false (eqb j 0) (is_there j s.heads) (done-clear (match_refusals j m s) d 11 refl)).1 in
      ne_eqb i j (λ (q : i ≡ j). clash (is_there j s.heads) (subst (λ (k : ℕ). is_there k s.heads ≡ true) q (h.held i l a.found).there) absent)

  aside_match : (j : ℕ) (r : Bool) (m : ℕ) → is_done (answer_of (match_refusals j m s)) ≡ true → Aside i l n s.net (line_matched j r m s)
  aside_match j r m d =
      record { at = record { found = ap (λ (t : Bool). cond t (some (newcomer j r m s)) (find i s.lines)) (match_other j m d) ∙ a.found; last = a.last }; grows = inl refl }

  -- the lines of another id changed
  module _ (j : ℕ) (d : j ≡ i → ⊥) where
    others : (g : Line → Line) → ((x : Line) → (g x).id ≡ x.id) → find i (upd j g s.lines) ≡ some l
    others g keeps = find_other j i g keeps d s.lines ∙ a.found

    aside_model : (g : Line → Line) → ((x : Line) → (g x).id ≡ x.id) → Aside i l n s.net (with_lines (upd j g s.lines) s)
    aside_model g keeps = record { at = record { found = others g keeps; last = a.last }; grows = inl refl }

    aside_depart : Aside i l n s.net (line_departed j s)
    aside_depart = record { at = record { found = find-stays j i d s.lines ∙ a.found; last = a.last }; grows = inl refl }

    aside_call : (c : ReaderCall) (o : Option Line) → Aside i l n s.net (called j c o s)
    aside_call c none = unmoved
    aside_call c (some x) =
        aside_tried (call_rows s.flow.last c x.server) (with_lines (upd j (on_server (result c)) s.lines) s) (λ ok. aside_model (on_server (result c)) (λ y. refl))

    aside_first : (u : List ℕ) → Aside i l n s.net (send_first j u s)
    aside_first [] = unmoved
    aside_first (m ∷ ms) =
        record { at = record { found = others (on_server (marked_sent m)) (λ y. refl); last = a.last }; grows = inr (record { line = j; body = cond (retained m s.flow) (sample m) (gap m) }, refl) }

    aside_send : (o : Option Line) → Aside i l n s.net (send_to j o s)
    aside_send none = unmoved
    aside_send (some x) = aside_first x.server.unsent

    aside_arrive : (b : Body) → Aside i l n s.net (arrive j b s)
    aside_arrive (sample k) = aside_model (on_model (got_data k)) (λ y. refl)
    aside_arrive (gap k) = aside_model (on_model (got_gap k)) (λ y. refl)
    aside_arrive (beat k) = aside_model (on_model (got_beat k)) (λ y. refl)
    aside_arrive (ack z) =
        aside_tried (ack_refusals j z s) (acknowledges j z s)
        (λ ok. record { at = record { found = others (on_server (acknowledge s.flow.last z.base (members z))) (λ y. refl); last = a.last }; grows = inl refl })

  -- a heartbeat and an ACKNACK, of any line, only come into the network
  aside_post : (j : ℕ) (b : Body) → Aside i l n s.net (post j b s)
  aside_post j b = record { at = record { found = a.found; last = a.last }; grows = inr (record { line = j; body = b }, refl) }

  aside_beat : (j : ℕ) (o : Option Line) → Aside i l n s.net (beat_to j o s)
  aside_beat j none = unmoved
  aside_beat j (some x) = aside_post j (beat s.flow.last)

  aside_reply : (j : ℕ) (o : Option Line) → Aside i l n s.net (reply_from j o s)
  aside_reply j none = unmoved
  aside_reply j (some x) = aside_post j (ack (ack_nack x.model))

  aside_arrives : (o : Option Msg) → Elsewhere i o → Aside i l n s.net (arrives o s)
  aside_arrives none d = unmoved
  aside_arrives (some m) d = aside_arrive m.line d m.body

  pub aside : (e : Event) → Beside i e s → (e ≡ send i) ⊎ Aside i l n s.net (step e s)
  aside (match j r m) d = inr (aside_tried (match_refusals j m s) (line_matched j r m s) (aside_match j r m))
  aside (depart j) d = inr (aside_tried (depart_refusals j s) (line_departed j s) (λ ok. aside_depart j d))
  aside (write len opted) d = absurd d
  aside (sent_to k) d = inr (aside_tried (sent_refusals k s) (state_with_flow (raised (rank_of k) s.flow) s) (λ ok. record { at = record { found = a.found; last = a.last }; grows = inl refl }))
  aside (evict_to k) d = inr (aside_tried (evict_refusals k s) (evicts (rank_of k) s) (λ ok. record { at = record { found = a.found; last = a.last }; grows = inl refl }))
  aside (call j c) d = inr (aside_call j d c (find j s.lines))
  aside (heartbeat j) d = inr (aside_beat j (find j s.lines))
  aside (send j) d = whose (decide (eqb j i))
    where
      whose : (eqb j i ≡ true) ⊎ (eqb j i ≡ false) → (send j ≡ send i) ⊎ Aside i l n s.net (step (send j) s)
      whose (inl e) = inl (ap send (eqb-true j i e))
      whose (inr e) = inr (aside_send j (eqb-false j i e) (find j s.lines))
  aside (reply j) d = inr (aside_reply j (find j s.lines))
  aside (deliver k) d = inr (aside_arrives (nth s.net k) d)

-- the line i of the state s is l, but for numbers sent to it
pub record Idle (i : ℕ) (l : Line) (n : ℕ) (s : State) : Type 0 where
  pub line : Line
  pub at : At i line n s
  pub sent : Sent l line

pub idle : (i : ℕ) (l : Line) (n : ℕ) (s : State) → At i l n s → Idle i l n s
idle i l n s a = record { line = l; at = a; sent = record { same = same l; model = refl; none = λ e. e } }

module _ (i : ℕ) (l : Line) (n : ℕ) where
  idle_send : (s : State) → Idle i l n s → Idle i l n (step (send i) s) × Grown s.net (step (send i) s).net
  idle_send s w = go w.line.server.unsent refl
    where
      go : (u : List ℕ) → w.line.server.unsent ≡ u → Idle i l n (step (send i) s) × Grown s.net (step (send i) s).net
      go [] e = subst (λ (y : State). Idle i l n y × Grown s.net y.net) (sym (send-none i w.line n s w.at e)) (w, inl refl)
      go (m ∷ ms) e = subst (λ (y : State). Idle i l n y × Grown s.net y.net) (sym (send-is i w.line n s w.at m ms e)) (marked, inr (new, refl))
        where
          new : Msg
          new = record { line = i; body = cond (retained m s.flow) (sample m) (gap m) }

          marked : Idle i l n (post i (cond (retained m s.flow) (sample m) (gap m)) (with_lines (upd i (on_server (marked_sent m)) s.lines) s))
          marked =
              record {
                line = on_server (marked_sent m) w.line;
                at = record { found = find-same i (on_server (marked_sent m)) (λ y. refl) s.lines w.line w.at.found; last = w.at.last };
                sent = record { same = same-on l w.line (on_server (marked_sent m) w.line) w.sent.same (record { cap = refl; anew = refl; reliable = refl; since = refl }); model = w.sent.model; none = λ q. ap (without m) (w.sent.none q) };
              }

  idle_step : (e : Event) (s : State) → Sound s → Beside i e s → Idle i l n s → Idle i l n (step e s) × Grown s.net (step e s).net
  idle_step e s h d w = go (aside i w.line n s h w.at e d)
    where
      go : (e ≡ send i) ⊎ Aside i w.line n s.net (step e s) → Idle i l n (step e s) × Grown s.net (step e s).net
      go (inl q) = subst (λ (e : Event). Idle i l n (step e s) × Grown s.net (step e s).net) (sym q) (idle_send s w)
      go (inr q) = (record { line = w.line; at = q.at; sent = w.sent }, q.grows)

-- THE PLACE OF A MESSAGE: p messages are older than m

pub record Stands (p : ℕ) (m : Msg) (net : List Msg) : Type 0 where
  pub there : p < length net
  pub is : (k : ℕ) → suc k + p ≡ length net → nth net k ≡ some m

stands_new : (m : Msg) (net : List Msg) → Stands (length net) m (m ∷ net)
stands_new m net = record { there = omega arith; is = go }
  where
    go : (k : ℕ) → suc k + length net ≡ suc (length net) → nth (m ∷ net) k ≡ some m
    go zero e = refl
    go (suc k) e = absurd (omega arith)

stands_more : (p : ℕ) (m x : Msg) (net : List Msg) → Stands p m net → Stands p m (x ∷ net)
stands_more p m x net h = record { there = omega (arith, h.there); is = go }
  where
    go : (k : ℕ) → suc k + p ≡ suc (length net) → nth (x ∷ net) k ≡ some m
    go zero e = absurd (omega (arith, h.there))
    go (suc k) e = h.is k (omega arith)

stands_on : (p : ℕ) (m : Msg) (net net' : List Msg) → Grown net net' → Stands p m net → Stands p m net'
stands_on p m net net' (inl e) h = subst (Stands p m) (sym e) h
stands_on p m net net' (inr e) h = subst (Stands p m) (sym e.1) (stands_more p m e.0 net h)

-- SEVERAL EVENTS

module _ (i : ℕ) (l : Line) (n : ℕ) where
  stands_run : (p : ℕ) (m : Msg) (es : List Event) (s : State) → Each (Beside i) es s → Sound s → Idle i l n s → Stands p m s.net → Idle i l n (run es s) × Stands p m (run es s).net
  stands_run p m [] s d h w k = (w, k)
  stands_run p m (e ∷ es) s d h w k =
      let q = idle_step i l n e s h d.0 w in
      stands_run p m es (step e s) d.1 (sound_step s h e) q.0 (stands_on p m s.net (step e s).net q.1 k)

  pub idle_run : (es : List Event) (s : State) → Each (Beside i) es s → Sound s → Idle i l n s → Idle i l n (run es s)
  idle_run [] s d h w = w
  idle_run (e ∷ es) s d h w = idle_run es (step e s) d.1 (sound_step s h e) (idle_step i l n e s h d.0 w).0

-- A MESSAGE CARRIED: the line is still l, but for numbers sent to it, when the message that e put into the network arrives
pub carried_at : (i : ℕ) (l : Line) (n : ℕ) (s s' : State) → Sound s → At i l n s → (e : Event) (b : Body) → step e s ≡ post i b s → Carried i e s s'
    → (t : State) × Sound t × Idle i l n t × (arrive i b t ≡ s')
carried_at i l n s s' h a e b puts c = (t, sound_run c.meanwhile (step e s) (sound_step s h e), w.0, ap (λ (o : Option Msg). arrives o t) (sym (w.1.is c.place c.that)) ∙ c.ends)
  where
    t : State
    t = run c.meanwhile (step e s)

    put : At i l n (step e s) × Stands (length s.net) (record { line = i; body = b }) (step e s).net
    put =
        subst (λ (y : State). At i l n y × Stands (length s.net) (record { line = i; body = b }) y.net) (sym puts)
        (record { found = a.found; last = a.last }, stands_new (record { line = i; body = b }) s.net)

    w : Idle i l n (run c.meanwhile (step e s)) × Stands (length s.net) (record { line = i; body = b }) (run c.meanwhile (step e s)).net
    w = stands_run i l n (length s.net) (record { line = i; body = b }) c.meanwhile (step e s) c.beside (sound_step s h e) (idle i l n (step e s) put.0) put.1
