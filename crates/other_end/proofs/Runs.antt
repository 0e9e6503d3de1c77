-- Every step keeps what holds of every state, and so does every run. Assumes nothing.
use Prim.Native.Nat.{ℕ, ◌+◌, ◌-◌, ◌≤◌, max}
use mathlib.Core.Path.{◌≡◌, refl, sym, ap, subst, ◌∙◌}
use mathlib.Core.Bool.{Bool, true, false, not, cond, ◌||◌}
use mathlib.Core.List.{List, [], ◌∷◌}
use mathlib.Core.Option.{Option, none, some}
use lib.Dec.{leb}
use lib.ListN.{replicate}
use native.Mathlib.Omega.{arith}
use borrow.Author.Tests.{leb-true, eq-eqb, le-leb}
use Rattle.sets.specs.Sets.{has, From}
use Rattle.sets.proofs.Bools.{and_left, and_right, and_both, clash}
use Rattle.numbers.specs.Number.{rank_of}
use Rattle.numbers.specs.Refusals.{answer_of, is_done}
use Rattle.numbers.proofs.Refused.{Clear}
use Rattle.rtps_reader_proxy.specs.Reader.{Reader, notified, marked_sent}
use Rattle.reader_list.specs.Readers.{Head, free, is_there}
use Rattle.writer_send_buffer.specs.declared.limits.Kind.{Kind}
use Rattle.writer_send_buffer.specs.declared.limits.Limits.{Limits}
use Rattle.writer_send_buffer.specs.Flow.{Flow, allowed, admitted, ahead, raised, evicted, retained}
use Rattle.writer_send_buffer.proofs.Sound.{Fits}
use Rattle.writer_send_buffer.proofs.Steps.{fits-blank, fits-admitted, fits-raised, fits-evicted}
use Rattle.writer_send_buffer.proofs.Window.{no_trim_with_readers}
use Rattle.other_end.specs.Model.{got_data, got_gap, got_beat, base, ack_nack}
use Rattle.other_end.specs.Calls.{ReaderCall, result, call_rows}
use Rattle.other_end.specs.System.{Line, Body, sample, gap, beat, ack, Msg, State, Event, match, depart, write, sent_to, evict_to, call, heartbeat, send, reply, deliver, find, upd, nth, on_server, on_model, with_lines, state_with_flow, post, match_refusals, depart_refusals, line_matched, line_departed, ack_refusals, acknowledges, called, write_refusals, sent_refusals, evict_refusals, wrote, evicts, arrive, arrives, send_first, send_to, beat_to, reply_from, step, run, start}
use Rattle.other_end.proofs.Found.{none-some, none_msg, some-line, find-id, find-map, find_mapped, apart_map}
use Rattle.other_end.proofs.Heads.{known_is, free-none, fits-free, Low, low_more, low_free}
use Rattle.other_end.proofs.Calls.{done-clear, call-acked}
use Rattle.other_end.proofs.Fine.{Early, Trusted, Sane, Good, Fine, sane_more, base-last, fine_data, fine_gap, fine_beat, fine_sent, fine_call, fine_notified, fine_flow}
use Rattle.other_end.proofs.Sound.{Held, Sound, sound_tried, sound_upd, sound_post}
use Rattle.other_end.proofs.Joins.{sound_joined, sound_left, sound_ack}

-- a head with another number
abbrev head_with : Line → ℕ → Head
head_with l a = record { id = l.id; reliable = l.reliable; acked = a; below = false }

module _ (s : State) (h : Sound s) where
  sound_call : (i : ℕ) (d : ReaderCall) (o : Option Line) → find i s.lines ≡ o → Sound (called i d o s)
  sound_call i d none e = h
  sound_call i d (some l) e =
      sound_tried (call_rows s.flow.last d l.server) s (with_lines (upd i (on_server (result d)) s.lines) s) h
      (λ ok. sound_upd s h i (on_server (result d)) (λ y. ap (head_with y) (call-acked d y.server))
      (λ j l' e' q. fine_call s.flow s.careful s.net l' (h.lines j l' e') d h.flow.last-most
      (subst (λ (y : Line). is_done (answer_of (call_rows s.flow.last d y.server)) ≡ true) (same j l' e' q) ok)))
    where
      same : (j : ℕ) (l' : Line) → find j s.lines ≡ some l' → i ≡ l'.id → l ≡ l'
      same j l' e' q = some-line (sym e ∙ subst (λ (k : ℕ). find k s.lines ≡ some l') (sym (q ∙ find-id j s.lines l' e')) e')

  -- THE NUMBERS

  -- only the flow changes, and perhaps the care
  sound_flow : (f' : Flow) (c' : Bool) → f'.last ≡ s.flow.last → f'.present ≡ s.flow.present → f'.acked ≡ s.flow.acked → (Trusted f' c' → Trusted s.flow s.careful) → Fits f'
      → ((l : Line) (j : ℕ) → find j s.lines ≡ some l → Trusted f' c' → Early l → f'.first ≤ max 1 l.server.acked)
      → Sound (record { flow = f'; heads = s.heads; lines = s.lines; used = s.used; careful = c'; net = s.net })
  sound_flow f' c' p pr ac t ok ke =
      record {
        lines = λ j l e. fine_flow s.flow s.careful s.net l (h.lines j l e) f' c' p t (λ r. (pr ∙ ((h.lines j l e).front r).0, omega (arith, ((h.lines j l e).front r).1, ac))) (ke l j e);
        held = h.held;
        flow = ok;
        list = h.list;
        low = subst (λ (n : ℕ). Low n s.heads) (sym p) h.low;
        ids = h.ids;
        tags = h.tags;
        sane = λ k m e. subst (λ (n : ℕ). Sane n m.body) (sym p) (h.sane k m e);
        known = h.known;
        apart = h.apart;
      }

  sound_evicts : (n : ℕ) → ahead n s.flow ≡ false → Sound (evicts n s)
  sound_evicts n q =
      sound_flow (evicted n s.flow) (evicts n s).careful refl refl refl
      (λ t. (t.0, and_left s.careful (not s.flow.present || leb n s.flow.acked) t.1)) (fits-evicted s.flow h.flow n q)
      (λ l j e t k.
      let z = (h.lines j l e).front k.1 in
      let w = and_right s.careful (not s.flow.present || leb n s.flow.acked) t.1 in
      let v : n ≤ s.flow.acked = leb-true n s.flow.acked (sym (ap (λ (p : Bool). not p || leb n s.flow.acked) z.0) ∙ w) in
      omega (arith, v, z.1, ((h.lines j l e).kept (t.0, and_left s.careful (not s.flow.present || leb n s.flow.acked) t.1) k).0))

  sound_wrote : (len : ℕ) (opted : Bool) → is_done (answer_of (write_refusals len opted s)) ≡ true → Sound (wrote opted s)
  sound_wrote len opted d =
      record {
        lines = λ j l' e. let w = find-map note j s.lines l' e in each j l' w.0 w.1 w.2;
        held = λ j l' e. let w = find-map note j s.lines l' e in subst (λ (y : Line). Held s.heads j y) (sym w.2) (stands j w.0 (h.held j w.0 w.1));
        flow = flow';
        list = h.list;
        low = low_more s.flow.last (s.flow.last + 1) s.heads (omega arith) h.low;
        ids = λ j l' e. let w = find-map note j s.lines l' e in h.ids j w.0 w.1;
        tags = h.tags;
        sane = λ k m e. sane_more s.flow.last (s.flow.last + 1) (omega arith) m.body (h.sane k m e);
        known = λ j e. let w = h.known j e in (on_server note w.0, find_mapped note j s.lines w.0 w.1);
        apart = apart_map note s.lines h.apart;
      }
    where
      note : Reader → Reader
      note = notified (s.flow.last + 1)

      c : Clear (write_refusals len opted s)
      c = done-clear (write_refusals len opted s) d

      flow' : Fits (admitted s.flow opted)
      flow' = fits-admitted s.flow h.flow opted (c 5 refl) (c 7 refl)

      stands : (j : ℕ) (l : Line) → Held s.heads j l → Held s.heads j (on_server (notified (s.flow.last + 1)) l)
      stands j l o = record { some_id = o.some_id; there = o.there; head = o.head }

      each : (j : ℕ) (l' l : Line) → find j s.lines ≡ some l → l' ≡ on_server (notified (s.flow.last + 1)) l → Fine (admitted s.flow opted) s.careful s.net l'
      each j l' l e w =
          subst (λ (y : Line). Fine (admitted s.flow opted) s.careful s.net y) (sym w)
          (fine_notified s.flow s.careful s.net l (h.lines j l e) (admitted s.flow opted) flow'.last-most refl refl refl (λ t. t)
          (λ t k. ap (λ (b : Bool). cond b (max s.flow.first (s.flow.last + 2 - s.flow.limits.retain)) s.flow.first)
          (no_trim_with_readers s.flow opted t.0 ((h.lines j l e).front k.1).0)))

  -- THE NETWORK

  sound_arrive : (i : ℕ) (b : Body) → Sane s.flow.last b → ((l : Line) (j : ℕ) → find j s.lines ≡ some l → i ≡ l.id → l.anew ≡ true → Good s.flow s.careful l b) → Sound (arrive i b s)
  sound_arrive i (sample n) w g = sound_upd s h i (on_model (got_data n)) (λ l. refl) (λ j l e q. fine_data s.flow s.careful s.net l (h.lines j l e) n w.0 w.1)
  sound_arrive i (gap n) w g = sound_upd s h i (on_model (got_gap n)) (λ l. refl) (λ j l e q. fine_gap s.flow s.careful s.net l (h.lines j l e) n w.0 w.1 (λ t k. g l j e q k.2 t k))
  sound_arrive i (beat k) w g = sound_upd s h i (on_model (got_beat k)) (λ l. refl) (λ j l e q. fine_beat s.flow s.careful s.net l (h.lines j l e) k w)
  sound_arrive i (ack z) w g = sound_tried (ack_refusals i z s) s (acknowledges i z s) h (sound_ack s h i z g)

  sound_arrives : (k : ℕ) (o : Option Msg) → nth s.net k ≡ o → Sound (arrives o s)
  sound_arrives k none e = h
  sound_arrives k (some m) e = sound_arrive m.line m.body (h.sane k m e) (λ l j q w a. (h.lines j l q).mail a k m e w)

  sound_send_first : (i : ℕ) (l : Line) → find i s.lines ≡ some l → (u : List ℕ) → l.server.unsent ≡ u → Sound (send_first i u s)
  sound_send_first i l e [] q = h
  sound_send_first i l e (n ∷ ns) q =
      let p = sound_post s h i what (h.ids i l e) (fair (retained n s.flow)) (λ l' e'. subst (λ (y : Line). Good s.flow s.careful y what) (some-line (sym e ∙ e')) (good (retained n s.flow) refl)) in
      sound_upd (post i what s) p i (on_server (marked_sent n)) (λ y. refl) (λ j l' e' w. fine_sent s.flow s.careful (post i what s).net l' (p.lines j l' e') n)
    where
      what : Body
      what = cond (retained n s.flow) (sample n) (gap n)

      fine : Fine s.flow s.careful s.net l
      fine = h.lines i l e

      low : max 1 l.server.acked ≤ n
      low = (subst (λ (u : List ℕ). From (max 1 l.server.acked) u) q fine.above).0

      top : n ≤ s.flow.last
      top = fine.within.high n (ap (λ (u : List ℕ). has u n) q ∙ ap (λ (t : Bool). t || has ns n) (eq-eqb n n refl))

      fair : (t : Bool) → Sane s.flow.last (cond t (sample n) (gap n))
      fair true = (omega (arith, low), top)
      fair false = (omega (arith, low), top)

      good : (t : Bool) → retained n s.flow ≡ t → Good s.flow s.careful l (cond t (sample n) (gap n))
      good true w = tt
      good false w =
          λ t k. clash (retained n s.flow) (and_both (leb s.flow.first n) (leb n s.flow.last) (le-leb s.flow.first n (omega (arith, (fine.kept t k).0, low))) (le-leb n s.flow.last top)) w

  sound_send : (i : ℕ) (o : Option Line) → find i s.lines ≡ o → Sound (send_to i o s)
  sound_send i none e = h
  sound_send i (some l) e = sound_send_first i l e l.server.unsent refl

  sound_reply : (i : ℕ) (o : Option Line) → find i s.lines ≡ o → Sound (reply_from i o s)
  sound_reply i none e = h
  sound_reply i (some l) e =
      sound_post s h i (ack (ack_nack l.model)) (h.ids i l e) (base-last s.flow s.careful s.net l (h.lines i l e)) (λ l' e'. subst (λ (y : Line). base l.model ≤ base y.model) (some-line (sym e ∙ e')) (omega arith))

  sound_beat : (i : ℕ) (o : Option Line) → find i s.lines ≡ o → Sound (beat_to i o s)
  sound_beat i none e = h
  sound_beat i (some l) e = sound_post s h i (beat s.flow.last) (h.ids i l e) (omega arith) (λ l' e'. tt)

  pub sound_step : (e : Event) → Sound (step e s)
  sound_step (match i r m) = sound_tried (match_refusals i m s) s (line_matched i r m s) h (sound_joined s h i r m)
  sound_step (depart i) = sound_tried (depart_refusals i s) s (line_departed i s) h (λ d. sound_left s h i)
  sound_step (write len opted) = sound_tried (write_refusals len opted s) s (wrote opted s) h (sound_wrote len opted)
  sound_step (sent_to n) =
      sound_tried (sent_refusals n s) s (state_with_flow (raised (rank_of n) s.flow) s) h
      (λ d. sound_flow (raised (rank_of n) s.flow) s.careful refl refl refl (λ t. t)
      (fits-raised s.flow h.flow (rank_of n) (done-clear (sent_refusals n s) d 2 refl)) (λ l j e t k. ((h.lines j l e).kept t k).0))
  sound_step (evict_to n) =
      sound_tried (evict_refusals n s) s (evicts (rank_of n) s) h (λ d. sound_evicts (rank_of n) (done-clear (evict_refusals n s) d 2 refl))
  sound_step (call i d) = sound_call i d (find i s.lines) refl
  sound_step (heartbeat i) = sound_beat i (find i s.lines) refl
  sound_step (send i) = sound_send i (find i s.lines) refl
  sound_step (reply i) = sound_reply i (find i s.lines) refl
  sound_step (deliver k) = sound_arrives k (nth s.net k) refl

pub sound_run : (es : List Event) (s : State) → Sound s → Sound (run es s)
sound_run [] s h = h
sound_run (e ∷ es) s h = sound_run es (step e s) (sound_step s h e)

pub sound_start : (k : Kind) (l : Limits) (n : ℕ) → allowed l ≡ true → 1 ≤ n → n ≤ 64 → Sound (start k l n)
sound_start k l n a p q =
    record {
      lines = λ i l e. none-some e;
      held = λ i l e. none-some e;
      flow = fits-blank k l a;
      list = fits-free n p q;
      low = low_free 0 n;
      ids = λ i l e. none-some e;
      tags = λ k m e. none_msg e;
      sane = λ k m e. none_msg e;
      known = λ i e. let k = known_is i (replicate n free) e in clash (is_there i (replicate n free)) k.1 (free-none i n k.0);
      apart = tt;
    }
