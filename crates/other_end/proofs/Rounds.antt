-- Several clean rounds, with anything but a write between them. Assumes nothing.
use Prim.Native.Nat.{ℕ, zero, suc, ◌+◌, ◌-◌, ◌*◌, ◌≤◌, ◌<◌, min}
use mathlib.Core.Path.{◌≡◌, refl, sym, ap, subst, ◌∙◌}
use mathlib.Core.Bool.{Bool, true, false, cond}
use mathlib.Core.Logic.{◌⊎◌, inl, inr}
use mathlib.Core.List.{List, [], ◌∷◌}
use mathlib.Core.Option.{Option, none, some}
use lib.Dec.{eqb}
use native.Mathlib.Omega.{arith}
use native.Mathlib.Nat.{zero-mul, suc-mul, div-lt_iff_lt-mul}
use borrow.Author.Tests.{eqb-true, eqb-false}
use Rattle.sets.proofs.Bools.{decide}
use Rattle.numbers.specs.Number.{rank_of}
use Rattle.numbers.specs.Refusals.{answer_of, is_done, Rows}
use Rattle.number_sets.specs.Bits.{members}
use Rattle.rtps_reader_proxy.specs.Reader.{acknowledge, marked_sent}
use Rattle.writer_send_buffer.specs.Flow.{raised}
use Rattle.other_end.specs.Model.{got_data, got_gap, got_beat, base}
use Rattle.other_end.specs.Calls.{ReaderCall, result, call_rows}
use Rattle.other_end.specs.System.{Line, Body, sample, gap, beat, ack, Msg, State, Event, match, depart, write, sent_to, evict_to, call, heartbeat, send, reply, deliver, find, upd, nth, on_server, on_model, with_lines, state_with_flow, tried, match_refusals, depart_refusals, newcomer, line_matched, line_departed, ack_refusals, acknowledges, called, sent_refusals, evict_refusals, evicts, arrive, arrives, send_first, send_to, beat_to, reply_from, step, run, start}
use Rattle.other_end.specs.Rounds.{Quiet, Rounds}
use Rattle.other_end.specs.Demand3.{MovedOn, Reached, rounds_for}
use Rattle.other_end.proofs.Found.{find-same, find_other, find-stays}
use Rattle.other_end.proofs.Calls.{call-cap}
use Rattle.other_end.proofs.Fine.{Sane, base-last, settle_base}
use Rattle.other_end.proofs.Sound.{Sound}
use Rattle.other_end.proofs.Runs.{sound_step, sound_run}
use Rattle.other_end.proofs.Beside.{Same, same, same-on, match_other}
use Rattle.other_end.proofs.Round.{Runs, runs_on, sound_runs, runs_round, round_moves}

-- what the line l may become while nothing is written: it is the same, and knows no less
record Later (l l' : Line) : Type 0 where
  same : Same l l'
  base : base l.model ≤ base l'.model

unchanged : (l : Line) → Later l l
unchanged l = record { same = same l; base = omega arith }

-- the line i, which was l, in the state t that came of a state with the last number n
abbrev Next : ℕ → Line → ℕ → State → Type 0
Next i l n t = (l' : Line) × (find i t.lines ≡ some l') × (t.flow.last ≡ n) × Later l l'

module _ (i : ℕ) (l : Line) (s : State) (h : Sound s) (found : find i s.lines ≡ some l) where
  stays : Next i l s.flow.last s
  stays = (l, found, refl, unchanged l)

  next-tried : (r : Rows) (y : State) → (is_done (answer_of r) ≡ true → Next i l s.flow.last y) → Next i l s.flow.last (tried r s y)
  next-tried r y q = go (is_done (answer_of r)) refl
    where
      go : (t : Bool) → is_done (answer_of r) ≡ t → Next i l s.flow.last (cond t y s)
      go true e = q e
      go false e = stays

  -- the lines with the id j changed
  next-upd : (j : ℕ) (g : Line → Line) → ((x : Line) → (g x).id ≡ x.id) → Later l (g l) → (l' : Line) × (find i (upd j g s.lines) ≡ some l') × Later l l'
  next-upd j g keeps t = go (decide (eqb j i))
    where
      go : (eqb j i ≡ true) ⊎ (eqb j i ≡ false) → (l' : Line) × (find i (upd j g s.lines) ≡ some l') × Later l l'
      go (inl e) = (g l, subst (λ (k : ℕ). find i (upd k g s.lines) ≡ some (g l)) (sym (eqb-true j i e)) (find-same i g keeps s.lines l found), t)
      go (inr e) = (l, find_other j i g keeps (eqb-false j i e) s.lines ∙ found, unchanged l)

  next-match : (j : ℕ) (r : Bool) (m : ℕ) → is_done (answer_of (match_refusals j m s)) ≡ true → Next i l s.flow.last (line_matched j r m s)
  next-match j r m d =
      let away = match_other i l s.flow.last s h (record { found = found; last = refl }) j m d in
      (l, ap (λ (t : Bool). cond t (some (newcomer j r m s)) (find i s.lines)) away ∙ found, refl, unchanged l)

  next-call : (j : ℕ) (c : ReaderCall) (o : Option Line) → Next i l s.flow.last (called j c o s)
  next-call j c none = stays
  next-call j c (some x) =
      next-tried (call_rows s.flow.last c x.server) (with_lines (upd j (on_server (result c)) s.lines) s)
      (λ d. let w = next-upd j (on_server (result c)) (λ y. refl) (record { same = record { cap = call-cap c l.server; anew = refl; reliable = refl; since = refl }; base = omega arith }) in (w.0, w.1, refl, w.2))

  next-send : (j : ℕ) (u : List ℕ) → Next i l s.flow.last (send_first j u s)
  next-send j [] = stays
  next-send j (k ∷ ks) = let w = next-upd j (on_server (marked_sent k)) (λ y. refl) (record { same = record { cap = refl; anew = refl; reliable = refl; since = refl }; base = omega arith }) in (w.0, w.1, refl, w.2)

  next-send_to : (j : ℕ) (o : Option Line) → Next i l s.flow.last (send_to j o s)
  next-send_to j none = stays
  next-send_to j (some x) = next-send j x.server.unsent

  next-beat : (j : ℕ) (o : Option Line) → Next i l s.flow.last (beat_to j o s)
  next-beat j none = stays
  next-beat j (some x) = stays

  next-reply : (j : ℕ) (o : Option Line) → Next i l s.flow.last (reply_from j o s)
  next-reply j none = stays
  next-reply j (some x) = stays

  next-arrive : (j : ℕ) (b : Body) → Sane s.flow.last b → Next i l s.flow.last (arrive j b s)
  next-arrive j (sample k) g =
      let w = next-upd j (on_model (got_data k)) (λ y. refl) (record { same = record { cap = refl; anew = refl; reliable = refl; since = refl }; base = settle_base s.flow s.careful s.net l (h.lines i l found) k g.0 }) in (w.0, w.1, refl, w.2)
  next-arrive j (gap k) g =
      let w = next-upd j (on_model (got_gap k)) (λ y. refl) (record { same = record { cap = refl; anew = refl; reliable = refl; since = refl }; base = settle_base s.flow s.careful s.net l (h.lines i l found) k g.0 }) in (w.0, w.1, refl, w.2)
  next-arrive j (beat k) g = let w = next-upd j (on_model (got_beat k)) (λ y. refl) (record { same = record { cap = refl; anew = refl; reliable = refl; since = refl }; base = omega arith }) in (w.0, w.1, refl, w.2)
  next-arrive j (ack z) g =
      next-tried (ack_refusals j z s) (acknowledges j z s)
      (λ d. let w = next-upd j (on_server (acknowledge s.flow.last z.base (members z))) (λ y. refl) (record { same = record { cap = refl; anew = refl; reliable = refl; since = refl }; base = omega arith }) in (w.0, w.1, refl, w.2))

  next-arrives : (k : ℕ) (o : Option Msg) → nth s.net k ≡ o → Next i l s.flow.last (arrives o s)
  next-arrives k none e = stays
  next-arrives k (some m) e = next-arrive m.line m.body (h.sane k m e)

  next-depart : (j : ℕ) → (j ≡ i → ⊥) → Next i l s.flow.last (step (depart j) s)
  next-depart j q = next-tried (depart_refusals j s) (line_departed j s) (λ d. (l, find-stays j i q s.lines ∙ found, refl, unchanged l))

  quiet_step : (e : Event) (es : List Event) → Quiet i (e ∷ es) → Next i l s.flow.last (step e s) × Quiet i es
  quiet_step (match j r m) es q = (next-tried (match_refusals j m s) (line_matched j r m s) (next-match j r m), q)
  quiet_step (depart j) es q = (next-depart j q.0, q.1)
  quiet_step (write len opted) es q = absurd q
  quiet_step (sent_to k) es q = (next-tried (sent_refusals k s) (state_with_flow (raised (rank_of k) s.flow) s) (λ d. stays), q)
  quiet_step (evict_to k) es q = (next-tried (evict_refusals k s) (evicts (rank_of k) s) (λ d. stays), q)
  quiet_step (call j c) es q = (next-call j c (find j s.lines), q)
  quiet_step (heartbeat j) es q = (next-beat j (find j s.lines), q)
  quiet_step (send j) es q = (next-send_to j (find j s.lines), q)
  quiet_step (reply j) es q = (next-reply j (find j s.lines), q)
  quiet_step (deliver k) es q = (next-arrives k (nth s.net k) refl, q)

later-on : (l x y : Line) → Later l x → Later x y → Later l y
later-on l x y p q = record { same = same-on l x y p.same q.same; base = omega (arith, p.base, q.base) }

quiet_run : (i : ℕ) (es : List Event) (l : Line) (s : State) → Quiet i es → Sound s → find i s.lines ≡ some l → Next i l s.flow.last (run es s)
quiet_run i [] l s q h f = stays i l s h f
quiet_run i (e ∷ es) l s q h f =
    let w = quiet_step i l s h f e es q in
    let v = quiet_run i es w.0.0 (step e s) w.1 (sound_step s h e) w.0.1 in
    (v.0, v.1, v.2 ∙ w.0.2, later-on l w.0.0 v.0 w.0.3 v.3)

-- SEVERAL ROUNDS ARE A RUN

pub rounds_run : (i r : ℕ) (s s' : State) → Rounds i r s s' → Runs s s'
rounds_run i zero s s' d = ([], d)
rounds_run i (suc r) s s' d =
    runs_on s d.2 s' (runs_on s (run d.0 s) d.2 (d.0, refl) (runs_round i (run d.0 s) d.2 d.3)) (rounds_run i r d.2 s' d.4)

pub reached_runs : (s t : State) → Reached s → Runs s t → Reached t
reached_runs s t r p =
    let w = runs_on (start r.kind r.limits r.slots) s t (r.events, r.comes) p in
    record { kind = r.kind; limits = r.limits; slots = r.slots; allowed = r.allowed; some = r.some; few = r.few; events = w.0; comes = w.1 }

-- SO MANY ROUNDS LEVEL A LINE

-- both ends hold the same next number, and nothing is unsent if that is past the last
abbrev pub Agrees : ℕ → Line → Type 0
Agrees n l = (l.server.acked ≡ base l.model) × (base l.model ≡ suc n → l.server.unsent ≡ [])

-- what r rounds make of the line l
pub record Levelled (i r : ℕ) (l : Line) (n : ℕ) (s' : State) : Type 0 where
  pub line : Line
  pub found : find i s'.lines ≡ some line
  pub same : Same l line
  pub last : s'.flow.last ≡ n
  pub agrees : (r ≡ 0 → Agrees n l) → Agrees n line
  pub on : (e : ℕ) → e ≤ suc n → e ≤ base l.model + r * min 256 l.server.cap → e ≤ base line.model
  pub within : base line.model ≤ suc n

-- what is within reach of one round more
reach : (e b q m k c p t : ℕ) → q + min k c ≤ m → q + k ≡ t → b ≤ q → e ≤ t → e ≤ b + (p + c) → e ≤ m + p
reach e b q m k c p t u v w x y = omega arith

-- one round more in front: l is q when the round begins, and m when it ends
one_more : (i r n : ℕ) (l q m : Line) (s' : State) → Later l q → base q.model ≤ suc n → Same q m → MovedOn n q m → Levelled i r m n s' → Levelled i (suc r) l n s'
one_more i r n l q m s' w top e d v =
    record {
      line = v.line;
      found = v.found;
      same = same-on l m v.line (same-on l q m w.same e) v.same;
      last = v.last;
      agrees = λ g. v.agrees (λ e. (d.agree, d.clear));
      on = λ x a b. v.on x a (near x a b);
      within = v.within;
    }
  where
    near : (x : ℕ) → x ≤ suc n → x ≤ base l.model + suc r * min 256 l.server.cap → x ≤ base m.model + r * min 256 m.server.cap
    near x a b =
        let k : base q.model + (suc n - base q.model) ≡ suc n = omega (arith, top) in
        let o = subst (λ (c : ℕ). base q.model + min (suc n - base q.model) (min 256 c) ≤ base m.model) w.same.cap (d.on (suc n - base q.model) k) in
        subst (λ (c : ℕ). x ≤ base m.model + r * min 256 c) (sym (e.cap ∙ w.same.cap))
        (reach x (base l.model) (base q.model) (base m.model) (suc n - base q.model) (min 256 l.server.cap) (r * min 256 l.server.cap) (suc n)
        o k w.base a (subst (λ (c : ℕ). x ≤ base l.model + c) (suc-mul r (min 256 l.server.cap)) b))

pub levelled : (i r : ℕ) (l : Line) (s s' : State) → Sound s → l.anew ≡ true → find i s.lines ≡ some l → Rounds i r s s' → Levelled i r l s.flow.last s'
levelled i zero l s s' h a f d =
    subst (Levelled i zero l s.flow.last) d
    (record {
      line = l;
      found = f;
      same = same l;
      last = refl;
      agrees = λ g. g refl;
      on = λ x a b. let z : 0 * min 256 l.server.cap ≡ 0 = zero-mul (min 256 l.server.cap) in omega (arith, b, z);
      within = base-last s.flow s.careful s.net l (h.lines i l f);
    })
levelled i (suc r) l s s' h a f d =
    let es = d.0 in
    let q = quiet_run i es l s d.1 h f in
    let hq = sound_run es s h in
    let m = round_moves i q.0 s.flow.last (run es s) d.2 hq (record { found = q.1; last = q.2 }) (q.3.same.anew ∙ a) d.3 in
    let v = levelled i r m.0 d.2 s' (sound_runs (run es s) d.2 hq (runs_round i (run es s) d.2 d.3)) (m.3.anew ∙ q.3.same.anew ∙ a) m.1 d.4 in
    let top : base q.0.model ≤ suc s.flow.last = omega (arith, base-last (run es s).flow (run es s).careful (run es s).net q.0 (hq.lines i q.0 q.1), q.2) in
    one_more i r s.flow.last l q.0 m.0 s' q.3 top m.3 m.4 (subst (λ (n : ℕ). Levelled i r m.0 n s') m.2 v)

-- so many rounds are enough
pub enough : (b n c r t : ℕ) → 1 ≤ c → b + n ≡ t → rounds_for n c ≤ r → t ≤ b + r * c
enough b n c r t p e q =
    let w : n + (c - 1) < suc r * c = (div-lt_iff_lt-mul p).0 (omega (arith, q)) in
    let z : suc r * c ≡ r * c + c = suc-mul r c in
    omega (arith, w, z)
