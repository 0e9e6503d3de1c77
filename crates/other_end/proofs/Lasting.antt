-- The writer's kind is, after any run, what it was before. Assumes nothing.
use Prim.Native.Nat.{ℕ}
use mathlib.Core.Path.{◌≡◌, refl, ◌∙◌}
use mathlib.Core.Bool.{Bool, true, false, cond}
use mathlib.Core.List.{List, [], ◌∷◌}
use mathlib.Core.Option.{Option, none, some}
use Rattle.numbers.specs.Number.{rank_of}
use Rattle.numbers.specs.Refusals.{answer_of, is_done, Rows}
use Rattle.writer_send_buffer.specs.Flow.{raised}
use Rattle.other_end.specs.Calls.{ReaderCall, result, call_rows}
use Rattle.other_end.specs.System.{Line, Body, sample, gap, beat, ack, Msg, State, Event, match, depart, write, sent_to, evict_to, call, heartbeat, send, reply, deliver, find, upd, nth, on_server, with_lines, state_with_flow, tried, match_refusals, depart_refusals, line_matched, line_departed, ack_refusals, acknowledges, called, write_refusals, sent_refusals, evict_refusals, wrote, evicts, arrive, arrives, send_first, send_to, beat_to, reply_from, step, run}

module _ (s : State) where
  kind-tried : (r : Rows) (y : State) → y.flow.kind ≡ s.flow.kind → (tried r s y).flow.kind ≡ s.flow.kind
  kind-tried r y e = go (is_done (answer_of r))
    where
      go : (t : Bool) → (cond t y s).flow.kind ≡ s.flow.kind
      go true = e
      go false = refl

  kind-call : (j : ℕ) (c : ReaderCall) (o : Option Line) → (called j c o s).flow.kind ≡ s.flow.kind
  kind-call j c none = refl
  kind-call j c (some x) = kind-tried (call_rows s.flow.last c x.server) (with_lines (upd j (on_server (result c)) s.lines) s) refl

  kind-beat : (j : ℕ) (o : Option Line) → (beat_to j o s).flow.kind ≡ s.flow.kind
  kind-beat j none = refl
  kind-beat j (some x) = refl

  kind-reply : (j : ℕ) (o : Option Line) → (reply_from j o s).flow.kind ≡ s.flow.kind
  kind-reply j none = refl
  kind-reply j (some x) = refl

  kind-first : (j : ℕ) (u : List ℕ) → (send_first j u s).flow.kind ≡ s.flow.kind
  kind-first j [] = refl
  kind-first j (m ∷ ms) = refl

  kind-send : (j : ℕ) (o : Option Line) → (send_to j o s).flow.kind ≡ s.flow.kind
  kind-send j none = refl
  kind-send j (some x) = kind-first j x.server.unsent

  kind-arrive : (j : ℕ) (b : Body) → (arrive j b s).flow.kind ≡ s.flow.kind
  kind-arrive j (sample k) = refl
  kind-arrive j (gap k) = refl
  kind-arrive j (beat k) = refl
  kind-arrive j (ack z) = kind-tried (ack_refusals j z s) (acknowledges j z s) refl

  kind-arrives : (o : Option Msg) → (arrives o s).flow.kind ≡ s.flow.kind
  kind-arrives none = refl
  kind-arrives (some m) = kind-arrive m.line m.body

  kind-step : (e : Event) → (step e s).flow.kind ≡ s.flow.kind
  kind-step (match j r m) = kind-tried (match_refusals j m s) (line_matched j r m s) refl
  kind-step (depart j) = kind-tried (depart_refusals j s) (line_departed j s) refl
  kind-step (write len opted) = kind-tried (write_refusals len opted s) (wrote opted s) refl
  kind-step (sent_to k) = kind-tried (sent_refusals k s) (state_with_flow (raised (rank_of k) s.flow) s) refl
  kind-step (evict_to k) = kind-tried (evict_refusals k s) (evicts (rank_of k) s) refl
  kind-step (call j c) = kind-call j c (find j s.lines)
  kind-step (heartbeat j) = kind-beat j (find j s.lines)
  kind-step (send j) = kind-send j (find j s.lines)
  kind-step (reply j) = kind-reply j (find j s.lines)
  kind-step (deliver k) = kind-arrives (nth s.net k)

pub kind-run : (es : List Event) (s : State) → (run es s).flow.kind ≡ s.flow.kind
kind-run [] s = refl
kind-run (e ∷ es) s = kind-run es (step e s) ∙ kind-step s e
