-- "Until `op=new` is accepted the three state figures print 0". Assumes nothing.
use Prim.Native.Nat.{ℕ}
use mathlib.Core.Path.{◌≡◌, refl, ap}
use mathlib.Core.Bool.{Bool, true, false, cond, true≢false}
use mathlib.Core.Logic.{◌⊎◌, inl, inr}
use mathlib.Core.List.{List}
use lib.Dec.{ltb}
use lib.ListN.{length, take}
use Rattle.numbers.specs.Number.{rank_of}
use Rattle.numbers.specs.Refusals.{is_done}
use Rattle.numbers.specs.Promise.{Left3}
use Rattle.writer_send_buffer.specs.declared.flow.WriterSendBuffer.{WriterSendBuffer}
use Rattle.writer_send_buffer.specs.declared.flow.Moved.{Moved}
use Rattle.writer_send_buffer.specs.Buffer.{new_flow_of}
use Rattle.trace_lines.specs.Lines.{Said, op_new, op_match, op_write, op_ack, op_sent, op_frag, op_evict, unknown, said}
use Rattle.trace_text.specs.Answers.{answer_text}
use Rattle.trace_readers.specs.declared.state.Trace.{Trace}
use Rattle.trace_readers.specs.declared.state.Followed.{Followed}
use Rattle.trace_readers.specs.State.{trace_begun, refused_by, not_understood, trace_with_flow}
use Rattle.trace_run.specs.Writer.{kind_of, limits_of}
use Rattle.trace_run.specs.Follow.{no_room, first_line, later_line, follow_of}
use Rattle.trace_answers.specs.Shown.{follow_held, shown_text}

-- no line has made the writer
pub record Unmade (t : Trace) : Type 0 where
  pub started : t.started ≡ false
  pub flow : t.flow ≡ trace_begun.flow

-- so it is at first
pub unmade_at_first : Unmade trace_begun
unmade_at_first = record { started = refl; flow = refl }

-- it is made, or it isn't yet
abbrev MadeOrNot : Trace → Type 0
MadeOrNot t = (t.started ≡ true) ⊎ Unmade t

not_later : (b : Bool) → b ≡ false → (x y : Left3 Followed (List ℕ) (List ℕ) (List ℕ)) → MadeOrNot y.result.trace → MadeOrNot (cond b x y).result.trace
not_later true e x y p = absurd (true≢false e)
not_later false e x y p = p

-- and after each line, until one makes it
pub unmade_still : (held : ℕ) (line : List ℕ) (t : Trace) (store large small : List ℕ) → Unmade t
    → ((follow_held held line t store large small).result.trace.started ≡ true) ⊎ Unmade (follow_held held line t store large small).result.trace
unmade_still held line t store large small u = go (ltb (length line) held)
  where
    made : (m : Moved) (d : Bool) → MadeOrNot (cond d (record { answer = m.answer; trace = trace_with_flow m.flow t.heads t }) (refused_by m.answer t)).trace
    made m true = inl refl
    made m false = inr u

    first : (c : Said) → MadeOrNot (first_line c t).trace
    first (op_new w b r s) = made (new_flow_of kind_of (limits_of w b r s)) (is_done (new_flow_of kind_of (limits_of w b r s)).answer)
    first (op_match id) = inr u
    first (op_write len) = inr u
    first (op_ack id base l) = inr u
    first (op_sent id seq) = inr u
    first (op_frag id seq l) = inr u
    first (op_evict before) = inr u
    first unknown = inr u

    go : (d : Bool) → MadeOrNot (cond d (no_room (refused_by not_understood t) store large small) (follow_of (take held line) t store large small)).result.trace
    go true = inr u
    go false =
        not_later t.started u.started (later_line (said 256 (take held line)) t store large small) (no_room (first_line (said 256 (take held line)) t) store large small)
        (first (said 256 (take held line)))

-- and till then three zeros are shown
pub zeros_till_then : (n : ℕ) (f : Followed) → Unmade f.trace → shown_text n f ≡ answer_text n f.answer.number 0 0 0
zeros_till_then n f u = ap (λ (w : WriterSendBuffer). answer_text n f.answer.number (rank_of w.last) (rank_of w.first) (rank_of w.acked)) u.flow
