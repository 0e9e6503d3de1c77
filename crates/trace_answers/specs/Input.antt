-- An input answered line by line, in whatever pieces it comes. Assumes nothing.
use Rattle.std.specs.Prelude.{ℕ, zero, suc, ◌+◌, ◌-◌, min, ◌≡◌, Bool, false, not, cond, ◌&&◌, List, ltb, eqb, length, drop}
use Rattle.numbers.specs.Refusals.{done}
use Rattle.numbers.specs.Promise.{Left1, Left3}
use Rattle.trace_text.specs.declared.lines.Cut.{Cut}
use Rattle.trace_text.specs.Cuts.{cut_of}
use Rattle.trace_text.specs.Answers.{put_of}
use Rattle.trace_readers.specs.declared.state.Followed.{Followed}
use Rattle.trace_readers.specs.State.{trace_begun, refused_by}
use Rattle.trace_answers.specs.declared.input.Answering.{Answering}
use Rattle.trace_answers.specs.Shown.{follow_held, shown_text}

-- what a call leaves that is lent five things, as Left3 of `numbers` is for three
pub record Left5 (A B C D E F : Type 0) : Type 0 where
  pub result : A
  pub first : B
  pub second : C
  pub third : D
  pub fourth : E
  pub fifth : F

pub record Gives5 {A B C D E F : Type 0} (r : A) (u : B) (v : C) (w : D) (x : E) (y : F) (o : Left5 A B C D E F) : Type 0 where
  pub result : r ≡ o.result
  pub first : u ≡ o.first
  pub second : v ≡ o.second
  pub third : w ≡ o.third
  pub fourth : x ≡ o.fourth
  pub fifth : y ≡ o.fifth

-- how the answering stands; the line's room, the answers' and the trace's three
abbrev pub Standing : Type 0
Standing = Left5 Answering (List ℕ) (List ℕ) (List ℕ) (List ℕ) (List ℕ)

-- before the input's first byte
abbrev pub answering_none : Answering
answering_none = record { followed = refused_by done trace_begun; cut = record { at = 0; held = 0; ended = false }; lines = 0; filled = 0 }

-- the number of the next line, as long as 64 bits hold it
abbrev pub next_line : ℕ → ℕ
next_line n = min (n + 1) 18446744073709551615

-- how many bytes of the line under way have come: after one that has ended, none
abbrev pub held_now : Answering → ℕ
held_now r = cond r.cut.ended 0 r.cut.held

abbrev pub is_open : Answering → Bool
is_open r = not (eqb (held_now r) 0)

-- the next piece, from its start; and what was put written out, so that the room is free again
abbrev pub next_piece : Answering → Answering
next_piece r = record { followed = r.followed; cut = record { at = 0; held = r.cut.held; ended = r.cut.ended }; lines = r.lines; filled = r.filled }

abbrev pub nothing_waits : Answering → Answering
nothing_waits r = record { followed = r.followed; cut = r.cut; lines = r.lines; filled = 0 }

-- a line that hasn't ended in the piece: its bytes are held
abbrev pub with_cut : Cut → Answering → Answering
with_cut c r = record { followed = r.followed; cut = c; lines = r.lines; filled = r.filled }

-- one that has: its answer is put
abbrev pub shown_by : Cut → Followed → Answering → List ℕ → Left1 Answering (List ℕ)
shown_by c f r out =
    record {
      result = record { followed = f; cut = c; lines = next_line r.lines; filled = (put_of r.filled (shown_text (next_line r.lines) f) out).result };
      first = (put_of r.filled (shown_text (next_line r.lines) f) out).first;
    }

abbrev pub answered_by : Cut → Left3 Followed (List ℕ) (List ℕ) (List ℕ) → Answering → List ℕ → List ℕ → Standing
answered_by c f r line out =
    record {
      result = (shown_by c f.result r out).result;
      first = line;
      second = (shown_by c f.result r out).first;
      third = f.first;
      fourth = f.second;
      fifth = f.third;
    }

-- ONE LINE OF A PIECE, or what the piece has of it: where it has ended, it is followed and its answer put
abbrev pub cut_by : Left1 Cut (List ℕ) → Answering → List ℕ → List ℕ → List ℕ → List ℕ → Standing
cut_by c r out store large small =
    cond c.result.ended
    (answered_by c.result (follow_held c.result.held c.first r.followed.trace store large small) r c.first out)
    (record { result = with_cut c.result r; first = c.first; second = out; third = store; fourth = large; fifth = small })

abbrev pub answer_line : Answering → List ℕ → List ℕ → List ℕ → List ℕ → List ℕ → List ℕ → Standing
answer_line r piece line out store large small = cut_by (cut_of r.cut.at (drop r.cut.at piece) (held_now r) line) r out store large small

-- THE LINES OF A PIECE, one after the other, as long as there is room for an answer: 256 bytes, which is more than any has; at most k lines
abbrev pub goes_on : Answering → List ℕ → List ℕ → Bool
goes_on r piece out = ltb r.cut.at (length piece) && ltb 255 (length out - r.filled)

abbrev pub answer_lines : ℕ → List ℕ → Standing → Standing
answer_lines zero piece o = o
answer_lines (suc k) piece o =
    cond (goes_on o.result piece o.second)
    (answer_lines k piece (answer_line o.result piece o.first o.second o.third o.fourth o.fifth))
    o

-- a line has a byte at least, its newline
abbrev pub answer_piece : Answering → List ℕ → List ℕ → List ℕ → List ℕ → List ℕ → List ℕ → Standing
answer_piece r piece line out store large small =
    answer_lines (length piece) piece (record { result = r; first = line; second = out; third = store; fourth = large; fifth = small })
