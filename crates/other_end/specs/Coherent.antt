-- Coherence of a state: that of its records, as document 01 words it and as the calls test it. Assumes nothing.
use Rattle.std.specs.Prelude.{ℕ, suc, ◌≤◌, ◌≡◌, true, false}
use Rattle.std.proofs.Math.Option.{some}
use Rattle.reader_record.specs.Whole.{record_form, record_coherent, Valid}
use Rattle.reader_list.specs.Readers.{is_there, head_at, frontier}
use Rattle.reader_list.specs.Slots.{list_form, id_unknown, list_coherent}
use Rattle.writer_send_buffer.specs.Buffer.{flow_form, flow_coherent}
use Rattle.other_end.specs.System.{Line, State, find, line_head}

-- every record of the state is coherent, the list's head of a reader agrees with its record, each reader of the list has one, and the frontier can be
-- stored: so no call that the system makes is refused with 1, nor the storing of a frontier with 2
pub record Coherent (s : State) : Type 0 where
  pub flow : flow_coherent (flow_form s.flow) ≡ true
  pub list : list_coherent (list_form s.heads) ≡ true
  pub readers : (i : ℕ) (l : Line) → find i s.lines ≡ some l → Valid l.server × (record_coherent (record_form l.server) ≡ true)
  pub heads : (i : ℕ) (l : Line) → find i s.lines ≡ some l → (is_there i s.heads ≡ true) × (head_at i s.heads ≡ line_head l)
  pub records : (i : ℕ) → id_unknown i s.heads ≡ false → (l : Line) × (find i s.lines ≡ some l)
  pub frontier : frontier s.heads ≤ suc s.flow.last
