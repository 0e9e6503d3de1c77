-- `acking` meets its contract: the reader's slot, with another acked. Assumes nothing.
use Rattle.std.proofs.Common.{◌≡◌, ℕ, ◌∙◌, sym, ap, Bool, true, false, List, [], ◌∷◌, get_or, refl, Ok, Err, Result}
use Rattle.numbers.specs.Number.{negative}
use Rattle.numbers.specs.Refusals.{row, unless}
use Rattle.numbers.specs.declared.answer.Answer.{Answer}
use Rattle.reader_list.specs.declared.heads.ReaderHead.{ReaderHead}
use Rattle.reader_list.specs.declared.calls.Acked.{Acked}
use Rattle.reader_list.specs.declared.changes.Slot.{Slot}
use Rattle.reader_list.specs.Readers.{place_of_id}
use Rattle.reader_list.specs.Slots.{readers, list_coherent, free_slot, list_rows, id_unknown}
use Rattle.reader_list.specs.Ahead.{reader_slot, ack_slot}
use Rattle.reader_list.proofs.Gather.{id_known}
use Rattle.reader_list.proofs.changes.acking.Goals as goal

module _ (hs : List ReaderHead) (a : Acked) (s : Slot) where
  abbrev found : Slot
  found = record { place = place_of_id a.id (readers hs); head = get_or hs (place_of_id a.id (readers hs)) free_slot }

  abbrev with_acked : ℕ → Slot → Slot
  with_acked i t = record { place = t.place; head = record { id = i; reliable = t.head.reliable; acked = a.acked } }

  with_its_acked : list_coherent hs ≡ true → negative a.acked ≡ false → ◌≡◌ {A = Result Slot Answer} (Ok s) (reader_slot hs a.id) → ◌≡◌ {A = Result Slot Answer} (Ok (with_acked s.head.id s)) (ack_slot hs a)
  with_its_acked c n e = go (id_unknown a.id (readers hs)) refl e
    where
      go : (u : Bool) → id_unknown a.id (readers hs) ≡ u → ◌≡◌ {A = Result Slot Answer} (Ok s) (unless (row 11 refl u ∷ []) Err (Ok found))
          → ◌≡◌ {A = Result Slot Answer} (Ok (with_acked s.head.id s)) (unless (list_rows false (list_coherent hs) (negative a.acked) u false) Err (Ok (with_acked a.id found)))
      go true q w = cc
      go false q w =
          let it : s ≡ found = cc in
          rw (c, n) (ap (λ (t : Slot). Ok (with_acked t.head.id t)) it ∙ ap (λ (i : ℕ). Ok (with_acked i found)) (id_known a.id hs q))

pub returns : goal.returns
returns c = with_its_acked c.args.list.now c.args.a c.in_ok-slot.slot (sym c.is_coherent.ensures ∙ c.if-not-is_coherent.false) (sym c.is_negative.ensures ∙ c.if-is_negative.false) c.in_ok-slot.ensures
