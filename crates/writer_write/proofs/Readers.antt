-- A WRITE TO READERS: where the whole rooms of valid readers stand side by side, a write that is done leaves there the readers that are notified of its number.
-- Assumes nothing.
use Prim.Native.Nat.{ℕ, ◌-◌}
use mathlib.Core.Path.{◌≡◌, refl, sym, ap, subst, ◌∙◌}
use mathlib.Core.Bool.{Bool, true, not, cond}
use mathlib.Core.List.{List, [], ◌∷◌, map}
use native.Mathlib.Omega.{arith}
use lib.Dec.{leb}
use lib.ListN.{length}
use borrow.Author.Tests.{leb-true, le-leb}
use Rattle.sets.specs.Sets.{insert, largest}
use Rattle.sets.proofs.Bools.{and_left, and_right, and_both, or_right}
use Rattle.numbers.specs.Capacities.{top_number}
use Rattle.numbers.specs.Number.{rank_of, is_sample}
use Rattle.numbers.specs.Refusals.{row, is_done, done, unless}
use Rattle.numbers.specs.Promise.{Left1}
use Rattle.numbers.specs.declared.sequence_number.SequenceNumber.{SequenceNumber}
use Rattle.rising.specs.Runs.{room_of}
use Rattle.rising.proofs.Meaning.{room_take, room-length}
use Rattle.rtps_reader_proxy.specs.Parts.{count_unsent}
use Rattle.rtps_reader_proxy.specs.declared.proxy.ReaderProxy.{ReaderProxy}
use Rattle.rtps_reader_proxy.specs.declared.proxy.Changed.{Changed}
use Rattle.rtps_reader_proxy.specs.Reader.{Reader, notified}
use Rattle.rtps_reader_proxy.specs.Record.{room_for, unsent_coherent, proxy_of, unsent_room}
use Rattle.reader_record.specs.Whole.{rooms_whole, rooms_coherent, record_form, Valid}
use Rattle.reader_record.proofs.Whole.{form_coherent}
use Rattle.reader_record.proofs.Kept.{notified-valid}
use Rattle.writer_send_buffer.specs.declared.flow.WriterSendBuffer.{WriterSendBuffer}
use Rattle.writer_send_buffer.specs.Samples.{admit_of}
use Rattle.writer_write.specs.Write.{told, told_all, Written}
use Rattle.writer_write.specs.Coherent.{places_coherent}
use Rattle.writer_write.specs.InPlace.{write_of}
use Rattle.writer_write.specs.Standing.{standing, roomy, all_unsent_coherent, unsent_part_of}
use Rattle.writer_write.proofs.Tells.{Given}
use Rattle.writer_write.proofs.Writes.{is_given}
use Rattle.writer_write.proofs.Standing.{standing-coherent, whole_after}

abbrev pub AllValid : List Reader → Type 0
AllValid [] = Unit {0}
AllValid (r ∷ rs) = Valid r × AllValid rs

-- one reader
module _ (r : Reader) (v : Valid r) where
  reader_ok : unsent_coherent (proxy_of r) (unsent_room r) ≡ true
  reader_ok = and_left (unsent_coherent (proxy_of r) (unsent_room r)) _ (and_right (rooms_whole (record_form r)) (rooms_coherent (record_form r)) (form_coherent r v))

  long : length (unsent_room r) ≡ r.cap
  long = room-length r.cap r.unsent v.unsent-few

  fits : room_for 1 r.cap (length r.unsent) (unsent_room r) ≡ true
  fits = or_right (leb 1 (length (unsent_room r) - length r.unsent)) (leb r.cap (length (unsent_room r))) (le-leb r.cap (length (unsent_room r)) (omega (arith, long)))

  pub told-reader : (n : SequenceNumber) → is_sample n ≡ true → told n (unsent_part_of r) ≡ unsent_part_of (notified (rank_of n) r)
  told-reader n sample =
      ap (λ (o : Left1 Changed (List ℕ)). record { proxy = o.result.proxy; unsent = o.first })
      (λ j. leaves (and_both (room_for 1 r.cap (length r.unsent) (unsent_room r)) (unsent_coherent (proxy_of r) (unsent_room r)) fits reader_ok j) (sample j) (long j) (room_take r.cap r.unsent j))
    where
      leaves : Bool → Bool → ℕ → List ℕ → Left1 Changed (List ℕ)
      leaves t v c l =
          unless (row 1 refl (not t) ∷ row 2 refl (not v) ∷ [])
          (λ a. record { result = record { answer = a; proxy = proxy_of r }; first = unsent_room r })
          (record { result = record { answer = done; proxy = count_unsent (length (largest r.cap (insert (rank_of n) l))) (proxy_of r) }; first = room_of c (largest r.cap (insert (rank_of n) l)) })

-- all of them
all_ok : (rs : List Reader) → AllValid rs → all_unsent_coherent (map unsent_part_of rs) ≡ true
all_ok [] v = refl
all_ok (r ∷ rs) v = and_both (unsent_coherent (proxy_of r) (unsent_room r)) (all_unsent_coherent (map unsent_part_of rs)) (reader_ok r v.0) (all_ok rs v.1)

module _ (n : SequenceNumber) (sample : is_sample n ≡ true) where
  all_told : (rs : List Reader) → AllValid rs → map (told n) (map unsent_part_of rs) ≡ map unsent_part_of (map (notified (rank_of n)) rs)
  all_told [] v = refl
  all_told (r ∷ rs) v = λ j. told-reader r v.0 n sample j ∷ all_told rs v.1 j

  pub all_valid : (rs : List Reader) → AllValid rs → AllValid (map (notified (rank_of n)) rs)
  all_valid [] v = tt
  all_valid (r ∷ rs) v = (
    notified-valid r v.0 (rank_of n) (leb-true 1 (rank_of n) (and_left (leb 1 (rank_of n)) (leb (rank_of n) top_number) sample)) (leb-true (rank_of n) top_number (and_right (leb 1 (rank_of n)) (leb (rank_of n) top_number) sample)),
    all_valid rs v.1,
  )

-- THE WRITE
module _ (hs : List ReaderProxy) (u : List ℕ) (room : roomy hs u ≡ true) (rs : List Reader) (stand : standing hs u ≡ map unsent_part_of rs) (valid : AllValid rs) where
  ok : all_unsent_coherent (standing hs u) ≡ true
  ok = ap all_unsent_coherent stand ∙ all_ok rs valid

  pub readers-coherent : places_coherent hs u ≡ true
  readers-coherent = standing-coherent hs u room ok

  module _ (f : WriterSendBuffer) (store lens payload : List ℕ) (opted : Bool) where
    numbered_is : (write_of f store lens payload opted hs u).result ≡ (admit_of f store lens payload opted).result
    numbered_is = ap (λ (w : Written). w.writer.result) (whole_after hs u room ok f store lens payload opted)

    module _ (d : is_done (write_of f store lens payload opted hs u).result.answer ≡ true) where
      pub readers-after : standing (write_of f store lens payload opted hs u).proxies (write_of f store lens payload opted hs u).unsent ≡ map unsent_part_of (map (notified (rank_of (write_of f store lens payload opted hs u).result.number)) rs)
      readers-after =
          ap (λ (w : Written). w.readers) (whole_after hs u room ok f store lens payload opted)
          ∙ (λ j. told_all (sym numbered_is j) (stand j))
          ∙ ap (λ (t : Bool). cond t (map (told n) (map unsent_part_of rs)) (map unsent_part_of rs)) d
          ∙ all_told n given rs valid
        where
          n : SequenceNumber
          n = (write_of f store lens payload opted hs u).result.number

          given : is_sample n ≡ true
          given = subst Given (sym numbered_is) (is_given f store lens payload opted) d

      -- which are valid again
      pub readers-valid : AllValid (map (notified (rank_of (write_of f store lens payload opted hs u).result.number)) rs)
      readers-valid = all_valid (write_of f store lens payload opted hs u).result.number (subst Given (sym numbered_is) (is_given f store lens payload opted) d) rs valid
