-- The readers looked at, the sample admitted and its number put are the write. Assumes nothing.
use Prim.Native.Nat.{ℕ, ◌+◌, ◌≤◌}
use mathlib.Core.Path.{◌≡◌, refl, sym, ap, ◌∙◌}
use mathlib.Core.Bool.{Bool, true, false, cond}
use mathlib.Core.List.{List, map}
use native.Mathlib.Omega.{arith}
use lib.Dec.{leb}
use lib.ListN.{length, set}
use borrow.Author.Tests.{eqb-true, le-leb}
use Rattle.sets.proofs.Bools.{and_both, clash}
use Rattle.numbers.specs.Capacities.{top_number}
use Rattle.numbers.specs.Number.{rank_of, valid_rank, number_at}
use Rattle.numbers.specs.Refusals.{answer_of, is_done, done}
use Rattle.numbers.specs.Promise.{Left3, Gives2}
use Rattle.numbers.proofs.Ranks.{rank_back}
use Rattle.rtps_reader_proxy.specs.declared.proxy.ReaderProxy.{ReaderProxy}
use Rattle.writer_send_buffer.specs.declared.flow.WriterSendBuffer.{WriterSendBuffer}
use Rattle.writer_send_buffer.specs.declared.flow.Numbered.{Numbered}
use Rattle.writer_send_buffer.specs.declared.samples.Admitted.{Admitted}
use Rattle.writer_send_buffer.specs.Flow.{admitted as flow_admitted}
use Rattle.writer_send_buffer.specs.Buffer.{numbered_no, flow_view, flow_form}
use Rattle.writer_send_buffer.specs.Samples.{write_rows, admit_of, handed, with_bytes, slot_start, slot_of}
use Rattle.writer_send_buffer.proofs.Sound.{written_is}
use Rattle.writer_write.specs.Write.{UnsentPart, told_all, Written, write_step}
use Rattle.writer_write.specs.Places.{stride_of, readers_in, proxies_of, laid_from}
use Rattle.writer_write.specs.Coherent.{places_coherent}
use Rattle.writer_write.specs.InPlace.{write_incoherent, write_in, write_of, Wrote}
use Rattle.writer_write.specs.Turns.{writer_of, put_one, put_in_all}
use Rattle.writer_write.proofs.Tells.{Given, map_same, puts_told}

module _ (f : WriterSendBuffer) (store lens payload : List ℕ) (opted : Bool) where
  -- by whether a row holds
  abbrev pub by_rows : Bool → Left3 Numbered WriterSendBuffer (List ℕ) (List ℕ)
  by_rows t =
      cond t
      (record {
        result = record { answer = done; number = number_at (rank_of f.last + 1) };
        first = flow_form (flow_admitted (flow_view f) opted);
        second = with_bytes store (slot_start (flow_view f) (rank_of f.last + 1)) payload;
        third = set lens (slot_of (flow_view f) (rank_of f.last + 1)) (length payload);
      })
      (record { result = numbered_no (answer_of (write_rows f (length store) lens (length payload) opted)); first = f; second = store; third = lens })

  -- the number given is a sample's
  pub is_given : Given (admit_of f store lens payload opted).result
  is_given = go (is_done (answer_of (write_rows f (length store) lens (length payload) opted))) refl
    where
      go : (t : Bool) → is_done (answer_of (write_rows f (length store) lens (length payload) opted)) ≡ t → Given (by_rows t).result
      go true e d =
          let w = written_is f (length store) lens (length payload) opted (answer_of (write_rows f (length store) lens (length payload) opted)) refl (eqb-true (answer_of (write_rows f (length store) lens (length payload) opted)).number 0 e) in
          let most : rank_of f.last + 1 ≤ top_number = omega (arith, w.number, w.sound.flow.numbers.last-most) in
          ap valid_rank (rank_back (rank_of f.last + 1) (omega arith))
          ∙ and_both (leb 1 (rank_of f.last + 1)) (leb (rank_of f.last + 1) top_number) (le-leb 1 (rank_of f.last + 1) (omega arith)) (le-leb (rank_of f.last + 1) top_number most)
      go false e d = clash (is_done (answer_of (write_rows f (length store) lens (length payload) opted))) d e

  -- all of it
  module _ (hs : List ReaderProxy) (u : List ℕ) where
    abbrev stepped : Bool → Written
    stepped t = record { writer = writer_of t f store lens payload opted; readers = told_all (writer_of t f store lens payload opted).result (readers_in hs u) }

    -- where the readers are coherent, what is put is what they are told; where not, nothing is
    all_put : (t : Bool) → t ≡ places_coherent hs u → map (put_one (writer_of t f store lens payload opted).result) (readers_in hs u) ≡ told_all (writer_of t f store lens payload opted).result (readers_in hs u)
    all_put true e = puts_told (admit_of f store lens payload opted).result is_given (length hs) (stride_of (length hs) u) hs u (sym e)
    all_put false e = map_same (readers_in hs u)

    both_ways : (t : Bool) → stepped t ≡ cond t (write_step f store lens payload opted (readers_in hs u)) (record { writer = write_incoherent f store lens; readers = readers_in hs u })
    both_ways true = refl
    both_ways false = refl

    pub wrote : (t : Bool) → t ≡ places_coherent hs u → (m : Admitted) (s l : List ℕ) → Gives2 m s l (handed (writer_of t f store lens payload opted))
        → (r : Numbered) (hs' : List ReaderProxy) (u' : List ℕ) → Gives2 r hs' u' (put_in_all m.numbered hs u) → Wrote r m.flow s l hs' u' (write_of f store lens payload opted hs u)
    wrote t et m s l e r hs' u' p =
        record {
          is-result = p.result ∙ numbered_is ∙ ap (λ (w : Written). w.writer.result) whole;
          is-flow = ap (λ (x : Admitted). x.flow) e.result ∙ ap (λ (w : Written). w.writer.first) whole;
          is_store = e.first ∙ ap (λ (w : Written). w.writer.second) whole;
          is-lens = e.second ∙ ap (λ (w : Written). w.writer.third) whole;
          is-proxies = p.first ∙ ap proxies_of put_is ∙ ap (λ (w : Written). proxies_of w.readers) whole;
          is-unsent = p.second ∙ ap (λ (ks : List UnsentPart). laid_from (stride_of (length hs) u) ks u) put_is ∙ ap (λ (w : Written). laid_from (stride_of (length hs) u) w.readers u) whole;
        }
      where
        numbered_is : m.numbered ≡ (writer_of t f store lens payload opted).result
        numbered_is = ap (λ (x : Admitted). x.numbered) e.result

        put_is : map (put_one m.numbered) (readers_in hs u) ≡ told_all (writer_of t f store lens payload opted).result (readers_in hs u)
        put_is = ap (λ (n : Numbered). map (put_one n) (readers_in hs u)) numbered_is ∙ all_put t et

        whole : stepped t ≡ write_in f store lens payload opted hs u
        whole = ap stepped et ∙ both_ways (places_coherent hs u)
