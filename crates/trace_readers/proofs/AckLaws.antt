-- op=ack, from the calls to the line. Assumes nothing.
use Prim.Native.Nat.{ℕ, ◌+◌, ◌-◌}
use mathlib.Core.Path.{◌≡◌, refl, ap, subst, ◌∙◌}
use mathlib.Core.List.{List, ◌++◌}
use lib.ListN.{length, take, drop}
use borrow.Author.Tests.{eq-eqb, ne_eqb}
use Rattle.numbers.specs.Promise.{Gives2, Gives4}
use Rattle.number_sets.specs.declared.sequence_number_set.SequenceNumberSet.{SequenceNumberSet}
use Rattle.rtps_reader_proxy.specs.declared.proxy.ReaderProxy.{ReaderProxy}
use Rattle.reader_list.specs.declared.calls.Found.{Found}
use Rattle.reader_list.specs.declared.heads.ReaderHead.{ReaderHead}
use Rattle.reader_list.specs.Slots.{found_of}
use Rattle.writer_send_buffer.specs.declared.flow.WriterSendBuffer.{WriterSendBuffer}
use Rattle.writer_steps.specs.declared.acks.AckTold.{AckTold}
use Rattle.writer_steps.specs.Acks.{ack_step}
use Rattle.trace_readers.specs.declared.state.Trace.{Trace}
use Rattle.trace_readers.specs.declared.state.Followed.{Followed}
use Rattle.trace_readers.specs.State.{refused_by, incoherent, trace_with_flow, reader_in, with_reader}
use Rattle.trace_readers.specs.Rooms.{part, unsent_at, gaps_at}
use Rattle.trace_readers.proofs.Parts.{part_as, put_as}
use Rattle.trace_readers.specs.Requests.{reader_of, asked_for, ack_part, ack_followed, ack_line}

-- the reader's part of the rooms
module _ (i id : ℕ) (set : SequenceNumberSet) (t : Trace) (large small : List ℕ) (a d : ℕ) (ea : a ≡ unsent_at i) (ed : d ≡ gaps_at i) where
  pub ack-part : (p : ReaderProxy) → p ≡ reader_in i t → (r : AckTold) (hs : List ReaderHead) (f : WriterSendBuffer) (u g : List ℕ)
      → Gives4 r hs f u g (ack_step t.heads t.flow id set p (take (a + 1024 - a) (drop a large)) (take (d + 256 - d) (drop d small)))
      → (k : Trace) → k ≡ with_reader i r.proxy (trace_with_flow f hs t)
      → Gives2 (record { answer = r.told.answer; trace = k }) (take a large ++ (u ++ drop (a + 1024 - a) (drop a large))) (take d small ++ (g ++ drop (d + 256 - d) (drop d small))) (ack_followed i id set t large small)
  ack-part p ep r hs f u g q k ek =
      let x : Gives4 r hs f u g (ack_step t.heads t.flow id set p (part (unsent_at i) 1024 large) (take (d + 256 - d) (drop d small)))
      = subst (λ (z : List ℕ). Gives4 r hs f u g (ack_step t.heads t.flow id set p z (take (d + 256 - d) (drop d small)))) (part_as a (unsent_at i) 1024 large ea) q in
      let y : Gives4 r hs f u g (ack_step t.heads t.flow id set p (part (unsent_at i) 1024 large) (part (gaps_at i) 256 small))
      = subst (λ (z : List ℕ). Gives4 r hs f u g (ack_step t.heads t.flow id set p (part (unsent_at i) 1024 large) z)) (part_as d (gaps_at i) 256 small ed) x in
      let o : Gives4 r hs f u g (ack_part i id set t large small)
      = subst (λ (z : ReaderProxy). Gives4 r hs f u g (ack_step t.heads t.flow id set z (part (unsent_at i) 1024 large) (part (gaps_at i) 256 small))) ep y in
      record {
        result =
            ap (λ (z : Trace). record { answer = r.told.answer; trace = z }) ek
            ∙ ap (λ (z : AckTold). record { answer = z.told.answer; trace = with_reader i z.proxy (trace_with_flow f hs t) }) o.result
            ∙ ap (λ (z : List ReaderHead). record { answer = (ack_part i id set t large small).result.told.answer; trace = with_reader i (ack_part i id set t large small).result.proxy (trace_with_flow f z t) }) o.first
            ∙ ap (λ (z : WriterSendBuffer). record { answer = (ack_part i id set t large small).result.told.answer; trace = with_reader i (ack_part i id set t large small).result.proxy (trace_with_flow z (ack_part i id set t large small).first t) }) o.second;
        first = put_as a (unsent_at i) 1024 u _ large ea o.third;
        second = put_as d (gaps_at i) 256 g _ small ed o.fourth;
      }

-- the line
module _ (id base : ℕ) (l : List ℕ) (t : Trace) (large small : List ℕ) where
  pub ack-large : (r : Followed) → (length large ≡ 4352 → ⊥) → r ≡ refused_by incoherent t → Gives2 r large small (ack_line id base l t large small)
  ack-large r h e = rw (ne_eqb (length large) 4352 h) (record { result = e; first = refl; second = refl })

  pub ack-small : (r : Followed) → length large ≡ 4352 → (length small ≡ 544 → ⊥) → r ≡ refused_by incoherent t → Gives2 r large small (ack_line id base l t large small)
  ack-small r g h e = rw (eq-eqb (length large) 4352 g, ne_eqb (length small) 544 h) (record { result = e; first = refl; second = refl })

  pub ack-line : length large ≡ 4352 → length small ≡ 544
      → (set : SequenceNumberSet) → set ≡ asked_for base l
      → (found : Found) → found ≡ found_of t.heads id → (i : ℕ) → i ≡ reader_of found
      → (r : Followed) (u v : List ℕ) → Gives2 r u v (ack_followed i id set t large small) → Gives2 r u v (ack_line id base l t large small)
  ack-line hl hs set es found ef i ei r u v o =
      let p : Gives2 r u v (ack_followed i id (asked_for base l) t large small) = subst (λ (s : SequenceNumberSet). Gives2 r u v (ack_followed i id s t large small)) es o in
      let q : Gives2 r u v (ack_followed (reader_of (found_of t.heads id)) id (asked_for base l) t large small)
      = subst (λ (n : ℕ). Gives2 r u v (ack_followed n id (asked_for base l) t large small)) (ei ∙ ap reader_of ef) p in
      rw (eq-eqb (length large) 4352 hl, eq-eqb (length small) 544 hs) q
