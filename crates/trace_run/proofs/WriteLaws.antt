-- op=write, from the calls to the line. Assumes nothing.
use Prim.Native.Nat.{ℕ, suc, ◌+◌, ◌-◌, min}
use mathlib.Core.Path.{◌≡◌, refl, sym, ap, subst, ◌∙◌}
use mathlib.Core.Bool.{Bool}
use mathlib.Core.List.{List, ◌++◌}
use native.Mathlib.Numerals.{add-one}
use lib.ListN.{length, take, drop, get_or, replicate}
use borrow.Author.Tests.{eq-eqb, ne_eqb}
use Rattle.numbers.specs.Promise.{Left1, Left2, Gives1, Gives2}
use Rattle.numbers.specs.declared.answer.Answer.{Answer}
use Rattle.numbers.specs.declared.sequence_number.SequenceNumber.{SequenceNumber}
use Rattle.rtps_reader_proxy.specs.declared.proxy.ReaderProxy.{ReaderProxy}
use Rattle.rtps_reader_proxy.specs.Record.{unsent_coherent}
use Rattle.reader_list.specs.Slots.{free_slot}
use Rattle.writer_send_buffer.specs.declared.samples.Admitted.{Admitted}
use Rattle.trace_readers.specs.declared.state.Trace.{Trace}
use Rattle.trace_readers.specs.declared.state.Followed.{Followed}
use Rattle.trace_readers.specs.State.{refused_by, incoherent, own_answer, trace_with_flow, reader_in, with_reader}
use Rattle.trace_readers.specs.Rooms.{part, unsent_at}
use Rattle.trace_readers.proofs.Parts.{part_as, put_as}
use Rattle.trace_run.specs.Writes.{told_to, told_at, told_first, told_both, coherent_at, both_coherent, admit_put, told_after, written_by, written_of, payload_of, write_line}

-- one reader, in its part of the room
pub coherent-part : (i : ℕ) (t : Trace) (large : List ℕ) (a : ℕ) → a ≡ unsent_at i → (p : ReaderProxy) → p ≡ reader_in i t
    → (b : Bool) → b ≡ unsent_coherent p (take (a + 1024 - a) (drop a large)) → b ≡ coherent_at i t large
coherent-part i t large a ea p ep b eb =
    eb ∙ ap (unsent_coherent p) (part_as a (unsent_at i) 1024 large ea) ∙ ap (λ (x : ReaderProxy). unsent_coherent x (part (unsent_at i) 1024 large)) ep

pub told-part : (i : ℕ) (t : Trace) (n : SequenceNumber) (large : List ℕ) (a : ℕ) → a ≡ unsent_at i → (q : ReaderProxy) → q ≡ reader_in i t → (p : ReaderProxy) (u : List ℕ)
    → Gives1 p u (told_to (get_or t.heads i free_slot) n q (take (a + 1024 - a) (drop a large)))
    → Gives1 (with_reader i p t) (take a large ++ (u ++ drop (a + 1024 - a) (drop a large))) (told_at i t n large)
told-part i t n large a ea q eq p u g =
    let k : Gives1 p u (told_to (get_or t.heads i free_slot) n q (part (unsent_at i) 1024 large))
    = subst (λ (x : List ℕ). Gives1 p u (told_to (get_or t.heads i free_slot) n q x)) (part_as a (unsent_at i) 1024 large ea) g in
    let h : Gives1 p u (told_to (get_or t.heads i free_slot) n (reader_in i t) (part (unsent_at i) 1024 large))
    = subst (λ (x : ReaderProxy). Gives1 p u (told_to (get_or t.heads i free_slot) n x (part (unsent_at i) 1024 large))) eq k in
    record { result = ap (λ (x : ReaderProxy). with_reader i x t) h.result; first = put_as a (unsent_at i) 1024 u _ large ea h.first }

-- and one more
pub told_more : (i : ℕ) (t s r : Trace) (n : SequenceNumber) (large m u : List ℕ) → Gives1 s m (told_first i t n large) → Gives1 r u (told_at i s n m) → Gives1 r u (told_first (i + 1) t n large)
told_more i t s r n large m u g h =
    let e : told_at i s n m ≡ told_first (suc i) t n large
    = ap (λ (x : Trace). told_at i x n m) g.result ∙ ap (told_at i (told_first i t n large).result n) g.first in
    rw add-one (subst (λ (o : Left1 Trace (List ℕ)). Gives1 r u o) e h)

pub told_all : (i : ℕ) (t s : Trace) (n : SequenceNumber) (large m : List ℕ) → i ≡ 2 → Gives1 s m (told_first i t n large) → Gives1 s m (told_both t n large)
told_all i t s n large m e g = subst (λ (k : ℕ). Gives1 s m (told_first k t n large)) e g

module _ (payload : List ℕ) (t : Trace) (store large : List ℕ) (a : Answer) (ea : a ≡ own_answer (both_coherent t large)) where
  into : a.number ≡ 0 → {r : Followed} {u v : List ℕ} → Gives2 r u v (written_by (admit_put t.flow payload store large) t) → Gives2 r u v (written_of payload t store large)
  into z g = rw (eq-eqb (own_answer (both_coherent t large)).number 0 (sym (ap (λ (x : Answer). x.number) ea) ∙ z)) g

  module _ (z : a.number ≡ 0) (d : Admitted) (u v : List ℕ) (g : Gives2 d u v (admit_put t.flow payload store large)) where
    abbrev had : Left2 Admitted (List ℕ) (List ℕ)
    had = record { result = d; first = u; second = v }

    same : had ≡ admit_put t.flow payload store large
    same =
        ap (λ (x : Admitted). record { result = x; first = u; second = v }) g.result
        ∙ ap (λ (x : List ℕ). record { result = (admit_put t.flow payload store large).result; first = x; second = v }) g.first
        ∙ ap (λ (x : List ℕ). record { result = (admit_put t.flow payload store large).result; first = (admit_put t.flow payload store large).first; second = x }) g.second

    turn : {r : Followed} {x y : List ℕ} → Gives2 r x y (written_by had t) → Gives2 r x y (written_by (admit_put t.flow payload store large) t)
    turn {r} {x} {y} k = subst (λ (o : Left2 Admitted (List ℕ) (List ℕ)). Gives2 r x y (written_by o t)) same k

    pub admit_refused : (d.numbered.answer.number ≡ 0 → ⊥) → (r : Followed) → r ≡ refused_by d.numbered.answer t → Gives2 r u v (written_of payload t store large)
    admit_refused n r e =
        let k : Gives2 r u v (written_by had t) = rw (ne_eqb d.numbered.answer.number 0 n) (record { result = e; first = refl; second = refl }) in
        into z (turn k)

    pub write_done : d.numbered.answer.number ≡ 0 → (s : Trace) → s ≡ trace_with_flow d.flow t.heads t → (k : Trace) (w : List ℕ) → Gives1 k w (told_both s d.numbered.number v)
        → Gives2 (record { answer = d.numbered.answer; trace = k }) u w (written_of payload t store large)
    write_done n s es k w h =
        let j : Gives1 k w (told_after had t) = subst (λ (x : Trace). Gives1 k w (told_both x d.numbered.number v)) es h in
        let o : Gives2 (record { answer = d.numbered.answer; trace = k }) u w (written_by had t)
        = rw (eq-eqb d.numbered.answer.number 0 n) (record { result = ap (λ (x : Trace). record { answer = d.numbered.answer; trace = x }) j.result; first = refl; second = j.first }) in
        into z (turn o)

-- the line
module _ (len : ℕ) (t : Trace) (store large : List ℕ) where
  pub write_store : (r : Followed) → (length store ≡ 4096 → ⊥) → r ≡ refused_by incoherent t → Gives2 r store large (write_line len t store large)
  write_store r h e = rw (ne_eqb (length store) 4096 h) (record { result = e; first = refl; second = refl })

  pub write-large : (r : Followed) → length store ≡ 4096 → (length large ≡ 4352 → ⊥) → r ≡ refused_by incoherent t → Gives2 r store large (write_line len t store large)
  write-large r g h e = rw (eq-eqb (length store) 4096 g, ne_eqb (length large) 4352 h) (record { result = e; first = refl; second = refl })

  pub write-line : length store ≡ 4096 → length large ≡ 4352 → (n : ℕ) → n ≡ min len 17 → (r : Followed) (u v : List ℕ)
      → Gives2 r u v (written_of (take n (replicate 17 0)) t store large) → Gives2 r u v (write_line len t store large)
  write-line hs hl n en r u v g =
      let k : Gives2 r u v (written_of (payload_of len) t store large) = subst (λ (x : ℕ). Gives2 r u v (written_of (take x (replicate 17 0)) t store large)) en g in
      rw (eq-eqb (length store) 4096 hs, eq-eqb (length large) 4352 hl) k
