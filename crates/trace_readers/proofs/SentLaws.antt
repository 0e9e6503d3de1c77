-- op=sent, from the calls to the line. Assumes nothing.
use Prim.Native.Nat.{ℕ, ◌+◌, ◌-◌}
use mathlib.Core.Path.{◌≡◌, subst}
use mathlib.Core.List.{List, ◌++◌}
use lib.ListN.{length, take, drop}
use borrow.Author.Tests.{eq-eqb}
use Rattle.numbers.specs.Number.{number_at}
use Rattle.numbers.specs.Promise.{Gives1}
use Rattle.numbers.specs.declared.sequence_number.SequenceNumber.{SequenceNumber}
use Rattle.reader_list.specs.declared.calls.Found.{Found}
use Rattle.reader_list.specs.Slots.{found_of}
use Rattle.trace_readers.specs.declared.state.Trace.{Trace}
use Rattle.trace_readers.specs.declared.state.Followed.{Followed}
use Rattle.trace_readers.specs.Rooms.{part, unsent_at}
use Rattle.trace_readers.specs.Requests.{reader_of, sent_followed, sent_put, sent_for, sent_line}
use Rattle.trace_readers.proofs.Parts.{part_as, put_as}

module _ (id seq : ℕ) (t : Trace) (large : List ℕ) where
  pub sent-line : length large ≡ 4352 → (n : SequenceNumber) → n ≡ number_at seq → (found : Found) → found ≡ found_of t.heads id
      → (i : ℕ) → i ≡ reader_of found → (a : ℕ) → a ≡ unsent_at i
      → (r : Followed) (u : List ℕ) → Gives1 r u (sent_followed i found.answer n t (take (a + 1024 - a) (drop a large)))
      → Gives1 r (take a large ++ (u ++ drop (a + 1024 - a) (drop a large))) (sent_line id seq t large)
  sent-line hl n en found ef i ei a ea r u g =
      let later = take a large ++ (u ++ drop (a + 1024 - a) (drop a large)) in
      let x : Gives1 r u (sent_followed i found.answer n t (part (unsent_at i) 1024 large))
      = subst (λ (z : List ℕ). Gives1 r u (sent_followed i found.answer n t z)) (part_as a (unsent_at i) 1024 large ea) g in
      let y : Gives1 r later (sent_put i found.answer n t large) = record { result = x.result; first = put_as a (unsent_at i) 1024 u _ large ea x.first } in
      let o : Gives1 r later (sent_for found n t large) = subst (λ (b : ℕ). Gives1 r later (sent_put b found.answer n t large)) ei y in
      let p : Gives1 r later (sent_for (found_of t.heads id) n t large) = subst (λ (f : Found). Gives1 r later (sent_for f n t large)) ef o in
      let k : Gives1 r later (sent_for (found_of t.heads id) (number_at seq) t large) = subst (λ (m : SequenceNumber). Gives1 r later (sent_for (found_of t.heads id) m t large)) en p in
      rw (eq-eqb (length large) 4352 hl) k
