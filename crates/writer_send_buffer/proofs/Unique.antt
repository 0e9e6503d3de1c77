-- Two results that a promise allows are equal. (The promises that are plain equations are not repeated here: `one` of `numbers` is theirs.) Assumes nothing.
use Prim.Native.Nat.{ℕ}
use mathlib.Core.Path.{◌≡◌, ap}
use mathlib.Core.Bool.{Bool}
use mathlib.Core.List.{List}
use Rattle.numbers.specs.Promise.{Gives1, Gives2, Gives3}
use Rattle.numbers.specs.declared.answer.Answer.{Answer}
use Rattle.numbers.specs.declared.sequence_number.SequenceNumber.{SequenceNumber}
use Rattle.numbers.proofs.One.{one, one1, one2, one3}
use Rattle.writer_send_buffer.specs.declared.flow.WriterSendBuffer.{WriterSendBuffer}
use Rattle.numbers.specs.declared.answer.Told.{Told}
use Rattle.writer_send_buffer.specs.declared.flow.Numbered.{Numbered}
use Rattle.reader_list.specs.declared.heads.AckedFrontier.{AckedFrontier}
use Rattle.writer_send_buffer.specs.declared.samples.Admitted.{Admitted}
use Rattle.writer_send_buffer.specs.declared.samples.Fetched.{Fetched}
use Rattle.writer_send_buffer.specs.Buffer.{acked_of, sent_of, evict_of}
use Rattle.writer_send_buffer.specs.Samples.{admit_of, handed, Shown, fetched_view, fetch_of}

pub one_acked : (f : WriterSendBuffer) (a : AckedFrontier) (r s : Told) (u v : WriterSendBuffer) → Gives1 r u (acked_of f a) → Gives1 s v (acked_of f a) → (r ≡ s) × (u ≡ v)
one_acked f a r s u v p q = one1 p q

pub one_sent : (f : WriterSendBuffer) (n : SequenceNumber) (r s : Told) (u v : WriterSendBuffer) → Gives1 r u (sent_of f n) → Gives1 s v (sent_of f n) → (r ≡ s) × (u ≡ v)
one_sent f n r s u v p q = one1 p q

pub one_removed : (f : WriterSendBuffer) (n : SequenceNumber) (r s : Answer) (u v : WriterSendBuffer) → Gives1 r u (evict_of f n) → Gives1 s v (evict_of f n) → (r ≡ s) × (u ≡ v)
one_removed f n r s u v p q = one1 p q

module _ (f : WriterSendBuffer) (b l p : List ℕ) (o : Bool) where
  pub one_sample : (r s : Admitted) (u v x y : List ℕ) → Gives2 r u x (handed (admit_of f b l p o)) → Gives2 s v y (handed (admit_of f b l p o)) → (r ≡ s) × (u ≡ v) × (x ≡ y)
  one_sample r s u v x y g h = one2 g h

  pub one_admitted : (r s : Numbered) (u v : WriterSendBuffer) (x y z w : List ℕ) → Gives3 r u x z (admit_of f b l p o) → Gives3 s v y w (admit_of f b l p o) → (r ≡ s) × (u ≡ v) × (x ≡ y) × (z ≡ w)
  one_admitted r s u v x y z w g h = one3 g h

-- where the part lies is not said, as of no reference that a call returns
pub one_fetched : (f : WriterSendBuffer) (b l : List ℕ) (n : SequenceNumber) (r s : Fetched) → fetched_view r ≡ fetch_of f b l n → fetched_view s ≡ fetch_of f b l n → (r.answer ≡ s.answer) × (r.bytes.now ≡ s.bytes.now)
one_fetched f b l n r s p q = (ap (λ (x : Shown). x.answer) (one p q), ap (λ (x : Shown). x.bytes) (one p q))
