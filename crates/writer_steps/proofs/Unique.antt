-- Two results that a promise allows are equal. (The promises that are plain equations are not repeated here: `one` of `numbers` is theirs.) Assumes nothing.
use Prim.Native.Nat.{ℕ}
use mathlib.Core.Path.{◌≡◌}
use mathlib.Core.List.{List}
use Rattle.numbers.specs.Promise.{Gives1, Gives2, Gives4}
use Rattle.numbers.proofs.One.{one1, one2, one4}
use Rattle.numbers.specs.declared.sequence_number.SequenceNumber.{SequenceNumber}
use Rattle.number_sets.specs.declared.sequence_number_set.SequenceNumberSet.{SequenceNumberSet}
use Rattle.number_sets.specs.declared.fragment_number_set.FragmentNumberSet.{FragmentNumberSet}
use Rattle.rtps_reader_proxy.specs.declared.proxy.ReaderProxy.{ReaderProxy}
use Rattle.rtps_reader_proxy.specs.declared.proxy.Changed.{Changed}
use Rattle.reader_list.specs.declared.heads.ReaderHead.{ReaderHead}
use Rattle.writer_send_buffer.specs.declared.flow.WriterSendBuffer.{WriterSendBuffer}
use Rattle.writer_steps.specs.declared.send.Sent.{Sent}
use Rattle.writer_steps.specs.declared.many.SentMany.{SentMany}
use Rattle.reader_list.specs.declared.calls.Match.{Match}
use Rattle.numbers.specs.declared.answer.Told.{Told}
use Rattle.writer_steps.specs.declared.acks.AckTold.{AckTold}
use Rattle.writer_steps.specs.Readers.{match_step, depart_step}
use Rattle.writer_steps.specs.Send.{send_of}
use Rattle.writer_steps.specs.Acks.{ack_step}
use Rattle.writer_steps.specs.Frags.{nack_frag_step}
use Rattle.writer_steps.specs.Many.{send_many_of}

pub one_send : (f : WriterSendBuffer) (h : ReaderProxy) (l : List ℕ) (r s : Sent) (u v : List ℕ) → Gives1 r u (send_of f h l) → Gives1 s v (send_of f h l) → (r ≡ s) × (u ≡ v)
one_send f h l r s u v p q = one1 p q

module _ (f : WriterSendBuffer) (space : ℕ) (lens : List ℕ) (h : ReaderProxy) (l ns ss ls u v w x u' v' w' x' : List ℕ) where
  pub one_send_many : (r s : SentMany) → Gives4 r u v w x (send_many_of f space lens h l ns ss ls) → Gives4 s u' v' w' x' (send_many_of f space lens h l ns ss ls) → (r ≡ s) × (u ≡ u') × (v ≡ v') × (w ≡ w') × (x ≡ x')
  one_send_many r s p q = one4 p q

module _ (hs : List ReaderHead) (i : ℕ) (n : SequenceNumber) (set : FragmentNumberSet) (h : ReaderProxy) (samples words u v x y : List ℕ) where
  pub one_nack_frag : (r s : Changed) → Gives2 r u x (nack_frag_step hs i n set h samples words) → Gives2 s v y (nack_frag_step hs i n set h samples words) → (r ≡ s) × (u ≡ v) × (x ≡ y)
  one_nack_frag r s p q = one2 p q

module _ (hs ks ls : List ReaderHead) (f g e : WriterSendBuffer) where
  pub one_match : (m : Match) (r s : Told) → Gives2 r ks g (match_step hs f m) → Gives2 s ls e (match_step hs f m) → (r ≡ s) × (ks ≡ ls) × (g ≡ e)
  one_match m r s p q = one2 p q

  pub one_depart : (i : ℕ) (r s : Told) → Gives2 r ks g (depart_step hs f i) → Gives2 s ls e (depart_step hs f i) → (r ≡ s) × (ks ≡ ls) × (g ≡ e)
  one_depart i r s p q = one2 p q

  module _ (i : ℕ) (set : SequenceNumberSet) (h : ReaderProxy) (unsent gaps u v x y : List ℕ) where
    pub one_ack : (r s : AckTold) → Gives4 r ks g u x (ack_step hs f i set h unsent gaps) → Gives4 s ls e v y (ack_step hs f i set h unsent gaps) → (r ≡ s) × (ks ≡ ls) × (g ≡ e) × (u ≡ v) × (x ≡ y)
    one_ack r s p q = one4 p q
