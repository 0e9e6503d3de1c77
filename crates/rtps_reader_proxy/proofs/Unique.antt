-- A promise allows one result: any two results of a call that its promise allows are equal, with the rooms. The other promises are equations. Assumes nothing.
use Prim.Native.Nat.{ℕ}
use mathlib.Core.Path.{◌≡◌}
use mathlib.Core.List.{List}
use Rattle.numbers.specs.Promise.{Gives1, Gives2}
use Rattle.numbers.specs.declared.sequence_number.SequenceNumber.{SequenceNumber}
use Rattle.numbers.specs.declared.fragment_number.FragmentNumber.{FragmentNumber}
use Rattle.numbers.proofs.One.{one1, one2}
use Rattle.number_sets.specs.declared.sequence_number_set.SequenceNumberSet.{SequenceNumberSet}
use Rattle.number_sets.specs.declared.fragment_number_set.FragmentNumberSet.{FragmentNumberSet}
use Rattle.rtps_reader_proxy.specs.declared.proxy.ReaderProxy.{ReaderProxy}
use Rattle.rtps_reader_proxy.specs.declared.proxy.Changed.{Changed}
use Rattle.rtps_reader_proxy.specs.declared.unsent.Taken.{Taken}
use Rattle.rtps_reader_proxy.specs.declared.acks.AckNacked.{AckNacked}
use Rattle.rtps_reader_proxy.specs.Unsent.{notified_of, marked_sent_of, removed_before_of, taken_of}
use Rattle.rtps_reader_proxy.specs.Gaps.{gap_inserted_of, gap_up_to_of}
use Rattle.rtps_reader_proxy.specs.Acks.{ack_nacked_of}
use Rattle.rtps_reader_proxy.specs.Fragments.{frags_requested_of, frag_sent_of}

module _ (h : ReaderProxy) (x y : List ℕ) where
  module _ {r s : Changed} {u v : List ℕ} where
    pub notify_one : (n : SequenceNumber) → Gives1 r u (notified_of n h x) → Gives1 s v (notified_of n h x) → (r ≡ s) × (u ≡ v)
    notify_one n p q = one1 p q

    pub mark_one : (n : SequenceNumber) → Gives1 r u (marked_sent_of n h x) → Gives1 s v (marked_sent_of n h x) → (r ≡ s) × (u ≡ v)
    mark_one n p q = one1 p q

    pub remove_before_one : (n : SequenceNumber) → Gives1 r u (removed_before_of n h x) → Gives1 s v (removed_before_of n h x) → (r ≡ s) × (u ≡ v)
    remove_before_one n p q = one1 p q

    pub insert_gap_one : (n last : SequenceNumber) → Gives1 r u (gap_inserted_of n last h x) → Gives1 s v (gap_inserted_of n last h x) → (r ≡ s) × (u ≡ v)
    insert_gap_one n last p q = one1 p q

    pub gap_up_to_one : (e last : SequenceNumber) → Gives1 r u (gap_up_to_of e last h x) → Gives1 s v (gap_up_to_of e last h x) → (r ≡ s) × (u ≡ v)
    gap_up_to_one e last p q = one1 p q

    module _ {w z : List ℕ} where
      pub frags_requested_one : (n : SequenceNumber) (set : FragmentNumberSet) → Gives2 r u w (frags_requested_of n set h x y) → Gives2 s v z (frags_requested_of n set h x y) → (r ≡ s) × (u ≡ v) × (w ≡ z)
      frags_requested_one n set p q = one2 p q

      pub frag_sent_one : (n : SequenceNumber) (f : FragmentNumber) → Gives2 r u w (frag_sent_of n f h x y) → Gives2 s v z (frag_sent_of n f h x y) → (r ≡ s) × (u ≡ v) × (w ≡ z)
      frag_sent_one n f p q = one2 p q

  pub take_one : {r s : Taken} {u v w z : List ℕ} → Gives2 r u w (taken_of h x y) → Gives2 s v z (taken_of h x y) → (r ≡ s) × (u ≡ v) × (w ≡ z)
  take_one p q = one2 p q

  pub ack_nack_one : (set : SequenceNumberSet) (last : SequenceNumber) {r s : AckNacked} {u v w z : List ℕ} → Gives2 r u w (ack_nacked_of set last h x y) → Gives2 s v z (ack_nacked_of set last h x y) → (r ≡ s) × (u ≡ v) × (w ≡ z)
  ack_nack_one set last p q = one2 p q
