-- Coherence is kept: a record from `new` is coherent, and each call leaves a coherent record coherent, refused or not. Assumes nothing.
use mathlib.Core.Path.{◌≡◌, refl}
use mathlib.Core.Bool.{Bool, true, false, not, false≢true}
use lib.Dec.{ltb}
use Rattle.numbers.specs.Number.{rank_of}
use Rattle.numbers.specs.Refusals.{is_done, unless, done}
use Rattle.numbers.specs.declared.sequence_number.SequenceNumber.{SequenceNumber}
use Rattle.reader_list.specs.Slots.{frontier_of}
use Rattle.reader_list.specs.declared.heads.AckedFrontier.{AckedFrontier}
use Rattle.writer_send_buffer.specs.declared.limits.Kind.{Kind}
use Rattle.writer_send_buffer.specs.declared.limits.Limits.{Limits}
use Rattle.writer_send_buffer.specs.declared.flow.WriterSendBuffer.{WriterSendBuffer}
use Rattle.writer_send_buffer.specs.declared.flow.Moved.{Moved}
use Rattle.writer_send_buffer.specs.Flow.{allowed, limits_counted, blank, ahead, stored, wakes, raised, evicted}
use Rattle.writer_send_buffer.specs.Buffer.{flow_view, flow_form, flow_coherent, limited, zeroed, new_flow_of, told_no, acked_of, sent_of, evict_of}
use Rattle.writer_send_buffer.proofs.Steps.{form_coherent, by_range, fits-blank, fits-stored, fits-raised, fits-evicted}

pub new_coherent : (k : Kind) (l : Limits) → is_done (new_flow_of k l).answer ≡ true → flow_coherent (new_flow_of k l).flow ≡ true
new_coherent k l e = go (allowed (limits_counted l)) refl e
  where
    made : Bool → Moved
    made a = unless (limited (not a)) (λ n. record { answer = n; flow = zeroed }) (record { answer = done; flow = flow_form (blank k (limits_counted l)) })

    go : (a : Bool) → allowed (limits_counted l) ≡ a → is_done (made a).answer ≡ true → flow_coherent (made a).flow ≡ true
    go true q d = form_coherent (blank k (limits_counted l)) (fits-blank k (limits_counted l) q)
    go false q d = absurd (false≢true d)

abbrev Coh : WriterSendBuffer → Type 0
Coh f = flow_coherent f ≡ true

module _ (f : WriterSendBuffer) (c : flow_coherent f ≡ true) where
  pub acked-coherent : (a : AckedFrontier) → flow_coherent (acked_of f a).first ≡ true
  acked-coherent a =
      by_range Coh told_no (record { answer = done; yes = wakes (frontier_of a) (flow_view f) }) f (ahead (frontier_of a) (flow_view f)) (stored (frontier_of a) (flow_view f)) c (λ h e. form_coherent (stored (frontier_of a) (flow_view f)) (fits-stored (flow_view f) h (frontier_of a) e))

  pub sent-coherent : (n : SequenceNumber) → flow_coherent (sent_of f n).first ≡ true
  sent-coherent n =
      by_range Coh told_no (record { answer = done; yes = ltb (rank_of f.sent) (rank_of n) }) f (ltb (rank_of f.last) (rank_of n)) (raised (rank_of n) (flow_view f)) c (λ h e. form_coherent (raised (rank_of n) (flow_view f)) (fits-raised (flow_view f) h (rank_of n) e))

  pub evict_coherent : (n : SequenceNumber) → flow_coherent (evict_of f n).first ≡ true
  evict_coherent n = by_range Coh (λ a. a) done f (ahead (rank_of n) (flow_view f)) (evicted (rank_of n) (flow_view f)) c (λ h e. form_coherent (evicted (rank_of n) (flow_view f)) (fits-evicted (flow_view f) h (rank_of n) e))
