-- Two results that a promise allows are equal. (The promises that are plain equations are not repeated here: `one` of `numbers` is theirs.) Assumes nothing.
use Prim.Native.Nat.{ℕ}
use mathlib.Core.Path.{◌≡◌}
use mathlib.Core.Bool.{Bool}
use mathlib.Core.List.{List}
use Rattle.numbers.specs.Promise.{Gives2}
use Rattle.numbers.proofs.One.{one, one2}
use Rattle.rtps_reader_proxy.specs.declared.proxy.ReaderProxy.{ReaderProxy}
use Rattle.writer_send_buffer.specs.declared.flow.WriterSendBuffer.{WriterSendBuffer}
use Rattle.writer_send_buffer.specs.declared.flow.Numbered.{Numbered}
use Rattle.writer_send_buffer.specs.declared.samples.Admitted.{Admitted}
use Rattle.writer_send_buffer.specs.Samples.{handed}
use Rattle.writer_write.specs.Coherent.{places_coherent}
use Rattle.writer_write.specs.InPlace.{LeftByWrite, Wrote}
use Rattle.writer_write.specs.Turns.{writer_of, put_in_all}

pub one_write : {r s : Numbered} {f g : WriterSendBuffer} {store store' lens lens' u u' : List ℕ} {hs hs' : List ReaderProxy} {o : LeftByWrite} → Wrote r f store lens hs u o → Wrote s g store' lens' hs' u' o
    → (r ≡ s) × (f ≡ g) × (store ≡ store') × (lens ≡ lens') × (hs ≡ hs') × (u ≡ u')
one_write p q =
    (one p.is-result q.is-result, one p.is-flow q.is-flow, one p.is_store q.is_store, one p.is-lens q.is-lens, one p.is-proxies q.is-proxies, one p.is-unsent q.is-unsent)

pub one_look : (hs : List ReaderProxy) (u : List ℕ) (a b : Bool) → a ≡ places_coherent hs u → b ≡ places_coherent hs u → a ≡ b
one_look hs u a b p q = one p q

module _ (hs ks ls : List ReaderProxy) (u v w : List ℕ) where
  pub one_put : (m a b : Numbered) → Gives2 a ks v (put_in_all m hs u) → Gives2 b ls w (put_in_all m hs u) → (a ≡ b) × (ks ≡ ls) × (v ≡ w)
  one_put m a b p q = one2 p q

pub one_admission : (t : Bool) (f : WriterSendBuffer) (store lens payload : List ℕ) (opted : Bool) (a b : Admitted) (s l s' l' : List ℕ)
    → Gives2 a s l (handed (writer_of t f store lens payload opted)) → Gives2 b s' l' (handed (writer_of t f store lens payload opted)) → (a ≡ b) × (s ≡ s') × (l ≡ l')
one_admission t f store lens payload opted a b s l s' l' p q = one2 p q
