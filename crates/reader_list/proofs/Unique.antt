-- Two results that a promise allows are equal. (The promises that are plain equations are not repeated here: `one` of `numbers` is theirs.) Assumes nothing.
use Prim.Native.Nat.{ℕ}
use mathlib.Core.Path.{◌≡◌}
use mathlib.Core.List.{List}
use Rattle.numbers.specs.Promise.{Gives1}
use Rattle.numbers.specs.declared.answer.Answer.{Answer}
use Rattle.numbers.proofs.One.{one1}
use Rattle.reader_list.specs.declared.heads.ReaderHead.{ReaderHead}
use Rattle.reader_list.specs.declared.calls.Match.{Match}
use Rattle.reader_list.specs.declared.calls.Acked.{Acked}
use Rattle.reader_list.specs.Slots.{match_of, depart_of, ack_of}

module _ (hs : List ReaderHead) (r s : Answer) (u v : List ReaderHead) where
  pub one_matched : (m : Match) → Gives1 r u (match_of hs m) → Gives1 s v (match_of hs m) → (r ≡ s) × (u ≡ v)
  one_matched m p q = one1 p q

  pub one_departed : (i : ℕ) → Gives1 r u (depart_of hs i) → Gives1 s v (depart_of hs i) → (r ≡ s) × (u ≡ v)
  one_departed i p q = one1 p q

  pub one_acknowledged : (a : Acked) → Gives1 r u (ack_of hs a) → Gives1 s v (ack_of hs a) → (r ≡ s) × (u ≡ v)
  one_acknowledged a p q = one1 p q
