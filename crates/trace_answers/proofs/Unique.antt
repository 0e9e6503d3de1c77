-- Two results that a promise allows are equal. Assumes nothing.
use Prim.Native.Nat.{ℕ}
use mathlib.Core.Path.{◌≡◌}
use mathlib.Core.List.{List}
use Rattle.numbers.specs.Promise.{Gives1, Gives3}
use Rattle.numbers.proofs.One.{one, one1, one3}
use Rattle.trace_text.specs.Answers.{put_of}
use Rattle.trace_readers.specs.declared.state.Trace.{Trace}
use Rattle.trace_readers.specs.declared.state.Followed.{Followed}
use Rattle.trace_answers.specs.declared.input.Answering.{Answering}
use Rattle.trace_answers.specs.Shown.{follow_held, shown_text}
use Rattle.trace_answers.specs.Input.{Standing, Gives5, answer_line, answer_piece}

pub one_followed : (held : ℕ) (line : List ℕ) (t : Trace) (store large small : List ℕ) (f g : Followed) (u v w x y z : List ℕ) → Gives3 f u v w (follow_held held line t store large small)
    → Gives3 g x y z (follow_held held line t store large small) → (f ≡ g) × (u ≡ x) × (v ≡ y) × (w ≡ z)
one_followed held line t store large small f g u v w x y z p q = one3 p q

pub one_shown : (at n : ℕ) (f : Followed) (out : List ℕ) (r s : ℕ) (u v : List ℕ) → Gives1 r u (put_of at (shown_text n f) out) → Gives1 s v (put_of at (shown_text n f) out) → (r ≡ s) × (u ≡ v)
one_shown at n f out r s u v p q = one1 p q

one5 : {r s : Answering} {a b c d e f g h i j : List ℕ} {o : Standing} → Gives5 r a b c d e o → Gives5 s f g h i j o → (r ≡ s) × (a ≡ f) × (b ≡ g) × (c ≡ h) × (d ≡ i) × (e ≡ j)
one5 p q = (one p.result q.result, one p.first q.first, one p.second q.second, one p.third q.third, one p.fourth q.fourth, one p.fifth q.fifth)

module _ (t : Answering) (piece line out store large small : List ℕ) (r s : Answering) (a b c d e f g h i j : List ℕ) where
  pub one_line : Gives5 r a b c d e (answer_line t piece line out store large small) → Gives5 s f g h i j (answer_line t piece line out store large small) → (r ≡ s) × (a ≡ f) × (b ≡ g) × (c ≡ h) × (d ≡ i) × (e ≡ j)
  one_line p q = one5 p q

  pub one_piece : Gives5 r a b c d e (answer_piece t piece line out store large small) → Gives5 s f g h i j (answer_piece t piece line out store large small) → (r ≡ s) × (a ≡ f) × (b ≡ g) × (c ≡ h) × (d ≡ i) × (e ≡ j)
  one_piece p q = one5 p q
