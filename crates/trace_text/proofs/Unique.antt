-- Two results that a promise allows are equal. Assumes nothing.
use Prim.Native.Nat.{ℕ}
use mathlib.Core.Path.{◌≡◌}
use mathlib.Core.List.{List}
use Rattle.numbers.specs.Promise.{Gives1}
use Rattle.numbers.proofs.One.{one1}
use Rattle.trace_text.specs.declared.lines.Cut.{Cut}
use Rattle.trace_text.specs.Answers.{put_of, answer_text}
use Rattle.trace_text.specs.Cuts.{cut_of}

pub one_answer : (at line answer last first acked : ℕ) (out : List ℕ) (r s : ℕ) (u v : List ℕ) → Gives1 r u (put_of at (answer_text line answer last first acked) out) → Gives1 s v (put_of at (answer_text line answer last first acked) out) → (r ≡ s) × (u ≡ v)
one_answer at line answer last first acked out r s u v p q = one1 p q

pub one_cut : (at : ℕ) (piece : List ℕ) (held : ℕ) (line : List ℕ) (r s : Cut) (u v : List ℕ) → Gives1 r u (cut_of at piece held line) → Gives1 s v (cut_of at piece held line) → (r ≡ s) × (u ≡ v)
one_cut at piece held line r s u v p q = one1 p q
