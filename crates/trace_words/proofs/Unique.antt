-- Two results that a promise allows are equal. Assumes nothing.
use Prim.Native.Nat.{ℕ}
use mathlib.Core.Path.{◌≡◌}
use mathlib.Core.Bool.{Bool}
use mathlib.Core.List.{List}
use Rattle.numbers.specs.Promise.{Gives1}
use Rattle.numbers.proofs.One.{one1}
use Rattle.trace_text.specs.Answers.{put_of}
use Rattle.trace_words.specs.Words.{explained}

pub one_explained : (at n : ℕ) (line : List ℕ) (long : Bool) (answer last first acked : ℕ) (out : List ℕ) (r s : ℕ) (u v : List ℕ)
    → Gives1 r u (put_of at (explained n line long answer last first acked) out) → Gives1 s v (put_of at (explained n line long answer last first acked) out) → (r ≡ s) × (u ≡ v)
one_explained at n line long answer last first acked out r s u v p q = one1 p q
