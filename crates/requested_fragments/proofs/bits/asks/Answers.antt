-- `asks` meets its contract. Assumes nothing.
use Rattle.std.proofs.Common.{ℕ, zero, suc, ◌≤◌, ◌≡◌, true, false, refl, sym, ap, ◌∙◌, arith}
use mathlib.Core.Bool.{true≢false}
use Rattle.sets.specs.Sets.{has}
use Rattle.requested_fragments.specs.Words.{fragments_of}
use Rattle.requested_fragments.proofs.Frags.{frag-zero, frag_of, past}
use Rattle.requested_fragments.proofs.bits.asks.Goals as goal

-- a fragment that has a bit is 1 or more
from_1 : (f : ℕ) → (f ≡ 0 → true ≡ false) → 1 ≤ f
from_1 zero h = absurd (true≢false (h refl))
from_1 (suc f) h = omega arith

pub returns-in_default : goal.returns-in_default
returns-in_default c = sym (ap (has (fragments_of c.args.words.now)) (c.in_default.ensures.none.0 refl) ∙ frag-zero c.args.words.now)

pub returns-then-words-i : goal.returns-then-words-i
returns-then-words-i c =
    let place = c.in-Some.ensures.place in
    sym (frag_of c.args.words.now c.args.f (from_1 c.args.f c.in-Some.ensures.none.1) ∙ past c.args.words.now _ (omega (arith, place.0)))

pub returns : goal.returns
returns c =
    let place = c.in-Some.ensures.place in
    rw (place.0, place.1) (sym (frag_of c.args.words.now c.args.f (from_1 c.args.f c.in-Some.ensures.none.1)))
