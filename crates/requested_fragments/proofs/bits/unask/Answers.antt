-- `unask` meets its contract. Assumes nothing.
use Rattle.std.proofs.Common.{◌≡◌, true, false, refl, sym, ap, ◌∙◌}
use Rattle.sets.specs.Sets.{has}
use Rattle.requested_fragments.specs.Words.{fragments_of}
use Rattle.requested_fragments.proofs.Frags.{asked_place, frag-zero}
use Rattle.requested_fragments.proofs.bits.unask.Goals as goal

pub bounds-words-i : goal.bounds-words-i
bounds-words-i c =
    let e : has (fragments_of c.args.words.now) c.args.f ≡ true = sym c.asks.ensures ∙ c.if-not-asks.false in
    rw c.in-Some.ensures.place.0 (asked_place c.args.words.now c.args.f e).1

pub bounds-words-i-in-Some : goal.bounds-words-i-in-Some
bounds-words-i-in-Some c =
    let e : has (fragments_of c.args.words.now) c.args.f ≡ true = sym c.asks.ensures ∙ c.if-not-asks.false in
    rw c.in-Some.ensures.place.0 (asked_place c.args.words.now c.args.f e).1

pub returns-in_default : goal.returns-in_default
returns-in_default c =
    let e : has (fragments_of c.args.words.now) c.args.f ≡ false = ap (has (fragments_of c.args.words.now)) (c.in_default.ensures.none.0 refl) ∙ frag-zero c.args.words.now in
    rw e refl
