-- `list` meets its contract. Assumes nothing.
use mathlib.Core.Path.{sym, ◌∙◌}
use native.Mathlib.Omega.{arith}
use Rattle.number_sets.proofs.List.{listing_few, listing_in, listing_set, listing_past, listing_end}
use Rattle.number_sets.proofs.number_set.NumberSet.list.Goals as goal
use Rattle.number_sets.proofs.number_set.NumberSet.list.Goals.{then-listed-out, else-listed-out}

pub overflow_add-out : goal.overflow_add-out
overflow_add-out c = let l = c.loop-i in omega (arith, c.requires, listing_in _ _ _ _ _ _ _ l.invariant.1 c.in-Some.i (sym c.next_bit.ensures ∙ c.in-Some.is) l.invariant.0)

pub overflow_add-listed : goal.overflow_add-listed
overflow_add-listed c =
    let l = c.loop-i in
    omega (arith, listing_few _ _ _ _ _ _ _ l.invariant.1, listing_in _ _ _ _ _ _ _ l.invariant.1 c.in-Some.i (sym c.next_bit.ensures ∙ c.in-Some.is) l.invariant.0)

pub overflow_add-from : goal.overflow_add-from
overflow_add-from c = let l = c.loop-i in omega (arith, listing_in _ _ _ _ _ _ _ l.invariant.1 c.in-Some.i (sym c.next_bit.ensures ∙ c.in-Some.is) l.invariant.0)

pub loop-i-smaller : goal.loop-i-smaller
loop-i-smaller c = let l = c.loop-i in omega (arith, listing_in _ _ _ _ _ _ _ l.invariant.1 c.in-Some.i (sym c.next_bit.ensures ∙ c.in-Some.is) l.invariant.0)

pub loop-i-preserved : goal.loop-i-preserved
loop-i-preserved c =
    let l = c.loop-i in
    let e = sym c.next_bit.ensures ∙ c.in-Some.is in (
      l.invariant.0,
      elim c.if-listed-out.branch [
        | then-listed-out w ↦ rw w.out-is (listing_set _ _ _ _ _ _ _ l.invariant.1 c.in-Some.i e w.if-listed-out.true)
        | else-listed-out w ↦ rw w.out-is (listing_past _ _ _ _ _ _ _ l.invariant.1 c.in-Some.i e w.if-listed-out.false)
      ],
    )

pub returns : goal.returns
returns c =
    let l = c.loop-i in
    let e = listing_end _ _ _ _ _ _ _ l.invariant.1 (sym c.next_bit.ensures ∙ c.in_default.is) in
    record { result = e.0; first = e.1 }
