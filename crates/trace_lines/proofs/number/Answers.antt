-- As many digits as there are, 19 at most: they fit 64 bits.
use Rattle.std.proofs.Common.{sym, ◌∙◌, refl, arith, lt-ltb, le-ltb}
use Rattle.std.proofs.lemmas.List.Sums.{prefix_len-le-length}
use Rattle.trace_lines.specs.Words.{is_digit}
use Rattle.trace_lines.proofs.Laws.{run_none, run_long, run_starts, run_read, digit_from, digit_fits, digit-small, digit_read}
use Rattle.trace_lines.proofs.number.Goals as goal
use Rattle.trace_lines.proofs.number.Goals.{then-len-eq0-via-then-len-eq0, then-len-eq0-via-else-len-eq0+then-len-gt19}

pub returns-then-len-eq0-clause-read : goal.returns-then-len-eq0-clause-read
returns-then-len-eq0-clause-read c =
    let s = c.args.s.now in
    elim c.then-len-eq0.branch [
      | then-len-eq0-via-then-len-eq0 w ↦ run_none s (sym c.digits-len.ensures ∙ w.if-len-eq0.true)
      | then-len-eq0-via-else-len-eq0+then-len-gt19 w ↦
          run_long 19 0 s (omega (arith, c.digits-len.ensures, w.if-len-gt19.true)) ∙ sym (run_starts s (λ e. w.if-len-eq0.false (c.digits-len.ensures ∙ e)))
    ]

pub split_at-requires : goal.split_at-requires
split_at-requires c = omega (arith, c.digits-len.ensures, prefix_len-le-length is_digit c.args.s.now)

pub overflow_sub-b : goal.overflow_sub-b
overflow_sub-b c =
    digit_from c.args.s.now c.split_at.result.0.now c.digits-len.result c.loop-b.b-index c.loop-b.value _ c.digits-len.ensures c.split_at.ensures.front c.if-len-gt19.false c.loop-b-test.true refl

pub overflow_mul-value : goal.overflow_mul-value
overflow_mul-value c =
    omega (arith, digit-small c.args.s.now c.split_at.result.0.now c.digits-len.result c.loop-b.b-index c.loop-b.value _ c.digits-len.ensures c.split_at.ensures.front c.if-len-gt19.false c.loop-b-test.true refl c.loop-b.invariant.0)

pub overflow_add-value : goal.overflow_add-value
overflow_add-value c =
    omega (arith, digit-small c.args.s.now c.split_at.result.0.now c.digits-len.result c.loop-b.b-index c.loop-b.value c.from.result c.digits-len.ensures c.split_at.ensures.front c.if-len-gt19.false c.loop-b-test.true c.from.ensures c.loop-b.invariant.0)

pub loop-b-preserved : goal.loop-b-preserved
loop-b-preserved c =
    let s = c.args.s.now in
    let ds = c.split_at.result.0.now in
    let l = c.loop-b in (
      digit_fits s ds c.digits-len.result l.b-index l.value c.from.result c.digits-len.ensures c.split_at.ensures.front c.if-len-gt19.false c.loop-b-test.true c.from.ensures l.invariant.0,
      digit_read s ds c.digits-len.result l.b-index l.value c.from.result c.digits-len.ensures c.split_at.ensures.front c.if-len-gt19.false c.loop-b-test.true c.from.ensures l.invariant.1,
    )

pub returns-then-value-clause-read : goal.returns-then-value-clause-read
returns-then-value-clause-read c =
    let l = c.loop-b in
    let e = run_read c.args.s.now c.digits-len.result l.b-index l.value c.digits-len.ensures (omega (arith, c.split_at.ensures.front_len)) l.invariant.1 in
    rw (le-ltb l.value 9223372036854775808 c.if-value.true) at (sym e)

pub returns-clause-read : goal.returns-clause-read
returns-clause-read c =
    let l = c.loop-b in
    let e = run_read c.args.s.now c.digits-len.result l.b-index l.value c.digits-len.ensures (omega (arith, c.split_at.ensures.front_len)) l.invariant.1 in
    rw c.split_at.ensures.back (rw (lt-ltb l.value 9223372036854775808 c.if-value.false) at (sym e))
