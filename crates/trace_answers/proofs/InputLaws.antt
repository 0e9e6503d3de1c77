-- The steps of answering a piece of the input. Assumes nothing.
use Prim.Native.Nat.{ℕ}
use mathlib.Core.Path.{◌≡◌, refl, sym, ap, subst, ◌∙◌}
use mathlib.Core.Bool.{Bool, true, cond}
use mathlib.Core.List.{List}
use lib.ListN.{drop}
use Rattle.numbers.specs.Promise.{Left1, Gives1, Gives3}
use Rattle.trace_text.specs.declared.lines.Cut.{Cut}
use Rattle.trace_text.specs.Cuts.{cut_of}
use Rattle.trace_readers.specs.declared.state.Followed.{Followed}
use Rattle.trace_answers.specs.declared.input.Answering.{Answering}
use Rattle.trace_answers.specs.Shown.{follow_held}
use Rattle.trace_answers.specs.Input.{Gives5, Standing, held_now, with_cut, shown_by, answered_by, cut_by, answer_line}

-- a promise of one thing lent is one whole outcome
whole : (c : Cut) (u : List ℕ) (o : Left1 Cut (List ℕ)) → Gives1 c u o → record { result = c; first = u } ≡ o
whole c u o g = ap (λ (x : Cut). record { result = x; first = u }) g.result ∙ ap (λ (y : List ℕ). record { result = o.result; first = y }) g.first

module _ (r : Answering) (piece line out store large small : List ℕ) (c : Cut) (h : ℕ) (u : List ℕ) (e : h ≡ held_now r) (g : Gives1 c u (cut_of r.cut.at (drop r.cut.at piece) h line)) where
  cut_is : record { result = c; first = u } ≡ cut_of r.cut.at (drop r.cut.at piece) (held_now r) line
  cut_is = whole c u (cut_of r.cut.at (drop r.cut.at piece) h line) g ∙ ap (λ (m : ℕ). cut_of r.cut.at (drop r.cut.at piece) m line) e

  -- both ways to go on from the cut
  abbrev when_ended : Standing
  when_ended = answered_by c (follow_held c.held u r.followed.trace store large small) r u out

  abbrev when_open : Standing
  when_open = record { result = with_cut c r; first = u; second = out; third = store; fourth = large; fifth = small }

  -- it has
  pub line_ended_lem : (f : Followed) (x y z : List ℕ) (s : Answering) (v : List ℕ) → c.ended ≡ true → Gives3 f x y z (follow_held c.held u r.followed.trace store large small)
      → Gives1 s v (shown_by c f r out) → Gives5 s u v x y z (answer_line r piece line out store large small)
  line_ended_lem f x y z s v b p q =
      subst (λ (w : Left1 Cut (List ℕ)). Gives5 s u v x y z (cut_by w r out store large small)) cut_is
      (subst (λ (t : Bool). Gives5 s u v x y z (cond t when_ended when_open)) (sym b)
      (record {
        result = q.result ∙ ap (λ (w : Followed). (shown_by c w r out).result) p.result;
        first = refl;
        second = q.first ∙ ap (λ (w : Followed). (shown_by c w r out).first) p.result;
        third = p.first;
        fourth = p.second;
        fifth = p.third;
      }))
