-- The lines of a piece, one after the other, as the loop goes. Assumes nothing.
use Prim.Native.Nat.{ℕ, zero, suc, ◌+◌, ◌<◌, ◌≤◌}
use mathlib.Core.Path.{◌≡◌, refl, sym, ap, subst, ◌∙◌}
use mathlib.Core.Bool.{Bool, true, false, cond, ◌&&◌}
use mathlib.Core.List.{List}
use native.Mathlib.Omega.{arith}
use lib.ListN.{length, drop, length-drop}
use borrow.Author.Tests.{ltb-true}
use Rattle.numbers.specs.Promise.{Left1}
use Rattle.trace_text.specs.declared.lines.Cut.{Cut}
use Rattle.trace_text.specs.Cuts.{cut_of}
use Rattle.trace_text.proofs.CutLaws.{cut_goes}
use Rattle.trace_answers.specs.declared.input.Answering.{Answering}
use Rattle.trace_answers.specs.Shown.{follow_held}
use Rattle.trace_answers.specs.Input.{Gives5, Standing, held_now, with_cut, answered_by, cut_by, answer_line, goes_on, answer_lines}

-- one line more
abbrev pub one_more : List ℕ → Standing → Standing
one_more piece o = answer_line o.result piece o.first o.second o.third o.fourth o.fifth

-- so many lines at most are left, and with them comes what is to come
pub record Going (piece : List ℕ) (o e : Standing) : Type 0 where
  pub left : ℕ
  pub enough : length piece ≤ o.result.cut.at + left
  pub same : answer_lines left piece o ≡ e

-- a promise is one whole outcome
pub all_of : {r : Answering} {u v w x y : List ℕ} {o : Standing} → Gives5 r u v w x y o → record { result = r; first = u; second = v; third = w; fourth = x; fifth = y } ≡ o
all_of {r} {u} {v} {w} {x} {y} {o} g =
    ap (λ (a : Answering). record { result = a; first = u; second = v; third = w; fourth = x; fifth = y }) g.result
    ∙ ap (λ (a : List ℕ). record { result = o.result; first = a; second = v; third = w; fourth = x; fifth = y }) g.first
    ∙ ap (λ (a : List ℕ). record { result = o.result; first = o.first; second = a; third = w; fourth = x; fifth = y }) g.second
    ∙ ap (λ (a : List ℕ). record { result = o.result; first = o.first; second = o.second; third = a; fourth = x; fifth = y }) g.third
    ∙ ap (λ (a : List ℕ). record { result = o.result; first = o.first; second = o.second; third = o.third; fourth = a; fifth = y }) g.fourth
    ∙ ap (λ (a : List ℕ). record { result = o.result; first = o.first; second = o.second; third = o.third; fourth = o.fourth; fifth = a }) g.fifth

pub gives_all : {r : Answering} {u v w x y : List ℕ} {o : Standing} → record { result = r; first = u; second = v; third = w; fourth = x; fifth = y } ≡ o → Gives5 r u v w x y o
gives_all {r} {u} {v} {w} {x} {y} {o} e = subst (λ (p : Standing). Gives5 r u v w x y p) e (record { result = refl; first = refl; second = refl; third = refl; fourth = refl; fifth = refl })

-- a line goes on in the piece
left_true : (a b : Bool) → (a && b) ≡ true → a ≡ true
left_true true b e = refl
left_true false b e = e

pub more_there : (r : Answering) (piece out : List ℕ) → goes_on r piece out ≡ true → r.cut.at < length piece
more_there r piece out e = ltb-true r.cut.at (length piece) (left_true _ _ e)

cut_at : (c : Left1 Cut (List ℕ)) (r : Answering) (out store large small : List ℕ) → (cut_by c r out store large small).result.cut ≡ c.result
cut_at c r out store large small = go c.result.ended
  where
    go : (t : Bool)
        → (cond t (answered_by c.result (follow_held c.result.held c.first r.followed.trace store large small) r c.first out)
        (record { result = with_cut c.result r; first = c.first; second = out; third = store; fourth = large; fifth = small })).result.cut ≡ c.result
    go true = refl
    go false = refl

pub line_goes : (r s : Answering) (piece line out store large small u v w x y : List ℕ) → r.cut.at < length piece → Gives5 s u v w x y (answer_line r piece line out store large small) → r.cut.at < s.cut.at
line_goes r s piece line out store large small u v w x y h g =
    let p : 0 < length (drop r.cut.at piece) = omega (arith, length-drop r.cut.at piece, h) in
    let q : s.cut ≡ (cut_of r.cut.at (drop r.cut.at piece) (held_now r) line).result
    = ap (λ (a : Answering). a.cut) g.result ∙ cut_at (cut_of r.cut.at (drop r.cut.at piece) (held_now r) line) r out store large small in
    subst (λ (c : Cut). r.cut.at < c.at) (sym q) (cut_goes r.cut.at (drop r.cut.at piece) (held_now r) line p)

pub going_next : (piece : List ℕ) (o e : Standing) (s : Answering) (u v w x y : List ℕ) → goes_on o.result piece o.second ≡ true → Going piece o e → Gives5 s u v w x y (one_more piece o)
    → Going piece (record { result = s; first = u; second = v; third = w; fourth = x; fifth = y }) e
going_next piece o e s u v w x y t g p = go g.left g.enough g.same
  where
    here : o.result.cut.at < length piece
    here = more_there o.result piece o.second t

    on : o.result.cut.at < s.cut.at
    on = line_goes o.result s piece o.first o.second o.third o.fourth o.fifth u v w x y here p

    go : (k : ℕ) → length piece ≤ o.result.cut.at + k → answer_lines k piece o ≡ e → Going piece (record { result = s; first = u; second = v; third = w; fourth = x; fifth = y }) e
    go zero h q = absurd (omega (arith, here, h))
    go (suc k) h q =
        record {
          left = k;
          enough = omega (arith, on, h);
          same = ap (answer_lines k piece) (all_of p) ∙ sym (ap (λ (b : Bool). cond b (answer_lines k piece (one_more piece o)) o) t) ∙ q;
        }

pub going_done : (piece : List ℕ) (o e : Standing) → goes_on o.result piece o.second ≡ false → Going piece o e → o ≡ e
going_done piece o e t g = go g.left g.same
  where
    go : (k : ℕ) → answer_lines k piece o ≡ e → o ≡ e
    go zero q = q
    go (suc k) q = sym (ap (λ (b : Bool). cond b (answer_lines k piece (one_more piece o)) o) t) ∙ q
