-- THE ANSWERS TO AN INPUT ARE A FUNCTION OF ITS LINES ALONE, however it comes in pieces. Assumes nothing.
use Prim.Native.Nat.{ℕ, zero, suc, ◌+◌, ◌-◌, ◌<◌, ◌≤◌}
use mathlib.Core.Path.{◌≡◌, refl, sym, ap, subst, ◌∙◌}
use mathlib.Core.Bool.{Bool, true, false, not, cond, ◌&&◌, true≢false}
use mathlib.Core.List.{List, [], ◌∷◌, ◌++◌}
use native.Mathlib.Omega.{arith}
use lib.Dec.{ltb, eqb}
use lib.ListN.{length, take, drop}
use borrow.Author.Tests.{ltb-true, ltb-false, lt-ltb, le-ltb, eq-eqb, ne_eqb, eqb-true, eqb-false}
use Rattle.sets.proofs.Loops.{done}
use Rattle.numbers.specs.Promise.{Left1}
use Rattle.trace_text.specs.declared.lines.Cut.{Cut}
use Rattle.trace_text.specs.Cuts.{cut_of, line_in, ends_in, Holds}
use Rattle.trace_text.proofs.LineLaws.{cut_ended, holds-none}
use Rattle.trace_answers.specs.Shown.{follow_held}
use Rattle.trace_answers.specs.Input.{Standing, next_piece, nothing_waits, held_now, is_open, with_cut, answered_by, goes_on, answer_lines}
use Rattle.trace_answers.specs.Text.{lines_from, answers_to, kept_in, has_put, to_come, turned, standing_with, comes_next, later, output, enough, text_of, standing_none}
use Rattle.trace_answers.proofs.PieceLaws.{one_more, more_there, line_goes}
use Rattle.trace_answers.proofs.LineMeaning.{Same, past_in, cut_past, ended_same, open_same}

-- the same, with some bytes of a line held then
pub record Goes (o p : Standing) (l s t : List ℕ) : Type 0 where
  pub held : List ℕ
  pub same : Same o p l held s t

then : (o p q : Standing) (l s t v : List ℕ) (a : Goes o p l s t) → Goes p q a.held t v → Goes o q l s v
then o p q l s t v a b =
    record {
      held = b.held;
      same = record { holds = b.same.holds; all = a.same.all ∙ b.same.all; line = b.same.line ∙ a.same.line; out = b.same.out ∙ a.same.out };
    }

-- one line
pub line_same : (o : Standing) (piece l u : List ℕ) → Holds o.first (held_now o.result) l → o.result.filled + 256 ≤ length o.second
    → Goes o (one_more piece o) l (drop o.result.cut.at piece ++ u) (drop (one_more piece o).result.cut.at piece ++ u)
line_same o piece l u h room = go c.result.ended refl
  where
    s : List ℕ
    s = drop o.result.cut.at piece

    c : Left1 Cut (List ℕ)
    c = cut_of o.result.cut.at (drop o.result.cut.at piece) (held_now o.result) o.first

    when_ended : Standing
    when_ended = answered_by c.result (follow_held c.result.held c.first o.result.followed.trace o.third o.fourth o.fifth) o.result c.first o.second

    when_open : Standing
    when_open = record { result = with_cut c.result o.result; first = c.first; second = o.second; third = o.third; fourth = o.fourth; fifth = o.fifth }

    past : drop c.result.at piece ≡ past_in s
    past = cut_past s piece o.first o.result.cut.at (held_now o.result) refl

    ends : ends_in s ≡ c.result.ended
    ends = sym (cut_ended s o.first o.result.cut.at (held_now o.result))

    go : (b : Bool) → c.result.ended ≡ b → Goes o (cond b when_ended when_open) l (s ++ u) (drop (cond b when_ended when_open).result.cut.at piece ++ u)
    go true e = record { held = []; same = subst (λ (x : List ℕ). Same o when_ended l [] (s ++ u) (x ++ u)) (sym past) (ended_same o s l u h c refl (ends ∙ e) e room) }
    go false e = record { held = l ++ line_in s; same = subst (λ (x : List ℕ). Same o when_open l (l ++ line_in s) (s ++ u) (x ++ u)) (sym past) (open_same o s l u h c refl (ends ∙ e) e) }

-- the lines of a piece
pub right_true : (a b : Bool) → (a && b) ≡ true → b ≡ true
right_true true b e = e
right_true false true e = refl
right_true false false e = e

pub lines_same : (k : ℕ) (piece l u : List ℕ) (o : Standing) → Holds o.first (held_now o.result) l
    → Goes o (answer_lines k piece o) l (drop o.result.cut.at piece ++ u) (drop (answer_lines k piece o).result.cut.at piece ++ u)
lines_same zero piece l u o h = record { held = l; same = record { holds = h; all = refl; line = refl; out = refl } }
lines_same (suc k) piece l u o h = go (goes_on o.result piece o.second) refl (λ m g. lines_same k piece m u (one_more piece o) g)
  where
    go : (b : Bool) → goes_on o.result piece o.second ≡ b
        → ((m : List ℕ) → Holds (one_more piece o).first (held_now (one_more piece o).result) m → Goes (one_more piece o) (answer_lines k piece (one_more piece o)) m (drop (one_more piece o).result.cut.at piece ++ u) (drop (answer_lines k piece (one_more piece o)).result.cut.at piece ++ u))
        → Goes o (cond b (answer_lines k piece (one_more piece o)) o) l (drop o.result.cut.at piece ++ u) (drop (cond b (answer_lines k piece (one_more piece o)) o).result.cut.at piece ++ u)
    go true e rest =
        let w : 255 < length o.second - o.result.filled = ltb-true 255 (length o.second - o.result.filled) (right_true (ltb o.result.cut.at (length piece)) (ltb 255 (length o.second - o.result.filled)) e) in
        let a : Goes o (one_more piece o) l (drop o.result.cut.at piece ++ u) (drop (one_more piece o).result.cut.at piece ++ u) = line_same o piece l u h (omega (arith, w)) in
        then o (one_more piece o) (answer_lines k piece (one_more piece o)) l (drop o.result.cut.at piece ++ u) (drop (one_more piece o).result.cut.at piece ++ u)
        (drop (answer_lines k piece (one_more piece o)).result.cut.at piece ++ u) a (rest a.held a.same.holds)
    go false e rest = record { held = l; same = record { holds = h; all = refl; line = refl; out = refl } }

-- a turn takes the piece further
on : (piece : List ℕ) (o : Standing) → goes_on o.result piece o.second ≡ true → o.result.cut.at < (one_more piece o).result.cut.at
on piece o e =
    line_goes o.result (one_more piece o).result piece o.first o.second o.third o.fourth o.fifth _ _ _ _ _ (more_there o.result piece o.second e)
    (record { result = refl; first = refl; second = refl; third = refl; fourth = refl; fifth = refl })

never_back : (k : ℕ) (piece : List ℕ) (o : Standing) → o.result.cut.at ≤ (answer_lines k piece o).result.cut.at
never_back zero piece o = omega arith
never_back (suc k) piece o = go (goes_on o.result piece o.second) refl (never_back k piece (one_more piece o))
  where
    go : (b : Bool) → goes_on o.result piece o.second ≡ b → (one_more piece o).result.cut.at ≤ (answer_lines k piece (one_more piece o)).result.cut.at
        → o.result.cut.at ≤ (cond b (answer_lines k piece (one_more piece o)) o).result.cut.at
    go true e h = let w = on piece o e in omega arith
    go false e h = omega arith

further : (k : ℕ) (piece : List ℕ) (o : Standing) → goes_on o.result piece o.second ≡ true → o.result.cut.at < (answer_lines (suc k) piece o).result.cut.at
further k piece o e =
    let w = on piece o e in
    let h = never_back k piece (one_more piece o) in
    subst (λ (b : Bool). o.result.cut.at < (cond b (answer_lines k piece (one_more piece o)) o).result.cut.at) (sym e) (omega arith)

-- where an answering is ready for a turn, with the bytes l of a line held: nothing waits, and there is room for an answer
record Ready (o : Standing) (l : List ℕ) : Type 0 where
  holds : Holds o.first (held_now o.result) l
  clear : o.result.filled ≡ 0
  room : 256 ≤ length o.second

goes_on_lem : (o : Standing) (l piece : List ℕ) → Ready o l → ltb o.result.cut.at (length piece) ≡ true → goes_on o.result piece o.second ≡ true
goes_on_lem o l piece h e = rw (e, lt-ltb 255 (length o.second - o.result.filled) (let a = h.room in let b = h.clear in omega arith))

turn_further : (o : Standing) (l piece : List ℕ) → Ready o l → ltb o.result.cut.at (length piece) ≡ true → o.result.cut.at < (turned piece o).result.cut.at
turn_further o l [] h e = absurd (true≢false (sym e ∙ le-ltb o.result.cut.at 0 (omega arith)))
turn_further o l (b ∷ s) h e = further (length s) (b ∷ s) o (goes_on_lem o l (b ∷ s) h e)

-- what was put in a turn, and what is to come after it, was to come before it
turn-same : (o : Standing) (l piece u : List ℕ) → Ready o l
    → (m : List ℕ) × Ready (standing_with (nothing_waits (turned piece o).result) (turned piece o)) m
    × (has_put (turned piece o) ++ to_come (turned piece o) m (drop (turned piece o).result.cut.at piece ++ u) ≡ to_come o l (drop o.result.cut.at piece ++ u))
turn-same o l piece u h =
    let g = lines_same (length piece) piece l u o h.holds in
    let none : has_put o ≡ [] = ap (λ (n : ℕ). take n o.second) h.clear in (
      g.held,
      record { holds = g.same.holds; clear = refl; room = let a = g.same.out in let b = h.room in omega arith },
      sym g.same.all ∙ ap (λ (x : List ℕ). x ++ to_come o l (drop o.result.cut.at piece ++ u)) none,
    )

-- THE INPUT'S END

-- without a line that has begun nothing is written any more
idle : (k : ℕ) (o : Standing) → is_open o.result ≡ false → output k [] [] o ≡ []
idle zero o e = refl
idle (suc k) o e =
    ap (λ (b : Bool). cond b (has_put (turned [] o) ++ output k [] [] (standing_with (nothing_waits (turned [] o).result) (turned [] o))) (output k (comes_next (is_open o.result) []) [] (standing_with (next_piece o.result) o))) (le-ltb o.result.cut.at 0 (omega arith))
    ∙ ap (λ (b : Bool). output k (cond b (10 ∷ []) []) [] (standing_with (next_piece o.result) o)) e
    ∙ idle k (standing_with (next_piece o.result) o) e

not-false : (b : Bool) → not b ≡ false → b ≡ true
not-false true e = refl
not-false false e = absurd (true≢false e)

not-true : (b : Bool) → not b ≡ true → b ≡ false
not-true true e = absurd (true≢false (sym e))
not-true false e = refl

none-held : (o : Standing) (l : List ℕ) → Holds o.first (held_now o.result) l → is_open o.result ≡ false → to_come o l [] ≡ []
none-held o l h e =
    let z : held_now o.result ≡ 0 = eqb-true (held_now o.result) 0 (not-false (eqb (held_now o.result) 0) e) in
    let w : length l ≡ 0 = omega (arith, h.count, z) in
    ap (λ (b : Bool). answers_to (length o.first) (kept_in o) (cond b [] (l ∷ []))) (eq-eqb (length l) 0 w)

-- a newline ends a line that has begun
last_line : (l : List ℕ) → (length l ≡ 0 → ⊥) → lines_from l [] ≡ lines_from l (10 ∷ [])
last_line l h = ap (λ (b : Bool). cond b [] (l ∷ [])) (ne_eqb (length l) 0 h)

-- the turn that does so, and those after it
newline : (k : ℕ) (o : Standing) (l : List ℕ) → Ready o l → output (suc (suc k)) (10 ∷ []) [] (standing_with (next_piece o.result) o) ≡ to_come o l (10 ∷ [])
newline k o l h = ap after taken ∙ ap (λ (x : List ℕ). has_put one ++ x) (idle k _ refl) ∙ sym all
  where
    n : Standing
    n = standing_with (next_piece o.result) o

    ready : Ready n l
    ready = record { holds = h.holds; clear = h.clear; room = h.room }

    one : Standing
    one = one_more (10 ∷ []) n

    taken : turned (10 ∷ []) n ≡ one
    taken = ap (λ (b : Bool). cond b one n) (goes_on_lem n l (10 ∷ []) ready refl)

    after : Standing → List ℕ
    after x = has_put x ++ output (suc k) (10 ∷ []) [] (standing_with (nothing_waits x.result) x)

    Come : Standing → Type 0
    Come x =
        (m : List ℕ) × Ready (standing_with (nothing_waits x.result) x) m
        × (has_put x ++ to_come x m (drop x.result.cut.at (10 ∷ []) ++ []) ≡ to_come n l (10 ∷ []))

    come : Come one
    come = subst Come taken (turn-same n l (10 ∷ []) [] ready)

    all : to_come o l (10 ∷ []) ≡ has_put one ++ []
    all = sym come.2 ∙ ap (λ (x : List ℕ). has_put one ++ x) (none-held one come.0 come.1.holds refl)

-- ALL TURNS
some_left : (ps : List (List ℕ)) → 3 ≤ enough ps
some_left [] = omega arith
some_left (q ∷ qs) = let h = some_left qs in omega arith

-- what is written in k turns, where they are enough, is what was to come
abbrev Writes : ℕ → Type 0
Writes k =
    (p : List ℕ) (ps : List (List ℕ)) (o : Standing) (l : List ℕ) → Ready o l → (length p - o.result.cut.at) + enough ps ≤ k
    → output k p ps o ≡ to_come o l (drop o.result.cut.at p ++ text_of ps)

one_more_turn : (k : ℕ) → Writes k → Writes (suc k)
one_more_turn k rest p ps o l h e = go (ltb o.result.cut.at (length p)) refl
  where
    t : Standing
    t = turned p o

    next : Standing
    next = standing_with (next_piece o.result) o

    ready : Ready next l
    ready = record { holds = h.holds; clear = h.clear; room = h.room }

    -- the last line has begun: a newline ends it
    last : (j : ℕ) → 3 ≤ suc j → is_open o.result ≡ true → output j (10 ∷ []) [] next ≡ to_come o l []
    last zero f x = absurd (omega arith)
    last (suc zero) f x = absurd (omega arith)
    last (suc (suc i)) f x =
        let some : length l ≡ 0 → ⊥ = λ z. eqb-false (held_now o.result) 0 (not-true (eqb (held_now o.result) 0) x) (omega (arith, h.holds.count, z)) in
        newline i o l h ∙ sym (ap (answers_to (length o.first) (kept_in o)) (last_line l some))

    -- the piece is taken to its end
    ended : (qs : List (List ℕ)) → enough qs ≤ suc k → output k (comes_next (is_open o.result) qs) (later qs) next ≡ to_come o l (text_of qs)
    ended (q ∷ qs) f = rest q qs next l ready (omega arith)
    ended [] f = at_end (is_open o.result) refl
      where
        at_end : (b : Bool) → is_open o.result ≡ b → output k (cond b (10 ∷ []) []) [] next ≡ to_come o l []
        at_end false x = idle k next x ∙ sym (none-held o l h.holds x)
        at_end true x = last k f x

    go : (b : Bool) → ltb o.result.cut.at (length p) ≡ b
        → cond b (has_put t ++ output k p ps (standing_with (nothing_waits t.result) t)) (output k (comes_next (is_open o.result) ps) (later ps) next)
        ≡ to_come o l (drop o.result.cut.at p ++ text_of ps)
    go true x =
        let s = turn-same o l p (text_of ps) h in
        let f = turn_further o l p h x in
        let w = ltb-true o.result.cut.at (length p) x in
        ap (λ (y : List ℕ). has_put t ++ y) (rest p ps (standing_with (nothing_waits t.result) t) s.0 s.1 (omega arith)) ∙ s.2
    go false x =
        let w = ltb-false o.result.cut.at (length p) x in
        ended ps (omega arith) ∙ sym (ap (λ (y : List ℕ). to_come o l (y ++ text_of ps)) (done p o.result.cut.at w))

writes : (k : ℕ) → Writes k
writes zero p ps o l h e = absurd (let w = some_left ps in omega arith)
writes (suc k) p ps o l h e = one_more_turn k (λ q qs u m g f. writes k q qs u m g f) p ps o l h e

-- THE THEOREM: where there is room for an answer, all that is written in enough turns are the answers to the lines of the input's text, one after the
-- other, however the input came in pieces
pub answers_are : (ps : List (List ℕ)) (line out store large small : List ℕ) (k : ℕ) → 256 ≤ length out → enough ps ≤ k
    → output k [] ps (standing_none line out store large small) ≡ answers_to (length line) (kept_in (standing_none line out store large small)) (lines_from [] (text_of ps))
answers_are ps line out store large small k r e = writes k [] ps (standing_none line out store large small) [] (record { holds = holds-none line; clear = refl; room = r }) (omega (arith, e))

-- so two cuts of one text are answered alike
pub cut_anyhow : (ps qs : List (List ℕ)) (line out store large small : List ℕ) (k : ℕ) → 256 ≤ length out → enough ps ≤ k → enough qs ≤ k → text_of ps ≡ text_of qs
    → output k [] ps (standing_none line out store large small) ≡ output k [] qs (standing_none line out store large small)
cut_anyhow ps qs line out store large small k r e f t =
    answers_are ps line out store large small k r e
    ∙ ap (λ (x : List ℕ). answers_to (length line) (kept_in (standing_none line out store large small)) (lines_from [] x)) t
    ∙ sym (answers_are qs line out store large small k r f)
