-- What a line of a piece comes to: what has been put, and what is to come, is the same before and after. Assumes nothing.
use Prim.Native.Nat.{ℕ, zero, suc, ◌+◌, ◌/◌, ◌%◌, ◌<◌, ◌≤◌, min}
use mathlib.Core.Path.{◌≡◌, refl, sym, ap, subst, ◌∙◌}
use mathlib.Core.Bool.{Bool, true, false, cond}
use mathlib.Core.List.{List, [], ◌∷◌, ◌++◌, append-nil, append_assoc}
use native.Mathlib.Numerals.{add-one}
use native.Mathlib.Omega.{arith}
use lib.Dec.{eqb, ltb}
use lib.ListN.{length, take, drop, set, length-append, length-set}
use lib.Seq.{take-suc-set, drop-drop}
use borrow.Author.Tests.{ltb-true, ltb-false, lt-ltb, le-ltb}
use Rattle.numbers.specs.Number.{rank_of}
use Rattle.numbers.specs.Promise.{Left1, Left3}
use Rattle.trace_lines.specs.Words.{bytes}
use Rattle.trace_text.specs.declared.lines.Cut.{Cut}
use Rattle.trace_text.specs.Cuts.{cut_of, line_in, ends_in, Holds}
use Rattle.trace_text.specs.Answers.{put_of, digits, answer_text}
use Rattle.trace_text.proofs.LineLaws.{held-line, held_long, cut_holds, holds-none}
use Rattle.trace_readers.specs.declared.state.Followed.{Followed}
use Rattle.trace_answers.specs.Shown.{follow_held, shown_text}
use Rattle.trace_answers.specs.Input.{Standing, next_line, held_now, with_cut, answered_by}
use Rattle.trace_answers.specs.Text.{lines_from, TraceKept, follow_line, kept_by, answers_to, kept_in, has_put, to_come}

-- the bytes past a line's end
abbrev pub past_in : List ℕ → List ℕ
past_in [] = []
past_in (b ∷ s) = cond (eqb b 10) s (past_in s)

-- the lines of a text, by its first
pub lines_cut : (s l u : List ℕ) → lines_from l (s ++ u) ≡ cond (ends_in s) ((l ++ line_in s) ∷ lines_from [] (past_in s ++ u)) (lines_from (l ++ line_in s) (past_in s ++ u))
lines_cut [] l u = ap (λ (x : List ℕ). lines_from x u) (sym (append-nil l))
lines_cut (b ∷ s) l u = go (eqb b 10) (lines_cut s (l ++ (b ∷ [])) u)
  where
    go : (t : Bool)
        → lines_from (l ++ (b ∷ [])) (s ++ u) ≡ cond (ends_in s) (((l ++ (b ∷ [])) ++ line_in s) ∷ lines_from [] (past_in s ++ u)) (lines_from ((l ++ (b ∷ [])) ++ line_in s) (past_in s ++ u))
        → cond t (l ∷ lines_from [] (s ++ u)) (lines_from (l ++ (b ∷ [])) (s ++ u))
        ≡ cond (cond t true (ends_in s)) ((l ++ cond t [] (b ∷ line_in s)) ∷ lines_from [] (cond t s (past_in s) ++ u)) (lines_from (l ++ cond t [] (b ∷ line_in s)) (cond t s (past_in s) ++ u))
    go true e = ap (λ (x : List ℕ). x ∷ lines_from [] (s ++ u)) (sym (append-nil l))
    go false e = e ∙ ap (λ (x : List ℕ). cond (ends_in s) (x ∷ lines_from [] (past_in s ++ u)) (lines_from x (past_in s ++ u))) (append_assoc l (b ∷ []) (line_in s))

-- the cut's place in the piece
drop-next : (p s : List ℕ) (b at : ℕ) → drop at p ≡ b ∷ s → drop (at + 1) p ≡ s
drop-next p s b at e = sym (drop-drop 1 at p) ∙ ap (drop 1) e

pub cut_past : (s p room : List ℕ) (at n : ℕ) → drop at p ≡ s → drop (cut_of at s n room).result.at p ≡ past_in s
cut_past [] p room at n e = e
cut_past (b ∷ s) p room at n e = go (eqb b 10) (cut_past s p (set room n b) (at + 1) (min n (length room) + 1) (drop-next p s b at e))
  where
    go : (t : Bool) → drop (cut_of (at + 1) s (min n (length room) + 1) (set room n b)).result.at p ≡ past_in s
        → drop (cond t (record { result = record { at = at + 1; held = n; ended = true }; first = room }) (cut_of (at + 1) s (min n (length room) + 1) (set room n b))).result.at p ≡ cond t s (past_in s)
    go true h = drop-next p s b at e
    go false h = h

pub cut_length : (s room : List ℕ) (at n : ℕ) → length (cut_of at s n room).first ≡ length room
cut_length [] room at n = refl
cut_length (b ∷ s) room at n = go (eqb b 10) (cut_length s (set room n b) (at + 1) (min n (length room) + 1) ∙ length-set room n b)
  where
    go : (t : Bool) → length (cut_of (at + 1) s (min n (length room) + 1) (set room n b)).first ≡ length room
        → length (cond t (record { result = record { at = at + 1; held = n; ended = true }; first = room }) (cut_of (at + 1) s (min n (length room) + 1) (set room n b))).first ≡ length room
    go true h = refl
    go false h = h

-- a line held is the line
pub follow_holds : (room l : List ℕ) (n : ℕ) (k : TraceKept) → Holds room n l → follow_held n room k.trace k.store k.large k.small ≡ follow_line (length room) l k
follow_holds room l n k h = go (ltb (length room) n) refl
  where
    go : (t : Bool) → ltb (length room) n ≡ t → follow_held n room k.trace k.store k.large k.small ≡ follow_line (length room) l k
    go true e =
        rw (e, lt-ltb (length room) (length l) (held_long room l n h (ltb-true (length room) n e))) refl
    go false e =
        let m : n ≤ length room = ltb-false (length room) n e in
        rw (e, le-ltb (length room) (length l) (omega (arith, h.count, m)), held-line room l n h m) refl

-- a text put where there is room for it
pub record PutIn (at : ℕ) (text out : List ℕ) (o : Left1 ℕ (List ℕ)) : Type 0 where
  pub place : o.result ≡ at + length text
  pub bytes_are : take o.result o.first ≡ take at out ++ text
  pub kept : length o.first ≡ length out

pub put_text : (text out : List ℕ) (at : ℕ) → at + length text ≤ length out → PutIn at text out (put_of at text out)
put_text [] out at h = record { place = omega arith; bytes_are = sym (append-nil (take at out)); kept = refl }
put_text (b ∷ text) out at h =
    let i : at < length out = omega (arith, h) in
    let r : at + 1 + length text ≤ length (set out at b) = omega (arith, h, length-set out at b) in
    let e : cond (ltb at (length out)) (at + 1) at ≡ at + 1 = rw (lt-ltb at (length out) i) refl in
    let p = put_text text (set out at b) (at + 1) r in
    let q : take (at + 1) (set out at b) ≡ take at out ++ (b ∷ []) = ap (λ (m : ℕ). take m (set out at b)) (add-one at) ∙ take-suc-set out at b i in
    subst (λ (x : ℕ). PutIn at (b ∷ text) out (put_of x text (set out at b))) (sym e)
    (record {
      place = omega (arith, p.place);
      bytes_are = p.bytes_are ∙ ap (λ (x : List ℕ). x ++ text) q ∙ append_assoc (take at out) (b ∷ []) text;
      kept = p.kept ∙ length-set out at b;
    })

-- no answer has 256 bytes
join : (i j : ℕ) (l m : List ℕ) → length l ≤ i → length m ≤ j → length (l ++ m) ≤ i + j
join i j l m a b = omega (arith, length-append l m, a, b)

digits-length : (k n : ℕ) → length (digits k n) ≤ k
digits-length zero n = omega arith
digits-length (suc k) n = go (ltb n 10) (digits-length k (n / 10))
  where
    go : (t : Bool) → length (digits k (n / 10)) ≤ k → length (cond t ((48 + n) ∷ []) (digits k (n / 10) ++ ((48 + n % 10) ∷ []))) ≤ suc k
    go true h = omega arith
    go false h = omega (arith, length-append (digits k (n / 10)) ((48 + n % 10) ∷ []), h)

field : (i : ℕ) (key l : List ℕ) → length key ≤ i → length l ≤ 20 → length (key ++ l) ≤ i + 20
field i key l a b = join i 20 key l a b

pub answer_short : (n a b c d : ℕ) → length (answer_text n a b c d) < 256
answer_short n a b c d =
    let q : length (answer_text n a b c d) ≤ 20 + (8 + 20 + (6 + 20 + (7 + 20 + (7 + 20 + 1))))
    = join 20 (8 + 20 + (6 + 20 + (7 + 20 + (7 + 20 + 1)))) (digits 20 n) ((bytes " answer=" ++ digits 20 a) ++ ((bytes " last=" ++ digits 20 b) ++ ((bytes " first=" ++ digits 20 c) ++ ((bytes " acked=" ++ digits 20 d) ++ (10 ∷ []))))) (digits-length 20 n)
    (join (8 + 20) (6 + 20 + (7 + 20 + (7 + 20 + 1))) (bytes " answer=" ++ digits 20 a) ((bytes " last=" ++ digits 20 b) ++ ((bytes " first=" ++ digits 20 c) ++ ((bytes " acked=" ++ digits 20 d) ++ (10 ∷ [])))) (field 8 (bytes " answer=") (digits 20 a) (omega arith) (digits-length 20 a))
    (join (6 + 20) (7 + 20 + (7 + 20 + 1)) (bytes " last=" ++ digits 20 b) ((bytes " first=" ++ digits 20 c) ++ ((bytes " acked=" ++ digits 20 d) ++ (10 ∷ []))) (field 6 (bytes " last=") (digits 20 b) (omega arith) (digits-length 20 b))
    (join (7 + 20) (7 + 20 + 1) (bytes " first=" ++ digits 20 c) ((bytes " acked=" ++ digits 20 d) ++ (10 ∷ [])) (field 7 (bytes " first=") (digits 20 c) (omega arith) (digits-length 20 c))
    (join (7 + 20) 1 (bytes " acked=" ++ digits 20 d) (10 ∷ []) (field 7 (bytes " acked=") (digits 20 d) (omega arith) (digits-length 20 d)) (omega arith))))) in
    omega (arith, q)

-- what has been put, and what is to come, before and after
pub record Same (o p : Standing) (l m s t : List ℕ) : Type 0 where
  pub holds : Holds p.first (held_now p.result) m
  pub all : has_put o ++ to_come o l s ≡ has_put p ++ to_come p m t
  pub line : length p.first ≡ length o.first
  pub out : length p.second ≡ length o.second

-- a line's answer was to come, and has been put
moved : (most most' : ℕ) (k : TraceKept) (l : List ℕ) (rest : List (List ℕ)) (p q : List ℕ) (f : Left3 Followed (List ℕ) (List ℕ) (List ℕ)) → f ≡ follow_line most l k → most' ≡ most
    → q ≡ p ++ shown_text (next_line k.lines) f.result → p ++ answers_to most k (l ∷ rest) ≡ q ++ answers_to most' (kept_by f k.lines) rest
moved most most' k l rest p q f e m g =
    ap (λ (x : Left3 Followed (List ℕ) (List ℕ) (List ℕ)). p ++ (shown_text (next_line k.lines) x.result ++ answers_to most (kept_by x k.lines) rest)) (sym e)
    ∙ sym (append_assoc p (shown_text (next_line k.lines) f.result) (answers_to most (kept_by f k.lines) rest))
    ∙ ap (λ (x : List ℕ). x ++ answers_to most (kept_by f k.lines) rest) (sym g)
    ∙ ap (λ (x : ℕ). q ++ answers_to x (kept_by f k.lines) rest) (sym m)

module _ (o : Standing) (s l u : List ℕ) (h : Holds o.first (held_now o.result) l) (c : Left1 Cut (List ℕ)) (e : c ≡ cut_of o.result.cut.at s (held_now o.result) o.first) where
  cut_is_held : Holds c.first c.result.held (l ++ line_in s)
  cut_is_held = subst (λ (x : Left1 Cut (List ℕ)). Holds x.first x.result.held (l ++ line_in s)) (sym e) (cut_holds s o.first l o.result.cut.at (held_now o.result) h)

  cut_keeps : length c.first ≡ length o.first
  cut_keeps = ap (λ (x : Left1 Cut (List ℕ)). length x.first) e ∙ cut_length s o.first o.result.cut.at (held_now o.result)

  pub ended_same : ends_in s ≡ true → c.result.ended ≡ true → o.result.filled + 256 ≤ length o.second
      → Same o (answered_by c.result (follow_held c.result.held c.first o.result.followed.trace o.third o.fourth o.fifth) o.result c.first o.second) l [] (s ++ u) (past_in s ++ u)
  ended_same t b room =
      let f : Left3 Followed (List ℕ) (List ℕ) (List ℕ) = follow_held c.result.held c.first o.result.followed.trace o.third o.fourth o.fifth in
      let text : List ℕ = shown_text (next_line o.result.lines) f.result in
      let p = put_text text o.second o.result.filled (omega (arith, room, answer_short (next_line o.result.lines) f.result.answer.number (rank_of f.result.trace.flow.last) (rank_of f.result.trace.flow.first) (rank_of f.result.trace.flow.acked))) in
      record {
        holds = subst (λ (x : Bool). Holds c.first (cond x 0 c.result.held) []) (sym b) (holds-none c.first);
        all = ap (λ (x : List (List ℕ)). has_put o ++ answers_to (length o.first) (kept_in o) x)
            (lines_cut s l u ∙ ap (λ (x : Bool). cond x ((l ++ line_in s) ∷ lines_from [] (past_in s ++ u)) (lines_from (l ++ line_in s) (past_in s ++ u))) t)
            ∙ moved (length o.first) (length c.first) (kept_in o) (l ++ line_in s) (lines_from [] (past_in s ++ u)) (has_put o) _ f
            (follow_holds c.first (l ++ line_in s) c.result.held (kept_in o) cut_is_held ∙ ap (λ (x : ℕ). follow_line x (l ++ line_in s) (kept_in o)) cut_keeps) cut_keeps p.bytes_are;
        line = cut_keeps;
        out = p.kept;
      }

  pub open_same : ends_in s ≡ false → c.result.ended ≡ false
      → Same o (record { result = with_cut c.result o.result; first = c.first; second = o.second; third = o.third; fourth = o.fourth; fifth = o.fifth }) l (l ++ line_in s) (s ++ u) (past_in s ++ u)
  open_same t b =
      record {
        holds = subst (λ (x : Bool). Holds c.first (cond x 0 c.result.held) (l ++ line_in s)) (sym b) cut_is_held;
        all = ap (λ (x : List (List ℕ)). has_put o ++ answers_to (length o.first) (kept_in o) x)
            (lines_cut s l u ∙ ap (λ (x : Bool). cond x ((l ++ line_in s) ∷ lines_from [] (past_in s ++ u)) (lines_from (l ++ line_in s) (past_in s ++ u))) t)
            ∙ ap (λ (x : ℕ). has_put o ++ answers_to x (kept_in o) (lines_from (l ++ line_in s) (past_in s ++ u))) (sym cut_keeps);
        line = cut_keeps;
        out = refl;
      }
