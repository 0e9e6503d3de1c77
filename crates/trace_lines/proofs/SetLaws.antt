-- Laws of sets in a line, in the shapes that the loop asks for. Assumes nothing.
use Prim.Native.Nat.{ℕ, suc, ◌+◌, ◌-◌, ◌<◌, ◌≤◌}
use mathlib.Core.Path.{◌≡◌, refl, sym, ap, ◌∙◌}
use mathlib.Core.List.{List, [], ◌∷◌, ◌++◌, append_assoc, append-nil}
use native.Mathlib.Numerals.{add-one}
use native.Mathlib.Omega.{arith}
use lib.ListN.{length, take, drop, get_or, set, length-set}
use lib.Seq.{take-suc-set, length-take-le, take_all}
use borrow.Author.Tests.{eq-eqb, ne_eqb, le-leb}
use Rattle.std.specs.Prelude.{Some, None}
use Rattle.trace_lines.specs.Words.{rest, number_in}
use Rattle.trace_lines.specs.Sets.{Members, these, none, also, after_number, listed_in, Listing}

-- the numbers p, and then ms
abbrev pub prefixed : List ℕ → Members → Members
prefixed p (these l) = these (p ++ l)
prefixed p none = none

pub prefixed_more : (l : List ℕ) (n v : ℕ) (ms : Members) → n < length l → prefixed (take n l) (also v ms) ≡ prefixed (take (n + 1) (set l n v)) ms
prefixed_more l n v (these x) h = rw (add-one, take-suc-set l n v h, append_assoc)
prefixed_more l n v none h = refl

-- one number of the list
pub list-is : (s : List ℕ) (m k v : ℕ) (after : List ℕ) → record { value = v; after = rest after } ≡ number_in s → m ≤ v
    → listed_in (suc k) m s ≡ after_number v (rest after) (listed_in k (v + 1))
list-is s m k v after e h = rw (← e, le-leb m v h)

-- what follows it: nothing, a comma, or something else
module _ (v : ℕ) (more : List ℕ → Members) where
  pub after_end : (a : List ℕ) → length a < 1 → after_number v (rest a) more ≡ also v (these [])
  after_end [] h = refl
  after_end (b ∷ a) h = absurd (omega arith)

  pub after_other : (a : List ℕ) → 1 ≤ length a → (get_or a 0 0 ≡ 44 → ⊥) → after_number v (rest a) more ≡ none
  after_other [] h n = absurd (omega arith)
  after_other (b ∷ a) h n = rw (ne_eqb b 44 n)

  pub after_comma : (a : List ℕ) → 1 ≤ length a → get_or a 0 0 ≡ 44 → after_number v (rest a) more ≡ also v (more (take (length a - 1) (drop 1 a)))
  after_comma [] h e = absurd (omega arith)
  after_comma (b ∷ a) h e =
      let q : length a ≤ length (b ∷ a) - 1 = omega arith in
      rw (eq-eqb b 44 e, take_all (length (b ∷ a) - 1) a q)

-- ---- the answer
pub none-listed : (ms : Members) (room : List ℕ) → ms ≡ none → Listing ms None room
none-listed ms room e = rw e (record { count = refl; stand = refl })

pub some-listed : (ms : Members) (k : ℕ) (room : List ℕ) → ms ≡ these (take k room) → k ≤ length room → Listing ms (Some k) room
some-listed ms k room e h =
    let q = length-take-le k room h in
    rw e (record { count = ap Some (sym q); stand = ap (λ (n : ℕ). take n room) q })

-- ---- one turn
module _ (s room : List ℕ) (all : Members) (m big n v : ℕ) (after : List ℕ) (e : record { value = v; after = rest after } ≡ number_in s) (h : m ≤ v) (b : n < big) (same_big : length room ≡ big)
    (i : all ≡ prefixed (take n room) (listed_in (big - n) m s)) where
  turn : all ≡ prefixed (take n room) (after_number v (rest after) (listed_in (big - (n + 1)) (v + 1)))
  turn =
      let q : big - n ≡ suc (big - (n + 1)) = omega arith in
      i ∙ ap (λ (x : ℕ). prefixed (take n room) (listed_in x m s)) q ∙ ap (prefixed (take n room)) (list-is s m (big - (n + 1)) v after e h)

  fits : n < length room
  fits = omega arith

  pub turn_end : length after < 1 → Listing all (Some (n + 1)) (set room n v)
  turn_end g =
      some-listed all (n + 1) (set room n v)
      (turn ∙ ap (prefixed (take n room)) (after_end v (listed_in (big - (n + 1)) (v + 1)) after g) ∙ prefixed_more room n v (these []) fits ∙ ap these (append-nil (take (n + 1) (set room n v))))
      (rw length-set (omega (arith, fits)))

  pub turn_other : 1 ≤ length after → (get_or after 0 0 ≡ 44 → ⊥) → Listing all None (set room n v)
  turn_other g o = none-listed all (set room n v) (turn ∙ ap (prefixed (take n room)) (after_other v (listed_in (big - (n + 1)) (v + 1)) after g o))

  pub turn_more : 1 ≤ length after → get_or after 0 0 ≡ 44 → all ≡ prefixed (take (n + 1) (set room n v)) (listed_in (big - (n + 1)) (v + 1) (take (length after - 1) (drop 1 after)))
  turn_more g o =
      turn ∙ ap (prefixed (take n room)) (after_comma v (listed_in (big - (n + 1)) (v + 1)) after g o)
      ∙ prefixed_more room n v (listed_in (big - (n + 1)) (v + 1) (take (length after - 1) (drop 1 after))) fits
