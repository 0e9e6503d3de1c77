-- Laws of bytes put into a room. Assumes nothing.
use Prim.Native.Nat.{ℕ, zero, suc, ◌+◌, ◌-◌, ◌/◌, ◌%◌, ◌<◌, ◌≤◌}
use mathlib.Core.Path.{◌≡◌, refl, ap, subst, ◌∙◌}
use mathlib.Core.Bool.{cond}
use mathlib.Core.List.{List, [], ◌∷◌, ◌++◌}
use native.Mathlib.Numerals.{sub-one}
use native.Mathlib.Nat.{lt_irrefl}
use lib.Dec.{ltb}
use lib.ListN.{length, set}
use borrow.Author.Tests.{le-ltb}
use Rattle.numbers.specs.Promise.{Left1, Gives1}
use Rattle.trace_text.specs.Answers.{put_of, digits}

-- a piece of text, and then more
pub put-append : (at : ℕ) (l m out : List ℕ) → put_of (put_of at l out).result m (put_of at l out).first ≡ put_of at (l ++ m) out
put-append at [] m out = refl
put-append at (b ∷ l) m out = put-append (cond (ltb at (length out)) (at + 1) at) l m (set out at b)

-- two calls, one after the other
pub puts : (at k r : ℕ) (l m out u v : List ℕ) → Gives1 k u (put_of at l out) → Gives1 r v (put_of k m u) → Gives1 r v (put_of at (l ++ m) out)
puts at k r l m out u v p q =
    let e : put_of k m u ≡ put_of at (l ++ m) out = ap (λ (x : ℕ). put_of x m u) p.result ∙ ap (put_of (put_of at l out).result m) p.first ∙ put-append at l m out in
    subst (λ (o : Left1 ℕ (List ℕ)). Gives1 r v o) e q

pub digits_more : (k n : ℕ) → 0 < k → 10 ≤ n → digits k n ≡ digits (k - 1) (n / 10) ++ ((48 + n % 10) ∷ [])
digits_more zero n p h = absurd (lt_irrefl 0 p)
digits_more (suc k) n p h = rw (le-ltb n 10 h, sub-one) refl

-- the same text in another form
pub put_as : {r : ℕ} {u : List ℕ} (at : ℕ) (out l m : List ℕ) → l ≡ m → Gives1 r u (put_of at l out) → Gives1 r u (put_of at m out)
put_as {r} {u} at out l m e g = subst (λ (x : List ℕ). Gives1 r u (put_of at x out)) e g
