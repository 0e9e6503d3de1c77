-- Every fragment asked for comes up, once, and then none is asked for. Assumes nothing.
use Prim.Native.Nat.{ℕ, zero, suc, ◌+◌, ◌≤◌, ◌<◌}
use mathlib.Core.Path.{◌≡◌, refl, sym, ap, subst, ◌∙◌}
use mathlib.Core.Bool.{Bool, true, false, cond, ◌&&◌, ◌||◌, true≢false}
use mathlib.Core.List.{List, [], ◌∷◌, ◌++◌}
use native.Mathlib.Omega.{arith}
use lib.Dec.{eqb, leb}
use lib.ListN.{length}
use borrow.Author.Tests.{eq-eqb, ne_eqb, le-leb, eqb-true}
use Rattle.sets.specs.Sets.{has, From, empty, without}
use Rattle.sets.proofs.Has.{From_weak}
use Rattle.requested_fragments.specs.Entries.{Entry, sent, next_sample, next_fragment}
use Rattle.requested_fragments.specs.Drain.{EntriesCoherent, Piece, pieces_of, all_asked, DrainRun, offering, turns, times, is_asked}

-- a number below all of a set is not in it
low-without : (f b : ℕ) (l : List ℕ) → f < b → From b l → without f l ≡ l
low-without f b [] h g = refl
low-without f b (x ∷ xs) h g =
    let d : eqb f x ≡ false = ne_eqb f x (λ (z : f ≡ x). omega (arith, g.0)) in
    rw d (ap (λ (l : List ℕ). x ∷ l) (low-without f (suc x) xs (omega (arith, g.0)) g.1))

first-gone : (f : ℕ) (fs : List ℕ) → From 1 (f ∷ fs) → without f (f ∷ fs) ≡ fs
first-gone f fs g = rw (eq-eqb f f refl) (low-without f (suc f) fs (omega arith) g.1)

-- what a run leaves and offers where all comes up
abbrev all : List Entry → DrainRun
all es = record { offered = all_asked es; left = [] }

-- one turn, where a fragment is there
turn : (k : ℕ) (es : List Entry) (n f : ℕ) → next_sample es ≡ n → next_fragment 1 es ≡ f → eqb f 0 ≡ false
    → turns (suc k) es ≡ offering (record { sample = n; frag = f }) (turns k (sent n f es))
turn k es n f a b z =
    subst (λ (p : ℕ). turns (suc k) es ≡ offering (record { sample = n; frag = p }) (turns k (sent n p es))) b
    (subst (λ (m : ℕ). turns (suc k) es ≡ offering (record { sample = m; frag = next_fragment 1 es }) (turns k (sent m (next_fragment 1 es) es))) a (rw (ap (λ (x : ℕ). eqb x 0) b ∙ z) refl))

-- one entry, fragment by fragment
entry : (fs : List ℕ) (k n : ℕ) (es : List Entry) → From 1 fs → empty fs ≡ false → length (pieces_of n fs ++ all_asked es) ≤ k
    → ((j : ℕ) → length (all_asked es) ≤ j → turns j es ≡ all es) → turns k (record { sample = n; frags = fs } ∷ es) ≡ all (record { sample = n; frags = fs } ∷ es)
entry [] k n es g z h r = absurd (true≢false z)
entry (f ∷ fs) zero n es g z h r = absurd (omega arith)
entry (f ∷ []) (suc k) n es g z h r =
    let a : leb 1 f ≡ true = le-leb 1 f g.0 in
    let b : eqb f 0 ≡ false = ne_eqb f 0 (λ (y : f ≡ 0). omega (arith, g.0)) in
    let d : eqb n n ≡ true = eq-eqb n n refl in
    let w : eqb f f ≡ true = eq-eqb f f refl in
    rw (a, b, d, w) (ap (offering (record { sample = n; frag = f })) (r k (omega arith)))
entry (f ∷ (x ∷ xs)) (suc k) n es g z h r =
    let held : List Entry = record { sample = n; frags = f ∷ (x ∷ xs) } ∷ es in
    let a : next_fragment 1 held ≡ f = rw (le-leb 1 f g.0) refl in
    let b : eqb f 0 ≡ false = ne_eqb f 0 (λ (y : f ≡ 0). omega (arith, g.0)) in
    let d : eqb n n ≡ true = eq-eqb n n refl in
    let w : without f (f ∷ (x ∷ xs)) ≡ x ∷ xs = first-gone f (x ∷ xs) g in
    let s : sent n f held ≡ record { sample = n; frags = x ∷ xs } ∷ es = rw (d, w) refl in
    turn k held n f refl a b
    ∙ ap (offering (record { sample = n; frag = f })) (ap (turns k) s ∙ entry (x ∷ xs) k n es (From_weak 1 (suc f) (x ∷ xs) (omega arith) g.1) refl (omega arith) r)

-- with as many turns as fragments are asked for, or more
pub drained : (k s : ℕ) (es : List Entry) → EntriesCoherent s es → length (all_asked es) ≤ k → turns k es ≡ record { offered = all_asked es; left = [] }
drained zero s [] g h = refl
drained (suc k) s [] g h = refl
drained k s (e ∷ es) g h = entry e.frags k e.sample es g.1.0 g.1.1.0 h (λ j q. drained j (suc e.sample) es g.1.1.1 q)

-- ---- each once
times-append : (n f : ℕ) (ps qs : List Piece) → times n f (ps ++ qs) ≡ times n f ps + times n f qs
times-append n f [] qs = omega arith
times-append n f (p ∷ ps) qs = go (eqb p.sample n && eqb p.frag f) (times-append n f ps qs)
  where
    go : (t : Bool) → times n f (ps ++ qs) ≡ times n f ps + times n f qs → cond t (suc (times n f (ps ++ qs))) (times n f (ps ++ qs)) ≡ cond t (suc (times n f ps)) (times n f ps) + times n f qs
    go true r = omega arith
    go false r = r

-- of another sample
times_other : (n m f : ℕ) (fs : List ℕ) → eqb m n ≡ false → times n f (pieces_of m fs) ≡ 0
times_other n m f [] d = refl
times_other n m f (x ∷ xs) d = rw d (times_other n m f xs d)

off : (b f : ℕ) (l : List ℕ) → From b l → f < b → has l f ≡ false
off b f [] g h = refl
off b f (x ∷ xs) g h = let d : eqb x f ≡ false = ne_eqb x f (λ (z : x ≡ f). omega (arith, g.0)) in rw d (off (suc x) f xs g.1 (omega (arith, g.0)))

times-same : (n f b : ℕ) (fs : List ℕ) → From b fs → times n f (pieces_of n fs) ≡ cond (has fs f) 1 0
times-same n f b [] g = refl
times-same n f b (x ∷ xs) g = go (eqb x f) refl (times-same n f (suc x) xs g.1)
  where
    d : eqb n n ≡ true
    d = eq-eqb n n refl

    go : (t : Bool) → eqb x f ≡ t → times n f (pieces_of n xs) ≡ cond (has xs f) 1 0 → times n f (pieces_of n (x ∷ xs)) ≡ cond (t || has xs f) 1 0
    go true e r =
        let z : has xs f ≡ false = off (suc x) f xs g.1 (omega (arith, eqb-true x f e)) in
        rw (d, e) (ap suc (r ∙ ap (λ (t : Bool). cond t 1 0) z))
    go false e r = rw (d, e) r

later : (s n f : ℕ) (es : List Entry) → EntriesCoherent s es → n < s → (is_asked n f es ≡ false) × (times n f (all_asked es) ≡ 0)
later s n f [] g h = (refl, refl)
later s n f (e ∷ es) g h =
    let d : eqb e.sample n ≡ false = ne_eqb e.sample n (λ (z : e.sample ≡ n). omega (arith, g.0)) in
    let r = later (suc e.sample) n f es g.1.1.1 (omega (arith, g.0)) in
    let q : is_asked n f es ≡ false = r.0 in
    (rw d q, times-append n f (pieces_of e.sample e.frags) (all_asked es) ∙ omega (arith, times_other n e.sample f e.frags d, r.1))

-- what is asked for is offered once, and what is not, never
pub once : (s n f : ℕ) (es : List Entry) → EntriesCoherent s es → times n f (all_asked es) ≡ cond (is_asked n f es) 1 0
once s n f [] g = refl
once s n f (e ∷ es) g = times-append n f (pieces_of e.sample e.frags) (all_asked es) ∙ go (eqb e.sample n) refl (once (suc e.sample) n f es g.1.1.1)
  where
    go : (t : Bool) → eqb e.sample n ≡ t → times n f (all_asked es) ≡ cond (is_asked n f es) 1 0
        → times n f (pieces_of e.sample e.frags) + times n f (all_asked es) ≡ cond ((t && has e.frags f) || is_asked n f es) 1 0
    go true d r =
        let m : e.sample ≡ n = eqb-true e.sample n d in
        let l = later (suc e.sample) n f es g.1.1.1 (omega arith) in
        let p : times n f (pieces_of e.sample e.frags) ≡ cond (has e.frags f) 1 0 = ap (λ (k : ℕ). times n f (pieces_of k e.frags)) m ∙ times-same n f 1 e.frags g.1.0 in
        let a : times n f (pieces_of e.sample e.frags) + times n f (all_asked es) ≡ cond (has e.frags f) 1 0 = omega (arith, p, l.1) in
        a ∙ both (has e.frags f) (is_asked n f es) l.0
      where
        both : (x y : Bool) → y ≡ false → ◌≡◌ {A = ℕ} (cond x 1 0) (cond (x || y) 1 0)
        both true y z = refl
        both false y z = sym (ap {B = ℕ} (λ (t : Bool). cond t 1 0) z)
    go false d r = omega (arith, times_other n e.sample f e.frags d, r)
