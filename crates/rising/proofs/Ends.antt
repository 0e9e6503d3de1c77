-- The last of a rising run tells of all of it: what is above it joins at the end. Assumes nothing.
use Rattle.std.proofs.Common.{◌≡◌, ℕ, zero, suc, ◌+◌, ◌-◌, ◌<◌, ◌≤◌, max, Bool, true, false, cond, ◌&&◌, ◌||◌, eqb, ltb, List, [], ◌∷◌, ◌++◌, length, get_or, take, drop, set, replicate, sym, refl, ap, ◌∙◌, subst, append_assoc, lt_irrefl, arith, length-append, length-take-le, get_or-take, ltb-true, le-ltb, eq-eqb, ne_eqb, eqb-true}
use mathlib.Core.Bool.{false≢true}
use lib.Seq.{set_split}
use Rattle.sets.specs.Sets.{has, From, insert, largest}
use Rattle.sets.proofs.Bools.{and_left, and_right}
use Rattle.numbers.specs.Promise.{Left1, Gives1}
use Rattle.rising.specs.Runs.{run_coherent, in_room, newest, over, run_with}
use Rattle.rising.proofs.Rooms.{changed}
use Rattle.rising.proofs.Meaning.{RunIs, run_is}

-- none is above the last
last-most : (b : ℕ) (l : List ℕ) (n : ℕ) → From b l → has l n ≡ true → n ≤ get_or l (length l - 1) 0
last-most b [] n f e = absurd (false≢true e)
last-most b (x ∷ []) n f e = go (eqb x n) refl e
  where
    go : (t : Bool) → eqb x n ≡ t → (t || false) ≡ true → n ≤ x
    go true q w = omega (arith, eqb-true x n q)
    go false q w = absurd (false≢true w)
last-most b (x ∷ y ∷ ys) n f e =
    subst (λ (i : ℕ). n ≤ get_or (x ∷ y ∷ ys) i 0) at_end_lem (go (eqb x n) refl e (last-most (suc x) (y ∷ ys) y f.1 (ap (λ (t : Bool). t || has ys y) (eq-eqb y y refl))) (last-most (suc x) (y ∷ ys) n f.1))
  where
    at_end_lem : suc (length (y ∷ ys) - 1) ≡ length (x ∷ y ∷ ys) - 1
    at_end_lem = omega arith

    go : (t : Bool) → eqb x n ≡ t → (t || has (y ∷ ys) n) ≡ true → y ≤ get_or (y ∷ ys) (length (y ∷ ys) - 1) 0 → (has (y ∷ ys) n ≡ true → n ≤ get_or (y ∷ ys) (length (y ∷ ys) - 1) 0)
        → n ≤ get_or (y ∷ ys) (length (y ∷ ys) - 1) 0
    go true q w k r = omega (arith, eqb-true x n q, f.1.0, k)
    go false q w k r = r w

insert-last : (n : ℕ) (l : List ℕ) → ((m : ℕ) → has l m ≡ true → m < n) → insert n l ≡ l ++ (n ∷ [])
insert-last n [] h = refl
insert-last n (x ∷ xs) h =
    let w : x < n = h x (ap (λ (t : Bool). t || has xs x) (eq-eqb x x refl)) in
    rw (le-ltb n x (omega arith), ne_eqb n x (λ e. lt_irrefl n (omega arith))) (ap (λ (l : List ℕ). x ∷ l) (insert-last n xs (λ m e. h m (later m e))))
  where
    later : (m : ℕ) → has xs m ≡ true → (eqb x m || has xs m) ≡ true
    later m e = go (eqb x m)
      where
        go : (t : Bool) → (t || has xs m) ≡ true
        go true = refl
        go false = e

-- of the run in a room
pub run-most : (c : ℕ) (a : List ℕ) → RunIs 0 c a → (m : ℕ) → has (take c a) m ≡ true → m ≤ get_or a (c - 1) 0
run-most zero a r m e = absurd (false≢true e)
run-most (suc c) a r m e =
    let l : length (take (suc c) a) ≡ suc c = length-take-le (suc c) a r.fits in
    let i : length (take (suc c) a) - 1 ≡ suc c - 1 = omega (arith, l) in
    subst (λ (x : ℕ). m ≤ x) (ap (λ (j : ℕ). get_or (take (suc c) a) j 0) i ∙ get_or-take (suc c) a (suc c - 1) 0 (omega arith)) (last-most 1 (take (suc c) a) m r.rises.from e)

-- n is above all: it stands in the first free place
pub appended : (c n : ℕ) (a : List ℕ) → run_coherent 0 c a ≡ true → get_or a (c - 1) 0 < n → c < length a → Gives1 (c + 1) (set a c n) (in_room (newest (length a) n) c a)
appended c n a ok above room =
    changed (newest (length a) n) c a r.fits (c + 1) (set a c n) (sym (ap length new ∙ long)) (set_split a c n room ∙ laid ∙ ap (over a c) (sym new))
  where
    r : RunIs 0 c a
    r = run_is 0 c a ok

    l : List ℕ
    l = take c a ++ (n ∷ [])

    long : length l ≡ c + 1
    long = length-append (take c a) (n ∷ []) ∙ ap (λ (x : ℕ). x + 1) (length-take-le c a r.fits)

    joined : insert n (take c a) ≡ l
    joined = insert-last n (take c a) (λ m e. omega (arith, run-most c a r m e))

    new : newest (length a) n (take c a) ≡ l
    new = let d : length l - length a ≡ 0 = omega (arith, long) in ap (largest (length a)) joined ∙ ap (λ (x : ℕ). drop x l) d

    laid : take c a ++ (n ∷ drop (suc c) a) ≡ over a c l
    laid =
        let z : c - length l ≡ 0 = omega (arith, long) in
        let m : max c (length l) ≡ suc c = omega (arith, long) in
        sym (ap (λ (x : ℕ). l ++ (replicate x 0 ++ drop (max c (length l)) a)) z ∙ ap (λ (x : ℕ). l ++ drop x a) m ∙ append_assoc (take c a) (n ∷ []) (drop (suc c) a))

-- what `join_newest` leaves of a coherent run: the newest
pub with-newest : (c n : ℕ) (a : List ℕ) → run_coherent 0 c a ≡ true → run_with n c a ≡ in_room (newest (length a) n) c a
with-newest c n a ok = go (ltb c (length a) && ltb (get_or a (c - 1) 0) n) refl
  where
    go : (t : Bool) → (ltb c (length a) && ltb (get_or a (c - 1) 0) n) ≡ t
        → cond {A = Left1 ℕ (List ℕ)} t (record { result = c + 1; first = set a c n }) (in_room (newest (length a) n) c a) ≡ in_room (newest (length a) n) c a
    go true e =
        let g =
        appended c n a ok (ltb-true (get_or a (c - 1) 0) n (and_right (ltb c (length a)) (ltb (get_or a (c - 1) 0) n) e))
        (ltb-true c (length a) (and_left (ltb c (length a)) (ltb (get_or a (c - 1) 0) n) e)) in
        λ j. record { result = g.result j; first = g.first j }
    go false e = refl
