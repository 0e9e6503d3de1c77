-- What the runs mean: the check of a room reads as a rising set and zeros, and each change of a rising run is the change of the set. Assumes nothing.
use Rattle.std.proofs.Common.{◌≡◌, ℕ, zero, suc, ◌+◌, ◌-◌, ◌<◌, ◌≤◌, max, Bool, true, false, cond, not, ◌&&◌, ◌||◌, eqb, ltb, leb, List, [], ◌∷◌, ◌++◌, length, take, drop, replicate, sym, refl, ap, ◌∙◌, lt_irrefl, arith, length-append, length-drop, take-append-drop, length-take-le, drop-drop, take_at, drop_at, ltb-true, le-ltb, lt-ltb, eq-eqb, ne_eqb, eqb-true, le-leb, leb-false, leb-true}
use mathlib.Core.Bool.{false≢true}
use lib.ListN.{length-replicate, replicate-append-replicate}
use borrow.Author.Tests.{eqb-false}
use Rattle.numbers.specs.Capacities.{top_number}
use Rattle.numbers.specs.Promise.{Gives1}
use Rattle.sets.specs.Sets.{has, From, only, between, without, insert, union, smallest, largest}
use Rattle.sets.proofs.Bools.{and_left, and_right, and_both, or_right}
use Rattle.sets.proofs.Has.{From-low, From_weak, has-only, has-insert, has-union, From-insert, From-union, From-only}
use Rattle.sets.proofs.Smallest.{From-take, From-drop, has_take_sub, has_drop_sub}
use Rattle.rising.specs.Runs.{rises_above, zeros, run_coherent, room_of, place_of, holds_at, cut_out, removed, from_on, before, over, in_room}

-- A RISING RUN: strictly, above p, and none above the last number

pub record Rising (p : ℕ) (l : List ℕ) : Type 0 where
  pub from : From (suc p) l
  pub top : (n : ℕ) → has l n ≡ true → n ≤ top_number

pub rises_are : (p : ℕ) (l : List ℕ) → rises_above p l ≡ true → Rising p l
rises_are p [] e = record { from = tt; top = λ n h. absurd (false≢true h) }
rises_are p (x ∷ xs) e =
    let f = and_right (ltb p x) (leb x top_number && rises_above x xs) e in
    let t : x ≤ top_number = leb-true x top_number (and_left (leb x top_number) (rises_above x xs) f) in
    let r = rises_are x xs (and_right (leb x top_number) (rises_above x xs) f) in
    record { from = (ltb-true p x (and_left (ltb p x) (leb x top_number && rises_above x xs) e), r.from); top = λ n h. go n (eqb x n) refl h t (r.top n) }
  where
    go : (n : ℕ) (t : Bool) → eqb x n ≡ t → (t || has xs n) ≡ true → x ≤ top_number → (has xs n ≡ true → n ≤ top_number) → n ≤ top_number
    go n true q h t r = omega (arith, eqb-true x n q)
    go n false q h t r = r h

pub are_rising : (p : ℕ) (l : List ℕ) → Rising p l → rises_above p l ≡ true
are_rising p [] r = refl
are_rising p (x ∷ xs) r =
    and_both (ltb p x) (leb x top_number && rises_above x xs) (lt-ltb p x r.from.0)
    (and_both (leb x top_number) (rises_above x xs) (le-leb x top_number (r.top x (ap (λ (t : Bool). t || has xs x) (eq-eqb x x refl))))
    (are_rising x xs (record { from = r.from.1; top = λ n h. r.top n (or_right (eqb x n) (has xs n) h) })))

-- what keeps a run rising
pub rising_sub : (p : ℕ) (l m : List ℕ) → Rising p l → From (suc p) m → ((n : ℕ) → has m n ≡ true → has l n ≡ true) → Rising p m
rising_sub p l m r f s = record { from = f; top = λ n h. r.top n (s n h) }

has_only_sub : (q : ℕ → Bool) (l : List ℕ) (n : ℕ) → has (only q l) n ≡ true → has l n ≡ true
has_only_sub q l n h = and_right (q n) (has l n) (sym (has-only q l n) ∙ h)

pub rising_only : (p : ℕ) (q : ℕ → Bool) (l : List ℕ) → Rising p l → Rising p (only q l)
rising_only p q l r = rising_sub p l (only q l) r (From-only (suc p) q l r.from) (has_only_sub q l)

pub rising_smallest : (p m : ℕ) (l : List ℕ) → Rising p l → Rising p (smallest m l)
rising_smallest p m l r = rising_sub p l (smallest m l) r (From-take m (suc p) l r.from) (has_take_sub m l)

pub rising_largest : (p m : ℕ) (l : List ℕ) → Rising p l → Rising p (largest m l)
rising_largest p m l r = rising_sub p l (largest m l) r (From-drop (length l - m) (suc p) l r.from) (has_drop_sub (length l - m) l)

pub rising_insert : (p n : ℕ) (l : List ℕ) → p < n → n ≤ top_number → Rising p l → Rising p (insert n l)
rising_insert p n l h t r = record { from = From-insert (suc p) n l h r.from; top = λ m q. go m (eqb n m) refl (sym (has-insert n m l) ∙ q) }
  where
    go : (m : ℕ) (b : Bool) → eqb n m ≡ b → (b || has l m) ≡ true → m ≤ top_number
    go m true e q = omega (arith, eqb-true n m e)
    go m false e q = r.top m q

pub rising_union : (p : ℕ) (l m : List ℕ) → Rising p l → Rising p m → Rising p (union l m)
rising_union p l m r s =
    record { from = From-union (suc p) l m (λ n h. From-low (suc p) l n r.from h) s.from; top = λ n h. go n (has l n) refl (sym (has-union l m n) ∙ h) }
  where
    go : (n : ℕ) (b : Bool) → has l n ≡ b → (b || has m n) ≡ true → n ≤ top_number
    go n true e q = r.top n e
    go n false e q = s.top n q

pub rising_weak : (p q : ℕ) (l : List ℕ) → p ≤ q → Rising q l → Rising p l
rising_weak p q l h r = record { from = From_weak (suc p) (suc q) l (omega arith) r.from; top = r.top }

-- A ROOM THAT PASSES THE CHECK: a rising run, and zeros; and the other way round

pub record RunIs (p count : ℕ) (room : List ℕ) : Type 0 where
  pub fits : count ≤ length room
  pub rises : Rising p (take count room)
  pub zero : zeros (drop count room) ≡ true

pub run_is : (p count : ℕ) (room : List ℕ) → run_coherent p count room ≡ true → RunIs p count room
run_is p count room e =
    let f : (rises_above p (take count room) && zeros (drop count room)) ≡ true = and_right (leb count (length room)) (rises_above p (take count room) && zeros (drop count room)) e in
    record {
      fits = leb-true count (length room) (and_left (leb count (length room)) (rises_above p (take count room) && zeros (drop count room)) e);
      rises = rises_are p (take count room) (and_left (rises_above p (take count room)) (zeros (drop count room)) f);
      zero = and_right (rises_above p (take count room)) (zeros (drop count room)) f;
    }

zeros_are : (l : List ℕ) → zeros l ≡ true → l ≡ replicate (length l) 0
zeros_are [] e = refl
zeros_are (x ∷ xs) e = ap (λ (n : ℕ). n ∷ xs) (eqb-true x 0 (and_left (eqb x 0) (zeros xs) e)) ∙ ap (λ (l : List ℕ). 0 ∷ l) (zeros_are xs (and_right (eqb x 0) (zeros xs) e))

are_zeros : (n : ℕ) → zeros (replicate n 0) ≡ true
are_zeros zero = refl
are_zeros (suc n) = are_zeros n

drop-zeros : (k n : ℕ) → ◌≡◌ {A = List ℕ} (drop k (replicate n 0)) (replicate (n - k) 0)
drop-zeros zero n = let e : n ≡ n - 0 = omega arith in ap (λ (k : ℕ). replicate k 0) e
drop-zeros (suc k) zero = let e : 0 ≡ 0 - suc k = omega arith in ap (λ (k : ℕ). replicate k 0) e
drop-zeros (suc k) (suc n) = let e : n - k ≡ suc n - suc k = omega arith in drop-zeros k n ∙ ap (λ (k : ℕ). replicate k 0) e

pub room_take : (m : ℕ) (l : List ℕ) → take (length l) (room_of m l) ≡ l
room_take m l = take_at l (replicate (m - length l) 0) (length l) refl

pub room-length : (m : ℕ) (l : List ℕ) → length l ≤ m → length (room_of m l) ≡ m
room-length m l h = length-append l (replicate (m - length l) 0) ∙ ap (λ (n : ℕ). length l + n) (length-replicate (m - length l) 0) ∙ omega arith

pub room_ok : (p m : ℕ) (l : List ℕ) → length l ≤ m → Rising p l → run_coherent p (length l) (room_of m l) ≡ true
room_ok p m l h r =
    rw (le-leb (length l) (length (room_of m l)) (omega (arith, room-length m l h)), room_take m l, are_rising p l r, drop_at l (replicate (m - length l) 0) (length l) refl)
    (are_zeros (m - length l))

-- the room is the canonical one of its run
pub room-is : (p count : ℕ) (room : List ℕ) → RunIs p count room → room ≡ room_of (length room) (take count room)
room-is p count room r =
    let h = r.fits in
    let e : length (drop count room) ≡ length room - length (take count room) = omega (arith, length-drop count room, length-take-le count room h) in
    sym (take-append-drop count room) ∙ ap (λ (l : List ℕ). take count room ++ l) (zeros_are (drop count room) r.zero ∙ ap (λ (n : ℕ). replicate n 0) e)

-- THE LAW OF A CHANGE: in a room that passes the check the run's change leaves the canonical room of the changed run
over-is : (p c : ℕ) (a l : List ℕ) → RunIs p c a → length l ≤ length a → over a c l ≡ room_of (length a) l
over-is p c a l r h =
    let m : max c (length l) ≡ c + (length l - c) = omega arith in
    let n : length (drop c a) ≡ length a - c = length-drop c a in
    let d : drop (max c (length l)) a ≡ replicate (length a - c - (length l - c)) 0 =
    ap (λ (x : ℕ). drop x a) m ∙ sym (drop-drop (length l - c) c a) ∙ ap (drop (length l - c)) (zeros_are (drop c a) r.zero ∙ ap (λ (x : ℕ). replicate x 0) n) ∙ drop-zeros (length l - c) (length a - c) in
    let f = r.fits in
    let k : c - length l + (length a - c - (length l - c)) ≡ length a - length l = omega arith in
    ap (λ (x : List ℕ). l ++ x) (ap (λ (x : List ℕ). replicate (c - length l) 0 ++ x) d ∙ replicate-append-replicate (c - length l) (length a - c - (length l - c)) 0 ∙ ap (λ (x : ℕ). replicate x 0) k)

pub in_room_lem : (p c : ℕ) (a : List ℕ) (f : List ℕ → List ℕ) (l : List ℕ) → RunIs p c a → f (take c a) ≡ l → length l ≤ length a
    → (r : ℕ) (u : List ℕ) → Gives1 r u (in_room f c a) → (r ≡ length l) × (u ≡ room_of (length a) l)
in_room_lem p c a f l w e h r u g =
    let q : Gives1 r u (record { result = length (f (take c a)); first = over a c (f (take c a)) }) = rw (le-leb c (length a) w.fits) at g in
    (q.result ∙ ap length e, q.first ∙ ap (over a c) e ∙ over-is p c a l w h)

-- THE CHANGES OF A RISING RUN, in the words of `sets`

pub only_all : (q : ℕ → Bool) (b : ℕ) (l : List ℕ) → From b l → ((n : ℕ) → b ≤ n → q n ≡ true) → only q l ≡ l
only_all q b [] h k = refl
only_all q b (x ∷ xs) h k = rw (k x h.0) (ap (λ (z : List ℕ). x ∷ z) (only_all q (suc x) xs h.1 (λ n w. k n (omega (arith, h.0)))))

pub only_none : (q : ℕ → Bool) (b : ℕ) (l : List ℕ) → From b l → ((n : ℕ) → b ≤ n → q n ≡ false) → only q l ≡ []
only_none q b [] h k = refl
only_none q b (x ∷ xs) h k = rw (k x h.0) (only_none q (suc x) xs h.1 (λ n w. k n (omega (arith, h.0))))

pub from_only : (n b : ℕ) (l : List ℕ) → From b l → from_on n l ≡ only (leb n) l
from_only n b [] h = refl
from_only n b (x ∷ xs) h = go (leb n x) refl (from_only n (suc x) xs h.1)
  where
    go : (t : Bool) → leb n x ≡ t → drop (place_of n xs) xs ≡ only (leb n) xs → drop (cond t 0 (suc (place_of n xs))) (x ∷ xs) ≡ cond t (x ∷ only (leb n) xs) (only (leb n) xs)
    go true e r = ap (λ (z : List ℕ). x ∷ z) (sym (only_all (leb n) (suc x) xs h.1 (λ k w. le-leb n k (omega (arith, leb-true n x e)))))
    go false e r = r

pub before-only : (n b : ℕ) (l : List ℕ) → From b l → before n l ≡ only (λ m. ltb m n) l
before-only n b [] h = refl
before-only n b (x ∷ xs) h = go (leb n x) refl (before-only n (suc x) xs h.1)
  where
    go : (t : Bool) → leb n x ≡ t → take (place_of n xs) xs ≡ only (λ m. ltb m n) xs → take (cond t 0 (suc (place_of n xs))) (x ∷ xs) ≡ only (λ m. ltb m n) (x ∷ xs)
    go true e r = let w = leb-true n x e in rw (le-ltb x n w) (sym (only_none (λ m. ltb m n) (suc x) xs h.1 (λ k z. le-ltb k n (omega arith))))
    go false e r = let w = leb-false n x e in rw (lt-ltb x n w) (ap (λ (z : List ℕ). x ∷ z) r)

pub removed-without : (n b : ℕ) (l : List ℕ) → From b l → removed n l ≡ without n l
removed-without n b [] h = refl
removed-without n b (x ∷ xs) h = go (leb n x) refl (removed-without n (suc x) xs h.1)
  where
    off : (k : ℕ) → n < k → From k xs → without n xs ≡ xs
    off k w f = only_all (λ m. not (eqb n m)) k xs f (λ m z. ap not (ne_eqb n m (λ e. lt_irrefl n (omega arith))))

    eq : (t : Bool) → eqb x n ≡ t → n ≤ x → cond t (take 0 (x ∷ xs) ++ drop 1 (x ∷ xs)) (x ∷ xs) ≡ cond (not (eqb n x)) (x ∷ without n xs) (without n xs)
    eq true e w = let z = eqb-true x n e in rw (eq-eqb n x (sym z)) (sym (off (suc x) (omega arith) h.1))
    eq false e w = let d = eqb-false x n e in rw (ne_eqb n x (λ z. d (sym z))) (ap (λ (z : List ℕ). x ∷ z) (sym (off (suc x) (omega arith) h.1)))

    past : (t : Bool) → holds_at n xs (place_of n xs) ≡ t → x < n → cond t (cut_out (place_of n xs) 1 xs) xs ≡ without n xs
        → cond t (cut_out (suc (place_of n xs)) 1 (x ∷ xs)) (x ∷ xs) ≡ cond (not (eqb n x)) (x ∷ without n xs) (without n xs)
    past true q w r =
        let z : suc (place_of n xs) + 1 ≡ suc (place_of n xs + 1) = omega arith in
        rw (z, ne_eqb n x (λ e. lt_irrefl n (omega arith))) (ap (λ (y : List ℕ). x ∷ y) r)
    past false q w r = rw (ne_eqb n x (λ e. lt_irrefl n (omega arith))) (ap (λ (y : List ℕ). x ∷ y) r)

    go : (t : Bool) → leb n x ≡ t → removed n xs ≡ without n xs
        → cond (holds_at n (x ∷ xs) (cond t 0 (suc (place_of n xs)))) (cut_out (cond t 0 (suc (place_of n xs))) 1 (x ∷ xs)) (x ∷ xs) ≡ cond (not (eqb n x)) (x ∷ without n xs) (without n xs)
    go true e r = eq (eqb x n) refl (leb-true n x e)
    go false e r = past (holds_at n xs (place_of n xs)) refl (leb-false n x e) r

-- those from b through e
pub between_is : (lo hi : ℕ) (l : List ℕ) → only (λ m. ltb m (suc hi)) (only (leb lo) l) ≡ between lo hi l
between_is lo hi [] = refl
between_is lo hi (x ∷ xs) = go (leb lo x) (between_is lo hi xs)
  where
    go : (t : Bool) → only (λ m. ltb m (suc hi)) (only (leb lo) xs) ≡ between lo hi xs
        → only (λ m. ltb m (suc hi)) (cond t (x ∷ only (leb lo) xs) (only (leb lo) xs)) ≡ cond (t && leb x hi) (x ∷ between lo hi xs) (between lo hi xs)
    go true r = up (leb x hi) refl
      where
        up : (t : Bool) → leb x hi ≡ t → cond (ltb x (suc hi)) (x ∷ only (λ m. ltb m (suc hi)) (only (leb lo) xs)) (only (λ m. ltb m (suc hi)) (only (leb lo) xs)) ≡ cond t (x ∷ between lo hi xs) (between lo hi xs)
        up true e = let w = leb-true x hi e in rw (lt-ltb x (suc hi) (omega arith), r)
        up false e = let w = leb-false x hi e in rw (le-ltb x (suc hi) (omega arith), r)
    go false r = r
