-- The room, when a run in it has changed. Assumes nothing.
use Rattle.std.proofs.Common.{◌≡◌, ℕ, zero, suc, ◌+◌, ◌-◌, ◌<◌, ◌≤◌, min, max, Bool, true, false, leb, List, [], ◌∷◌, ◌++◌, length, take, drop, replicate, sym, refl, ap, ◌∙◌, subst, append_assoc, append-nil, arith, length-append, length-drop, take-append-drop, length-take, length-take-le, take_all, take-take, drop-drop, le-leb, leb-false, leb-true}
use lib.ListN.{length-replicate}
use lib.Seq.{take-nil, take-append-add}
use borrow.Author.Tests.{lt-leb}
use Rattle.numbers.specs.Promise.{Gives1}
use Rattle.rising.specs.Runs.{over, in_room, cut_out, opened, opened_within}
use Rattle.sets.proofs.Loops.{done}
use Rattle.rising.proofs.Lists.{dropped, lifted}

pub drop-take : (i c : ℕ) (a : List ℕ) → drop i (take c a) ≡ take (c - i) (drop i a)
drop-take zero c a = let e : c ≡ c - 0 = omega arith in ap (λ (x : ℕ). take x a) e
drop-take (suc i) zero a = let e : 0 ≡ 0 - suc i = omega arith in ap (λ (x : ℕ). take x (drop (suc i) a)) e
drop-take (suc i) (suc c) [] = sym (take-nil (suc c - suc i))
drop-take (suc i) (suc c) (m ∷ ms) = let e : c - i ≡ suc c - suc i = omega arith in drop-take i c ms ∙ ap (λ (x : ℕ). take x (drop i ms)) e

-- the part that stood from i to e comes back as z
abbrev pub back : ℕ → ℕ → List ℕ → List ℕ → List ℕ
back i e a z = take i a ++ (z ++ drop (e - i) (drop i a))

rest : (i e : ℕ) (a : List ℕ) → i ≤ e → drop (e - i) (drop i a) ≡ drop e a
rest i e a h = let q : i + (e - i) ≡ e = omega arith in drop-drop (e - i) i a ∙ ap (λ (x : ℕ). drop x a) q

pub room_cut : (i k c : ℕ) (a : List ℕ) → i + k ≤ c → c ≤ length a
    → back i c a (dropped k (take (c - i) (drop i a))) ≡ over a c (cut_out i k (take c a))
room_cut i k c a h r =
    let x = take (c - i) (drop i a) in
    let lx : length x ≡ c - i = simp (length-take, length-drop) (omega arith) in
    let q : x ≡ drop i (take c a) = sym (drop-take i c a) in
    let d : drop k x ≡ drop (i + k) (take c a) = ap (λ (y : List ℕ). drop k y) q ∙ drop-drop k i (take c a) in
    let p3 : take i (take c a) ≡ take i a = take-take i c a (omega arith) in
    let m1 : min k (length x) ≡ k = rw lx (omega arith) in
    let ll : length (take i a ++ drop (i + k) (take c a)) ≡ c - k = simp (length-append, length-take, length-drop) (omega arith) in
    let z : c - (c - k) ≡ k = omega arith in
    let m : max c (c - k) ≡ c = omega arith in
    rw (m1, d, p3, rest i c a (omega arith), ll, z, m, append_assoc, append_assoc)

opened-length : (i k : ℕ) (l : List ℕ) → i ≤ length l → length (opened i k l) ≡ length l + k
opened-length i k l h = simp (length-append, length-take, length-drop, length-replicate) (omega arith)

pub room_open : (i k c : ℕ) (a : List ℕ) → i ≤ c → c + k ≤ length a
    → back i (c + k) a (lifted k (take (c + k - i) (drop i a))) ≡ over a c (opened i k (take c a))
room_open i k c a h r =
    let x = take (c + k - i) (drop i a) in
    let lx : length x ≡ c + k - i = simp (length-take, length-drop) (omega arith) in
    let m1 : min k (length x) ≡ k = rw lx (omega arith) in
    let m2 : length x - k ≡ c - i = rw lx (omega arith) in
    let q : take (c - i) x ≡ drop i (take c a) = take-take (c - i) (c + k - i) (drop i a) (omega arith) ∙ sym (drop-take i c a) in
    let p3 : take i (take c a) ≡ take i a = take-take i c a h in
    let lc = length-take-le c a (omega arith) in
    let ll : length (opened i k (take c a)) ≡ c + k = opened-length i k (take c a) (omega arith) ∙ ap (λ (y : ℕ). y + k) lc in
    let z : c - (c + k) ≡ 0 = omega arith in
    let m : max c (c + k) ≡ c + k = omega arith in
    rw (m1, m2, q, rest i (c + k) a (omega arith), ll, z, m, p3, append_assoc (take i a))

-- nothing has changed
pub room-same : (c : ℕ) (a : List ℕ) → c ≤ length a → a ≡ over a c (take c a)
room-same c a r =
    let ll : length (take c a) ≡ c = simp length-take (omega arith) in
    let z : c - c ≡ 0 = omega arith in
    let m : max c c ≡ c = omega arith in
    rw (ll, z, m) (sym (take-append-drop c a))

-- THE PROMISE OF A CHANGE

module _ (f : List ℕ → List ℕ) (c : ℕ) (a : List ℕ) where
  pub past_room : length a < c → Gives1 c a (in_room f c a)
  past_room h = rw (lt-leb c (length a) h) (record { result = refl; first = refl })

  -- by another change, of which the same comes
  pub alike : (g : List ℕ → List ℕ) (r : ℕ) (u : List ℕ) → Gives1 r u (in_room g c a) → g (take c a) ≡ f (take c a) → Gives1 r u (in_room f c a)
  alike g r u p e = subst (λ (l : List ℕ). Gives1 r u (in_room (λ _. l) c a)) e p

  module _ (h : c ≤ length a) where
    pub changed : (r : ℕ) (u : List ℕ) → r ≡ length (f (take c a)) → u ≡ over a c (f (take c a)) → Gives1 r u (in_room f c a)
    changed r u e d = rw (le-leb c (length a) h) (record { result = e; first = d })

    pub as_well : (g : List ℕ → List ℕ) (r : ℕ) (u : List ℕ) → Gives1 r u (in_room g c a) → g (take c a) ≡ f (take c a) → Gives1 r u (in_room f c a)
    as_well = alike

  pub unchanged : f (take c a) ≡ take c a → Gives1 c a (in_room f c a)
  unchanged e = go (leb c (length a)) refl
    where
      go : (t : Bool) → leb c (length a) ≡ t → Gives1 c a (in_room f c a)
      go true q = let h = leb-true c (length a) q in changed h c a (sym (length-take-le c a h) ∙ ap length (sym e)) (room-same c a h ∙ ap (over a c) (sym e))
      go false q = past_room (leb-false c (length a) q)

cut_most : (i k gone : ℕ) (l : List ℕ) → gone ≡ min k (length l - i) → drop (i + gone) l ≡ drop (i + k) l
cut_most i k gone l e = go (leb k (length l - i)) refl
  where
    go : (t : Bool) → leb k (length l - i) ≡ t → drop (i + gone) l ≡ drop (i + k) l
    go true q = let z : gone ≡ k = omega (arith, leb-true k (length l - i) q) in ap (λ (x : ℕ). drop (i + x) l) z
    go false q =
        let w = leb-false k (length l - i) q in
        done l (i + gone) (omega arith) ∙ sym (done l (i + k) (omega arith))

module _ (i k c : ℕ) (a : List ℕ) (h : c ≤ length a) where
  pub cut_some : (gone : ℕ) (u : List ℕ) → i < c → gone ≡ min k (c - i) → u ≡ back i c a (dropped gone (take (c - i) (drop i a))) → Gives1 (c - gone) u (in_room (cut_out i k) c a)
  cut_some gone u q e w =
      let l = length-take-le c a h in
      let d : drop (i + gone) (take c a) ≡ drop (i + k) (take c a) = cut_most i k gone (take c a) (e ∙ ap (λ (x : ℕ). min k (x - i)) (sym l)) in
      let n : length (cut_out i gone (take c a)) ≡ c - gone = simp (length-append, length-take, length-drop) (omega arith) in
      alike (cut_out i k) c a (cut_out i gone) (c - gone) u
      (changed (cut_out i gone) c a h (c - gone) u (sym n) (w ∙ room_cut i gone c a (omega arith) h))
      (ap (λ (x : List ℕ). take i (take c a) ++ x) d)

-- by an opening, with what falls out at the end of the room
take-zeros : (j k : ℕ) (y : List ℕ) → take j (replicate k 0 ++ y) ≡ replicate (min k j) 0 ++ take (j - k) y
take-zeros zero k y =
    let e : min k 0 ≡ 0 = omega arith in
    let f : 0 - k ≡ 0 = omega arith in
    rw (e, f)
take-zeros (suc j) zero y =
    let e : min 0 (suc j) ≡ 0 = omega arith in
    let f : suc j - 0 ≡ suc j = omega arith in
    rw (e, f)
take-zeros (suc j) (suc k) y =
    let e : min (suc k) (suc j) ≡ suc (min k j) = omega arith in
    let f : suc j - suc k ≡ j - k = omega arith in
    rw (e, f) (ap (λ (x : List ℕ). 0 ∷ x) (take-zeros j k y))

-- past the run's end is at its end
open_at : (i k at : ℕ) (l : List ℕ) → at ≡ min i (length l) → opened at k l ≡ opened i k l
open_at i k at l e = go (leb i (length l)) refl
  where
    go : (t : Bool) → leb i (length l) ≡ t → opened at k l ≡ opened i k l
    go true q = let z : at ≡ i = omega (arith, leb-true i (length l) q) in ap (λ (x : ℕ). opened x k l) z
    go false q =
        let w = leb-false i (length l) q in
        rw (take_all at l (omega arith), take_all i l (omega arith), done l at (omega arith), done l i (omega arith))

-- where the room ends within it
room_end : (at k : ℕ) (c : ℕ) (a : List ℕ) → at ≤ c → c ≤ length a → length a ≤ c + k
    → back at (length a) a (lifted k (take (length a - at) (drop at a))) ≡ over a c (opened_within (length a) at k (take c a))
room_end at k c a h r q =
    let m = length a in
    let lc = length-take-le c a r in
    let all : take (length a - at) (drop at a) ≡ drop at a = take_all (length a - at) (drop at a) (omega (arith, length-drop at a)) in
    let ld : length (drop at a) ≡ length a - at = length-drop at a in
    let la : length (take at (take c a)) ≡ at = length-take-le at (take c a) (omega arith) in
    let la2 : length a ≡ length (take at (take c a)) + (length a - at) = omega arith in
    let y : take (length a - at - k) (drop at (take c a)) ≡ take (length a - at - k) (drop at a) = ap (take (length a - at - k)) (drop-take at c a) ∙ take-take (length a - at - k) (c - at) (drop at a) (omega arith) in
    let o : opened_within (length a) at k (take c a) ≡ take at (take c a) ++ (replicate (min k (length a - at)) 0 ++ take (length a - at - k) (drop at a)) =
    ap (λ (x : ℕ). take x (opened at k (take c a))) la2 ∙ take-append-add (take at (take c a)) (replicate k 0 ++ drop at (take c a)) (length a - at)
    ∙ ap (λ (x : List ℕ). take at (take c a) ++ x) (take-zeros (length a - at) k (drop at (take c a)) ∙ ap (λ (x : List ℕ). replicate (min k (length a - at)) 0 ++ x) y) in
    let lo : length (opened_within (length a) at k (take c a)) ≡ length a = length-take-le (length a) (opened at k (take c a)) (omega (arith, opened-length at k (take c a) (omega arith))) in
    let z : c - length a ≡ 0 = omega arith in
    let mx : max c (length a) ≡ length a = omega arith in
    let n : drop (length a) a ≡ [] = done a (length a) (omega arith) in
    rw (all, ld, rest at (length a) a (omega arith), lo, z, mx, n, append-nil, append-nil, o, take-take at c a h)

module _ (i k c : ℕ) (a : List ℕ) (h : c ≤ length a) (at end : ℕ) (u : List ℕ) (p : at ≡ min i c) (e : end ≡ c + min k (length a - c))
    (w : u ≡ back at end a (lifted k (take (end - at) (drop at a)))) where
  pub open_done : Gives1 end u (in_room (opened_within (length a) i k) c a)
  open_done = go (leb (c + k) (length a)) refl
    where
      lc : length (take c a) ≡ c
      lc = length-take-le c a h

      same : opened at k (take c a) ≡ opened i k (take c a)
      same = open_at i k at (take c a) (p ∙ ap (min i) (sym lc))

      long : length (opened at k (take c a)) ≡ c + k
      long = opened-length at k (take c a) (omega (arith, lc)) ∙ ap (λ (y : ℕ). y + k) lc

      within : opened_within (length a) at k (take c a) ≡ opened_within (length a) i k (take c a)
      within = ap (take (length a)) same

      go : (t : Bool) → leb (c + k) (length a) ≡ t → Gives1 end u (in_room (opened_within (length a) i k) c a)
      go true q =
          let f : c + k ≤ length a = leb-true (c + k) (length a) q in
          let ee : end ≡ c + k = omega arith in
          let al : opened_within (length a) at k (take c a) ≡ opened at k (take c a) = take_all (length a) (opened at k (take c a)) (omega (arith, long)) in
          changed (opened_within (length a) i k) c a h end u
          (ee ∙ sym long ∙ ap length (sym al ∙ within))
          (w ∙ ap (λ (x : ℕ). back at x a (lifted k (take (x - at) (drop at a)))) ee ∙ room_open at k c a (omega arith) f ∙ ap (over a c) (sym al ∙ within))
      go false q =
          let f : length a < c + k = leb-false (c + k) (length a) q in
          let ee : end ≡ length a = omega arith in
          let lo : length (opened_within (length a) at k (take c a)) ≡ length a = length-take-le (length a) (opened at k (take c a)) (omega (arith, long)) in
          changed (opened_within (length a) i k) c a h end u
          (ee ∙ sym lo ∙ ap length within)
          (w ∙ ap (λ (x : ℕ). back at x a (lifted k (take (x - at) (drop at a)))) ee ∙ room_end at k c a (omega arith) h (omega arith) ∙ ap (over a c) within)
