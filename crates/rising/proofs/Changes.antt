-- The calls on a rising set: refused, or the set's change done in its room. Assumes nothing.
use Rattle.std.proofs.Common.{◌≡◌, ℕ, suc, ◌+◌, ◌≤◌, Bool, true, false, cond, ◌&&◌, ◌||◌, eqb, leb, List, [], ◌∷◌, length, take, sym, refl, ap, ◌∙◌, arith, length-take, eqb-true}
use Rattle.numbers.specs.Promise.{Gives1}
use Rattle.std.specs.Prelude.{Option, is_none, unwrap_or}
use Rattle.std.specs.List.{slice_get}
use Rattle.sets.specs.Sets.{has, From, insert, only, between, empty, first_or}
use Rattle.sets.proofs.Has.{has-insert, From-insert, From-low}
use Rattle.sets.proofs.Ext.{ext}
use Rattle.rising.specs.Runs.{room_of, in_room, from_on, before}
use Rattle.rising.proofs.Meaning.{RunIs, run_is, in_room_lem, from_only, before-only, between_is, room_take, room-length, rising_only, room_ok}

pub only_le : (p : ℕ → Bool) (l : List ℕ) → length (only p l) ≤ length l
only_le p [] = omega arith
only_le p (x ∷ xs) = go (p x) (only_le p xs)
  where
    go : (t : Bool) → length (only p xs) ≤ length xs → length (cond t (x ∷ only p xs) (only p xs)) ≤ suc (length xs)
    go true h = omega arith
    go false h = omega arith

-- what is from b on, and of that what is through e
pub between-room : (p c : ℕ) (a : List ℕ) → RunIs p c a → (b e k n : ℕ) (v u : List ℕ) → Gives1 k v (in_room (from_on b) c a) → Gives1 n u (in_room (before (e + 1)) k v)
    → (n ≡ length (between b e (take c a))) × (u ≡ room_of (length a) (between b e (take c a)))
between-room p c a r b e k n v u g h =
    let l = take c a in
    let some = only (leb b) (take c a) in
    let few : length (take c a) ≤ length a = omega (arith, length-take c a) in
    let fit : length (only (leb b) (take c a)) ≤ length a = omega (arith, only_le (leb b) (take c a)) in
    let w = in_room_lem p c a (from_on b) (only (leb b) (take c a)) r (from_only b (suc p) (take c a) r.rises.from) fit k v g in
    let rs = rising_only p (leb b) (take c a) r.rises in
    let lv : length v ≡ length a = ap length w.1 ∙ room-length (length a) (only (leb b) (take c a)) fit in
    let ok : RunIs p k v = run_is p k v (rw (w.0, w.1) (room_ok p (length a) (only (leb b) (take c a)) fit rs)) in
    let tk : take k v ≡ only (leb b) (take c a) = rw (w.0, w.1) (room_take (length a) (only (leb b) (take c a))) in
    let z1 : e + 1 ≡ suc e = omega arith in
    let bt : before (e + 1) (take k v) ≡ between b e (take c a) =
    ap (before (e + 1)) tk ∙ ap (λ (x : ℕ). before x (only (leb b) (take c a))) z1 ∙ before-only (suc e) (suc p) (only (leb b) (take c a)) rs.from ∙ between_is b e (take c a) in
    let fb : length (between b e (take c a)) ≤ length a = omega (arith, only_le (λ x. leb b x && leb x e) (take c a)) in
    let y = in_room_lem p k v (before (e + 1)) (between b e (take c a)) ok bt (omega arith) n u h in
    (y.0, y.1 ∙ ap (λ (x : ℕ). room_of x (between b e (take c a))) lv)

-- the first number of a coherent run from n on, if there is one, is the first of those from n on
pub first-is : (p c : ℕ) (a : List ℕ) (n : ℕ) (r : Option ℕ) → RunIs p c a → r ≡ slice_get (from_on n (take c a)) 0 → r ≡ slice_get (only (leb n) (take c a)) 0
first-is p c a n r w e = e ∙ ap (λ (l : List ℕ). slice_get l 0) (from_only n (suc p) (take c a) w.rises.from)

-- so it is missing where there are none, and then 0 stands for it
pub first-or : (l : List ℕ) (r : Option ℕ) → r ≡ slice_get l 0 → (is_none r ≡ empty l) × (unwrap_or r 0 ≡ first_or 0 l)
first-or [] r e = rw e (refl, refl)
first-or (x ∷ xs) r e = rw e (refl, refl)

-- a member that joins changes nothing
pub insert-same : (n b : ℕ) (l : List ℕ) → From b l → has l n ≡ true → insert n l ≡ l
insert-same n b l f h =
    ext b b (insert n l) l (From-insert b n l (From-low b l n f h) f) f (λ m. has-insert n m l ∙ go m (eqb n m) refl)
  where
    go : (m : ℕ) (t : Bool) → eqb n m ≡ t → (t || has l m) ≡ has l m
    go m true e = sym (ap (has l) (sym (eqb-true n m e)) ∙ h)
    go m false e = refl
