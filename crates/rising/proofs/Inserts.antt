-- A number found by its place in a run: taken out, put in, or the run cut there. Assumes nothing.
use Rattle.std.proofs.Common.{◌≡◌, ℕ, suc, ◌+◌, ◌-◌, ◌<◌, ◌≤◌, min, max, Bool, true, false, cond, ◌||◌, eqb, ltb, leb, List, [], ◌∷◌, ◌++◌, length, take, drop, set, sym, refl, ap, ◌∙◌, append_assoc, append-nil, suc-le-suc, zero-le, lt_irrefl, arith, length-append, length-drop, length-take, length-take-le, take_all, le-ltb, lt-ltb, eq-eqb, ne_eqb, eqb-true, le-leb, leb-false, leb-true}
use mathlib.Core.Bool.{false≢true}
use lib.Seq.{drop-append-le, set_at}
use borrow.Author.Tests.{lt-leb, eqb-false}
use Rattle.numbers.specs.Promise.{Gives1}
use Rattle.sets.specs.Sets.{insert}
use Rattle.rising.specs.Runs.{place_of, holds_at, put_in, insert_within, newest, over, in_room}
use Rattle.sets.proofs.Bools.{or_no, neither}
use Rattle.sets.proofs.Loops.{done}
use Rattle.rising.proofs.Lists.{dropped}
use Rattle.rising.proofs.Rooms.{changed, unchanged, alike}

pub place_le : (n : ℕ) (l : List ℕ) → place_of n l ≤ length l
place_le n [] = zero-le
place_le n (x ∷ xs) = go (leb n x) (place_le n xs)
  where
    go : (t : Bool) → place_of n xs ≤ length xs → cond t 0 (suc (place_of n xs)) ≤ suc (length xs)
    go true h = zero-le
    go false h = suc-le-suc h

pub place_mono : (lo hi : ℕ) (l : List ℕ) → lo ≤ hi → place_of lo l ≤ place_of hi l
place_mono lo hi [] q = zero-le
place_mono lo hi (x ∷ xs) q = go (leb lo x) refl (leb hi x) refl (place_mono lo hi xs q)
  where
    go : (s : Bool) → leb lo x ≡ s → (t : Bool) → leb hi x ≡ t → place_of lo xs ≤ place_of hi xs → cond s 0 (suc (place_of lo xs)) ≤ cond t 0 (suc (place_of hi xs))
    go true d t e r = zero-le
    go false d true e r = absurd (omega (arith, leb-false lo x d, leb-true hi x e))
    go false d false e r = suc-le-suc r

pub insert-has : (n : ℕ) (l : List ℕ) → holds_at n l (place_of n l) ≡ true → insert n l ≡ l
insert-has n [] h = absurd (false≢true h)
insert-has n (x ∷ xs) h = go (leb n x) refl h (insert-has n xs)
  where
    go : (t : Bool) → leb n x ≡ t → holds_at n (x ∷ xs) (cond t 0 (suc (place_of n xs))) ≡ true → (holds_at n xs (place_of n xs) ≡ true → insert n xs ≡ xs) → insert n (x ∷ xs) ≡ x ∷ xs
    go true e q r = let z = eqb-true x n q in rw (le-ltb n x (omega arith), eq-eqb n x (sym z))
    go false e q r =
        let w = leb-false n x e in
        rw (le-ltb n x (omega arith), ne_eqb n x (λ z. lt_irrefl n (omega arith))) (ap (λ (y : List ℕ). x ∷ y) (r q))

pub insert_new : (n : ℕ) (l : List ℕ) → holds_at n l (place_of n l) ≡ false → insert n l ≡ put_in (place_of n l) n l
insert_new n [] h = refl
insert_new n (x ∷ xs) h = go (leb n x) refl h (insert_new n xs)
  where
    go : (t : Bool) → leb n x ≡ t → holds_at n (x ∷ xs) (cond t 0 (suc (place_of n xs))) ≡ false → (holds_at n xs (place_of n xs) ≡ false → insert n xs ≡ put_in (place_of n xs) n xs)
        → insert n (x ∷ xs) ≡ put_in (cond t 0 (suc (place_of n xs))) n (x ∷ xs)
    go true e q r =
        let d = eqb-false x n q in
        let w = leb-true n x e in
        rw (lt-ltb n x (below n x w d))
      where
        below : (n x : ℕ) → n ≤ x → (x ≡ n → ⊥) → n < x
        below n x w d = omega arith
    go false e q r =
        let w = leb-false n x e in
        rw (le-ltb n x (omega arith), ne_eqb n x (λ z. lt_irrefl n (omega arith))) (ap (λ (y : List ℕ). x ∷ y) (r q))

pub insert_le : (n : ℕ) (l : List ℕ) → length (insert n l) ≤ suc (length l)
insert_le n [] = omega arith
insert_le n (x ∷ xs) = lt (ltb n x) (insert_le n xs)
  where
    eq : (t : Bool) → length (insert n xs) ≤ suc (length xs) → length (cond t (x ∷ xs) (x ∷ insert n xs)) ≤ suc (suc (length xs))
    eq true h = omega arith
    eq false h = omega arith

    lt : (t : Bool) → length (insert n xs) ≤ suc (length xs) → length (cond t (n ∷ x ∷ xs) (cond (eqb n x) (x ∷ xs) (x ∷ insert n xs))) ≤ suc (suc (length xs))
    lt true h = omega arith
    lt false h = eq (eqb n x) h

pub put-length : (i n : ℕ) (l : List ℕ) → length (put_in i n l) ≡ suc (length l)
put-length i n l = simp (length-append, length-take, length-drop) (omega arith)

newest-few : (m n : ℕ) (l : List ℕ) → length (insert n l) ≤ m → newest m n l ≡ insert n l
newest-few m n l q = let z : length (insert n l) - m ≡ 0 = omega arith in ap (λ (x : ℕ). drop x (insert n l)) z

-- in the run of c numbers of a room a, i is the place of n
module _ (c n i : ℕ) (a : List ℕ) (e : i ≡ place_of n (take c a)) where
  pub place_in : i ≤ c
  place_in = omega (arith, place_le n (take c a), length-take c a)

  -- t says whether it is there
  module _ (t : Bool) (p : t ≡ holds_at n (take c a) i) where
    is_held : t ≡ true → insert n (take c a) ≡ take c a
    is_held q = insert-has n (take c a) (ap (holds_at n (take c a)) (sym e) ∙ sym p ∙ q)

    is_new : t ≡ false → insert n (take c a) ≡ put_in i n (take c a)
    is_new q = insert_new n (take c a) (ap (holds_at n (take c a)) (sym e) ∙ sym p ∙ q) ∙ ap (λ (x : ℕ). put_in x n (take c a)) (sym e)

    new_length : t ≡ false → length (insert n (take c a)) ≡ suc (length (take c a))
    new_length q = ap length (is_new q) ∙ put-length i n (take c a)

    within_same : insert n (take c a) ≡ take c a → insert_within (length a) n (take c a) ≡ take c a
    within_same q = go (leb (length (insert n (take c a))) (length a))
      where
        go : (b : Bool) → cond b (insert n (take c a)) (take c a) ≡ take c a
        go true = q
        go false = refl

    pub insert-held : t ≡ true → Gives1 c a (in_room (insert_within (length a) n) c a)
    insert-held q = unchanged (insert_within (length a) n) c a (within_same (is_held q))

    newest-held : c ≤ length a → t ≡ true → Gives1 c a (in_room (newest (length a) n) c a)
    newest-held h q = unchanged (newest (length a) n) c a (newest-few (length a) n (take c a) (omega (arith, ap length (is_held q), length-take c a)) ∙ is_held q)

    -- there is no room for it
    pub insert-full : t ≡ false → length a ≤ c → Gives1 c a (in_room (insert_within (length a) n) c a)
    insert-full q f =
        unchanged (insert_within (length a) n) c a
        (ap (λ (b : Bool). cond b (insert n (take c a)) (take c a)) (lt-leb (length (insert n (take c a))) (length a) (omega (arith, new_length q, length-take c a))))

    module _ (r : ℕ) (u : List ℕ) (k : (r ≡ c + 1) × (u ≡ over a c (put_in i n (take c a)))) (q : t ≡ false) (f : c < length a) where
      put_count : r ≡ length (insert n (take c a))
      put_count = omega (arith, new_length q, length-take c a)

      put-room : u ≡ over a c (insert n (take c a))
      put-room = k.1 ∙ ap (over a c) (sym (is_new q))

      pub insert-put : Gives1 r u (in_room (insert_within (length a) n) c a)
      insert-put =
          let w : insert_within (length a) n (take c a) ≡ insert n (take c a) =
          ap (λ (b : Bool). cond b (insert n (take c a)) (take c a)) (le-leb (length (insert n (take c a))) (length a) (omega (arith, new_length q, length-take c a))) in
          changed (insert_within (length a) n) c a (omega arith) r u (put_count ∙ ap length (sym w)) (put-room ∙ ap (over a c) (sym w))

    module _ (q : t ≡ false) (f : c ≡ length a) where
      one_out : newest (length a) n (take c a) ≡ drop 1 (put_in i n (take c a))
      one_out =
          let z : length (insert n (take c a)) - length a ≡ 1 = omega (arith, new_length q, length-take c a) in
          ap (λ (x : ℕ). drop x (insert n (take c a))) z ∙ ap (drop 1) (is_new q)

      -- it is the smallest itself
      newest-first : i ≡ 0 → Gives1 c a (in_room (newest (length a) n) c a)
      newest-first z = unchanged (newest (length a) n) c a (one_out ∙ ap (λ (x : ℕ). drop 1 (put_in x n (take c a))) z)

      -- those below it move down by one
      newest-moved : (u : List ℕ) → 0 < i → u ≡ set (dropped 1 (take i a) ++ drop i a) (i - 1) n → Gives1 c u (in_room (newest (length a) n) c a)
      newest-moved u z w =
          let pi = place_in in
          let al : take c a ≡ a = take_all c a (omega arith) in
          let li : length (take i a) ≡ i = length-take-le i a (omega arith) in
          let m1 : min 1 (length (take i a)) ≡ 1 = omega arith in
          let ld : length (drop 1 (take i a)) ≡ i - 1 = length-drop 1 (take i a) ∙ ap (λ (x : ℕ). x - 1) li in
          let o : newest (length a) n (take c a) ≡ drop 1 (take i a) ++ (n ∷ drop i a) =
          one_out ∙ ap (λ (x : List ℕ). drop 1 (put_in i n x)) al ∙ drop-append-le 1 (take i a) (n ∷ drop i a) (omega arith) in
          let lo : length (drop 1 (take i a) ++ (n ∷ drop i a)) ≡ c = simp (length-append, length-drop) (omega (arith, li, length-drop i a)) in
          let room : set (dropped 1 (take i a) ++ drop i a) (i - 1) n ≡ drop 1 (take i a) ++ (n ∷ drop i a) =
          rw (m1, append_assoc (drop 1 (take i a)), set_at (drop 1 (take i a)) 0 (drop i a) n (i - 1) ld) in
          let nx : drop (max c c) a ≡ [] = done a (max c c) (omega arith) in
          let cc0 : c - c ≡ 0 = omega arith in
          changed (newest (length a) n) c a (omega arith) c u (sym (ap length o ∙ lo)) (w ∙ room ∙ sym (ap (over a c) o ∙ rw (lo, cc0, nx, append-nil)))

-- the newest, where there is room for one more
pub newest-room : (c n : ℕ) (a : List ℕ) → c < length a → (r : ℕ) (u : List ℕ) → Gives1 r u (in_room (insert_within (length a) n) c a) → Gives1 r u (in_room (newest (length a) n) c a)
newest-room c n a h r u g =
    let f : length (insert n (take c a)) ≤ length a = omega (arith, insert_le n (take c a), length-take c a) in
    alike (newest (length a) n) c a (insert_within (length a) n) r u g
    (ap (λ (b : Bool). cond b (insert n (take c a)) (take c a)) (le-leb (length (insert n (take c a))) (length a) f) ∙ sym (newest-few (length a) n (take c a) f))

-- and where there is none
module _ (c n i : ℕ) (a : List ℕ) (f : c ≡ length a) (e : i ≡ place_of n a) (t : Bool) (p : t ≡ holds_at n a i) where
  whole : a ≡ take c a
  whole = sym (take_all c a (omega arith))

  fits : c ≤ length a
  fits = omega arith

  at : i ≡ place_of n (take c a)
  at = e ∙ ap (place_of n) whole

  is : t ≡ holds_at n (take c a) i
  is = p ∙ ap (λ (x : List ℕ). holds_at n x i) whole

  pub newest-same : (eqb i 0 || t) ≡ true → Gives1 c a (in_room (newest (length a) n) c a)
  newest-same w = go t refl
    where
      go : (b : Bool) → t ≡ b → Gives1 c a (in_room (newest (length a) n) c a)
      go true q = newest-held c n i a at t is fits q
      go false q = newest-first c n i a at t is q f (eqb-true i 0 (sym (or_no (eqb i 0)) ∙ ap (λ (x : Bool). eqb i 0 || x) (sym q) ∙ w))

  pub newest_other : (eqb i 0 || t) ≡ false → (u : List ℕ) → u ≡ set (dropped 1 (take i a) ++ drop i a) (i - 1) n → Gives1 c u (in_room (newest (length a) n) c a)
  newest_other w u k = newest-moved c n i a at t is (neither (eqb i 0) t w).1 f u (omega (arith, eqb-false i 0 (neither (eqb i 0) t w).0)) k
