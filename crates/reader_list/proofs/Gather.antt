-- What each look over the list finds is what the definitions say of it. Assumes nothing.
use Prim.Native.Nat.{ℕ, zero, suc, ◌+◌, ◌≤◌, min, max}
use mathlib.Core.Path.{◌≡◌, refl, sym, ap, ◌∙◌}
use mathlib.Core.Bool.{Bool, true, false, not, cond, ◌&&◌, ◌||◌, false≢true}
use mathlib.Core.List.{List, [], ◌∷◌, map}
use native.Mathlib.Omega.{arith}
use denote.Ref.{Bor}
use lib.Dec.{ltb, eqb}
use lib.ListN.{length, get_or}
use borrow.Author.Tests.{lt-ltb, le-ltb, ltb-true, ltb-false, eqb-true}
use Rattle.std.specs.Prelude.{Some, None}
use Rattle.std.specs.List.{fold, filter, position, position_or_len, list_any}
use Rattle.sets.proofs.Bools.{and_assoc, and_yes, or_assoc, or_no, neither}
use Rattle.numbers.specs.Number.{rank_of}
use Rattle.reader_list.specs.declared.heads.ReaderHead.{ReaderHead}
use Rattle.reader_list.specs.Readers.{Head, meet, frontier, place_of_id, is_there, slot_coherent, slots_coherent}
use Rattle.reader_list.specs.Slots.{head_view, readers, free_slot, id_unknown}
use Rattle.reader_list.specs.Ahead.{place_found, others, front_joined}

pub length_readers : (hs : List ReaderHead) → length (readers hs) ≡ length hs
length_readers [] = refl
length_readers (h ∷ hs) = ap suc (length_readers hs)

-- ---- a place below the length is that of a reader
pub place-there : (i : ℕ) (hs : List Head) → ltb (place_of_id i hs) (length hs) ≡ is_there i hs
place-there i [] = le-ltb 0 0 (omega arith)
place-there i (h ∷ hs) = go (eqb h.id i) (place-there i hs)
  where
    less_suc : (a b : ℕ) → ltb (suc a) (suc b) ≡ ltb a b
    less_suc a b = step (ltb a b) refl
      where
        step : (t : Bool) → ltb a b ≡ t → ltb (suc a) (suc b) ≡ t
        step true e = let k = ltb-true a b e in lt-ltb (suc a) (suc b) (omega arith)
        step false e = let k = ltb-false a b e in le-ltb (suc a) (suc b) (omega arith)

    go : (t : Bool) → ltb (place_of_id i hs) (length hs) ≡ is_there i hs → ltb (cond t 0 (suc (place_of_id i hs))) (suc (length hs)) ≡ (t || is_there i hs)
    go true e = lt-ltb 0 (suc (length hs)) (omega arith)
    go false e = less_suc (place_of_id i hs) (length hs) ∙ e

-- ---- the frontier of two, and of three
pub meet_assoc : (a b c : ℕ) → meet (meet a b) c ≡ meet a (meet b c)
meet_assoc zero b c = refl
meet_assoc (suc a) zero c = refl
meet_assoc (suc a) (suc b) zero = go (min (suc a) (suc b)) (omega arith)
  where
    go : (m : ℕ) → 1 ≤ m → meet m zero ≡ m
    go zero h = absurd (omega arith)
    go (suc m) h = refl
meet_assoc (suc a) (suc b) (suc c) = go (min (suc a) (suc b)) (min (suc b) (suc c)) (omega arith) (omega arith) (omega arith)
  where
    go : (m k : ℕ) → 1 ≤ m → 1 ≤ k → min m (suc c) ≡ min (suc a) k → meet m (suc c) ≡ meet (suc a) k
    go zero k h g e = absurd (omega arith)
    go (suc m) zero h g e = absurd (omega arith)
    go (suc m) (suc k) h g e = e

-- ---- a place, or none
place_len : (i : ℕ) (hs : List ReaderHead) → position_or_len (λ h. eqb h.id i) hs ≡ place_of_id i (readers hs)
place_len i [] = refl
place_len i (h ∷ hs) = go (eqb h.id i) (place_len i hs)
  where
    go : (b : Bool) → position_or_len (λ h. eqb h.id i) hs ≡ place_of_id i (readers hs) → cond (not b) (1 + position_or_len (λ h. eqb h.id i) hs) 0 ≡ cond b 0 (suc (place_of_id i (readers hs)))
    go true e = refl
    go false e = omega (arith, e)

pub place_is : (i : ℕ) (hs : List ReaderHead) → position (λ h. eqb h.id i) hs ≡ place_found i (readers hs)
place_is i hs =
    (λ k. cond (ltb (place_len i hs k) (sym (length_readers hs) k)) (Some (place_len i hs k)) None)
    ∙ ap (λ (b : Bool). cond b (Some (place_of_id i (readers hs))) None) (place-there i (readers hs))

-- ---- every one looked at
pub has_fold : (i : ℕ) (b : Bool) (ids : List ℕ) → fold (λ b j. b || eqb j i) b ids ≡ (b || list_any (λ j. eqb j i) ids)
has_fold i b [] = sym (or_no b)
has_fold i b (j ∷ ids) = has_fold i (b || eqb j i) ids ∙ or_assoc b (eqb j i) (list_any (λ j. eqb j i) ids)

pub clean_fold : (b : Bool) (hs : List ReaderHead) → fold (λ b h. b && slot_coherent (head_view h)) b hs ≡ (b && slots_coherent (readers hs))
clean_fold b [] = sym (and_yes b)
clean_fold b (h ∷ hs) = clean_fold (b && slot_coherent (head_view h)) hs ∙ and_assoc b (slot_coherent (head_view h)) (slots_coherent (readers hs))

-- ---- the frontier
meet-none : (a : ℕ) → a ≡ meet a 0
meet-none zero = refl
meet-none (suc a) = refl

joined_on : (n : ℕ) (h : ReaderHead) (hs : List Head) → meet (front_joined n h) (frontier hs) ≡ meet n (frontier (head_view h ∷ hs))
joined_on n h hs = go h.reliable
  where
    go : (b : Bool) → meet (cond b (meet n (max 1 (rank_of h.acked))) n) (frontier hs) ≡ meet n (cond b (meet (max 1 (rank_of h.acked)) (frontier hs)) (frontier hs))
    go true = meet_assoc n (max 1 (rank_of h.acked)) (frontier hs)
    go false = refl

pub front_fold : (n : ℕ) (hs : List ReaderHead) → fold front_joined n hs ≡ meet n (frontier (readers hs))
front_fold n [] = meet-none n
front_fold n (h ∷ hs) = front_fold (front_joined n h) hs ∙ joined_on n h (readers hs)

pub others_fold : (i n : ℕ) (hs : List ReaderHead) → fold front_joined n (filter (λ h. not (eqb h.id i)) hs) ≡ meet n (frontier (others i (readers hs)))
others_fold i n [] = meet-none n
others_fold i n (h ∷ hs) = go (eqb h.id i) (λ m. others_fold i m hs)
  where
    go : (b : Bool) → ((m : ℕ) → fold front_joined m (filter (λ h. not (eqb h.id i)) hs) ≡ meet m (frontier (others i (readers hs))))
        → fold front_joined n (cond (not b) (h ∷ filter (λ h. not (eqb h.id i)) hs) (filter (λ h. not (eqb h.id i)) hs)) ≡ meet n (frontier (cond b (others i (readers hs)) (head_view h ∷ others i (readers hs))))
    go true k = k n
    go false k = k (front_joined n h) ∙ joined_on n h (others i (readers hs))

-- ---- a fold over what an iterator of a lent list gave
pub fold_lent : {A B : Type 0} (f : B → A → B) (b : B) (items : List (Bor A)) (xs : List A) → map (λ y. y.now) items ≡ xs → fold (λ b y. f b y.now) b items ≡ fold f b xs
fold_lent {A} {B} f b items xs e = go b items ∙ ap (fold f b) e
  where
    go : (b : B) (items : List (Bor A)) → fold (λ b y. f b y.now) b items ≡ fold f b (map (λ y. y.now) items)
    go b [] = refl
    go b (y ∷ ys) = go (f b y.now) ys

pub filter_lent : {A : Type 0} (t : A → Bool) (items : List (Bor A)) → map (λ y. y.now) (filter (λ y. t y.now) items) ≡ filter t (map (λ y. y.now) items)
filter_lent t [] = refl
filter_lent t (y ∷ ys) = go (t y.now) (filter_lent t ys)
  where
    go : (b : Bool) → map (λ y. y.now) (filter (λ y. t y.now) ys) ≡ filter t (map (λ y. y.now) ys)
        → map (λ y. y.now) (cond b (y ∷ filter (λ y. t y.now) ys) (filter (λ y. t y.now) ys)) ≡ cond b (y.now ∷ filter t (map (λ y. y.now) ys)) (filter t (map (λ y. y.now) ys))
    go true e = ap (λ l. y.now ∷ l) e
    go false e = e

-- ---- what stands where an id is
pub id_there : (i : ℕ) (hs : List ReaderHead) → is_there i (readers hs) ≡ true → (get_or hs (place_of_id i (readers hs)) free_slot).id ≡ i
id_there i [] e = absurd (false≢true e)
id_there i (h ∷ hs) e = go (eqb h.id i) refl e (id_there i hs)
  where
    go : (t : Bool) → eqb h.id i ≡ t → (t || is_there i (readers hs)) ≡ true → (is_there i (readers hs) ≡ true → (get_or hs (place_of_id i (readers hs)) free_slot).id ≡ i)
        → (get_or (h ∷ hs) (cond t 0 (suc (place_of_id i (readers hs)))) free_slot).id ≡ i
    go true q w k = eqb-true h.id i q
    go false q w k = k w

pub id_known : (i : ℕ) (hs : List ReaderHead) → id_unknown i (readers hs) ≡ false → (get_or hs (place_of_id i (readers hs)) free_slot).id ≡ i
id_known i hs e = id_there i hs (yes_of (is_there i (readers hs)) (neither (eqb i 0) (not (is_there i (readers hs))) e).1)
  where
    yes_of : (b : Bool) → not b ≡ false → b ≡ true
    yes_of true e = refl
    yes_of false e = sym e
