-- A table has one form in the rooms; what a call leaves is that form of its result, and passes the check again. Assumes nothing.
use Prim.Native.Nat.{ℕ, zero, suc, ◌+◌, ◌-◌, ◌*◌, ◌≤◌, ◌<◌, max}
use mathlib.Core.Path.{◌≡◌, refl, sym, ap, ◌∙◌}
use mathlib.Core.Bool.{Bool, true, false, not, cond, ◌&&◌, false≢true}
use mathlib.Core.List.{List, [], ◌∷◌, ◌++◌, append_assoc}
use native.Mathlib.Omega.{arith}
use lib.Dec.{eqb, ltb, leb}
use lib.ListN.{length, take, drop, replicate, length-append, length-drop, replicate-append-replicate}
use lib.Seq.{length-take-le, take_at, drop_at, drop-drop}
use borrow.Author.Tests.{eqb-true, ltb-true, lt-ltb}
use Rattle.sets.specs.Sets.{empty}
use Rattle.requested_fragments.specs.Words.{fragments_of, not_asking}
use Rattle.requested_fragments.proofs.Frags.{not_asking-length}
use Rattle.rising.specs.Runs.{rises_above, zeros, over, room_of}
use Rattle.sets.proofs.Bools.{and_left, and_right, and_both}
use Rattle.rising.proofs.Meaning.{room-length}
use Rattle.numbers.specs.Capacities.{top_number}
use Rattle.requested_fragments.specs.Entries.{Entry, sent}
use Rattle.requested_fragments.specs.Table.{Block, blocks_of, samples_in, words_in, mark_t, all_hold, blocks_view, table_of, entries_of, frag_rooms_coherent, marked_in, rooms_hold}
use Rattle.requested_fragments.proofs.Blocks.{samples_of_lem, length_of, samples-length}
use Rattle.requested_fragments.proofs.Coherent.{Coherent, is-coherent, coherent-is}
use Rattle.requested_fragments.proofs.Laws.{fit}
use Rattle.requested_fragments.proofs.Meaning.{Full, full_of, mark_means}

-- ---- zeros
zeros_are : (l : List ℕ) → zeros l ≡ true → l ≡ replicate (length l) 0
zeros_are [] h = refl
zeros_are (x ∷ xs) h =
    let e : x ≡ 0 = eqb-true x 0 (and_left (eqb x 0) (zeros xs) h) in
    ap (λ (k : ℕ). k ∷ xs) e ∙ ap (λ (l : List ℕ). 0 ∷ l) (zeros_are xs (and_right (eqb x 0) (zeros xs) h))

zeros_rep : (k : ℕ) → zeros (replicate k 0) ≡ true
zeros_rep zero = refl
zeros_rep (suc k) = zeros_rep k

drop_rep : (k i : ℕ) → drop i (replicate {A = ℕ} k 0) ≡ replicate (k - i) 0
drop_rep k zero = let e : k ≡ k - 0 = omega arith in ap (λ (x : ℕ). replicate {A = ℕ} x 0) e
drop_rep zero (suc i) = let e : 0 ≡ 0 - suc i = omega arith in ap (λ (x : ℕ). replicate {A = ℕ} x 0) e
drop_rep (suc k) (suc i) = let e : k - i ≡ suc k - suc i = omega arith in drop_rep k i ∙ ap (λ (x : ℕ). replicate {A = ℕ} x 0) e

pub over-room : (k c : ℕ) (a l : List ℕ) → length a ≡ k → c ≤ k → length l ≤ k → zeros (drop c a) ≡ true → over a c l ≡ room_of k l
over-room k c a l la hc hl z =
    let m = max c (length l) in
    let d : drop c a ≡ replicate (k - c) 0 = zeros_are (drop c a) z ∙ ap (λ (x : ℕ). replicate {A = ℕ} x 0) (length-drop c a ∙ ap (λ (x : ℕ). x - c) la) in
    let e : drop m a ≡ replicate (k - m) 0 =
    (let y : m ≡ c + (m - c) = omega arith in
    let w : k - c - (m - c) ≡ k - m = omega arith in
    ap (λ (x : ℕ). drop x a) y ∙ sym (drop-drop (m - c) c a) ∙ ap (drop (m - c)) d ∙ drop_rep (k - c) (m - c) ∙ ap (λ (x : ℕ). replicate {A = ℕ} x 0) w) in
    let s : c - length l + (k - m) ≡ k - length l = omega arith in
    ap (λ (x : List ℕ). l ++ (replicate (c - length l) 0 ++ x)) e ∙ ap (λ (x : List ℕ). l ++ x) (replicate-append-replicate (c - length l) (k - m) 0 ∙ ap (λ (x : ℕ). replicate {A = ℕ} x 0) s)

-- ---- the form of a table
abbrev pub hold_t : List Block → Bool
hold_t [] = true
hold_t (b ∷ bs) = not (empty (fragments_of b.words)) && hold_t bs

-- there and back
pub blocks_back : (t : List Block) (rest : List ℕ) → Full t → blocks_of (samples_in t) (words_in t ++ rest) ≡ t
blocks_back [] rest f = refl
blocks_back (b ∷ bs) rest f =
    let q : (b.words ++ words_in bs) ++ rest ≡ b.words ++ (words_in bs ++ rest) = append_assoc b.words (words_in bs) rest in
    let x : take 64 (b.words ++ (words_in bs ++ rest)) ≡ b.words = take_at b.words (words_in bs ++ rest) 64 f.0 in
    let y : drop 64 (b.words ++ (words_in bs ++ rest)) ≡ words_in bs ++ rest = drop_at b.words (words_in bs ++ rest) 64 f.0 in
    ap (λ (w : List ℕ). record { sample = b.sample; words = take 64 w } ∷ blocks_of (samples_in bs) (drop 64 w)) q
    ∙ ap (λ (w : List ℕ). record { sample = b.sample; words = w } ∷ blocks_of (samples_in bs) (drop 64 (b.words ++ (words_in bs ++ rest)))) x
    ∙ ap (λ (w : List ℕ). b ∷ blocks_of (samples_in bs) w) y
    ∙ ap (λ (t : List Block). b ∷ t) (blocks_back bs rest f.1)

pub hold_back : (t : List Block) (rest : List ℕ) → Full t → all_hold (length t) (words_in t ++ rest) ≡ hold_t t
hold_back [] rest f = refl
hold_back (b ∷ bs) rest f =
    let q : (b.words ++ words_in bs) ++ rest ≡ b.words ++ (words_in bs ++ rest) = append_assoc b.words (words_in bs) rest in
    let x : take 64 (b.words ++ (words_in bs ++ rest)) ≡ b.words = take_at b.words (words_in bs ++ rest) 64 f.0 in
    let y : drop 64 (b.words ++ (words_in bs ++ rest)) ≡ words_in bs ++ rest = drop_at b.words (words_in bs ++ rest) 64 f.0 in
    ap (λ (w : List ℕ). not (empty (fragments_of (take 64 w))) && all_hold (length bs) (drop 64 w)) q
    ∙ ap (λ (w : List ℕ). not (empty (fragments_of w)) && all_hold (length bs) (drop 64 (b.words ++ (words_in bs ++ rest)))) x
    ∙ ap (λ (w : List ℕ). not (empty (fragments_of b.words)) && all_hold (length bs) w) y
    ∙ ap (λ (t : Bool). not (empty (fragments_of b.words)) && t) (hold_back bs rest f.1)

pub words-length : (t : List Block) → Full t → length (words_in t) ≡ 64 * length t
words-length [] f = refl
words-length (b ∷ bs) f = length-append b.words (words_in bs) ∙ omega (arith, f.0, words-length bs f.1)

-- what a table must be, where k samples can stand in the room
pub record Fit (k : ℕ) (t : List Block) : Type 0 where
  pub full : Full t
  pub small : length t ≤ k
  pub rises : rises_above 0 (samples_in t) ≡ true
  pub holds : hold_t t ≡ true

pub form_coherent : (k : ℕ) (t : List Block) → k ≤ 16 → Fit k t → Coherent (length t) (room_of k (samples_in t)) (room_of (64 * k) (words_in t))
form_coherent k t few f =
    let ls : length (samples_in t) ≡ length t = samples-length t in
    let lw : length (words_in t) ≡ 64 * length t = words-length t f.full in
    let lk : length (room_of k (samples_in t)) ≡ k = room-length k (samples_in t) (omega (arith, f.small)) in
    let lj : length (room_of (64 * k) (words_in t)) ≡ 64 * k = room-length (64 * k) (words_in t) (omega (arith, f.small)) in
    record {
      small = omega (arith, f.small);
      length_s = omega arith;
      length_w = omega arith;
      rises = ap (rises_above 0) (take_at (samples_in t) (replicate (k - length (samples_in t)) 0) (length t) ls) ∙ f.rises;
      rest_s = ap zeros (drop_at (samples_in t) (replicate (k - length (samples_in t)) 0) (length t) ls) ∙ zeros_rep (k - length (samples_in t));
      holds = hold_back t (replicate (64 * k - length (words_in t)) 0) f.full ∙ f.holds;
      rest_w = ap zeros (drop_at (words_in t) (replicate (64 * k - length (words_in t)) 0) (64 * length t) lw) ∙ zeros_rep (64 * k - length (words_in t));
    }

-- the table in that form is the table
pub form_table : (k : ℕ) (t : List Block) → Fit k t → table_of (length t) (room_of k (samples_in t)) (room_of (64 * k) (words_in t)) ≡ t
form_table k t f =
    ap (λ (ss : List ℕ). blocks_of ss (room_of (64 * k) (words_in t))) (take_at (samples_in t) (replicate (k - length (samples_in t)) 0) (length t) (samples-length t))
    ∙ blocks_back t (replicate (64 * k - length (words_in t)) 0) f.full

-- ---- a record that passes the check holds such a table
hold_of : (ss ws : List ℕ) → hold_t (blocks_of ss ws) ≡ all_hold (length ss) ws
hold_of [] ws = refl
hold_of (s ∷ ss) ws = ap (λ (t : Bool). not (empty (fragments_of (take 64 ws))) && t) (hold_of ss (drop 64 ws))

pub coherent_fit : (count : ℕ) (S W : List ℕ) → Coherent count S W → Fit (length S) (table_of count S W)
coherent_fit count S W c =
    let l : length (take count S) ≡ count = length-take-le count S c.small in
    record {
      full = full_of (take count S) W (omega (arith, l, c.small, c.length_w));
      small = omega (arith, length_of (take count S) W, l, c.small);
      rises = ap (rises_above 0) (samples_of_lem (take count S) W) ∙ c.rises;
      holds = hold_of (take count S) W ∙ ap (λ (k : ℕ). all_hold k W) l ∙ c.holds;
    }

-- ---- marking keeps it so
pub rising_weak : (p q : ℕ) (l : List ℕ) → p ≤ q → rises_above q l ≡ true → rises_above p l ≡ true
rising_weak p q [] h g = refl
rising_weak p q (x ∷ xs) h g =
    and_both (ltb p x) (leb x top_number && rises_above x xs) (lt-ltb p x (omega (arith, ltb-true q x (and_left (ltb q x) (leb x top_number && rises_above x xs) g))))
    (and_right (ltb q x) (leb x top_number && rises_above x xs) g)

pub rising_tail : (p x : ℕ) (xs : List ℕ) → rises_above p (x ∷ xs) ≡ true → (p < x) × (rises_above x xs ≡ true)
rising_tail p x xs g = (
  ltb-true p x (and_left (ltb p x) (leb x top_number && rises_above x xs) g),
  and_right (leb x top_number) (rises_above x xs) (and_right (ltb p x) (leb x top_number && rises_above x xs) g),
)

pub rising_head : (p x : ℕ) (xs ys : List ℕ) → rises_above p (x ∷ xs) ≡ true → rises_above x ys ≡ true → rises_above p (x ∷ ys) ≡ true
rising_head p x xs ys g k =
    and_both (ltb p x) (leb x top_number && rises_above x ys) (and_left (ltb p x) (leb x top_number && rises_above x xs) g)
    (and_both (leb x top_number) (rises_above x ys) (and_left (leb x top_number) (rises_above x xs) (and_right (ltb p x) (leb x top_number && rises_above x xs) g)) k)

module _ (n f : ℕ) where
  mark-full : (t : List Block) → Full t → Full (mark_t n f t)
  mark-full [] g = tt
  mark-full (b ∷ bs) g = go (eqb b.sample n) (empty (fragments_of (not_asking f b.words))) (mark-full bs g.1)
    where
      go : (x y : Bool) → Full (mark_t n f bs) → Full (cond x (cond y bs (record { sample = b.sample; words = not_asking f b.words } ∷ bs)) (b ∷ mark_t n f bs))
      go true true r = g.1
      go true false r = (not_asking-length f b.words ∙ g.0, g.1)
      go false y r = (g.0, r)

  mark-small : (t : List Block) → length (mark_t n f t) ≤ length t
  mark-small [] = omega arith
  mark-small (b ∷ bs) = go (eqb b.sample n) (empty (fragments_of (not_asking f b.words))) (mark-small bs)
    where
      go : (x y : Bool) → length (mark_t n f bs) ≤ length bs → length (cond x (cond y bs (record { sample = b.sample; words = not_asking f b.words } ∷ bs)) (b ∷ mark_t n f bs)) ≤ suc (length bs)
      go true true r = omega arith
      go true false r = omega arith
      go false y r = omega arith

  mark-rises : (p : ℕ) (t : List Block) → rises_above p (samples_in t) ≡ true → rises_above p (samples_in (mark_t n f t)) ≡ true
  mark-rises p [] g = refl
  mark-rises p (b ∷ bs) g = go (eqb b.sample n) (empty (fragments_of (not_asking f b.words))) (mark-rises b.sample bs (rising_tail p b.sample (samples_in bs) g).1)
    where
      go : (x y : Bool) → rises_above b.sample (samples_in (mark_t n f bs)) ≡ true → rises_above p (samples_in (cond x (cond y bs (record { sample = b.sample; words = not_asking f b.words } ∷ bs)) (b ∷ mark_t n f bs))) ≡ true
      go true true r = let q = rising_tail p b.sample (samples_in bs) g in rising_weak p b.sample (samples_in bs) (omega (arith, q.0)) q.1
      go true false r = g
      go false y r = rising_head p b.sample (samples_in bs) (samples_in (mark_t n f bs)) g r

  mark-holds : (t : List Block) → hold_t t ≡ true → hold_t (mark_t n f t) ≡ true
  mark-holds [] g = refl
  mark-holds (b ∷ bs) g = go (eqb b.sample n) (empty (fragments_of (not_asking f b.words))) refl (empty (fragments_of b.words)) refl g (mark-holds bs)
    where
      go : (x y : Bool) → empty (fragments_of (not_asking f b.words)) ≡ y → (z : Bool) → empty (fragments_of b.words) ≡ z → (not z && hold_t bs) ≡ true → (hold_t bs ≡ true → hold_t (mark_t n f bs) ≡ true)
          → hold_t (cond x (cond y bs (record { sample = b.sample; words = not_asking f b.words } ∷ bs)) (b ∷ mark_t n f bs)) ≡ true
      go x y e true k q r = absurd (false≢true q)
      go true true e false k q r = q
      go true false e false k q r = rw e q
      go false y e false k q r = rw k (r q)

  pub mark_fit : (k : ℕ) (t : List Block) → Fit k t → Fit k (mark_t n f t)
  mark_fit k t g = record { full = mark-full t g.full; small = omega (arith, mark-small t, g.small); rises = mark-rises 0 t g.rises; holds = mark-holds t g.holds }

-- ---- what a call leaves
pub holding_form : (count : ℕ) (S W : List ℕ) (t : List Block) → Coherent count S W → Fit (length S) t
    → (over S count (samples_in t) ≡ room_of (length S) (samples_in t)) × (over W (64 * count) (words_in t) ≡ room_of (64 * length S) (words_in t))
holding_form count S W t c f = (
  over-room (length S) count S (samples_in t) refl c.small (omega (arith, samples-length t, f.small)) c.rest_s,
  over-room (64 * length S) (64 * count) W (words_in t) c.length_w (omega (arith, c.small)) (omega (arith, words-length t f.full, f.small)) c.rest_w,
)

-- rooms with such a table in the place of theirs pass the check, hold what it means, and are as long as before
pub form_again : (count : ℕ) (S W : List ℕ) (t : List Block) → Coherent count S W → Fit (length S) t → (es : List Entry) → blocks_view t ≡ es
    → (frag_rooms_coherent (length t) (over S count (samples_in t)) (over W (64 * count) (words_in t)) ≡ true) × (entries_of (length t) (over S count (samples_in t)) (over W (64 * count) (words_in t)) ≡ es)
    × (length (over S count (samples_in t)) ≡ length S)
form_again count S W t c g es e =
    let q = holding_form count S W t c g in
    let k = length S in
    let co : frag_rooms_coherent (length t) (room_of k (samples_in t)) (room_of (64 * k) (words_in t)) ≡ true = coherent-is (length t) (room_of k (samples_in t)) (room_of (64 * k) (words_in t)) (form_coherent k t c.length_s g) in
    let vi : entries_of (length t) (room_of k (samples_in t)) (room_of (64 * k) (words_in t)) ≡ es = ap blocks_view (form_table k t g) ∙ e in
    rw (q.0, q.1) (co, vi, room-length k (samples_in t) (omega (arith, samples-length t, g.small)))

-- marking leaves rooms that pass the check, hold what they held but that fragment, and are as long
pub marked_again : (count : ℕ) (S W : List ℕ) (n f : ℕ) → frag_rooms_coherent count S W ≡ true
    → (frag_rooms_coherent (marked_in n f count S W).result (marked_in n f count S W).first (marked_in n f count S W).second ≡ true)
    × (entries_of (marked_in n f count S W).result (marked_in n f count S W).first (marked_in n f count S W).second ≡ sent n f (entries_of count S W))
    × (length (marked_in n f count S W).first ≡ length S)
marked_again count S W n f h =
    let c = is-coherent count S W h in
    let t = mark_t n f (table_of count S W) in
    let g : Fit (length S) t = mark_fit n f (length S) (table_of count S W) (coherent_fit count S W c) in
    let k : rooms_hold count S W ≡ true = fit count S W c.small (omega (arith, c.small, c.length_w)) in
    rw k (form_again count S W t c g (sent n f (entries_of count S W)) (mark_means n f (table_of count S W)))
