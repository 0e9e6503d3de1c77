-- What `mark_in` leaves in the rooms. Assumes nothing.
use Prim.Native.Nat.{ℕ, suc, ◌+◌, ◌-◌, ◌*◌, ◌≤◌, ◌<◌, max}
use mathlib.Core.Path.{◌≡◌, refl, sym, ap, subst, ◌∙◌}
use mathlib.Core.Bool.{Bool, true, false, not, cond}
use mathlib.Core.List.{List, [], ◌∷◌, ◌++◌, append_assoc}
use lib.ListN.{length, take, drop, length-append, length-take, length-drop, take-append-drop}
use lib.Seq.{drop-drop, take-take, length-take-le, take_at, drop_at}
use native.Mathlib.Omega.{arith}
use borrow.Author.Tests.{ltb-true, ltb-false}
use lib.Dec.{eqb, ltb}
use Rattle.std.specs.Prelude.{Some, None, position}
use Rattle.std.specs.List.{position_or_len}
use Rattle.sets.specs.Sets.{empty}
use Rattle.requested_fragments.specs.Words.{fragments_of, not_asking}
use Rattle.requested_fragments.proofs.Frags.{not_asking-length}
use Rattle.rising.specs.Runs.{over}
use Rattle.rising.proofs.Rooms.{drop-take, room-same}
use Rattle.requested_fragments.specs.Table.{Block, blocks_of, samples_in, words_in, mark_t}
use Rattle.requested_fragments.proofs.Blocks.{index_of, samples_of_lem, words_of, length_of, samples-length, mark_absent, mark_kept_samples, mark_kept_words, mark_gone_samples, mark_gone_words}

pub over-full : (a l : List ℕ) (c : ℕ) → length l ≡ c → over a c l ≡ l ++ drop c a
over-full a l c e =
    let z : c - length l ≡ 0 = omega arith in
    let m : max c (length l) ≡ c = omega arith in
    rw (z, m)

pub over-same : (a b l : List ℕ) (c : ℕ) → length l ≤ c → drop c a ≡ drop c b → over a c l ≡ over b c l
over-same a b l c h e =
    let m : max c (length l) ≡ c = omega arith in
    rw (m, e)

-- the words with one block in the place of another
module _ (W b : List ℕ) (a c : ℕ) (lb : length b ≡ 64) (ha : a + 64 ≤ c) (hc : c ≤ length W) where
  abbrev put : List ℕ
  put = take a W ++ (b ++ drop (a + 64) W)

  la : length (take a W) ≡ a
  la = length-take-le a W (omega arith)

  pub put-take : take a put ≡ take a W
  put-take = take_at (take a W) (b ++ drop (a + 64) W) a la

  pub put-drop : drop (a + 64) put ≡ drop (a + 64) W
  put-drop =
      let l2 : length (take a W ++ b) ≡ a + 64 = length-append (take a W) b ∙ omega (arith, la, lb) in
      ap (drop (a + 64)) (sym (append_assoc (take a W) b (drop (a + 64) W))) ∙ drop_at (take a W ++ b) (drop (a + 64) W) (a + 64) l2

  pub put_end : drop c put ≡ drop c W
  put_end =
      let e : c ≡ a + 64 + (c - (a + 64)) = omega arith in
      ap (λ (k : ℕ). drop k put) e ∙ sym (drop-drop (c - (a + 64)) (a + 64) put) ∙ ap (drop (c - (a + 64))) put-drop ∙ drop-drop (c - (a + 64)) (a + 64) W ∙ ap (λ (k : ℕ). drop k W) (sym e)

  -- as the run of the first c words with that block
  pub put-over : put ≡ over W c (take a W ++ (b ++ drop (a + 64) (take c W)))
  put-over =
      let ld : length (drop (a + 64) (take c W)) ≡ c - (a + 64) = simp (length-drop, length-take) (omega arith) in
      let ll : length (take a W ++ (b ++ drop (a + 64) (take c W))) ≡ c = length-append (take a W) (b ++ drop (a + 64) (take c W)) ∙ (let y : length (b ++ drop (a + 64) (take c W)) ≡ 64 + (c - (a + 64)) = length-append b (drop (a + 64) (take c W)) ∙ omega (arith, ld, lb) in omega (arith, la)) in
      let q : drop (a + 64) (take c W) ++ drop c W ≡ drop (a + 64) W =
      (let e : a + 64 + (c - (a + 64)) ≡ c = omega arith in
      ap (λ (x : List ℕ). x ++ drop c W) (drop-take (a + 64) c W)
      ∙ ap (λ (x : List ℕ). take (c - (a + 64)) (drop (a + 64) W) ++ x) (ap (λ (k : ℕ). drop k W) (sym e) ∙ sym (drop-drop (c - (a + 64)) (a + 64) W))
      ∙ take-append-drop (c - (a + 64)) (drop (a + 64) W)) in
      sym
      (over-full W (take a W ++ (b ++ drop (a + 64) (take c W))) c ll
      ∙ append_assoc (take a W) (b ++ drop (a + 64) (take c W)) (drop c W)
      ∙ ap (λ (x : List ℕ). take a W ++ x) (append_assoc b (drop (a + 64) (take c W)) (drop c W) ∙ ap (λ (x : List ℕ). b ++ x) q))

  -- as the run without the block
  pub put_cut : over put c (take a (take c put) ++ drop (a + 64) (take c put)) ≡ over W c (take a W ++ drop (a + 64) (take c W))
  put_cut =
      let p : take a (take c put) ≡ take a W = take-take a c put (omega arith) ∙ put-take in
      let d : drop (a + 64) (take c put) ≡ drop (a + 64) (take c W) = drop-take (a + 64) c put ∙ ap (take (c - (a + 64))) put-drop ∙ sym (drop-take (a + 64) c W) in
      let ld : length (drop (a + 64) (take c W)) ≡ c - (a + 64) = simp (length-drop, length-take) (omega arith) in
      let ll : length (take a W ++ drop (a + 64) (take c W)) ≤ c = subst (λ (k : ℕ). k ≤ c) (sym (length-append (take a W) (drop (a + 64) (take c W)))) (omega (arith, la, ld)) in
      rw (p, d) (over-same put W (take a W ++ drop (a + 64) (take c W)) c ll put_end)

module _ (n f count : ℕ) (S W : List ℕ) (hs : count ≤ length S) (hw : 64 * count ≤ length W) where
  abbrev T : List Block
  T = blocks_of (take count S) W

  ls : length (take count S) ≡ count
  ls = length-take-le count S hs

  all_words : words_in T ≡ take (64 * count) W
  all_words = words_of (take count S) W ∙ ap (λ (k : ℕ). take (64 * k) W) ls

  pub mark-none : (e : ℕ) → e ≡ index_of n (take count S) → count ≤ e
      → (count ≡ length (mark_t n f T)) × (S ≡ over S count (samples_in (mark_t n f T))) × (W ≡ over W (64 * count) (words_in (mark_t n f T)))
  mark-none e g h =
      let q : mark_t n f T ≡ T = mark_absent n f (take count S) W (omega (arith, ls)) in (
        sym (ap length q ∙ length_of (take count S) W ∙ ls),
        room-same count S hs ∙ ap (over S count) (sym (ap samples_in q ∙ samples_of_lem (take count S) W)),
        room-same (64 * count) W hw ∙ ap (over W (64 * count)) (sym (ap words_in q ∙ all_words)),
      )

  module _ (e : ℕ) (g : e ≡ index_of n (take count S)) (h : e < count) where
    abbrev block : List ℕ
    block = not_asking f (take 64 (drop (e * 64) W))

    times : e * 64 ≡ 64 * e
    times = omega arith

    block_length : length block ≡ 64
    block_length = not_asking-length f (take 64 (drop (e * 64) W)) ∙ simp (length-take, length-drop) (omega arith)

    -- the index, as the laws of the table have it
    inside : index_of n (take count S) < length (take count S)
    inside = omega (arith, ls)

    same_block : block ≡ not_asking f (take 64 (drop (64 * index_of n (take count S)) W))
    same_block = ap (λ (k : ℕ). not_asking f (take 64 (drop k W))) (times ∙ ap (λ (k : ℕ). 64 * k) g)

    place : 64 * index_of n (take count S) ≡ e * 64
    place = omega arith

    fits : e * 64 + 64 ≤ 64 * count
    fits = omega arith

    pub mark-stays : (W₁ : List ℕ) → empty (fragments_of block) ≡ false → W₁ ≡ take (e * 64) W ++ (block ++ drop (e * 64 + 64) W)
        → (count ≡ length (mark_t n f T)) × (S ≡ over S count (samples_in (mark_t n f T))) × (W₁ ≡ over W (64 * count) (words_in (mark_t n f T)))
    mark-stays W₁ k w =
        let k₂ : empty (fragments_of (not_asking f (take 64 (drop (64 * index_of n (take count S)) W)))) ≡ false = ap (λ (x : List ℕ). empty (fragments_of x)) (sym same_block) ∙ k in
        let p : samples_in (mark_t n f T) ≡ take count S = mark_kept_samples n f (take count S) W inside k₂ in
        let q : words_in (mark_t n f T) ≡ take (e * 64) W ++ (block ++ drop (e * 64 + 64) (take (64 * count) W)) =
        mark_kept_words n f (take count S) W inside k₂ ∙ rw (← same_block, place, ls) in (
          sym (sym (samples-length (mark_t n f T)) ∙ ap length p ∙ ls),
          room-same count S hs ∙ ap (over S count) (sym p),
          w ∙ put-over W block (e * 64) (64 * count) block_length fits hw ∙ ap (over W (64 * count)) (sym q),
        )

    pub mark_goes : (W₁ W₂ S₂ : List ℕ) (r : ℕ) → empty (fragments_of block) ≡ true → W₁ ≡ take (e * 64) W ++ (block ++ drop (e * 64 + 64) W)
        → W₂ ≡ over W₁ (count * 64) (take (e * 64) (take (count * 64) W₁) ++ drop (e * 64 + 64) (take (count * 64) W₁))
        → S₂ ≡ over S count (take e (take count S) ++ drop (e + 1) (take count S)) → r ≡ length (take e (take count S) ++ drop (e + 1) (take count S))
        → (r ≡ length (mark_t n f T)) × (S₂ ≡ over S count (samples_in (mark_t n f T))) × (W₂ ≡ over W (64 * count) (words_in (mark_t n f T)))
    mark_goes W₁ W₂ S₂ r k w w₂ s₂ d =
        let k₂ : empty (fragments_of (not_asking f (take 64 (drop (64 * index_of n (take count S)) W)))) ≡ true = ap (λ (x : List ℕ). empty (fragments_of x)) (sym same_block) ∙ k in
        let p : samples_in (mark_t n f T) ≡ take e (take count S) ++ drop (e + 1) (take count S) =
        mark_gone_samples n f (take count S) W inside k₂ ∙ (let y : suc (index_of n (take count S)) ≡ e + 1 = omega arith in rw (y, ← g)) in
        let q : words_in (mark_t n f T) ≡ take (e * 64) W ++ drop (e * 64 + 64) (take (64 * count) W) =
        mark_gone_words n f (take count S) W inside k₂ ∙ rw (place, ls) in
        let t : count * 64 ≡ 64 * count = omega arith in (
          d ∙ sym (sym (samples-length (mark_t n f T)) ∙ ap length p),
          s₂ ∙ ap (over S count) (sym p),
          w₂ ∙ rw (w, t) (put_cut W block (e * 64) (64 * count) block_length fits hw) ∙ ap (over W (64 * count)) (sym q),
        )

-- the words are as many as before
pub cleared_length : (W W₁ : List ℕ) (a f c : ℕ) → W₁ ≡ take a W ++ (not_asking f (take 64 (drop a W)) ++ drop (a + 64) W) → a + 64 ≤ c → c ≤ length W → c ≤ length W₁
cleared_length W W₁ a f c w h k =
    let la : length (take a W) ≡ a = length-take-le a W (omega arith) in
    let lb : length (not_asking f (take 64 (drop a W))) ≡ 64 = not_asking-length f (take 64 (drop a W)) ∙ simp (length-take, length-drop) (omega arith) in
    let ld : length (drop (a + 64) W) ≡ length W - (a + 64) = length-drop (a + 64) W in
    let l1 : length (not_asking f (take 64 (drop a W)) ++ drop (a + 64) W) ≡ 64 + (length W - (a + 64)) = length-append (not_asking f (take 64 (drop a W))) (drop (a + 64) W) ∙ omega (arith, lb, ld) in
    let l : length W₁ ≡ a + (64 + (length W - (a + 64))) = ap length w ∙ length-append (take a W) (not_asking f (take 64 (drop a W)) ++ drop (a + 64) W) ∙ omega (arith, la, l1) in
    omega arith

-- what `clear_at` leaves
pub clear_law : (W Z : List ℕ) (a f : ℕ) (r : Bool) → a + 64 ≤ length W → Z ≡ not_asking f (take (a + 64 - a) (drop a W))
    → r ≡ not (empty (fragments_of (take (a + 64 - a) (drop a (take a W ++ (Z ++ drop (a + 64 - a) (drop a W)))))))
    → (r ≡ not (empty (fragments_of (not_asking f (take 64 (drop a W)))))) × (take a W ++ (Z ++ drop (a + 64 - a) (drop a W)) ≡ take a W ++ (not_asking f (take 64 (drop a W)) ++ drop (a + 64) W))
clear_law W Z a f r h z e =
    let s : a + 64 - a ≡ 64 = omega arith in
    let y : Z ≡ not_asking f (take 64 (drop a W)) = z ∙ ap (λ (k : ℕ). not_asking f (take k (drop a W))) s in
    let ly : length (not_asking f (take 64 (drop a W))) ≡ 64 = not_asking-length f (take 64 (drop a W)) ∙ simp (length-take, length-drop) (omega arith) in
    let lz : length Z ≡ 64 = ap length y ∙ ly in
    let la₂ : length (take a W) ≡ a = length-take-le a W (omega arith) in (
      e ∙ ap (λ (x : List ℕ). not (empty (fragments_of x))) (ap (λ (k : ℕ). take k (drop a (take a W ++ (Z ++ drop k (drop a W))))) s ∙ ap (take 64) (drop_at (take a W) (Z ++ drop 64 (drop a W)) a la₂) ∙ take_at Z (drop 64 (drop a W)) 64 lz ∙ y),
      ap (λ (k : ℕ). take a W ++ (Z ++ drop k (drop a W))) s ∙ ap (λ (x : List ℕ). take a W ++ (Z ++ x)) (drop-drop 64 a W) ∙ ap (λ (x : List ℕ). take a W ++ (x ++ drop (a + 64) W)) y,
    )

-- what the place of a number tells
index_is : (n : ℕ) (s : List ℕ) → position_or_len (λ m. eqb m n) s ≡ index_of n s
index_is n [] = refl
index_is n (m ∷ ms) = go (eqb m n) (index_is n ms)
  where
    go : (t : Bool) → position_or_len (λ m. eqb m n) ms ≡ index_of n ms → cond (not t) (1 + position_or_len (λ m. eqb m n) ms) 0 ≡ cond t 0 (suc (index_of n ms))
    go true r = refl
    go false r = omega (arith, r)

pub find_none : (n : ℕ) (s : List ℕ) → position (λ m. eqb m n) s ≡ None → length s ≤ index_of n s
find_none n s e = go (ltb (position_or_len (λ m. eqb m n) s) (length s)) refl e
  where
    go : (t : Bool) → ltb (position_or_len (λ m. eqb m n) s) (length s) ≡ t → cond t (Some (position_or_len (λ m. eqb m n) s)) None ≡ None → length s ≤ index_of n s
    go true f z = cc
    go false f z = omega (arith, ltb-false (position_or_len (λ m. eqb m n) s) (length s) f, index_is n s)

pub find_some : (n e : ℕ) (s : List ℕ) → position (λ m. eqb m n) s ≡ Some e → (e ≡ index_of n s) × (e < length s)
find_some n e s h = go (ltb (position_or_len (λ m. eqb m n) s) (length s)) refl h
  where
    go : (t : Bool) → ltb (position_or_len (λ m. eqb m n) s) (length s) ≡ t → cond t (Some (position_or_len (λ m. eqb m n) s)) None ≡ Some e → (e ≡ index_of n s) × (e < length s)
    go true f z =
        let q : position_or_len (λ m. eqb m n) s ≡ e = cc in
        (sym q ∙ index_is n s, omega (arith, ltb-true (position_or_len (λ m. eqb m n) s) (length s) f))
    go false f z = cc
