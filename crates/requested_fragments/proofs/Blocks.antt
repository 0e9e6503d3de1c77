-- The table in two rooms: what marking leaves there. Assumes nothing.
use Prim.Native.Nat.{ℕ, suc, ◌+◌, ◌-◌, ◌*◌, ◌≤◌, ◌<◌}
use mathlib.Core.Path.{◌≡◌, refl, sym, ap, ◌∙◌}
use mathlib.Core.Bool.{Bool, true, false, not, ◌&&◌, cond}
use mathlib.Core.List.{List, [], ◌∷◌, ◌++◌, append_assoc}
use lib.Dec.{eqb}
use lib.ListN.{length, take, drop}
use lib.Seq.{take-add, drop-drop}
use native.Mathlib.Omega.{arith}
use Rattle.sets.proofs.Bools.{and_assoc}
use Rattle.sets.specs.Sets.{empty}
use Rattle.requested_fragments.specs.Words.{fragments_of, not_asking}
use Rattle.rising.proofs.Rooms.{drop-take}
use Rattle.requested_fragments.proofs.Cases.{by_bool}
use Rattle.requested_fragments.specs.Table.{Block, blocks_of, samples_in, words_in, mark_t, all_hold}

-- where n stands first, or the length
abbrev pub index_of : ℕ → List ℕ → ℕ
index_of n [] = 0
index_of n (m ∷ ms) = cond (eqb m n) 0 (suc (index_of n ms))

-- ---- 64 words more
pub t64 : (x : ℕ) (ws : List ℕ) → take (64 * suc x) ws ≡ take 64 ws ++ take (64 * x) (drop 64 ws)
t64 x ws = let e : 64 * suc x ≡ 64 + 64 * x = omega arith in ap (λ (k : ℕ). take k ws) e ∙ take-add 64 (64 * x) ws

pub d64 : (x : ℕ) (ws : List ℕ) → drop (64 * suc x) ws ≡ drop (64 * x) (drop 64 ws)
d64 x ws = let e : 64 * suc x ≡ 64 + 64 * x = omega arith in ap (λ (k : ℕ). drop k ws) e ∙ sym (drop-drop (64 * x) 64 ws)

pub dt64 : (x y : ℕ) (ws : List ℕ) → drop (64 * suc x + 64) (take (64 * suc y) ws) ≡ drop (64 * x + 64) (take (64 * y) (drop 64 ws))
dt64 x y ws =
    let e : 64 * suc x + 64 ≡ 64 + (64 * x + 64) = omega arith in
    let g : 64 * suc y - 64 ≡ 64 * y = omega arith in
    ap (λ (k : ℕ). drop k (take (64 * suc y) ws)) e
    ∙ sym (drop-drop (64 * x + 64) 64 (take (64 * suc y) ws))
    ∙ ap (drop (64 * x + 64)) (drop-take 64 (64 * suc y) ws ∙ ap (λ (k : ℕ). take k (drop 64 ws)) g)

-- ---- the table and its rooms
pub samples_of_lem : (ss ws : List ℕ) → samples_in (blocks_of ss ws) ≡ ss
samples_of_lem [] ws = refl
samples_of_lem (s ∷ ss) ws = ap (λ (l : List ℕ). s ∷ l) (samples_of_lem ss (drop 64 ws))

pub words_of : (ss ws : List ℕ) → words_in (blocks_of ss ws) ≡ take (64 * length ss) ws
words_of [] ws = refl
words_of (s ∷ ss) ws = ap (λ (l : List ℕ). take 64 ws ++ l) (words_of ss (drop 64 ws)) ∙ sym (t64 (length ss) ws)

pub length_of : (ss ws : List ℕ) → length (blocks_of ss ws) ≡ length ss
length_of [] ws = refl
length_of (s ∷ ss) ws = ap suc (length_of ss (drop 64 ws))

pub samples-length : (t : List Block) → length (samples_in t) ≡ length t
samples-length [] = refl
samples-length (b ∷ bs) = ap suc (samples-length bs)

-- ---- marking
module _ (n f : ℕ) where
  pub mark_absent : (ss ws : List ℕ) → length ss ≤ index_of n ss → mark_t n f (blocks_of ss ws) ≡ blocks_of ss ws
  mark_absent [] ws h = refl
  mark_absent (s ∷ ss) ws h =
      by_bool (eqb s n)
      (λ e. absurd (let k : suc (length ss) ≤ 0 = rw e at h in omega arith))
      (λ e. let k : suc (length ss) ≤ suc (index_of n ss) = rw e at h in rw e (ap (λ (t : List Block). record { sample = s; words = take 64 ws } ∷ t) (mark_absent ss (drop 64 ws) (omega arith))))

  abbrev cleared : List ℕ → ℕ → List ℕ
  cleared ws e = not_asking f (take 64 (drop (64 * e) ws))

  pub mark_kept_samples : (ss ws : List ℕ) → index_of n ss < length ss → empty (fragments_of (cleared ws (index_of n ss))) ≡ false → samples_in (mark_t n f (blocks_of ss ws)) ≡ ss
  mark_kept_samples [] ws h g = absurd (omega arith)
  mark_kept_samples (s ∷ ss) ws h g =
      by_bool (eqb s n)
      (λ e.
      let k : empty (fragments_of (cleared ws 0)) ≡ false = rw e at g in
      rw (e, k) (ap (λ (l : List ℕ). s ∷ l) (samples_of_lem ss (drop 64 ws))))
      (λ e.
      let j : suc (index_of n ss) < suc (length ss) = rw e at h in
      let k : empty (fragments_of (cleared ws (suc (index_of n ss)))) ≡ false = rw e at g in
      let m : empty (fragments_of (cleared (drop 64 ws) (index_of n ss))) ≡ false = rw d64 at k in
      rw e (ap (λ (l : List ℕ). s ∷ l) (mark_kept_samples ss (drop 64 ws) (omega arith) m)))

  pub mark_kept_words : (ss ws : List ℕ) → index_of n ss < length ss → empty (fragments_of (cleared ws (index_of n ss))) ≡ false
      → words_in (mark_t n f (blocks_of ss ws)) ≡ take (64 * index_of n ss) ws ++ (cleared ws (index_of n ss) ++ drop (64 * index_of n ss + 64) (take (64 * length ss) ws))
  mark_kept_words [] ws h g = absurd (omega arith)
  mark_kept_words (s ∷ ss) ws h g =
      by_bool (eqb s n)
      (λ e.
      let k : empty (fragments_of (cleared ws 0)) ≡ false = rw e at g in
      let q : drop 64 (take (64 * suc (length ss)) ws) ≡ take (64 * length ss) (drop 64 ws) = drop-take 64 (64 * suc (length ss)) ws ∙ (let z : 64 * suc (length ss) - 64 ≡ 64 * length ss = omega arith in ap (λ (x : ℕ). take x (drop 64 ws)) z) in
      rw (e, k) (ap (λ (l : List ℕ). cleared ws 0 ++ l) (words_of ss (drop 64 ws) ∙ sym q)))
      (λ e.
      let j : suc (index_of n ss) < suc (length ss) = rw e at h in
      let k : empty (fragments_of (cleared ws (suc (index_of n ss)))) ≡ false = rw e at g in
      let m : empty (fragments_of (cleared (drop 64 ws) (index_of n ss))) ≡ false = rw d64 at k in
      rw (e, t64, d64, dt64, append_assoc) (ap (λ (l : List ℕ). take 64 ws ++ l) (mark_kept_words ss (drop 64 ws) (omega arith) m)))

  pub mark_gone_samples : (ss ws : List ℕ) → index_of n ss < length ss → empty (fragments_of (cleared ws (index_of n ss))) ≡ true
      → samples_in (mark_t n f (blocks_of ss ws)) ≡ take (index_of n ss) ss ++ drop (suc (index_of n ss)) ss
  mark_gone_samples [] ws h g = absurd (omega arith)
  mark_gone_samples (s ∷ ss) ws h g =
      by_bool (eqb s n)
      (λ e.
      let k : empty (fragments_of (cleared ws 0)) ≡ true = rw e at g in
      rw (e, k) (samples_of_lem ss (drop 64 ws)))
      (λ e.
      let j : suc (index_of n ss) < suc (length ss) = rw e at h in
      let k : empty (fragments_of (cleared ws (suc (index_of n ss)))) ≡ true = rw e at g in
      let m : empty (fragments_of (cleared (drop 64 ws) (index_of n ss))) ≡ true = rw d64 at k in
      rw e (ap (λ (l : List ℕ). s ∷ l) (mark_gone_samples ss (drop 64 ws) (omega arith) m)))

  pub mark_gone_words : (ss ws : List ℕ) → index_of n ss < length ss → empty (fragments_of (cleared ws (index_of n ss))) ≡ true
      → words_in (mark_t n f (blocks_of ss ws)) ≡ take (64 * index_of n ss) ws ++ drop (64 * index_of n ss + 64) (take (64 * length ss) ws)
  mark_gone_words [] ws h g = absurd (omega arith)
  mark_gone_words (s ∷ ss) ws h g =
      by_bool (eqb s n)
      (λ e.
      let k : empty (fragments_of (cleared ws 0)) ≡ true = rw e at g in
      let q : drop 64 (take (64 * suc (length ss)) ws) ≡ take (64 * length ss) (drop 64 ws) = drop-take 64 (64 * suc (length ss)) ws ∙ (let z : 64 * suc (length ss) - 64 ≡ 64 * length ss = omega arith in ap (λ (x : ℕ). take x (drop 64 ws)) z) in
      rw (e, k) (words_of ss (drop 64 ws) ∙ sym q))
      (λ e.
      let j : suc (index_of n ss) < suc (length ss) = rw e at h in
      let k : empty (fragments_of (cleared ws (suc (index_of n ss)))) ≡ true = rw e at g in
      let m : empty (fragments_of (cleared (drop 64 ws) (index_of n ss))) ≡ true = rw d64 at k in
      rw (e, t64, dt64, append_assoc) (ap (λ (l : List ℕ). take 64 ws ++ l) (mark_gone_words ss (drop 64 ws) (omega arith) m)))

-- ---- each block asks for something: one turn of the loop
pub hold_more : (ws : List ℕ) (count i : ℕ) (good : Bool) → i < count → all_hold count ws ≡ (good && all_hold (count - i) (drop (64 * i) ws))
    → all_hold count ws ≡ ((good && not (empty (fragments_of (take (i * 64 + 64 - i * 64) (drop (i * 64) ws))))) && all_hold (count - (i + 1)) (drop (64 * (i + 1)) ws))
hold_more ws count i good h g =
    let e : count - i ≡ suc (count - (i + 1)) = omega arith in
    let d : drop 64 (drop (64 * i) ws) ≡ drop (64 * (i + 1)) ws = drop-drop 64 (64 * i) ws ∙ (let y : 64 * i + 64 ≡ 64 * (i + 1) = omega arith in ap (λ (k : ℕ). drop k ws) y) in
    let s : i * 64 + 64 - i * 64 ≡ 64 = omega arith in
    let t : i * 64 ≡ 64 * i = omega arith in
    g ∙ ap (λ (k : ℕ). good && all_hold k (drop (64 * i) ws)) e
    ∙ ap (λ (x : List ℕ). good && (not (empty (fragments_of (take 64 (drop (64 * i) ws)))) && all_hold (count - (i + 1)) x)) d
    ∙ ap (λ (x : List ℕ). good && (not (empty (fragments_of x)) && all_hold (count - (i + 1)) (drop (64 * (i + 1)) ws))) (sym (ap (λ (k : ℕ). take k (drop (i * 64) ws)) s ∙ ap (λ (k : ℕ). take 64 (drop k ws)) t))
    ∙ sym (and_assoc good (not (empty (fragments_of (take (i * 64 + 64 - i * 64) (drop (i * 64) ws))))) (all_hold (count - (i + 1)) (drop (64 * (i + 1)) ws)))
