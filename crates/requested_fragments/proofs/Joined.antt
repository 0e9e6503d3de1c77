-- What a request leaves in the table and its rooms. Assumes nothing.
use Prim.Native.Nat.{ℕ, suc, ◌+◌, ◌-◌, ◌*◌, ◌≤◌, ◌<◌}
use mathlib.Core.Path.{◌≡◌, refl, sym, ap, ◌∙◌}
use mathlib.Core.Bool.{Bool, true, false}
use mathlib.Core.List.{List, [], ◌∷◌, ◌++◌, append_assoc}
use lib.Dec.{eqb, leb}
use lib.ListN.{length, take, drop, replicate, length-append, length-take, length-drop}
use lib.Seq.{drop-drop, take-take, length-take-le}
use native.Mathlib.Omega.{arith}
use Rattle.rising.specs.Runs.{place_of, holds_at, over}
use Rattle.rising.proofs.Rooms.{drop-take, room-same}
use Rattle.rising.proofs.Inserts.{place_le}
use Rattle.requested_fragments.proofs.Cases.{by_bool, no}
use Rattle.requested_fragments.specs.Table.{Block, blocks_of, samples_in, words_in, ask_t, ask_all}
use Rattle.requested_fragments.proofs.Blocks.{t64, d64, dt64, samples_of_lem, words_of, samples-length}
use Rattle.requested_fragments.proofs.Mark.{put-over}
use Rattle.requested_fragments.proofs.Asking.{ask_all-length}

dd64 : (x y : ℕ) (ws : List ℕ) → drop (64 * suc x) (take (64 * suc y) ws) ≡ drop (64 * x) (take (64 * y) (drop 64 ws))
dd64 x y ws =
    let e : 64 * suc x ≡ 64 + 64 * x = omega arith in
    let g : 64 * suc y - 64 ≡ 64 * y = omega arith in
    ap (λ (k : ℕ). drop k (take (64 * suc y) ws)) e
    ∙ sym (drop-drop (64 * x) 64 (take (64 * suc y) ws))
    ∙ ap (drop (64 * x)) (drop-take 64 (64 * suc y) ws ∙ ap (λ (k : ℕ). take k (drop 64 ws)) g)

module _ (n : ℕ) (ms : List ℕ) where
  pub join_samples : (ss ws : List ℕ) → holds_at n ss (place_of n ss) ≡ true → samples_in (ask_t n ms (blocks_of ss ws)) ≡ ss
  join_samples [] ws h = no h
  join_samples (s ∷ ss) ws h =
      by_bool (leb n s)
      (λ e. let k : eqb s n ≡ true = rw e at h in rw (e, k) (ap (λ (l : List ℕ). s ∷ l) (samples_of_lem ss (drop 64 ws))))
      (λ e. let k : holds_at n ss (place_of n ss) ≡ true = rw e at h in rw e (ap (λ (l : List ℕ). s ∷ l) (join_samples ss (drop 64 ws) k)))

  pub join_words : (ss ws : List ℕ) → holds_at n ss (place_of n ss) ≡ true
      → words_in (ask_t n ms (blocks_of ss ws)) ≡ take (64 * place_of n ss) ws ++ (ask_all ms (take 64 (drop (64 * place_of n ss) ws)) ++ drop (64 * place_of n ss + 64) (take (64 * length ss) ws))
  join_words [] ws h = no h
  join_words (s ∷ ss) ws h =
      by_bool (leb n s)
      (λ e.
      let k : eqb s n ≡ true = rw e at h in
      let q : drop 64 (take (64 * suc (length ss)) ws) ≡ take (64 * length ss) (drop 64 ws) = drop-take 64 (64 * suc (length ss)) ws ∙ (let z : 64 * suc (length ss) - 64 ≡ 64 * length ss = omega arith in ap (λ (x : ℕ). take x (drop 64 ws)) z) in
      rw (e, k) (ap (λ (l : List ℕ). ask_all ms (take 64 ws) ++ l) (words_of ss (drop 64 ws) ∙ sym q)))
      (λ e.
      let k : holds_at n ss (place_of n ss) ≡ true = rw e at h in
      rw (e, t64, d64, dt64, append_assoc) (ap (λ (l : List ℕ). take 64 ws ++ l) (join_words ss (drop 64 ws) k)))

  pub new_samples : (ss ws : List ℕ) → holds_at n ss (place_of n ss) ≡ false → samples_in (ask_t n ms (blocks_of ss ws)) ≡ take (place_of n ss) ss ++ (n ∷ drop (place_of n ss) ss)
  new_samples [] ws h = refl
  new_samples (s ∷ ss) ws h =
      by_bool (leb n s)
      (λ e. let k : eqb s n ≡ false = rw e at h in rw (e, k) (ap (λ (l : List ℕ). n ∷ s ∷ l) (samples_of_lem ss (drop 64 ws))))
      (λ e. let k : holds_at n ss (place_of n ss) ≡ false = rw e at h in rw e (ap (λ (l : List ℕ). s ∷ l) (new_samples ss (drop 64 ws) k)))

  pub new_words : (ss ws : List ℕ) → holds_at n ss (place_of n ss) ≡ false
      → words_in (ask_t n ms (blocks_of ss ws)) ≡ take (64 * place_of n ss) ws ++ (ask_all ms (replicate 64 0) ++ drop (64 * place_of n ss) (take (64 * length ss) ws))
  new_words [] ws h = refl
  new_words (s ∷ ss) ws h =
      by_bool (leb n s)
      (λ e.
      let k : eqb s n ≡ false = rw e at h in
      rw (e, k) (ap (λ (l : List ℕ). ask_all ms (replicate 64 0) ++ l) (words_of (s ∷ ss) ws)))
      (λ e.
      let k : holds_at n ss (place_of n ss) ≡ false = rw e at h in
      rw (e, t64, dd64, append_assoc) (ap (λ (l : List ℕ). take 64 ws ++ l) (new_words ss (drop 64 ws) k)))

module _ (n count : ℕ) (ms S W : List ℕ) (hs : count ≤ length S) (hw : 64 * count ≤ length W) (e : ℕ) (g : e ≡ place_of n (take count S)) where
  abbrev T : List Block
  T = blocks_of (take count S) W

  ls : length (take count S) ≡ count
  ls = length-take-le count S hs

  pub place_in : e ≤ count
  place_in = let p : place_of n (take count S) ≤ length (take count S) = place_le n (take count S) in omega (arith, ls)

  at : (t : Bool) → holds_at n (take count S) e ≡ t → holds_at n (take count S) (place_of n (take count S)) ≡ t
  at t h = ap (holds_at n (take count S)) (sym g) ∙ h

  place : 64 * place_of n (take count S) ≡ e * 64
  place = omega arith

  -- the sample is held
  pub join_law : (W₁ : List ℕ) → holds_at n (take count S) e ≡ true → e < count → W₁ ≡ take (e * 64) W ++ (ask_all ms (take 64 (drop (e * 64) W)) ++ drop (e * 64 + 64) W)
      → (count ≡ length (ask_t n ms T)) × (S ≡ over S count (samples_in (ask_t n ms T))) × (W₁ ≡ over W (64 * count) (words_in (ask_t n ms T)))
  join_law W₁ h l w =
      let p : samples_in (ask_t n ms T) ≡ take count S = join_samples n ms (take count S) W (at true h) in
      let q : words_in (ask_t n ms T) ≡ take (e * 64) W ++ (ask_all ms (take 64 (drop (e * 64) W)) ++ drop (e * 64 + 64) (take (64 * count) W)) = join_words n ms (take count S) W (at true h) ∙ rw (place, ls) in
      let lb : length (ask_all ms (take 64 (drop (e * 64) W))) ≡ 64 = ask_all-length ms (take 64 (drop (e * 64) W)) ∙ simp (length-take, length-drop) (omega arith) in (
        sym (sym (samples-length (ask_t n ms T)) ∙ ap length p ∙ ls),
        room-same count S hs ∙ ap (over S count) (sym p),
        w ∙ put-over W (ask_all ms (take 64 (drop (e * 64) W))) (e * 64) (64 * count) lb (omega arith) hw ∙ ap (over W (64 * count)) (sym q),
      )

  -- it is new
  pub new_length : holds_at n (take count S) e ≡ false → length (ask_t n ms T) ≡ count + 1
  new_length h =
      let p : samples_in (ask_t n ms T) ≡ take e (take count S) ++ (n ∷ drop e (take count S)) = new_samples n ms (take count S) W (at false h) ∙ rw (← g) in
      sym (samples-length (ask_t n ms T)) ∙ ap length p ∙ length-append (take e (take count S)) (n ∷ drop e (take count S)) ∙ (let y : length (take e (take count S)) ≡ e = length-take-le e (take count S) (omega (arith, ls, place_in)) in let z : length (drop e (take count S)) ≡ count - e = length-drop e (take count S) ∙ omega (arith, ls) in omega (arith, place_in))

  pub fresh_law : (W₁ S₁ : List ℕ) → holds_at n (take count S) e ≡ false
      → W₁ ≡ over W (count * 64) (take (e * 64) (take (count * 64) W) ++ (ask_all ms (replicate 64 0) ++ drop (e * 64) (take (count * 64) W)))
      → S₁ ≡ over S count (take e (take count S) ++ (n ∷ drop e (take count S)))
      → (count + 1 ≡ length (ask_t n ms T)) × (S₁ ≡ over S count (samples_in (ask_t n ms T))) × (W₁ ≡ over W (64 * count) (words_in (ask_t n ms T)))
  fresh_law W₁ S₁ h w s =
      let p : samples_in (ask_t n ms T) ≡ take e (take count S) ++ (n ∷ drop e (take count S)) = new_samples n ms (take count S) W (at false h) ∙ rw (← g) in
      let t : count * 64 ≡ 64 * count = omega arith in
      let k : take (e * 64) (take (64 * count) W) ≡ take (e * 64) W = take-take (e * 64) (64 * count) W (omega (arith, place_in)) in
      let q : words_in (ask_t n ms T) ≡ take (e * 64) W ++ (ask_all ms (replicate 64 0) ++ drop (e * 64) (take (64 * count) W)) = new_words n ms (take count S) W (at false h) ∙ rw (place, ls) in (
        sym (new_length h),
        s ∙ ap (over S count) (sym p),
        w ∙ rw (t, k) refl ∙ ap (over W (64 * count)) (sym q),
      )
