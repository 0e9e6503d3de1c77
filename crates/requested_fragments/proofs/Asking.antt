-- What asking leaves in the words. Assumes nothing.
use Prim.Native.Nat.{ℕ, ◌+◌, ◌-◌, ◌≤◌, max}
use mathlib.Core.Path.{◌≡◌, refl, sym, ap, subst, ◌∙◌}
use mathlib.Core.List.{List, [], ◌∷◌, ◌++◌, append_assoc}
use lib.ListN.{length, take, drop, replicate, length-append, length-take, length-drop, length-replicate}
use lib.Seq.{drop-drop, take-take, length-take-le, take_at, drop_at, take_all}
use Rattle.numbers.specs.Promise.{Gives1}
use Rattle.rising.specs.Runs.{in_room, opened_within}
use Rattle.requested_fragments.proofs.Laws.{in_run}
use native.Mathlib.Omega.{arith}
use Rattle.requested_fragments.specs.Words.{asking}
use Rattle.requested_fragments.proofs.Frags.{asking-length}
use Rattle.rising.specs.Runs.{over}
use Rattle.requested_fragments.specs.Table.{ask_all}

pub ask_all-length : (ms ws : List ℕ) → length (ask_all ms ws) ≡ length ws
ask_all-length [] ws = refl
ask_all-length (f ∷ fs) ws = ask_all-length fs (asking f ws) ∙ asking-length f ws

-- the run with 64 words more, as the parts that it has
module _ (W : List ℕ) (c a : ℕ) (ha : a ≤ c) (hc : c + 64 ≤ length W) where
  long : (b : List ℕ) → length b ≡ 64 → over W c (take a (take c W) ++ (b ++ drop a (take c W))) ≡ take a W ++ (b ++ (drop a (take c W) ++ drop (c + 64) W))
  long b lb =
      let p : take a (take c W) ≡ take a W = take-take a c W ha in
      let la : length (take a W) ≡ a = length-take-le a W (omega arith) in
      let ld : length (drop a (take c W)) ≡ c - a = simp (length-drop, length-take) (omega arith) in
      let ll : length (take a W ++ (b ++ drop a (take c W))) ≡ c + 64 = length-append (take a W) (b ++ drop a (take c W)) ∙ (let y : length (b ++ drop a (take c W)) ≡ 64 + (c - a) = length-append b (drop a (take c W)) ∙ omega (arith, ld, lb) in omega (arith, la)) in
      let z : c - (c + 64) ≡ 0 = omega arith in
      let m : max c (c + 64) ≡ c + 64 = omega arith in
      rw (p, ll, z, m) (append_assoc (take a W) (b ++ drop a (take c W)) (drop (c + 64) W) ∙ ap (λ (x : List ℕ). take a W ++ x) (append_assoc b (drop a (take c W)) (drop (c + 64) W)))

  pub new_law : (ms W₁ W₂ : List ℕ) → W₁ ≡ over W c (take a (take c W) ++ (replicate 64 0 ++ drop a (take c W)))
      → W₂ ≡ take a W₁ ++ (ask_all ms (take 64 (drop a W₁)) ++ drop (a + 64) W₁)
      → W₂ ≡ over W c (take a (take c W) ++ (ask_all ms (replicate 64 0) ++ drop a (take c W)))
  new_law ms W₁ W₂ w₁ w₂ =
      let zs = replicate {A = ℕ} 64 0 in
      let lz : length zs ≡ 64 = length-replicate {A = ℕ} 64 0 in
      let la : length (take a W) ≡ a = length-take-le a W (omega arith) in
      let q : W₁ ≡ take a W ++ (zs ++ (drop a (take c W) ++ drop (c + 64) W)) = w₁ ∙ long zs lz in
      let t : take a W₁ ≡ take a W = ap (take a) q ∙ take_at (take a W) (zs ++ (drop a (take c W) ++ drop (c + 64) W)) a la in
      let d : drop a W₁ ≡ zs ++ (drop a (take c W) ++ drop (c + 64) W) = ap (drop a) q ∙ drop_at (take a W) (zs ++ (drop a (take c W) ++ drop (c + 64) W)) a la in
      let b : take 64 (drop a W₁) ≡ zs = ap (take 64) d ∙ take_at zs (drop a (take c W) ++ drop (c + 64) W) 64 lz in
      let e : drop (a + 64) W₁ ≡ drop a (take c W) ++ drop (c + 64) W = sym (drop-drop 64 a W₁) ∙ ap (drop 64) d ∙ drop_at zs (drop a (take c W) ++ drop (c + 64) W) 64 lz in
      let lb : length (ask_all ms zs) ≡ 64 = ask_all-length ms zs ∙ lz in
      w₂
      ∙ ap (λ (x : List ℕ). x ++ (ask_all ms (take 64 (drop a W₁)) ++ drop (a + 64) W₁)) t
      ∙ ap (λ (x : List ℕ). take a W ++ (ask_all ms x ++ drop (a + 64) W₁)) b
      ∙ ap (λ (x : List ℕ). take a W ++ (ask_all ms zs ++ x)) e
      ∙ sym (long (ask_all ms zs) lb)

-- the words, with 64 more in their midst
pub opened_law : (W : List ℕ) (c a r : ℕ) (u : List ℕ) → a ≤ c → c + 64 ≤ length W → Gives1 r u (in_room (opened_within (length W) a 64) c W)
    → (u ≡ over W c (take a (take c W) ++ (replicate 64 0 ++ drop a (take c W)))) × (a + 64 ≤ length u)
opened_law W c a r u ha hc g =
    let lc : length (take c W) ≡ c = length-take-le c W (omega arith) in
    let la : length (take a (take c W)) ≡ a = length-take-le a (take c W) (omega (arith, lc)) in
    let ld : length (drop a (take c W)) ≡ c - a = length-drop a (take c W) ∙ omega (arith, lc) in
    let l2 : length (replicate {A = ℕ} 64 0 ++ drop a (take c W)) ≡ 64 + (c - a) = length-append (replicate {A = ℕ} 64 0) (drop a (take c W)) ∙ omega (arith, ld, length-replicate {A = ℕ} 64 0) in
    let l : length (take a (take c W) ++ (replicate 64 0 ++ drop a (take c W))) ≡ c + 64 = length-append (take a (take c W)) (replicate 64 0 ++ drop a (take c W)) ∙ omega (arith, la, l2) in
    let t : take (length W) (take a (take c W) ++ (replicate 64 0 ++ drop a (take c W))) ≡ take a (take c W) ++ (replicate 64 0 ++ drop a (take c W)) = take_all (length W) (take a (take c W) ++ (replicate 64 0 ++ drop a (take c W))) (omega arith) in
    let q = in_run (opened_within (length W) a 64) c W r u (omega arith) g in
    let e : u ≡ over W c (take a (take c W) ++ (replicate 64 0 ++ drop a (take c W))) = q.1 ∙ ap (over W c) t in
    (e, subst (λ (x : ℕ). a + 64 ≤ x) (sym (ap length e ∙ length-append (take a (take c W) ++ (replicate 64 0 ++ drop a (take c W))) _)) (omega arith))
