-- Laws of lists that the loops use. Assumes nothing.
use Rattle.std.proofs.Common.{◌≡◌, ℕ, zero, suc, ◌+◌, ◌-◌, ◌<◌, ◌≤◌, min, Bool, true, false, ltb, List, ◌++◌, length, get_or, take, drop, replicate, sym, refl, ap, ◌∙◌, append_assoc, arith, length-append, length-drop, take-append-drop, length-take, take_all, get_or-take, drop-drop, ltb-false, ltb-true}
use Rattle.sets.proofs.Loops.{upto, upto_all}
use Rattle.rising.specs.Runs.{filled}
use lib.ListN.{get_or-append}
use lib.Seq.{take-append-add}

-- ---- zeros
pub get_d_zeros : (m j : ℕ) → ◌≡◌ {A = ℕ} (get_or (replicate m 0) j 0) 0
get_d_zeros zero j = refl
get_d_zeros (suc m) zero = refl
get_d_zeros (suc m) (suc j) = get_d_zeros m j

-- ---- what `drop_front` leaves
abbrev pub dropped : ℕ → List ℕ → List ℕ
dropped k s = drop k s ++ replicate (min k (length s)) 0

-- ---- what `lift` leaves
abbrev pub lifted : ℕ → List ℕ → List ℕ
lifted k s = replicate (min k (length s)) 0 ++ take (length s - k) s

-- ---- what comes to a room from its front, as far as it fits
pub filled-length : (w out : List ℕ) → length (filled w out) ≡ length out
filled-length w out = simp (length-append, length-take, length-drop) (omega arith)

pub filled_at : (w out : List ℕ) (k : ℕ) → k < length out → k < length w → get_or (filled w out) k 0 ≡ get_or w k 0
filled_at w out k h l =
    let q : k < length (take (length out) w) = rw length-take (omega arith) in
    get_or-append (take (length out) w) _ 0 k q ∙ get_or-take (length out) w k 0 h

pub filled_end : (w out : List ℕ) (k : ℕ) → length w ≤ k → upto (filled w out) out (min k (length out)) ≡ filled w out
filled_end w out k a = go (ltb (length w) (length out)) refl
  where
    go : (b : Bool) → ltb (length w) (length out) ≡ b → upto (filled w out) out (min k (length out)) ≡ filled w out
    go false b = let h = ltb-false (length w) (length out) b in upto_all (filled w out) out (filled-length w out) (min k (length out)) (omega arith)
    go true b =
        let h = ltb-true (length w) (length out) b in
        let m = min k (length out) in
        let al : take (length out) w ≡ w = take_all (length out) w (omega arith) in
        let t : take (min k (length out)) (filled w out) ≡ w ++ take (min k (length out) - length w) (drop (length w) out) =
        ap (λ (x : List ℕ). take (min k (length out)) (x ++ drop (length w) out)) al ∙ ap (λ (x : ℕ). take x (w ++ drop (length w) out)) (split (omega arith)) ∙ take-append-add w (drop (length w) out) (min k (length out) - length w) in
        rw (t, append_assoc) (rest al)
      where
        split : length w ≤ min k (length out) → min k (length out) ≡ length w + (min k (length out) - length w)
        split q = omega arith

        rest : take (length out) w ≡ w → w ++ (take (min k (length out) - length w) (drop (length w) out) ++ drop (min k (length out)) out) ≡ filled w out
        rest al =
            let h = ltb-true (length w) (length out) b in
            let q : length w + (min k (length out) - length w) ≡ min k (length out) = omega arith in
            let d : drop (min k (length out)) out ≡ drop (min k (length out) - length w) (drop (length w) out) = sym (drop-drop (min k (length out) - length w) (length w) out ∙ ap (λ (x : ℕ). drop x out) q) in
            ap (λ (x : List ℕ). w ++ x) (ap (λ (x : List ℕ). take (min k (length out) - length w) (drop (length w) out) ++ x) d ∙ take-append-drop (min k (length out) - length w) (drop (length w) out)) ∙ ap (λ (x : List ℕ). x ++ drop (length w) out) (sym al)
