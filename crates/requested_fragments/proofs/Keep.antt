-- What `keep_from` leaves in the rooms: the blocks from a place on; where the samples rise, those of the samples from n on. Assumes nothing.
use Prim.Native.Nat.{ℕ, suc, ◌+◌, ◌-◌, ◌*◌, ◌≤◌, ◌<◌}
use mathlib.Core.Path.{◌≡◌, refl, sym, ap, subst, ◌∙◌}
use mathlib.Core.Bool.{Bool, true, false, not, cond}
use mathlib.Core.List.{List, [], ◌∷◌}
use native.Mathlib.Omega.{arith}
use lib.Dec.{leb}
use lib.ListN.{length, take, drop}
use lib.Seq.{length-take-le}
use borrow.Author.Tests.{leb-true, le-leb}
use Rattle.sets.specs.Sets.{empty}
use Rattle.sets.proofs.Bools.{and_right}
use Rattle.numbers.specs.Promise.{Gives2}
use Rattle.rising.specs.Runs.{rises_above, place_of, cut_out, over}
use Rattle.rising.proofs.Rooms.{drop-take}
use Rattle.requested_fragments.specs.Words.{fragments_of}
use Rattle.requested_fragments.specs.Entries.{Entry, entries_from}
use Rattle.requested_fragments.specs.Table.{Block, blocks_of, samples_in, words_in, from_t, blocks_view, table_of, entries_of, frag_rooms_coherent, rooms_hold, kept_from}
use Rattle.requested_fragments.proofs.Blocks.{samples_of_lem, words_of, samples-length, d64}
use Rattle.requested_fragments.proofs.Coherent.{is-coherent}
use Rattle.requested_fragments.proofs.Laws.{fit}
use Rattle.requested_fragments.proofs.Meaning.{Full}
use Rattle.requested_fragments.proofs.Form.{Fit, hold_t, coherent_fit, rising_tail, rising_weak, form_again}

-- ---- in the rooms
-- where there is none, none goes
pub kept-none : (n count : ℕ) (S W : List ℕ) → count ≡ 0 → Gives2 count S W (kept_from n count S W)
kept-none n count S W z = subst (λ (c : ℕ). Gives2 c S W (kept_from n c S W)) (sym z) (rw (fit 0 S W (omega arith) (omega arith)) (record { result = refl; first = refl; second = refl }))

module _ (n : ℕ) where
  from_samples : (ss ws : List ℕ) → samples_in (from_t n (blocks_of ss ws)) ≡ drop (place_of n ss) ss
  from_samples [] ws = refl
  from_samples (s ∷ ss) ws = go (leb n s) (from_samples ss (drop 64 ws))
    where
      go : (t : Bool) → samples_in (from_t n (blocks_of ss (drop 64 ws))) ≡ drop (place_of n ss) ss
          → samples_in (cond t (record { sample = s; words = take 64 ws } ∷ blocks_of ss (drop 64 ws)) (from_t n (blocks_of ss (drop 64 ws)))) ≡ drop (cond t 0 (suc (place_of n ss))) (s ∷ ss)
      go true e = ap (λ (l : List ℕ). s ∷ l) (samples_of_lem ss (drop 64 ws))
      go false e = e

  -- 64 words more, in front of those that go
  more : (x y : ℕ) (ws : List ℕ) → drop (64 * suc x) (take (64 * suc y) ws) ≡ drop (64 * x) (take (64 * y) (drop 64 ws))
  more x y ws =
      let e : 64 * suc y - 64 ≡ 64 * y = omega arith in
      d64 x (take (64 * suc y) ws) ∙ ap (drop (64 * x)) (drop-take 64 (64 * suc y) ws ∙ ap (λ (k : ℕ). take k (drop 64 ws)) e)

  from_words : (ss ws : List ℕ) → words_in (from_t n (blocks_of ss ws)) ≡ drop (64 * place_of n ss) (take (64 * length ss) ws)
  from_words [] ws = refl
  from_words (s ∷ ss) ws = go (leb n s) (from_words ss (drop 64 ws))
    where
      go : (t : Bool) → words_in (from_t n (blocks_of ss (drop 64 ws))) ≡ drop (64 * place_of n ss) (take (64 * length ss) (drop 64 ws))
          → words_in (cond t (record { sample = s; words = take 64 ws } ∷ blocks_of ss (drop 64 ws)) (from_t n (blocks_of ss (drop 64 ws)))) ≡ drop (64 * cond t 0 (suc (place_of n ss))) (take (64 * suc (length ss)) ws)
      go true e = words_of (s ∷ ss) ws
      go false e = e ∙ sym (more (place_of n ss) (length ss) ws)

  module _ (count : ℕ) (S W : List ℕ) (hs : count ≤ length S) (hw : 64 * count ≤ length W) where
    abbrev T : List Block
    T = table_of count S W

    pub kept-done : (k r : ℕ) (U Z : List ℕ) → k ≡ place_of n (take count S)
        → Z ≡ over W (count * 64) (cut_out 0 (k * 64) (take (count * 64) W)) → U ≡ over S count (cut_out 0 k (take count S)) → r ≡ length (cut_out 0 k (take count S))
        → Gives2 r U Z (kept_from n count S W)
    kept-done k r U Z e z u l =
        let c : count * 64 ≡ 64 * count = omega arith in
        let i : 0 + k * 64 ≡ 64 * place_of n (take count S) = omega arith in
        let j : 0 + k ≡ place_of n (take count S) = omega arith in
        let ls : length (take count S) ≡ count = length-take-le count S hs in
        let s : cut_out 0 k (take count S) ≡ samples_in (from_t n T) = ap (λ (x : ℕ). drop x (take count S)) j ∙ sym (from_samples (take count S) W) in
        let w : cut_out 0 (k * 64) (take (count * 64) W) ≡ words_in (from_t n T) =
        ap (λ (x : ℕ). drop x (take (count * 64) W)) i ∙ ap (λ (x : ℕ). drop (64 * place_of n (take count S)) (take x W)) (c ∙ ap (λ (x : ℕ). 64 * x) (sym ls)) ∙ sym (from_words (take count S) W) in
        rw (fit count S W hs hw)
        (record {
          result = l ∙ ap length s ∙ samples-length (from_t n T);
          first = u ∙ ap (over S count) s;
          second = z ∙ ap (over W (count * 64)) w ∙ ap (λ (x : ℕ). over W x (words_in (from_t n T))) c;
        })

-- ---- what it means
module _ (n : ℕ) where
  from_full : (t : List Block) → Full t → Full (from_t n t)
  from_full [] g = tt
  from_full (b ∷ bs) g = go (leb n b.sample) (from_full bs g.1)
    where
      go : (x : Bool) → Full (from_t n bs) → Full (cond x (b ∷ bs) (from_t n bs))
      go true r = g
      go false r = r

  from_small : (t : List Block) → length (from_t n t) ≤ length t
  from_small [] = omega arith
  from_small (b ∷ bs) = go (leb n b.sample) (from_small bs)
    where
      go : (x : Bool) → length (from_t n bs) ≤ length bs → length (cond x (b ∷ bs) (from_t n bs)) ≤ suc (length bs)
      go true r = omega arith
      go false r = omega arith

  from_rises : (p : ℕ) (t : List Block) → rises_above p (samples_in t) ≡ true → rises_above p (samples_in (from_t n t)) ≡ true
  from_rises p [] g = refl
  from_rises p (b ∷ bs) g =
      let q = rising_tail p b.sample (samples_in bs) g in
      go (leb n b.sample) (from_rises p bs (rising_weak p b.sample (samples_in bs) (omega (arith, q.0)) q.1))
    where
      go : (x : Bool) → rises_above p (samples_in (from_t n bs)) ≡ true → rises_above p (samples_in (cond x (b ∷ bs) (from_t n bs))) ≡ true
      go true r = g
      go false r = r

  from_holds : (t : List Block) → hold_t t ≡ true → hold_t (from_t n t) ≡ true
  from_holds [] g = refl
  from_holds (b ∷ bs) g = go (leb n b.sample) (from_holds bs (and_right (not (empty (fragments_of b.words))) (hold_t bs) g))
    where
      go : (x : Bool) → hold_t (from_t n bs) ≡ true → hold_t (cond x (b ∷ bs) (from_t n bs)) ≡ true
      go true r = g
      go false r = r

  from_fit : (k : ℕ) (t : List Block) → Fit k t → Fit k (from_t n t)
  from_fit k t g = record { full = from_full t g.full; small = omega (arith, from_small t, g.small); rises = from_rises 0 t g.rises; holds = from_holds t g.holds }

  -- where the first sample isn't below n, none is
  all_from : (p : ℕ) (t : List Block) → n ≤ p → rises_above p (samples_in t) ≡ true → entries_from n (blocks_view t) ≡ blocks_view t
  all_from p [] h g = refl
  all_from p (b ∷ bs) h g =
      let q = rising_tail p b.sample (samples_in bs) g in
      rw (le-leb n b.sample (omega (arith, q.0))) (ap (λ (l : List Entry). record { sample = b.sample; frags = fragments_of b.words } ∷ l) (all_from b.sample bs (omega (arith, q.0)) q.1))

  from_means : (p : ℕ) (t : List Block) → rises_above p (samples_in t) ≡ true → blocks_view (from_t n t) ≡ entries_from n (blocks_view t)
  from_means p [] g = refl
  from_means p (b ∷ bs) g = go (leb n b.sample) refl (from_means b.sample bs q.1)
    where
      q : (p < b.sample) × (rises_above b.sample (samples_in bs) ≡ true)
      q = rising_tail p b.sample (samples_in bs) g

      go : (x : Bool) → leb n b.sample ≡ x → blocks_view (from_t n bs) ≡ entries_from n (blocks_view bs)
          → blocks_view (cond x (b ∷ bs) (from_t n bs)) ≡ cond x (record { sample = b.sample; frags = fragments_of b.words } ∷ entries_from n (blocks_view bs)) (entries_from n (blocks_view bs))
      go true e r = ap (λ (l : List Entry). record { sample = b.sample; frags = fragments_of b.words } ∷ l) (sym (all_from b.sample bs (leb-true n b.sample e) q.1))
      go false e r = r

-- it leaves rooms that pass the check, hold the entries of the samples from n on, and are as long
pub kept_again : (count : ℕ) (S W : List ℕ) (n : ℕ) → frag_rooms_coherent count S W ≡ true
    → (frag_rooms_coherent (kept_from n count S W).result (kept_from n count S W).first (kept_from n count S W).second ≡ true)
    × (entries_of (kept_from n count S W).result (kept_from n count S W).first (kept_from n count S W).second ≡ entries_from n (entries_of count S W))
    × (length (kept_from n count S W).first ≡ length S)
kept_again count S W n h =
    let c = is-coherent count S W h in
    let t = table_of count S W in
    let f = coherent_fit count S W c in
    let k : rooms_hold count S W ≡ true = fit count S W c.small (omega (arith, c.small, c.length_w)) in
    rw k (form_again count S W (from_t n t) c (from_fit n (length S) t f) (entries_from n (entries_of count S W)) (from_means n 0 t f.rises))
