-- The request, way by way. Assumes nothing.
use Prim.Native.Nat.{ℕ, zero, suc, ◌+◌, ◌*◌, ◌/◌, ◌≤◌, ◌<◌}
use mathlib.Core.Path.{◌≡◌, refl, sym, ap, ◌∙◌}
use mathlib.Core.Bool.{Bool, true, false, not, cond, ◌&&◌, false≢true}
use mathlib.Core.List.{List, [], ◌∷◌, ◌++◌}
use native.Mathlib.Omega.{arith}
use lib.Dec.{leb}
use lib.ListN.{length, take, drop, replicate}
use lib.Seq.{length-take-le}
use borrow.Author.Tests.{le-leb}
use Rattle.sets.specs.Sets.{empty, insert}
use Rattle.sets.proofs.Bools.{and_no}
use Rattle.numbers.specs.Promise.{Gives1, Gives2}
use Rattle.rising.specs.Runs.{place_of, holds_at, put_in, over, in_room, insert_within}
use Rattle.rising.proofs.Inserts.{insert_new, put-length}
use Rattle.requested_fragments.specs.Table.{Block, table_of, samples_in, words_in, ask_t, ask_all, rooms_hold, asked_in}
use Rattle.requested_fragments.proofs.Laws.{in_run, fit}
use Rattle.requested_fragments.proofs.Joined.{join_law, fresh_law, new_length, place_in}

pub holds-below : (n i : ℕ) (l : List ℕ) → holds_at n l i ≡ true → i < length l
holds-below n i [] h = absurd (false≢true h)
holds-below n zero (x ∷ xs) h = omega arith
holds-below n (suc i) (x ∷ xs) h = let k : i < length xs = holds-below n i xs h in omega arith

module _ (n count : ℕ) (ms S W : List ℕ) where
  abbrev T : List Block
  T = table_of count S W

  unchanged : (rooms_hold count S W && (not (empty ms) && rooms_hold (length (ask_t n ms T)) S W)) ≡ false → Gives2 count S W (asked_in n ms count S W)
  unchanged h = rw h (record { result = refl; first = refl; second = refl })

  module _ (hs : count ≤ length S) (hw : 64 * count ≤ length W) (some : empty ms ≡ false) (e : ℕ) (g : e ≡ place_of n (take count S)) where
    ls : length (take count S) ≡ count
    ls = length-take-le count S hs

    pub place-small : e ≤ count
    place-small = place_in n count ms S W hs hw e g

    pub inside : holds_at n (take count S) e ≡ true → e < count
    inside h = let k : e < length (take count S) = holds-below n e (take count S) h in omega (arith, ls)

    done : (r : ℕ) (U Z : List ℕ) → r ≤ length S → 64 * r ≤ length W → (r ≡ length (ask_t n ms T)) × (U ≡ over S count (samples_in (ask_t n ms T))) × (Z ≡ over W (64 * count) (words_in (ask_t n ms T)))
        → Gives2 r U Z (asked_in n ms count S W)
    done r U Z a b q =
        let t : (rooms_hold count S W && (not (empty ms) && rooms_hold (length (ask_t n ms T)) S W)) ≡ true =
        rw (fit count S W hs hw, some) (ap (λ (k : ℕ). rooms_hold k S W) (sym q.0) ∙ fit r S W a b) in
        rw t (record { result = q.0; first = q.1; second = q.2 })

    pub asked_held : (Z : List ℕ) → holds_at n (take count S) e ≡ true → Z ≡ take (e * 64) W ++ (ask_all ms (take 64 (drop (e * 64) W)) ++ drop (e * 64 + 64) W) → Gives2 count S Z (asked_in n ms count S W)
    asked_held Z h w = done count S Z hs hw (join_law n count ms S W hs hw e g Z h (inside h) w)

    pub asked_full : rooms_hold (count + 1) S W ≡ false → holds_at n (take count S) e ≡ false → Gives2 count S W (asked_in n ms count S W)
    asked_full k h =
        unchanged (ap (λ (x : ℕ). rooms_hold count S W && (not (empty ms) && rooms_hold x S W)) (new_length n count ms S W hs hw e g h)
        ∙ ap (λ (t : Bool). rooms_hold count S W && (not (empty ms) && t)) k
        ∙ ap (λ (t : Bool). rooms_hold count S W && t) (and_no (not (empty ms))) ∙ and_no (rooms_hold count S W))

    pub asked_new : (r : ℕ) (U Z : List ℕ) → holds_at n (take count S) e ≡ false → count < length S → count < length W / 64
        → Z ≡ over W (count * 64) (take (e * 64) (take (count * 64) W) ++ (ask_all ms (replicate 64 0) ++ drop (e * 64) (take (count * 64) W)))
        → Gives1 r U (in_room (insert_within (length S) n) count S) → Gives2 r U Z (asked_in n ms count S W)
    asked_new r U Z h a b w u =
        let p : insert n (take count S) ≡ put_in e n (take count S) = insert_new n (take count S) (ap (holds_at n (take count S)) (sym g) ∙ h) ∙ ap (λ (i : ℕ). put_in i n (take count S)) (sym g) in
        let l : length (put_in e n (take count S)) ≡ suc count = put-length e n (take count S) ∙ ap suc ls in
        let i : insert_within (length S) n (take count S) ≡ put_in e n (take count S) =
        ap (λ (x : List ℕ). cond (leb (length x) (length S)) x (take count S)) p ∙ rw (l, le-leb (suc count) (length S) a) refl in
        let q = in_run (insert_within (length S) n) count S r U hs u in
        let rc : r ≡ count + 1 = q.0 ∙ ap length i ∙ l ∙ omega arith in
        let f = fresh_law n count ms S W hs hw e g Z U h w (q.1 ∙ ap (over S count) i) in
        done r U Z (omega arith) (omega arith) (rc ∙ f.0, f.1, f.2)
