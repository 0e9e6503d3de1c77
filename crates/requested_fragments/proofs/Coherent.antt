-- What the check of the rooms says, part by part. Assumes nothing.
use Prim.Native.Nat.{ℕ, ◌*◌, ◌≤◌}
use mathlib.Core.Path.{◌≡◌}
use mathlib.Core.Bool.{true, ◌&&◌}
use mathlib.Core.List.{List}
use lib.Dec.{leb, eqb}
use lib.ListN.{length, take, drop}
use borrow.Author.Tests.{leb-true, le-leb, eqb-true, eq-eqb}
use Rattle.sets.proofs.Bools.{and_left, and_right}
use Rattle.rising.specs.Runs.{rises_above, zeros, run_coherent}
use Rattle.requested_fragments.specs.Table.{all_hold, frag_rooms_coherent}

pub record Coherent (count : ℕ) (S W : List ℕ) : Type 0 where
  pub small : count ≤ length S
  pub length_s : length S ≤ 16
  pub length_w : length W ≡ 64 * length S
  pub rises : rises_above 0 (take count S) ≡ true
  pub rest_s : zeros (drop count S) ≡ true
  pub holds : all_hold count W ≡ true
  pub rest_w : zeros (drop (64 * count) W) ≡ true

pub is-coherent : (count : ℕ) (S W : List ℕ) → frag_rooms_coherent count S W ≡ true → Coherent count S W
is-coherent count S W h =
    let r0 = and_right (leb (length S) 16) (eqb (length W) (64 * length S) && (run_coherent 0 count S && (all_hold count W && zeros (drop (64 * count) W)))) h in
    let r1 = and_right (eqb (length W) (64 * length S)) (run_coherent 0 count S && (all_hold count W && zeros (drop (64 * count) W))) r0 in
    let run = and_left (run_coherent 0 count S) (all_hold count W && zeros (drop (64 * count) W)) r1 in
    let r2 = and_right (run_coherent 0 count S) (all_hold count W && zeros (drop (64 * count) W)) r1 in
    let q = and_right (leb count (length S)) (rises_above 0 (take count S) && zeros (drop count S)) run in
    let l : length S ≤ 16 = leb-true (length S) 16 (and_left (leb (length S) 16) (eqb (length W) (64 * length S) && (run_coherent 0 count S && (all_hold count W && zeros (drop (64 * count) W)))) h) in
    record {
      small = leb-true count (length S) (and_left (leb count (length S)) (rises_above 0 (take count S) && zeros (drop count S)) run);
      length_s = l;
      length_w = eqb-true (length W) (64 * length S) (and_left (eqb (length W) (64 * length S)) (run_coherent 0 count S && (all_hold count W && zeros (drop (64 * count) W))) r0);
      rises = and_left (rises_above 0 (take count S)) (zeros (drop count S)) q;
      rest_s = and_right (rises_above 0 (take count S)) (zeros (drop count S)) q;
      holds = and_left (all_hold count W) (zeros (drop (64 * count) W)) r2;
      rest_w = and_right (all_hold count W) (zeros (drop (64 * count) W)) r2;
    }

pub coherent-is : (count : ℕ) (S W : List ℕ) → Coherent count S W → frag_rooms_coherent count S W ≡ true
coherent-is count S W c =
    rw (le-leb (length S) 16 c.length_s, eq-eqb (length W) (64 * length S) c.length_w, le-leb count (length S) c.small, c.rises, c.rest_s, c.holds, c.rest_w)
