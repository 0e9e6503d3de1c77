-- From a record that passes the check, every fragment asked for comes up. Assumes nothing.
use Prim.Native.Nat.{ℕ, suc, ◌≤◌}
use mathlib.Core.Path.{◌≡◌, ap, ◌∙◌}
use mathlib.Core.Bool.{true, not}
use mathlib.Core.List.{List, [], ◌∷◌}
use lib.ListN.{length, take, drop}
use lib.Seq.{length-take-le}
use borrow.Author.Tests.{not-true}
use Rattle.requested_fragments.proofs.Form.{rising_tail}
use Rattle.sets.specs.Sets.{empty}
use Rattle.requested_fragments.specs.Words.{fragments_of}
use Rattle.requested_fragments.proofs.Frags.{frag-rises}
use Rattle.rising.specs.Runs.{rises_above}
use Rattle.sets.proofs.Bools.{and_left, and_right}
use Rattle.requested_fragments.specs.Table.{blocks_of, all_hold, blocks_view, table_of, frag_rooms_coherent}
use Rattle.requested_fragments.specs.Drain.{EntriesCoherent, all_asked, turns}
use Rattle.requested_fragments.proofs.Coherent.{is-coherent}
use Rattle.requested_fragments.proofs.Drained.{drained}

sound_of : (ss ws : List ℕ) (p : ℕ) → rises_above p ss ≡ true → all_hold (length ss) ws ≡ true → EntriesCoherent (suc p) (blocks_view (blocks_of ss ws))
sound_of [] ws p h g = tt
sound_of (s ∷ ss) ws p h g =
    let r = rising_tail p s ss h in
    let e = and_left (not (empty (fragments_of (take 64 ws)))) (all_hold (length ss) (drop 64 ws)) g in
    (r.0, (frag-rises (take 64 ws), (not-true (empty (fragments_of (take 64 ws))) e, sound_of ss (drop 64 ws) s r.1 (and_right (not (empty (fragments_of (take 64 ws)))) (all_hold (length ss) (drop 64 ws)) g))))

pub coherent_sound : (count : ℕ) (S W : List ℕ) → frag_rooms_coherent count S W ≡ true → EntriesCoherent 1 (blocks_view (table_of count S W))
coherent_sound count S W h =
    let c = is-coherent count S W h in
    let l : length (take count S) ≡ count = length-take-le count S c.small in
    sound_of (take count S) W 0 c.rises (ap (λ (k : ℕ). all_hold k W) l ∙ c.holds)

-- THE THEOREM: from any record that passes the check, repeating 'next fragment from 1, mark it sent' offers all that is asked for, in order, and nothing else; then nothing is asked for
pub all_come_up : (count : ℕ) (S W : List ℕ) (k : ℕ) → frag_rooms_coherent count S W ≡ true → length (all_asked (blocks_view (table_of count S W))) ≤ k
    → turns k (blocks_view (table_of count S W)) ≡ record { offered = all_asked (blocks_view (table_of count S W)); left = [] }
all_come_up count S W k h q = drained k 1 (blocks_view (table_of count S W)) (coherent_sound count S W h) q
