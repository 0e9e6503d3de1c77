-- op=frag, from the calls to the line. Assumes nothing.
use Prim.Native.Nat.{ℕ, ◌+◌, ◌-◌}
use mathlib.Core.Path.{◌≡◌, ap, subst, ◌∙◌}
use mathlib.Core.List.{List, ◌++◌}
use lib.ListN.{length, take, drop}
use borrow.Author.Tests.{eq-eqb}
use Rattle.numbers.specs.Number.{number_at}
use Rattle.numbers.specs.Promise.{Gives2}
use Rattle.numbers.specs.declared.sequence_number.SequenceNumber.{SequenceNumber}
use Rattle.number_sets.specs.declared.fragment_number_set.FragmentNumberSet.{FragmentNumberSet}
use Rattle.reader_list.specs.declared.calls.Found.{Found}
use Rattle.reader_list.specs.Slots.{found_of}
use Rattle.trace_readers.specs.declared.state.Trace.{Trace}
use Rattle.trace_readers.specs.declared.state.Followed.{Followed}
use Rattle.trace_readers.specs.Rooms.{part, words_at, samples_at}
use Rattle.trace_readers.specs.Requests.{reader_of}
use Rattle.trace_readers.specs.Fragments.{frag_set_of, asked_of, asked_put, frag_line}
use Rattle.trace_readers.proofs.Parts.{part_as, put_as}

module _ (id seq : ℕ) (l : List ℕ) (t : Trace) (large small : List ℕ) where
  pub frag-line : length large ≡ 4352 → length small ≡ 544 → (n : SequenceNumber) → n ≡ number_at seq → (set : FragmentNumberSet) → set ≡ frag_set_of l
      → (found : Found) → found ≡ found_of t.heads id → (i : ℕ) → i ≡ reader_of found → (a d : ℕ) → a ≡ samples_at i → d ≡ words_at i
      → (r : Followed) (u v : List ℕ) → Gives2 r u v (asked_of i id n set t (take (a + 16 - a) (drop a small)) (take (d + 1024 - d) (drop d large)))
      → Gives2 r (take d large ++ (v ++ drop (d + 1024 - d) (drop d large))) (take a small ++ (u ++ drop (a + 16 - a) (drop a small))) (frag_line id seq l t large small)
  frag-line hl hs n en set es found ef i ei a d ea ed r u v g =
      let la = take d large ++ (v ++ drop (d + 1024 - d) (drop d large)) in
      let sm = take a small ++ (u ++ drop (a + 16 - a) (drop a small)) in
      let x : Gives2 r u v (asked_of i id n set t (part (samples_at i) 16 small) (take (d + 1024 - d) (drop d large)))
      = subst (λ (z : List ℕ). Gives2 r u v (asked_of i id n set t z (take (d + 1024 - d) (drop d large)))) (part_as a (samples_at i) 16 small ea) g in
      let y : Gives2 r u v (asked_of i id n set t (part (samples_at i) 16 small) (part (words_at i) 1024 large))
      = subst (λ (z : List ℕ). Gives2 r u v (asked_of i id n set t (part (samples_at i) 16 small) z)) (part_as d (words_at i) 1024 large ed) x in
      let o : Gives2 r la sm (asked_put i id n set t large small)
      = record { result = y.result; first = put_as d (words_at i) 1024 v _ large ed y.second; second = put_as a (samples_at i) 16 u _ small ea y.first } in
      let p : Gives2 r la sm (asked_put (reader_of (found_of t.heads id)) id n set t large small) = subst (λ (b : ℕ). Gives2 r la sm (asked_put b id n set t large small)) (ei ∙ ap reader_of ef) o in
      let j : Gives2 r la sm (asked_put (reader_of (found_of t.heads id)) id (number_at seq) set t large small)
      = subst (λ (m : SequenceNumber). Gives2 r la sm (asked_put (reader_of (found_of t.heads id)) id m set t large small)) en p in
      let k : Gives2 r la sm (asked_put (reader_of (found_of t.heads id)) id (number_at seq) (frag_set_of l) t large small)
      = subst (λ (s : FragmentNumberSet). Gives2 r la sm (asked_put (reader_of (found_of t.heads id)) id (number_at seq) s t large small)) es j in
      rw (eq-eqb (length large) 4352 hl, eq-eqb (length small) 544 hs) k
