-- The calls on the requested fragments: refused, or the reader's step done in the rooms of samples and words. Assumes nothing.
use Prim.Native.Nat.{ℕ, suc, ◌+◌, ◌≤◌, ◌<◌}
use mathlib.Core.Path.{◌≡◌, refl, sym, ap, subst, ◌∙◌}
use mathlib.Core.Bool.{Bool, true, false, not, ◌&&◌, ◌||◌}
use mathlib.Core.Logic.{◌⊎◌, inl, inr}
use mathlib.Core.List.{List, [], ◌∷◌}
use native.Mathlib.Omega.{arith}
use native.Mathlib.Nat.{lt_irrefl}
use lib.Dec.{leb, ltb, eqb}
use lib.ListN.{length, take}
use lib.Seq.{length-take-le}
use borrow.Author.Tests.{not-false, eqb-true, eqb-false, leb-true, leb-false, ne_eqb}
use Rattle.sets.specs.Sets.{has, From, empty, insert, only}
use Rattle.sets.proofs.Bools.{and_assoc, and_left, and_right, decide, neither}
use Rattle.numbers.specs.Capacities.{top_number, top_fragment}
use Rattle.numbers.specs.Number.{rank_of, is_sample}
use Rattle.numbers.specs.Refusals.{holds_in, Row, row, answer_of, done, Rows}
use Rattle.numbers.specs.Promise.{Left2, Gives2}
use Rattle.numbers.specs.declared.answer.Answer.{Answer}
use Rattle.numbers.specs.declared.sequence_number.SequenceNumber.{SequenceNumber}
use Rattle.numbers.proofs.Refused.{clear, first-row, done-is, is_refused, is-done, gives2}
use Rattle.number_sets.specs.declared.fragment_number_set.FragmentNumberSet.{FragmentNumberSet}
use Rattle.number_sets.specs.Bits.{members}
use Rattle.number_sets.specs.Calls.{fragment_set}
use Rattle.rising.proofs.Meaning.{rises_are}
use Rattle.rising.proofs.Inserts.{insert_le}
use Rattle.rising.proofs.Changes.{insert-same}
use Rattle.requested_fragments.specs.Entries.{Entry, requested, samples_of, some}
use Rattle.requested_fragments.specs.Table.{frag_rooms_coherent, table_of, entries_of, samples_room, words_room, ask_t, askable, rooms_hold, asked_in, marked_in}
use Rattle.requested_fragments.proofs.Blocks.{samples_of_lem, samples-length}
use Rattle.requested_fragments.proofs.Laws.{fit}
use Rattle.requested_fragments.proofs.Coherent.{Coherent, is-coherent}
use Rattle.requested_fragments.proofs.Meaning.{Within, ask_means}
use Rattle.requested_fragments.proofs.Form.{coherent_fit, marked_again}
use Rattle.requested_fragments.proofs.AskForm.{asked_again, askable-within, askable-rises, askable_all, asked_samples}
use Rattle.requested_fragments.proofs.OneForm.{Words}
use Rattle.requested_fragments.proofs.Both.{view_samples, entries_valid, rooms_are}
use Rattle.rtps_reader_proxy.specs.Parts.{count_frags}
use Rattle.rtps_reader_proxy.specs.declared.proxy.ReaderProxy.{ReaderProxy}
use Rattle.rtps_reader_proxy.specs.declared.proxy.Changed.{Changed}
use Rattle.numbers.specs.declared.answer.Told.{Told}
use Rattle.rtps_reader_proxy.specs.Reader.{Reader, needs_slot, frags_requested, frag_sent}
use Rattle.rtps_reader_proxy.specs.Record.{proxy_coherent, room_for, changed}
use Rattle.rtps_reader_proxy.specs.Fragments.{frags_coherent, entries_in, by_frags, frags_by, cannot_ask, no_slot, frags_requested_of, repair_of}
use Rattle.rtps_reader_proxy.proofs.GapCalls.{above}
use Rattle.rtps_reader_proxy.proofs.Parts.{room_for_lem}

-- the samples of the entries are those in the room
pub samples_are : (c : ℕ) (S W : List ℕ) → samples_of (entries_of c S W) ≡ take c S
samples_are c S W = view_samples (table_of c S W) ∙ samples_of_lem (take c S) W

-- nothing is asked for where there are no members
pub none_asked : (l : List ℕ) → eqb (length l) 0 ≡ empty l
none_asked [] = refl
none_asked (x ∷ xs) = ne_eqb (suc (length xs)) 0 (λ z. lt_irrefl 0 (omega arith))

-- "any member above 4,096"
pub too_high : (l : List ℕ) → only (leb 4097) l ≡ only (ltb top_fragment) l
too_high l = above top_fragment l

-- what the code's test of a slot says
pub slot_is : (n : ℕ) (set : FragmentNumberSet) (h : ReaderProxy) (samples words : List ℕ) (size : ℕ) (held : Bool)
    → size ≡ length (members (fragment_set set)) → held ≡ has (take h.frag_count samples) n
    → ((leb 16 h.frag_count && not (eqb size 0)) && not held) ≡ no_slot n set h samples words
slot_is n set h samples words size held es eh =
    and_assoc (leb 16 h.frag_count) (not (eqb size 0)) (not held)
    ∙ ap (λ (t : Bool). leb 16 h.frag_count && (not t && not held)) (ap (λ (k : ℕ). eqb k 0) es ∙ none_asked (members (fragment_set set)))
    ∙ ap (λ (t : Bool). leb 16 h.frag_count && (not (empty (members (fragment_set set))) && not t)) (eh ∙ ap (λ (l : List ℕ). has l n) (sym (samples_are h.frag_count samples words)))

-- a request that is not refused with 2: its sample, its base and its members are as they must be
pub record CanAsk (n : SequenceNumber) (set : FragmentNumberSet) : Type 0 where
  pub low : 0 < rank_of n
  pub high : rank_of n ≤ top_number
  pub all : askable set ≡ members (fragment_set set)

pub can_ask : (n : SequenceNumber) (set : FragmentNumberSet) → cannot_ask n set ≡ false → CanAsk n set
can_ask n set e =
    let a = neither (not (is_sample n)) (eqb set.base.0 0 || not (empty (only (ltb top_fragment) ms))) e in
    let b = neither (eqb set.base.0 0) (not (empty (only (ltb top_fragment) ms))) a.1 in
    let s : is_sample n ≡ true = not-false (is_sample n) a.0 in
    let l = leb-true 1 (rank_of n) (and_left (leb 1 (rank_of n)) (leb (rank_of n) top_number) s) in
    let base : 1 ≤ set.base.0 = above_0 set.base.0 (eqb-false set.base.0 0 b.0) in
    record {
      low = omega arith;
      high = leb-true (rank_of n) top_number (and_right (leb 1 (rank_of n)) (leb (rank_of n) top_number) s);
      all = askable_all set base (ap empty (too_high ms) ∙ not-false (empty (only (ltb top_fragment) ms)) b.1);
    }
  where
    ms : List ℕ
    ms = members (fragment_set set)

    above_0 : (k : ℕ) → (k ≡ 0 → ⊥) → 1 ≤ k
    above_0 k f = omega arith

-- a request that finds a slot leaves no more than what is lent has room for
module _ (c : ℕ) (S W : List ℕ) (k : frag_rooms_coherent c S W ≡ true) where
  abbrev held : List Entry
  held = entries_of c S W

  known : Coherent c S W
  known = is-coherent c S W k

  fitting : rooms_hold c S W ≡ true
  fitting = fit c S W known.small (omega (arith, known.small, known.length_w))

  pub count-is : length (samples_of held) ≡ c
  count-is = ap length (samples_are c S W) ∙ length-take-le c S known.small

  slot_left : (n : ℕ) (ms : List ℕ) → From 1 ms → Within ms 64 → room_for 1 16 c S ≡ true → (leb 16 c && not (has (samples_of held) n)) ≡ false → length (ask_t n ms (table_of c S W)) ≤ length S
  slot_left n ms f w room e = go (room_for_lem 1 16 c S known.small room) (decide (leb 16 c))
    where
      long : length (ask_t n ms (table_of c S W)) ≡ length (insert n (samples_of held))
      long =
          sym (samples-length (ask_t n ms (table_of c S W)))
          ∙ ap length (sym (view_samples (ask_t n ms (table_of c S W))) ∙ ap samples_of (ask_means n ms f w (table_of c S W) (coherent_fit c S W known).full) ∙ asked_samples n ms held)

      go : (c + 1 ≤ length S) ⊎ (16 ≤ length S) → (leb 16 c ≡ true) ⊎ (leb 16 c ≡ false) → length (ask_t n ms (table_of c S W)) ≤ length S
      go (inl y) t = omega (arith, long, insert_le n (samples_of held), count-is)
      go (inr y) (inr t) = omega (arith, long, insert_le n (samples_of held), count-is, leb-false 16 c t)
      go (inr y) (inl t) =
          let y : has (samples_of held) n ≡ true = not-false (has (samples_of held) n) (ap (λ (b : Bool). b && not (has (samples_of held) n)) (sym t) ∙ e) in
          let g = rises_are 0 (samples_of held) (entries_valid c S W k).rises in
          omega (arith, long, ap length (insert-same n 1 (samples_of held) g.from y), count-is, known.small)

  -- what a request leaves passes the check, holds what was held and asked for, and is as long
  pub request_again : (n : ℕ) (ms : List ℕ) → From 1 ms → Within ms 64 → 0 < n → n ≤ top_number → room_for 1 16 c S ≡ true → (leb 16 c && (not (empty ms) && not (has (samples_of held) n))) ≡ false
      → (frag_rooms_coherent (asked_in n ms c S W).result (asked_in n ms c S W).first (asked_in n ms c S W).second ≡ true)
      × (entries_of (asked_in n ms c S W).result (asked_in n ms c S W).first (asked_in n ms c S W).second ≡ requested n ms held)
      × (length (asked_in n ms c S W).first ≡ length S)
  request_again n ms f w lo hi room e = go (decide (empty ms))
    where
      go : (empty ms ≡ true) ⊎ (empty ms ≡ false)
          → (frag_rooms_coherent (asked_in n ms c S W).result (asked_in n ms c S W).first (asked_in n ms c S W).second ≡ true)
          × (entries_of (asked_in n ms c S W).result (asked_in n ms c S W).first (asked_in n ms c S W).second ≡ requested n ms held)
          × (length (asked_in n ms c S W).first ≡ length S)
      go (inl t) = rw (fitting, t) (k, refl, refl)
      go (inr t) = asked_again c S W n ms k f w lo hi (slot_left n ms f w room (ap (λ (b : Bool). leb 16 c && (not b && not (has (samples_of held) n))) (sym t) ∙ e))

module _ (h : ReaderProxy) (samples words : List ℕ) (fits : Bool) (rows : List Row) (a : Answer) (q : a ≡ answer_of (row 1 refl (not (fits && frags_coherent h samples words)) ∷ rows)) where
  abbrev frag_rows : Rows
  frag_rows = row 1 refl (not (fits && frags_coherent h samples words)) ∷ rows

  abbrev not_changed : Answer → Left2 Changed (List ℕ) (List ℕ)
  not_changed x = record { result = record { answer = x; proxy = h }; first = samples; second = words }

  abbrev is-changed : (Reader → Reader) → Left2 Changed (List ℕ) (List ℕ)
  is-changed f =
      record {
        result = record { answer = done; proxy = count_frags (length (f (by_frags h samples words)).frags) h };
        first = samples_room (length samples) (f (by_frags h samples words)).frags;
        second = words_room (length samples) (f (by_frags h samples words)).frags;
      }

  module _ (z : a.number ≡ 0) where
    frags_both : (fits && frags_coherent h samples words) ≡ true
    frags_both = not-false (fits && frags_coherent h samples words) (first-row (holds_in 1 rows) _ (clear frag_rows a q z 1 refl))

    pub frags-known : frag_rooms_coherent h.frag_count samples words ≡ true
    frags-known = and_right (proxy_coherent h) (frag_rooms_coherent h.frag_count samples words) (and_right fits (frags_coherent h samples words) frags_both)

    -- rooms as long as those lent that pass the check and hold what the reader's step f leaves
    frags-done : (f : Reader → Reader) (n : ℕ) (S W : List ℕ) (r : Changed) → r ≡ changed a (count_frags n h) → Words W → length S ≡ length samples → frag_rooms_coherent n S W ≡ true
        → entries_of n S W ≡ (f (by_frags h samples words)).frags → Gives2 r S W (frags_by fits rows f h samples words)
    frags-done f n S W r e w l k v =
        let y = rooms_are n S W k w in
        let c : n ≡ length (f (by_frags h samples words)).frags = y.0 ∙ ap length v in
        gives2 r S W (is-changed f) (frags_by fits rows f h samples words) (is-done frag_rows a q not_changed (is-changed f) z)
        (e ∙ rw (done-is frag_rows a q z, c)) (y.1 ∙ ap (samples_room (length S)) v ∙ ap (λ (m : ℕ). samples_room m (f (by_frags h samples words)).frags) l)
        (y.2 ∙ ap (words_room (length S)) v ∙ ap (λ (m : ℕ). words_room m (f (by_frags h samples words)).frags) l)

    pub sent-done : (m f n : ℕ) (S W : List ℕ) (r : Changed) → r ≡ changed a (count_frags n h) → Words W → Gives2 n S W (marked_in m f h.frag_count samples words)
        → Gives2 r S W (frags_by fits rows (frag_sent m f) h samples words)
    sent-done m f n S W r e w g =
        let y = marked_again h.frag_count samples words m f frags-known in
        frags-done (frag_sent m f) n S W r e w (ap length g.first ∙ y.2) (rw (g.result, g.first, g.second) y.0) (rw (g.result, g.first, g.second) y.1)

    pub requested-done : fits ≡ room_for 1 16 h.frag_count samples → (m : SequenceNumber) (set : FragmentNumberSet) (n : ℕ) (S W : List ℕ) (r : Changed) → cannot_ask m set ≡ false → no_slot (rank_of m) set h samples words ≡ false
        → r ≡ changed a (count_frags n h) → Words W → Gives2 n S W (asked_in (rank_of m) (askable set) h.frag_count samples words)
        → Gives2 r S W (frags_by fits rows (frags_requested (rank_of m) (members (fragment_set set))) h samples words)
    requested-done ef m set n S W r ca ns e w g =
        let k = can_ask m set ca in
        let y =
        request_again h.frag_count samples words frags-known (rank_of m) (askable set) (askable-rises set) (askable-within set) k.low k.high (sym ef ∙ and_left fits (frags_coherent h samples words) frags_both)
        (ap (λ (l : List ℕ). leb 16 h.frag_count && needs_slot (rank_of m) l (by_frags h samples words)) k.all ∙ ns) in
        frags-done (frags_requested (rank_of m) (members (fragment_set set))) n S W r e w (ap length g.first ∙ y.2) (rw (g.result, g.first, g.second) y.0)
        (rw (g.result, g.first, g.second) y.1 ∙ ap (λ (l : List ℕ). requested (rank_of m) l (entries_in h samples words)) k.all)

-- a request
module _ (n : SequenceNumber) (set : FragmentNumberSet) (h : ReaderProxy) (samples words : List ℕ) (a : Answer) where
  abbrev room : Bool
  room = room_for 1 16 h.frag_count samples

  abbrev request_rows_lem : Bool → Bool → Bool → List Row
  request_rows_lem fits range full = row 1 refl (not (fits && frags_coherent h samples words)) ∷ row 3 refl (ltb 256 set.count) ∷ row 2 refl range ∷ row 10 refl full ∷ []

  module _ (q : a ≡ answer_of ((request_rows_lem room (cannot_ask n set) (no_slot (rank_of n) set h samples words)))) where
    abbrev these : List Row
    these = row 3 refl (ltb 256 set.count) ∷ row 2 refl (cannot_ask n set) ∷ row 10 refl (no_slot (rank_of n) set h samples words) ∷ []

    pub request-done : a.number ≡ 0 → (k c : ℕ) (S W : List ℕ) (r : Changed) → k ≡ rank_of n → r ≡ changed a (count_frags c h) → Words W
        → Gives2 c S W (asked_in k (askable set) h.frag_count samples words) → Gives2 r S W (frags_requested_of n set h samples words)
    request-done z k c S W r ek e w g =
        let free = clear ((request_rows_lem room (cannot_ask n set) (no_slot (rank_of n) set h samples words))) a q z in
        requested-done h samples words room these a q z refl n set c S W r (free 2 refl) (free 10 refl) e w
        (subst (λ (x : ℕ). Gives2 c S W (asked_in x (askable set) h.frag_count samples words)) ek g)

-- whether any is requested
module _ (h : ReaderProxy) (samples words : List ℕ) (a : Answer) (q : a ≡ answer_of (row 1 refl (not (frags_coherent h samples words)) ∷ [])) where
  abbrev not_told : Answer → Told
  not_told x = record { answer = x; yes = false }

  abbrev is-told : Told
  is-told = record { answer = done; yes = some (entries_in h samples words) }

  pub repair_is : ◌≡◌ {A = Told} (record { answer = a; yes = eqb a.number 0 && not (eqb h.frag_count 0) }) (repair_of h samples words)
  repair_is = go (decide (eqb a.number 0))
    where
      some_is : (es : List Entry) → not (eqb (length (samples_of es)) 0) ≡ some es
      some_is [] = refl
      some_is (e ∷ es) = ap not (ne_eqb (suc (length (samples_of es))) 0 (λ z. lt_irrefl 0 (omega arith)))

      go : (eqb a.number 0 ≡ true) ⊎ (eqb a.number 0 ≡ false) → ◌≡◌ {A = Told} (record { answer = a; yes = eqb a.number 0 && not (eqb h.frag_count 0) }) (repair_of h samples words)
      go (inl t) =
          let z = eqb-true a.number 0 t in
          let c = count-is h.frag_count samples words (frags-known h samples words true [] a q z) in
          let y : not (eqb h.frag_count 0) ≡ some (entries_in h samples words) = ap (λ (n : ℕ). not (eqb n 0)) (sym c) ∙ some_is (entries_in h samples words) in
          rw (t, done-is (row 1 refl (not (frags_coherent h samples words)) ∷ []) a q z, y) (is-done (row 1 refl (not (frags_coherent h samples words)) ∷ []) a q not_told is-told z)
      go (inr t) = rw t (is_refused (row 1 refl (not (frags_coherent h samples words)) ∷ []) a q not_told is-told (eqb-false a.number 0 t))
