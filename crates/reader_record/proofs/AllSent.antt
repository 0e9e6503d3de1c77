-- From any record whose proxy and fragment rooms pass the check, the reader's own calls offer every requested fragment, once, and leave none requested.
-- Assumes nothing.
use Prim.Native.Nat.{ℕ, zero, suc, ◌≤◌}
use mathlib.Core.Path.{◌≡◌, refl, sym, ap, subst, ◌∙◌}
use mathlib.Core.Bool.{Bool, true, false, not, cond, ◌||◌}
use mathlib.Core.List.{List, [], ◌∷◌}
use native.Mathlib.Omega.{arith}
use lib.Dec.{leb, eqb}
use lib.ListN.{length}
use borrow.Author.Tests.{le-leb, lt-ltb, eq-eqb}
use Rattle.sets.specs.Sets.{has, empty, only, first_or}
use Rattle.sets.proofs.Bools.{and_left, and_right, and_both}
use Rattle.sets.proofs.Has.{has-only}
use Rattle.numbers.specs.Capacities.{top_number, top_fragment}
use Rattle.numbers.specs.Number.{rank_of, number_at, fragment_at}
use Rattle.numbers.specs.Refusals.{row, done, unless}
use Rattle.numbers.specs.Cursor.{fragment_cursor_at, fragment_cursor_past}
use Rattle.numbers.specs.Promise.{Left2}
use Rattle.numbers.specs.declared.answer.Answer.{Answer}
use Rattle.numbers.specs.declared.sequence_number.SequenceNumber.{SequenceNumber}
use Rattle.numbers.specs.declared.fragment_number.FragmentNumber.{FragmentNumber}
use Rattle.numbers.proofs.Ranks.{rank_back}
use Rattle.rising.proofs.Meaning.{rises_are}
use Rattle.requested_fragments.specs.Entries.{Entry, samples_of, sent, next_sample, next_fragment, some}
use Rattle.requested_fragments.specs.Table.{frag_rooms_coherent, samples_room, words_room, marked_in}
use Rattle.requested_fragments.specs.Drain.{Piece, all_asked, DrainRun, offering, turns, times}
use Rattle.requested_fragments.proofs.Drained.{drained, once}
use Rattle.requested_fragments.proofs.Whole.{coherent_sound}
use Rattle.requested_fragments.proofs.Coherent.{is-coherent}
use Rattle.requested_fragments.proofs.Form.{marked_again}
use Rattle.requested_fragments.proofs.Both.{Valid as EntriesValid, rooms_pass, rooms_hold_lem, entries_valid, entries_few, sent-few}
use Rattle.rtps_reader_proxy.specs.Parts.{count_frags}
use Rattle.rtps_reader_proxy.specs.declared.proxy.ReaderProxy.{ReaderProxy}
use Rattle.rtps_reader_proxy.specs.declared.proxy.Changed.{Changed}
use Rattle.rtps_reader_proxy.specs.declared.fragments.NextFragRequested.{NextFragRequested}
use Rattle.rtps_reader_proxy.specs.Reader.{Reader, frags_requested}
use Rattle.rtps_reader_proxy.specs.Record.{proxy_coherent}
use Rattle.rtps_reader_proxy.specs.Fragments.{frags_coherent, entries_in, frag_sent_of, next_frag_of}
use Rattle.reader_record.specs.Play.{Played, onward, turn, play}
use Rattle.reader_record.specs.AllSent.{Drains}
use Rattle.reader_record.proofs.Whole.{proxy-is}

-- what is offered is a sample number and a fragment number, which the answer can hold
small : (es : List Entry) → EntriesValid es → (next_sample es ≤ top_number) × (next_fragment 1 es ≤ top_fragment)
small [] v = (omega arith, omega arith)
small (e ∷ es) v = (
  (rises_are 0 (samples_of (e ∷ es)) v.rises).top e.sample (ap (λ (t : Bool). t || has (samples_of es) e.sample) (eq-eqb e.sample e.sample refl)),
  first (only (leb 1) e.frags) (λ n h. omega (arith, (v.asks.0.1.0 n (and_right (leb 1 n) (has e.frags n) (sym (has-only (leb 1) e.frags n) ∙ h))).1)),
)
  where
    first : (l : List ℕ) → ((n : ℕ) → has l n ≡ true → n ≤ top_fragment) → first_or 0 l ≤ top_fragment
    first [] q = omega arith
    first (x ∷ xs) q = q x (ap (λ (t : Bool). t || has xs x) (eq-eqb x x refl))

module _ (h : ReaderProxy) (S W : List ℕ) (ok : frags_coherent h S W ≡ true) where
  abbrev E : List Entry
  E = entries_in h S W

  rooms : frag_rooms_coherent h.frag_count S W ≡ true
  rooms = and_right (proxy_coherent h) (frag_rooms_coherent h.frag_count S W) ok

  -- the question's answer, by whether there is a next
  abbrev no_next : Answer → NextFragRequested
  no_next a = record { answer = a; sample = number_at 0; fragment = fragment_at 0; cursor = fragment_cursor_at 0 }

  abbrev this_next : NextFragRequested
  this_next = record { answer = done; sample = number_at (next_sample (entries_in h S W)); fragment = fragment_at (next_fragment 1 (entries_in h S W)); cursor = fragment_cursor_past (next_fragment 1 (entries_in h S W)) }

  abbrev next_by_lem : Bool → NextFragRequested
  next_by_lem t = unless (row 1 refl false ∷ row 14 refl t ∷ []) no_next this_next

  next-is : next_frag_of (fragment_cursor_at 1) h S W ≡ next_by_lem (eqb (next_fragment 1 (entries_in h S W)) 0)
  next-is = ap (λ (b : Bool). unless (row 1 refl (not b) ∷ row 14 refl (eqb (next_fragment 1 (entries_in h S W)) 0) ∷ []) no_next this_next) ok

  -- the mark's outcome
  abbrev left : ℕ → ℕ → List Entry
  left n f = sent n f (entries_in h S W)

  abbrev marks : ℕ → ℕ → Left2 Changed (List ℕ) (List ℕ)
  marks n f = record { result = record { answer = done; proxy = count_frags (length (left n f)) h }; first = samples_room (length S) (left n f); second = words_room (length S) (left n f) }

  marks_is : (n : SequenceNumber) (f : FragmentNumber) → frag_sent_of n f h S W ≡ marks (rank_of n) f.0
  marks_is n f =
      ap (λ (b : Bool). unless (row 1 refl (not b) ∷ []) (λ a. record { result = record { answer = a; proxy = h }; first = S; second = W }) (marks (rank_of n) f.0)) ok

  left-valid : (n f : ℕ) → EntriesValid (left n f)
  left-valid n f =
      let y = marked_again h.frag_count S W n f rooms in
      subst EntriesValid y.1 (entries_valid (marked_in n f h.frag_count S W).result (marked_in n f h.frag_count S W).first (marked_in n f h.frag_count S W).second y.0)

  left-few : (n f : ℕ) → length (left n f) ≤ length S
  left-few n f = omega (arith, sent-few n f (entries_in h S W), entries_few h.frag_count S W rooms)

  -- the record after it passes the check, and holds what is left
  left_ok : (n f : ℕ) → frags_coherent (count_frags (length (left n f)) h) (samples_room (length S) (left n f)) (words_room (length S) (left n f)) ≡ true
  left_ok n f =
      let k = proxy-is h (and_left (proxy_coherent h) (frag_rooms_coherent h.frag_count S W) ok) in
      and_both (proxy_coherent (count_frags (length (left n f)) h)) (frag_rooms_coherent (length (left n f)) (samples_room (length S) (left n f)) (words_room (length S) (left n f)))
      (rw (k.acked, le-leb 1 h.unsent_cap k.cap-low, le-leb h.unsent_cap 1024 k.cap_high, le-leb h.unsent_count h.unsent_cap k.unsent, k.prefix, le-leb h.gap_count 256 k.gaps, le-leb (length (left n f)) 16 (left-valid n f).small))
      (rooms_pass (length S) (left n f) (left-valid n f) (left-few n f) (is-coherent h.frag_count S W rooms).length_s)

-- what the calls did is what the turns did
pub record Alike (p : Played) (r : DrainRun) : Type 0 where
  pub offered : p.offered ≡ r.offered
  pub passes : frags_coherent p.proxy p.samples p.words ≡ true
  pub left : entries_in p.proxy p.samples p.words ≡ r.left

pub alike : (k : ℕ) (h : ReaderProxy) (S W : List ℕ) → frags_coherent h S W ≡ true → Alike (play k h S W) (turns k (entries_in h S W))
alike zero h S W ok = record { offered = refl; passes = ok; left = refl }
alike (suc k) h S W ok =
    subst (λ (o : NextFragRequested). Alike (turn (play k) h S W o) (turns (suc k) (entries_in h S W))) (sym (next-is h S W ok))
    (go (eqb (next_fragment 1 (entries_in h S W)) 0) (λ x y z g. alike k x y z g))
  where
    n : ℕ
    n = next_sample (entries_in h S W)

    f : ℕ
    f = next_fragment 1 (entries_in h S W)

    go : (t : Bool) → ((x : ReaderProxy) (y z : List ℕ) → frags_coherent x y z ≡ true → Alike (play k x y z) (turns k (entries_in x y z)))
        → Alike (turn (play k) h S W (next_by_lem h S W ok t))
        (cond t (record { offered = []; left = entries_in h S W })
        (offering (record { sample = next_sample (entries_in h S W); frag = next_fragment 1 (entries_in h S W) }) (turns k (sent (next_sample (entries_in h S W)) (next_fragment 1 (entries_in h S W)) (entries_in h S W)))))
    go true r = record { offered = refl; passes = ok; left = refl }
    go false r =
        let m = small (entries_in h S W) (entries_valid h.frag_count S W (rooms h S W ok)) in
        let en : rank_of (number_at n) ≡ n = rank_back n (omega (arith, m.0)) in
        let ef : (fragment_at f).0 ≡ f = ap (λ (t : Bool). cond t f 0) (lt-ltb f 4294967296 (omega (arith, m.1))) in
        let es = left h S W ok n f in
        let is : frag_sent_of (number_at n) (fragment_at f) h S W ≡ marks h S W ok n f = marks_is h S W ok (number_at n) (fragment_at f) ∙ ap (λ (x : ℕ). marks h S W ok x (fragment_at f).0) en ∙ ap (marks h S W ok n) ef in
        let q = r (count_frags (length es) h) (samples_room (length S) es) (words_room (length S) es) (left_ok h S W ok n f) in
        let a : Alike (onward (play k) (marks h S W ok n f)) (turns k es) = subst (λ (x : List Entry). Alike (onward (play k) (marks h S W ok n f)) (turns k x)) (rooms_hold_lem (length S) es (left-valid h S W ok n f) (left-few h S W ok n f)) q in
        let b : Alike (onward (play k) (frag_sent_of (number_at n) (fragment_at f) h S W)) (turns k es) = subst (λ (x : Left2 Changed (List ℕ) (List ℕ)). Alike (onward (play k) x) (turns k es)) (sym is) a in
        record {
          offered =
              ap (λ (x : ℕ). record { sample = x; frag = (fragment_at f).0 } ∷ (onward (play k) (frag_sent_of (number_at n) (fragment_at f) h S W)).offered) en
              ∙ ap (λ (x : ℕ). record { sample = n; frag = x } ∷ (onward (play k) (frag_sent_of (number_at n) (fragment_at f) h S W)).offered) ef
              ∙ ap (λ (l : List Piece). record { sample = n; frag = f } ∷ l) b.offered;
          passes = b.passes;
          left = b.left;
        }

-- THE THEOREM, of the reader's calls
pub all_sent : (k : ℕ) (h : ReaderProxy) (S W : List ℕ) → frags_coherent h S W ≡ true → length (all_asked (entries_in h S W)) ≤ k → Drains h S W (play k h S W)
all_sent k h S W ok q =
    let a = alike k h S W ok in
    let s = coherent_sound h.frag_count S W (rooms h S W ok) in
    let d = drained k 1 (entries_in h S W) s q in
    let e : some (entries_in (play k h S W).proxy (play k h S W).samples (play k h S W).words) ≡ false = ap some (a.left ∙ ap (λ (r : DrainRun). r.left) d) in
    record {
      offered = λ n f. ap (times n f) (a.offered ∙ ap (λ (r : DrainRun). r.offered) d) ∙ once 1 n f (entries_in h S W) s;
      passes = a.passes;
      none =
          ap (λ (b : Bool). unless (row 1 refl (not b) ∷ []) (λ x. record { answer = x; yes = false }) (record { answer = done; yes = some (entries_in (play k h S W).proxy (play k h S W).samples (play k h S W).words) })) a.passes
          ∙ ap (λ (b : Bool). record { answer = done; yes = b }) e;
    }

-- a request for nothing hides nothing: it changes nothing
pub asks_nothing : (n : ℕ) (ms : List ℕ) (r : Reader) → empty ms ≡ true → frags_requested n ms r ≡ r
asks_nothing n ms r e = rw e
