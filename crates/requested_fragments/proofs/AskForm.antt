-- A request leaves a record that passes the check, and holds what it held and what was asked for. Assumes nothing.
use Prim.Native.Nat.{ℕ, ◌≤◌, ◌<◌}
use mathlib.Core.Path.{◌≡◌, refl, sym, ap, subst, ◌∙◌}
use mathlib.Core.Bool.{Bool, true, false, not, cond, ◌||◌, ◌&&◌, true≢false, false≢true}
use mathlib.Core.List.{List, [], ◌∷◌}
use native.Mathlib.Omega.{arith}
use lib.Dec.{eqb, ltb, leb}
use lib.ListN.{length, replicate}
use borrow.Author.Tests.{leb-true, leb-false, lt-ltb, le-ltb, le-leb, eq-eqb, ne_eqb, eqb-true, eqb-false}
use Rattle.sets.specs.Sets.{has, From, empty, union, only, insert}
use Rattle.sets.proofs.Ext.{ext}
use Rattle.sets.proofs.Has.{has-union, has-only, has-between, From-only, From-low, From_raise}
use Rattle.sets.proofs.Bools.{and_left, and_right, and_no, decide}
use mathlib.Core.Logic.{◌⊎◌, inl, inr}
use Rattle.requested_fragments.specs.Words.{fragments_of}
use Rattle.rising.specs.Runs.{rises_above}
use Rattle.numbers.specs.Capacities.{top_number}
use Rattle.requested_fragments.specs.Entries.{Entry, requested_some, requested, samples_of}
use Rattle.requested_fragments.specs.Table.{Block, samples_in, ask_t, ask_all, askable, table_of, entries_of, frag_rooms_coherent, rooms_hold, asked_in}
use Rattle.number_sets.specs.declared.fragment_number_set.FragmentNumberSet.{FragmentNumberSet}
use Rattle.number_sets.specs.Bits.{members}
use Rattle.number_sets.specs.Calls.{fragment_set}
use Rattle.number_sets.proofs.Meaning.{members_rise}
use Rattle.requested_fragments.proofs.Laws.{fit}
use Rattle.requested_fragments.proofs.Asking.{ask_all-length}
use Rattle.requested_fragments.proofs.Coherent.{Coherent, is-coherent}
use Rattle.requested_fragments.proofs.Meaning.{Full, Within, ask_all-is, ask_all_new, ask_means}
use Rattle.requested_fragments.proofs.Form.{Fit, hold_t, coherent_fit, form_again, rising_tail, rising_head}

some-has : (l : List ℕ) (n : ℕ) → has l n ≡ true → empty l ≡ false
some-has [] n h = absurd (false≢true h)
some-has (x ∷ xs) n h = refl

module _ (n : ℕ) (ms : List ℕ) (g : From 1 ms) (h : Within ms 64) (s : empty ms ≡ false) (lo : 0 < n) (hi : n ≤ 9223372036854775806) where
  top : leb n top_number ≡ true
  top = le-leb n top_number hi

  -- what a block asks for then
  old : (ws : List ℕ) → length ws ≡ 64 → empty (fragments_of (ask_all ms ws)) ≡ false
  old ws l = go ms refl
    where
      all : fragments_of (ask_all ms ws) ≡ union ms (fragments_of ws)
      all = ask_all-is ms ws (subst (Within ms) (sym l) h)

      go : (xs : List ℕ) → ms ≡ xs → empty (fragments_of (ask_all ms ws)) ≡ false
      go [] e = absurd (true≢false (sym (ap empty e) ∙ s))
      go (x ∷ xs) e =
          let y : has ms x ≡ true = ap (λ (z : List ℕ). has z x) e ∙ ap (λ (t : Bool). t || has xs x) (eq-eqb x x refl) in
          some-has (fragments_of (ask_all ms ws)) x (ap (λ (z : List ℕ). has z x) all ∙ has-union ms (fragments_of ws) x ∙ ap (λ (t : Bool). t || has (fragments_of ws) x) y)

  new : empty (fragments_of (ask_all ms (replicate 64 0))) ≡ false
  new = ap empty (ask_all_new 64 ms g h) ∙ s

  ask_full : (t : List Block) → Full t → Full (ask_t n ms t)
  ask_full [] f = (ask_all-length ms (replicate 64 0), tt)
  ask_full (b ∷ bs) f = go (leb n b.sample) (eqb b.sample n) (ask_full bs f.1)
    where
      go : (x y : Bool) → Full (ask_t n ms bs)
          → Full (cond x (cond y (record { sample = b.sample; words = ask_all ms b.words } ∷ bs) (record { sample = n; words = ask_all ms (replicate 64 0) } ∷ b ∷ bs)) (b ∷ ask_t n ms bs))
      go true true r = (ask_all-length ms b.words ∙ f.0, f.1)
      go true false r = (ask_all-length ms (replicate 64 0), f)
      go false y r = (f.0, r)

  ask_rises : (p : ℕ) (t : List Block) → p < n → rises_above p (samples_in t) ≡ true → rises_above p (samples_in (ask_t n ms t)) ≡ true
  ask_rises p [] q f = rw (lt-ltb p n q, top)
  ask_rises p (b ∷ bs) q f = go (leb n b.sample) refl (eqb b.sample n) refl (λ z. ask_rises b.sample bs z (rising_tail p b.sample (samples_in bs) f).1)
    where
      go : (x : Bool) → leb n b.sample ≡ x → (y : Bool) → eqb b.sample n ≡ y → (b.sample < n → rises_above b.sample (samples_in (ask_t n ms bs)) ≡ true)
          → rises_above p (samples_in (cond x (cond y (record { sample = b.sample; words = ask_all ms b.words } ∷ bs) (record { sample = n; words = ask_all ms (replicate 64 0) } ∷ b ∷ bs)) (b ∷ ask_t n ms bs))) ≡ true
      go true e true k r = f
      go true e false k r =
          let l : ltb n b.sample ≡ true = lt-ltb n b.sample (strict (leb-true n b.sample e) (eqb-false b.sample n k)) in
          let z = and_right (ltb p b.sample) (leb b.sample top_number && rises_above b.sample (samples_in bs)) f in
          rw (lt-ltb p n q, top, l) z
        where
          strict : n ≤ b.sample → (b.sample ≡ n → ⊥) → n < b.sample
          strict u v = omega arith
      go false e y k r = rising_head p b.sample (samples_in bs) (samples_in (ask_t n ms bs)) f (r (leb-false n b.sample e))

  ask_holds : (t : List Block) → Full t → hold_t t ≡ true → hold_t (ask_t n ms t) ≡ true
  ask_holds [] f q = rw new
  ask_holds (b ∷ bs) f q = go (leb n b.sample) (eqb b.sample n) (empty (fragments_of b.words)) refl q (ask_holds bs f.1)
    where
      go : (x y z : Bool) → empty (fragments_of b.words) ≡ z → (not z && hold_t bs) ≡ true → (hold_t bs ≡ true → hold_t (ask_t n ms bs) ≡ true)
          → hold_t (cond x (cond y (record { sample = b.sample; words = ask_all ms b.words } ∷ bs) (record { sample = n; words = ask_all ms (replicate 64 0) } ∷ b ∷ bs)) (b ∷ ask_t n ms bs)) ≡ true
      go x y true e k r = absurd (false≢true k)
      go true true false e k r = rw (old b.words f.0) k
      go true false false e k r = rw (new, e) k
      go false y false e k r = rw e (r k)

  pub ask_fit : (k : ℕ) (t : List Block) → Fit k t → length (ask_t n ms t) ≤ k → Fit k (ask_t n ms t)
  ask_fit k t f l = record { full = ask_full t f.full; small = l; rises = ask_rises 0 t lo f.rises; holds = ask_holds t f.full f.holds }

-- the members of a set that can be asked for rise from 1 on, and have a bit
pub askable-within : (set : FragmentNumberSet) → Within (askable set) 64
askable-within set n e =
    let t = and_left (leb 1 n && leb n 4096) (has (members (fragment_set set)) n) (sym (has-between 1 4096 (members (fragment_set set)) n) ∙ e) in
    (leb-true 1 n (and_left (leb 1 n) (leb n 4096) t), leb-true n 4096 (and_right (leb 1 n) (leb n 4096) t))

pub askable-rises : (set : FragmentNumberSet) → From 1 (askable set)
askable-rises set =
    From_raise set.base.0 1 (askable set) (From-only set.base.0 (λ n. leb 1 n && leb n 4096) (members (fragment_set set)) (members_rise (fragment_set set)))
    (λ n e. (askable-within set n e).0)

-- a request that finds room leaves rooms that pass the check, hold what they held and what was asked for, and are as long
pub asked_again : (count : ℕ) (S W : List ℕ) (n : ℕ) (ms : List ℕ) → frag_rooms_coherent count S W ≡ true → From 1 ms → Within ms 64 → 0 < n → n ≤ 9223372036854775806
    → length (ask_t n ms (table_of count S W)) ≤ length S
    → (frag_rooms_coherent (asked_in n ms count S W).result (asked_in n ms count S W).first (asked_in n ms count S W).second ≡ true)
    × (entries_of (asked_in n ms count S W).result (asked_in n ms count S W).first (asked_in n ms count S W).second ≡ requested n ms (entries_of count S W))
    × (length (asked_in n ms count S W).first ≡ length S)
asked_again count S W n ms h r1 w lo hi room = go (empty ms) refl
  where
    c : Coherent count S W
    c = is-coherent count S W h

    k0 : rooms_hold count S W ≡ true
    k0 = fit count S W c.small (omega (arith, c.small, c.length_w))

    go : (t : Bool) → empty ms ≡ t
        → (frag_rooms_coherent (asked_in n ms count S W).result (asked_in n ms count S W).first (asked_in n ms count S W).second ≡ true)
        × (entries_of (asked_in n ms count S W).result (asked_in n ms count S W).first (asked_in n ms count S W).second ≡ cond t (entries_of count S W) (requested_some n ms (entries_of count S W)))
        × (length (asked_in n ms count S W).first ≡ length S)
    go true e = rw (k0, e) (h, refl, refl)
    go false e =
        let t = ask_t n ms (table_of count S W) in
        let f0 : Fit (length S) (table_of count S W) = coherent_fit count S W c in
        let g : Fit (length S) t = ask_fit n ms r1 w e lo hi (length S) (table_of count S W) f0 room in
        let k1 : rooms_hold (length t) S W ≡ true = fit (length t) S W room (omega (arith, c.length_w, room)) in
        rw (k0, e, k1) (form_again count S W t c g (requested_some n ms (entries_of count S W)) (ask_means n ms r1 w (table_of count S W) f0.full))

-- of a set whose base is not 0 and that has no member above 4,096, all members can be asked for
pub askable_all : (set : FragmentNumberSet) → 1 ≤ set.base.0 → empty (only (leb 4097) (members (fragment_set set))) ≡ true → askable set ≡ members (fragment_set set)
askable_all set h e =
    ext b b (askable set) ms (From-only b (λ n. leb 1 n && leb n 4096) ms (members_rise (fragment_set set))) (members_rise (fragment_set set))
    (λ n. has-between 1 4096 ms n ∙ go n (decide (has ms n)))
  where
    ms : List ℕ
    ms = members (fragment_set set)

    b : ℕ
    b = set.base.0

    none : (l : List ℕ) (n : ℕ) → empty l ≡ true → has l n ≡ false
    none [] n q = refl
    none (x ∷ xs) n q = absurd (false≢true q)

    top : (n : ℕ) → has ms n ≡ true → n ≤ 4096
    top n q = elim (decide (leb 4097 n)) [
      | inl p ↦ absurd (true≢false (sym (has-only (leb 4097) ms n ∙ rw (p, q) refl) ∙ none (only (leb 4097) ms) n e))
      | inr p ↦ omega (arith, leb-false 4097 n p)
    ]

    go : (n : ℕ) → (has ms n ≡ true) ⊎ (has ms n ≡ false) → ((leb 1 n && leb n 4096) && has ms n) ≡ has ms n
    go n (inl q) = rw (le-leb 1 n (omega (arith, From-low b ms n (members_rise (fragment_set set)) q)), le-leb n 4096 (top n q), q) refl
    go n (inr q) = rw (q, and_no (leb 1 n && leb n 4096)) refl

-- the samples after a request: n joins them, so there is one entry more where n had none
pub asked_samples : (n : ℕ) (ms : List ℕ) (es : List Entry) → samples_of (requested_some n ms es) ≡ insert n (samples_of es)
asked_samples n ms [] = refl
asked_samples n ms (e ∷ es) = go (decide (eqb e.sample n)) (decide (leb n e.sample)) (asked_samples n ms es)
  where
    go : (eqb e.sample n ≡ true) ⊎ (eqb e.sample n ≡ false) → (leb n e.sample ≡ true) ⊎ (leb n e.sample ≡ false) → samples_of (requested_some n ms es) ≡ insert n (samples_of es)
        → samples_of (requested_some n ms (e ∷ es)) ≡ insert n (e.sample ∷ samples_of es)
    go (inl p) q r = rw (p, le-ltb n e.sample (omega (arith, eqb-true e.sample n p)), eq-eqb n e.sample (sym (eqb-true e.sample n p))) refl
    go (inr p) (inl q) r = rw (p, q, lt-ltb n e.sample (strict (leb-true n e.sample q) (eqb-false e.sample n p))) refl
      where
        strict : n ≤ e.sample → (e.sample ≡ n → ⊥) → n < e.sample
        strict u v = omega arith
    go (inr p) (inr q) r = rw (p, q, le-ltb n e.sample (omega (arith, leb-false n e.sample q)), ne_eqb n e.sample (λ (z : n ≡ e.sample). eqb-false e.sample n p (sym z))) (ap (λ (l : List ℕ). e.sample ∷ l) r)
