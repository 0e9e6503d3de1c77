-- "The pending gap is the prefix and single members, all without numbers below A": what each step makes of it, number by number, and that the question for
-- the next one finds the smallest. Proved of the definitions that the promises cite. Assumes nothing.
use Prim.Native.Nat.{ℕ, suc, ◌-◌, ◌≤◌, ◌<◌, max}
use mathlib.Core.Path.{◌≡◌, refl, sym, ap, ◌∙◌}
use mathlib.Core.Bool.{Bool, true, false, not, cond, ◌&&◌, ◌||◌, true≢false, false≢true}
use mathlib.Core.Logic.{◌⊎◌, inl, inr}
use mathlib.Core.List.{List, [], ◌∷◌}
use native.Mathlib.Omega.{arith}
use lib.Dec.{leb, ltb, eqb}
use borrow.Author.Tests.{leb-true, leb-false, le-leb, ltb-false, lt-ltb, eqb-true}
use Rattle.sets.specs.Sets.{has, From, insert, only, empty, first_or}
use Rattle.sets.proofs.Bools.{and_left, and_right, and_both, or_false, or_right, decide, clash}
use Rattle.sets.proofs.Has.{has-insert, has-only, From-only}
use Rattle.sets.proofs.First.{empty-none, empty-some, first_cases}
use Rattle.rising.proofs.Meaning.{rises_are}
use Rattle.rtps_reader_proxy.specs.Reader.{Reader, acked_after, acknowledge, needs_room, gap_inserted, gap_up_to, in_pending_gap, next_gap}
use Rattle.reader_record.specs.Whole.{Valid}

-- n is in the pending gap of a reader with A, prefix end and members a, p and g
record In (a p : ℕ) (g : List ℕ) (n : ℕ) : Type 0 where
  low : 1 ≤ n
  acked : a ≤ n
  held : (n ≤ p) ⊎ (has g n ≡ true)

module _ (a p : ℕ) (g : List ℕ) (n : ℕ) where
  abbrev gap : Bool
  gap = (leb 1 n && leb a n) && (leb n p || has g n)

  in_is : gap ≡ true → In a p g n
  in_is e =
      let x = and_left (leb 1 n && leb a n) (leb n p || has g n) e in
      record {
        low = leb-true 1 n (and_left (leb 1 n) (leb a n) x);
        acked = leb-true a n (and_right (leb 1 n) (leb a n) x);
        held = go (or_false (leb n p) (has g n) (and_right (leb 1 n && leb a n) (leb n p || has g n) e));
      }
    where
      go : (leb n p ≡ true) ⊎ (has g n ≡ true) → (n ≤ p) ⊎ (has g n ≡ true)
      go (inl h) = inl (leb-true n p h)
      go (inr h) = inr h

  is_in : In a p g n → gap ≡ true
  is_in i = and_both (leb 1 n && leb a n) (leb n p || has g n) (and_both (leb 1 n) (leb a n) (le-leb 1 n i.low) (le-leb a n i.acked)) (go i.held)
    where
      go : (n ≤ p) ⊎ (has g n ≡ true) → (leb n p || has g n) ≡ true
      go (inl h) = ap (λ (t : Bool). t || has g n) (le-leb n p h)
      go (inr h) = or_right (leb n p) (has g n) h

same : (a b : Bool) → (a ≡ true → b ≡ true) → (b ≡ true → a ≡ true) → a ≡ b
same true b f g = sym (f refl)
same false true f g = g refl
same false false f g = refl

or_left : (a b : Bool) → a ≡ true → (a || b) ≡ true
or_left a b e = ap (λ (t : Bool). t || b) e

-- A MEMBER JOINS: n itself, unless it is below 1 or below A, and no other number; whether it takes room or not
module _ (n : ℕ) (r : Reader) (m : ℕ) where
  abbrev joins : Bool
  joins = eqb n m && (leb 1 n && leb r.acked n)

  abbrev after : Bool → List ℕ
  after t = cond t (insert n r.gaps) r.gaps

  to : (t : Bool) → In r.acked r.prefix (after t) m → (in_pending_gap r m || joins) ≡ true
  to t i = go i.held
    where
      old : (m ≤ r.prefix) ⊎ (has r.gaps m ≡ true) → (in_pending_gap r m || joins) ≡ true
      old h = or_left (in_pending_gap r m) joins (is_in r.acked r.prefix r.gaps m (record { low = i.low; acked = i.acked; held = h }))

      new : (b : Bool) → eqb n m ≡ b → (b || has r.gaps m) ≡ true → (in_pending_gap r m || joins) ≡ true
      new true e h =
          let q = eqb-true n m e in
          or_right (in_pending_gap r m) joins
          (and_both (eqb n m) (leb 1 n && leb r.acked n) e (and_both (leb 1 n) (leb r.acked n) (le-leb 1 n (omega (arith, i.low))) (le-leb r.acked n (omega (arith, i.acked)))))
      new false e h = old (inr h)

      in_after : (b : Bool) → has (after b) m ≡ true → (in_pending_gap r m || joins) ≡ true
      in_after true h = new (eqb n m) refl (sym (has-insert n m r.gaps) ∙ h)
      in_after false h = old (inr h)

      go : (m ≤ r.prefix) ⊎ (has (after t) m ≡ true) → (in_pending_gap r m || joins) ≡ true
      go (inl h) = old (inl h)
      go (inr h) = in_after t h

  back : (t : Bool) → needs_room n r ≡ t → (in_pending_gap r m ≡ true) ⊎ (joins ≡ true) → In r.acked r.prefix (after t) m
  back t e (inl h) = let i = in_is r.acked r.prefix r.gaps m h in record { low = i.low; acked = i.acked; held = go i.held }
    where
      kept : (b : Bool) → has r.gaps m ≡ true → has (after b) m ≡ true
      kept true h = has-insert n m r.gaps ∙ or_right (eqb n m) (has r.gaps m) h
      kept false h = h

      go : (m ≤ r.prefix) ⊎ (has r.gaps m ≡ true) → (m ≤ r.prefix) ⊎ (has (after t) m ≡ true)
      go (inl h) = inl h
      go (inr h) = inr (kept t h)
  back t e (inr h) =
      let x = and_right (eqb n m) (leb 1 n && leb r.acked n) h in
      let lo = leb-true 1 n (and_left (leb 1 n) (leb r.acked n) x) in
      let hi = leb-true r.acked n (and_right (leb 1 n) (leb r.acked n) x) in
      record { low = omega (arith, q, lo); acked = omega (arith, q, hi); held = go t e (and_right (leb 1 n) (leb r.acked n) x) }
    where
      d : eqb n m ≡ true
      d = and_left (eqb n m) (leb 1 n && leb r.acked n) h

      q : n ≡ m
      q = eqb-true n m d

      no_room : (b c : Bool) → has r.gaps n ≡ c → ltb r.prefix n ≡ b → (b && (leb r.acked n && not c)) ≡ false → leb r.acked n ≡ true → (m ≤ r.prefix) ⊎ (has r.gaps m ≡ true)
      no_room true true f g z w = inr (ap (has r.gaps) (sym q) ∙ f)
      no_room true false f g z w = absurd (true≢false (sym (and_both (leb r.acked n) true w refl) ∙ z))
      no_room false c f g z w = inl (omega (arith, q, ltb-false r.prefix n g))

      go : (b : Bool) → needs_room n r ≡ b → leb r.acked n ≡ true → (m ≤ r.prefix) ⊎ (has (after b) m ≡ true)
      go true f w = inr (has-insert n m r.gaps ∙ or_left (eqb n m) (has r.gaps m) d)
      go false f w = no_room (ltb r.prefix n) (has r.gaps n) refl refl f w

  pub gap_inserted_lem : in_pending_gap (gap_inserted n r) m ≡ (in_pending_gap r m || (eqb n m && (leb 1 n && leb r.acked n)))
  gap_inserted_lem =
      same (in_pending_gap (gap_inserted n r) m) (in_pending_gap r m || joins)
      (λ e. to (needs_room n r) (in_is r.acked r.prefix (after (needs_room n r)) m e))
      (λ e. is_in r.acked r.prefix (after (needs_room n r)) m (back (needs_room n r) refl (or_false (in_pending_gap r m) joins e)))

-- A PREFIX JOINS: the numbers from 1 through e that are not below A, and no other
pub gap_up_to_lem : (e : ℕ) (r : Reader) (m : ℕ) → in_pending_gap (gap_up_to e r) m ≡ (in_pending_gap r m || ((leb 1 m && leb r.acked m) && leb m e))
gap_up_to_lem e r m = go (leb 1 m && leb r.acked m) (decide (leb m e))
  where
    part : (leb m e ≡ true) ⊎ (leb m e ≡ false) → (leb m (max r.prefix e) || has (only (ltb e) r.gaps) m) ≡ ((leb m r.prefix || has r.gaps m) || leb m e)
    part (inl h) =
        let w = leb-true m e h in
        ap (λ (t : Bool). t || has (only (ltb e) r.gaps) m) (le-leb m (max r.prefix e) (omega arith))
        ∙ sym (or_right (leb m r.prefix || has r.gaps m) (leb m e) h)
    part (inr h) =
        let w = leb-false m e h in
        let x : has (only (ltb e) r.gaps) m ≡ has r.gaps m = has-only (ltb e) r.gaps m ∙ rw (lt-ltb e m w) in
        let y : leb m (max r.prefix e) ≡ leb m r.prefix = same (leb m (max r.prefix e)) (leb m r.prefix)
        (λ z. le-leb m r.prefix (omega (arith, leb-true m (max r.prefix e) z))) (λ z. le-leb m (max r.prefix e) (omega (arith, leb-true m r.prefix z))) in
        rw (x, y, h) (sym (no (leb m r.prefix || has r.gaps m)))
      where
        no : (t : Bool) → (t || false) ≡ t
        no true = refl
        no false = refl

    go : (t : Bool) → (leb m e ≡ true) ⊎ (leb m e ≡ false)
        → (t && (leb m (max r.prefix e) || has (only (ltb e) r.gaps) m)) ≡ ((t && (leb m r.prefix || has r.gaps m)) || (t && leb m e))
    go true c = part c
    go false c = refl

-- AN ACKNOWLEDGEMENT takes the numbers below the new A out of it, and no other
module _ (last b : ℕ) (ms : List ℕ) (r : Reader) (m : ℕ) where
  abbrev c : ℕ
  c = acked_after r.acked b

  before : In c r.prefix (only (leb c) r.gaps) m → (in_pending_gap r m && leb c m) ≡ true
  before i = and_both (in_pending_gap r m) (leb c m) (is_in r.acked r.prefix r.gaps m (record { low = i.low; acked = omega (arith, i.acked); held = go i.held })) (le-leb c m i.acked)
    where
      go : (m ≤ r.prefix) ⊎ (has (only (leb c) r.gaps) m ≡ true) → (m ≤ r.prefix) ⊎ (has r.gaps m ≡ true)
      go (inl h) = inl h
      go (inr h) = inr (and_right (leb c m) (has r.gaps m) (sym (has-only (leb c) r.gaps m) ∙ h))

  left : In r.acked r.prefix r.gaps m → leb c m ≡ true → In c r.prefix (only (leb c) r.gaps) m
  left i e = record { low = i.low; acked = leb-true c m e; held = go i.held }
    where
      go : (m ≤ r.prefix) ⊎ (has r.gaps m ≡ true) → (m ≤ r.prefix) ⊎ (has (only (leb c) r.gaps) m ≡ true)
      go (inl h) = inl h
      go (inr h) = inr (has-only (leb c) r.gaps m ∙ and_both (leb c m) (has r.gaps m) e h)

  pub gap-acknowledged : in_pending_gap (acknowledge last b ms r) m ≡ (in_pending_gap r m && leb (acked_after r.acked b) m)
  gap-acknowledged =
      same (in_pending_gap (acknowledge last b ms r) m) (in_pending_gap r m && leb c m)
      (λ e. before (in_is c r.prefix (only (leb c) r.gaps) m e))
      (λ e. is_in c r.prefix (only (leb c) r.gaps) m
      (left (in_is r.acked r.prefix r.gaps m (and_left (in_pending_gap r m) (leb c m) e)) (and_right (in_pending_gap r m) (leb c m) e)))

-- THE NEXT ONE from c on is in it, and no smaller one from c on is; where none is found there is none
module _ (c : ℕ) (r : Reader) (v : Valid r) where
  abbrev k : ℕ
  k = max c (max 1 r.acked)

  abbrev later : List ℕ
  later = only (leb k) r.gaps

  rising : From (suc (max r.prefix (r.acked - 1))) later
  rising = From-only (suc (max r.prefix (r.acked - 1))) (leb k) r.gaps (rises_are (max r.prefix (r.acked - 1)) r.gaps v.gaps).from

  -- past the prefix, only members are left
  member : r.prefix < k → (m : ℕ) → c ≤ m → in_pending_gap r m ≡ true → has later m ≡ true
  member far m q e = let i = in_is r.acked r.prefix r.gaps m e in go i i.held
    where
      go : In r.acked r.prefix r.gaps m → (m ≤ r.prefix) ⊎ (has r.gaps m ≡ true) → has later m ≡ true
      go i (inl h) = absurd (omega (arith, i.low, i.acked))
      go i (inr h) = has-only (leb k) r.gaps m ∙ and_both (leb k m) (has r.gaps m) (le-leb k m (omega (arith, i.low, i.acked))) h

  pub gap-none : empty (next_gap c r) ≡ true → (m : ℕ) → c ≤ m → in_pending_gap r m ≡ false
  gap-none = go (leb k r.prefix) refl
    where
      go : (t : Bool) → leb k r.prefix ≡ t → empty (cond t (k ∷ []) later) ≡ true → (m : ℕ) → c ≤ m → in_pending_gap r m ≡ false
      go true e h m q = absurd (false≢true h)
      go false e h m q = case (decide (in_pending_gap r m))
        where
          case : (in_pending_gap r m ≡ true) ⊎ (in_pending_gap r m ≡ false) → in_pending_gap r m ≡ false
          case (inl y) = clash (empty later) h (empty-some m later (member (leb-false k r.prefix e) m q y))
          case (inr y) = y

  -- what is found, and what is found past the prefix
  abbrev n : ℕ
  n = first_or 0 (next_gap c r)

  abbrev f : ℕ
  f = first_or 0 later

  pub gap-first : empty (next_gap c r) ≡ false → (c ≤ n) × ((in_pending_gap r n ≡ true) × ((m : ℕ) → c ≤ m → in_pending_gap r m ≡ true → n ≤ m))
  gap-first = go (leb k r.prefix) refl
    where
      go : (t : Bool) → leb k r.prefix ≡ t → empty (cond t (k ∷ []) later) ≡ false
          → (c ≤ first_or 0 (cond t (k ∷ []) later)) × ((in_pending_gap r (first_or 0 (cond t (k ∷ []) later)) ≡ true) × ((m : ℕ) → c ≤ m → in_pending_gap r m ≡ true → first_or 0 (cond t (k ∷ []) later) ≤ m))
      go true e h = (
        omega arith,
        (
          is_in r.acked r.prefix r.gaps k (record { low = omega arith; acked = omega arith; held = inl (leb-true k r.prefix e) }),
          λ m q y. let i = in_is r.acked r.prefix r.gaps m y in omega (arith, i.low, i.acked),
        ),
      )
      go false e h = case (first_cases 0 (suc (max r.prefix (r.acked - 1))) later rising)
        where
          case : ((f ≡ 0) × ((m : ℕ) → has later m ≡ false)) ⊎ ((has later f ≡ true) × ((m : ℕ) → m < f → has later m ≡ false))
              → (c ≤ f) × ((in_pending_gap r f ≡ true) × ((m : ℕ) → c ≤ m → in_pending_gap r m ≡ true → f ≤ m))
          case (inl z) = clash (empty later) (empty-none later z.1) h
          case (inr z) =
              let x : (leb k f && has r.gaps f) ≡ true = sym (has-only (leb k) r.gaps f) ∙ z.0 in
              let y = leb-true k f (and_left (leb k f) (has r.gaps f) x) in (
                omega (arith, y),
                (
                  is_in r.acked r.prefix r.gaps f (record { low = omega (arith, y); acked = omega (arith, y); held = inr (and_right (leb k f) (has r.gaps f) x) }),
                  λ m q w. least m (decide (leb f m)) (member (leb-false k r.prefix e) m q w),
                ),
              )
            where
              least : (m : ℕ) → (leb f m ≡ true) ⊎ (leb f m ≡ false) → has later m ≡ true → f ≤ m
              least m (inl d) w = leb-true f m d
              least m (inr d) w = clash (has later m) w (z.1 m (leb-false f m d))
