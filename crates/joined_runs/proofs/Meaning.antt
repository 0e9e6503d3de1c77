-- What a joined run is, where the run rises: the smallest of the union with the members from lo through hi. Assumes nothing.
use Prim.Native.Nat.{ℕ, suc, ◌+◌, ◌-◌, ◌≤◌, ◌<◌}
use mathlib.Core.Path.{◌≡◌, refl, sym, ap, subst, ◌∙◌}
use mathlib.Core.Bool.{Bool, true, false, cond, ◌&&◌, ◌||◌}
use mathlib.Core.List.{List, [], ◌∷◌, ◌++◌}
use native.Mathlib.Omega.{arith}
use lib.Dec.{leb, ltb, eqb}
use Rattle.std.specs.Prelude.{slice_get}
use Rattle.std.specs.Option.{option_map_or}
use lib.ListN.{length, take, drop, length-take, length-drop, take-append-drop}
use lib.Seq.{length-take-le, take_all, drop-drop}
use borrow.Author.Tests.{leb-true, leb-false, le-leb, lt-leb, ltb-true, le-ltb, eqb-true, eq-eqb}
use Rattle.sets.specs.Sets.{has, From, union, smallest}
use Rattle.sets.proofs.Bools.{and_left, and_right}
use Rattle.sets.proofs.Has.{has-union, has-between, has-only, From-union, From-only, From_raise}
use Rattle.sets.proofs.Smallest.{has_take_sub, has_drop_sub, From-take, From-drop}
use Rattle.sets.proofs.Append.{has-append, From-append, only_same}
use Rattle.sets.proofs.Ext.{ext}
use Rattle.numbers.specs.Number.{rank_of, negative}
use Rattle.numbers.specs.Promise.{Gives1}
use Rattle.number_sets.specs.declared.sequence_number_set.SequenceNumberSet.{SequenceNumberSet}
use Rattle.number_sets.specs.Bits.{members, in_window}
use Rattle.number_sets.specs.Calls.{sequence_set, cut_set, joined_set}
use Rattle.number_sets.proofs.Meaning.{members_cut, members_joined, members_rise, member_bit}
use Rattle.rising.specs.Runs.{place_of, room_of, over}
use Rattle.rising.proofs.Rooms.{drop-take, changed}
use Rattle.rising.proofs.Inserts.{place_mono, place_le}
use Rattle.rising.proofs.Meaning.{RunIs, in_room_lem, room-is, from_only, before-only}
use Rattle.joined_runs.specs.Joined.{replaced, grown, end_in, with_members, asked_between, joined_in, laid_in}
use Rattle.joined_runs.proofs.Same.{within_same}

-- the place of the larger of two numbers, from the place of the smaller on
place-past : (lo hi : ℕ) (l : List ℕ) → lo ≤ hi → place_of lo l + place_of hi (drop (place_of lo l) l) ≡ place_of hi l
place-past lo hi [] h = refl
place-past lo hi (x ∷ xs) h = go (leb lo x) refl (place-past lo hi xs h)
  where
    go : (t : Bool) → leb lo x ≡ t → place_of lo xs + place_of hi (drop (place_of lo xs) xs) ≡ place_of hi xs
        → cond t 0 (suc (place_of lo xs)) + place_of hi (drop (cond t 0 (suc (place_of lo xs))) (x ∷ xs)) ≡ cond (leb hi x) 0 (suc (place_of hi xs))
    go true e r = omega arith
    go false e r = rw (lt-leb hi x (omega (arith, leb-false lo x e))) (omega arith)

swap : (a x y z : Bool) → (a || (x || (y || z))) ≡ (x || ((y || a) || z))
swap true true y z = refl
swap true false true z = refl
swap true false false z = refl
swap false true y z = refl
swap false false true z = refl
swap false false false z = refl

-- the members from lo through hi that are asked for lie in the set's bits
asked_member : (set : SequenceNumberSet) (lo hi n : ℕ) → has (asked_between set lo hi) n ≡ true → (lo ≤ n) × (rank_of set.base ≤ n) × (n < rank_of set.base + set.count)
asked_member set lo hi n e =
    let t = sym (has-between lo hi (members (sequence_set set)) n) ∙ e in
    let w = and_left (leb lo n && leb n hi) (has (members (sequence_set set)) n) t in
    let m = member_bit (sequence_set set) n (and_right (leb lo n && leb n hi) (has (members (sequence_set set)) n) t) in
    (leb-true lo n (and_left (leb lo n) (leb n hi) w), omega (arith, m.1), omega (arith, m.1, m.2))

module _ (l : List ℕ) (rises : From 1 l) (set : SequenceNumberSet) (lo hi : ℕ) (bits : set.count ≤ 256) (low : 1 ≤ lo)
    (first : ℕ) (is : has (asked_between set lo hi) first ≡ true) (A-from : From first (asked_between set lo hi)) where
  abbrev end : ℕ
  end = rank_of set.base + set.count

  abbrev p : ℕ
  p = place_of first l

  abbrev q : ℕ
  q = place_of end l

  p_le_q : p ≤ q
  p_le_q = place_mono first end l (omega (arith, (asked_member set lo hi first is).2))

  abbrev Y : List ℕ
  Y = take (q - p) (drop p l)

  abbrev A : List ℕ
  A = asked_between set lo hi

  abbrev N : List ℕ
  N = union Y A

  -- where each part lies
  X-below : (n : ℕ) → has (take p l) n ≡ true → n < first
  X-below n e = ltb-true n first (and_left (ltb n first) (has l n) (sym (has-only (λ x. ltb x first) l n) ∙ sym (ap (λ (x : List ℕ). has x n) (before-only first 1 l rises)) ∙ e))

  Z_from : From end (drop q l)
  Z_from =
      From_raise 1 end (drop q l) (From-drop q 1 l rises)
      (λ n e. leb-true end n (and_left (leb end n) (has l n) (sym (has-only (leb end) l n) ∙ sym (ap (λ (x : List ℕ). has x n) (from_only end 1 l rises)) ∙ e)))

  Y-low : (n : ℕ) → has Y n ≡ true → first ≤ n
  Y-low n e =
      let h : has (drop p l) n ≡ true = has_take_sub (q - p) (drop p l) n e in
      leb-true first n (and_left (leb first n) (has l n) (sym (has-only (leb first) l n) ∙ sym (ap (λ (x : List ℕ). has x n) (from_only first 1 l rises)) ∙ h))

  Y_high : (n : ℕ) → has Y n ≡ true → n < end
  Y_high n e =
      let h : has (take q l) n ≡ true = has_drop_sub p (take q l) n (ap (λ (x : List ℕ). has x n) (drop-take p q l) ∙ e) in
      ltb-true n end (and_left (ltb n end) (has l n) (sym (has-only (λ x. ltb x end) l n) ∙ sym (ap (λ (x : List ℕ). has x n) (before-only end 1 l rises)) ∙ h))

  A_member : (n : ℕ) → has A n ≡ true → (lo ≤ n) × (rank_of set.base ≤ n) × (n < end)
  A_member = asked_member set lo hi

  -- a number of N is one of the run or of the set
  N_either : (n : ℕ) → has N n ≡ true → (t : Bool) → has Y n ≡ t → (t || has A n) ≡ true
  N_either n e t f = ap (λ (x : Bool). x || has A n) (sym f) ∙ sym (has-union Y A n) ∙ e

  N_from : From first N
  N_from = From-union first Y A Y-low A-from

  N_high : (n : ℕ) → has N n ≡ true → n < end
  N_high n e = go (has Y n) refl
    where
      go : (t : Bool) → has Y n ≡ t → n < end
      go true f = Y_high n f
      go false f = (A_member n (N_either n e false f)).2

  parts : l ≡ replaced p q Y l
  parts =
      let q2 : p + (q - p) ≡ q = omega (arith, p_le_q) in
      sym (take-append-drop p l) ∙ ap (λ (x : List ℕ). take p l ++ x) (sym (take-append-drop (q - p) (drop p l)) ∙ ap (λ (x : List ℕ). Y ++ x) (drop-drop (q - p) p l ∙ ap (λ (x : ℕ). drop x l) q2))

  three : (n : ℕ) → has l n ≡ (has (take p l) n || (has Y n || has (drop q l) n))
  three n =
      ap (λ (x : List ℕ). has x n) parts
      ∙ has-append (take p l) (Y ++ drop q l) n
      ∙ ap (λ (t : Bool). has (take p l) n || t) (has-append Y (drop q l) n)

  union-is : union A l ≡ replaced p q N l
  union-is =
      ext 1 1 (union A l) (replaced p q N l)
      (From-union 1 A l (λ n e. omega (arith, (A_member n e).0, low)) rises)
      W_from
      (λ n. has-union A l n
      ∙ ap (λ (t : Bool). has A n || t) (three n)
      ∙ swap (has A n) (has (take p l) n) (has Y n) (has (drop q l) n)
      ∙ sym (has-append (take p l) (N ++ drop q l) n
      ∙ ap (λ (t : Bool). has (take p l) n || t) (has-append N (drop q l) n
      ∙ ap (λ (t : Bool). t || has (drop q l) n) (has-union Y A n))))
    where
      W_from : From 1 (replaced p q N l)
      W_from =
          From-append 1 first (take p l) (N ++ drop q l) (omega (arith, (A_member first is).0, low)) (From-take p 1 l rises) X-below
          (From-append first end N (drop q l) (omega (arith, (A_member first is).2)) N_from N_high Z_from)

  -- no more than stood there: all of them did
  grown-is : union A l ≡ grown p q N l
  grown-is = go (eqb (length N) (q - p)) refl
    where
      Y-length : length Y ≡ q - p
      Y-length = length-take (q - p) (drop p l) ∙ omega (arith, length-drop p l, place_le end l)

      go : (t : Bool) → eqb (length N) (q - p) ≡ t → union A l ≡ cond t l (replaced p q N l)
      go false e = union-is
      go true e =
          let s : Y ≡ N =
          within_same first first Y N (From_raise 1 first Y (From-take (q - p) 1 (drop p l) (From-drop p 1 l rises)) Y-low) N_from (λ n h. has-union Y A n ∙ ap (λ (t : Bool). t || has A n) h)
          (omega (arith, eqb-true (length N) (q - p) e, Y-length)) in
          union-is ∙ ap (λ (x : List ℕ). replaced p q x l) (sym s) ∙ sym parts

  -- the members of the joined set
  joined_members : members (sequence_set (joined_set (cut_set set lo hi) Y)) ≡ N
  joined_members =
      let b = (asked_member set lo hi first is).1 in
      let w : in_window (rank_of set.base) Y ≡ Y =
      only_same (λ n. leb (rank_of set.base) n && leb n (rank_of set.base + 255)) Y
      (λ n e. let a = Y-low n e in let z = Y_high n e in rw (le-leb (rank_of set.base) n (omega arith), le-leb n (rank_of set.base + 255) (omega (arith, bits)))) in
      members_joined (cut_set set lo hi) Y bits
      ∙ ap (λ (x : List ℕ). union x (members (sequence_set (cut_set set lo hi)))) w
      ∙ ap (union Y) (members_cut set lo hi bits)

  pub with_members_lem : with_members first (cut_set set lo hi) l ≡ union A l
  with_members_lem =
      let e : end_in first (cut_set set lo hi) l ≡ q = place-past first end l (omega (arith, (A_member first is).2)) in
      ap (λ (x : ℕ). grown p x (members (sequence_set (joined_set (cut_set set lo hi) (take (x - p) (drop p l))))) l) e
      ∙ ap (λ (x : List ℕ). grown p q x l) joined_members
      ∙ sym grown-is

-- THE LAW
module _ (count : ℕ) (room : List ℕ) (run : RunIs 0 count room) (set : SequenceNumberSet) (lo hi : ℕ) (bits : set.count ≤ 256) (base : negative set.base ≡ false) (low : 1 ≤ lo) where
  abbrev all : List ℕ
  all = union (asked_between set lo hi) (take count room)

  long : length (take count room) ≡ count
  long = length-take-le count room run.fits

  -- nothing is asked for
  none : asked_between set lo hi ≡ [] → all ≡ take count room
  none e = ap (λ (x : List ℕ). union x (take count room)) e

  -- something is: the first of it is the smallest
  asked_run : (first : ℕ) (others : List ℕ) → asked_between set lo hi ≡ first ∷ others → with_members first (cut_set set lo hi) (take count room) ≡ all
  asked_run first others e =
      let rises : From (rank_of set.base) (asked_between set lo hi) = From-only (rank_of set.base) (λ n. leb lo n && leb n hi) (members (sequence_set set)) (members_rise (sequence_set set)) in
      let after : From (rank_of set.base) (first ∷ others) = subst (From (rank_of set.base)) e rises in
      let is : has (first ∷ others) first ≡ true = ap (λ (t : Bool). t || has others first) (eq-eqb first first refl) in
      let from : From first (first ∷ others) = (omega arith, after.1) in
      with_members_lem (take count room) run.rises.from set lo hi bits low first (rw e is) (subst (From first) (sym e) from)

  pub join_is : (r : ℕ) (u : List ℕ) → Gives1 r u (joined_in set lo hi count room) → (r ≡ length all) × (u ≡ room_of (length room) (smallest (length room) all))
  join_is r u g = go (asked_between set lo hi) refl (rw (le-leb count (length room) run.fits, le-ltb 256 set.count bits, base) at g)
    where
      go : (x : List ℕ) → asked_between set lo hi ≡ x → Gives1 r u (option_map_or (λ first. laid_in count room (with_members first (cut_set set lo hi) (take count room))) (slice_get x 0) (record { result = count; first = room }))
          → (r ≡ length all) × (u ≡ room_of (length room) (smallest (length room) all))
      go [] e k =
          let n = none e in
          let s : smallest (length room) all ≡ take count room = ap (take (length room)) n ∙ take_all (length room) (take count room) (omega (arith, long, run.fits)) in
          (k.result ∙ sym (ap length n ∙ long), k.first ∙ room-is 0 count room run ∙ ap (room_of (length room)) (sym s))
      go (y ∷ ys) e k =
          let w = asked_run y ys e in
          let y = in_room_lem 0 count room (λ x. smallest (length room) all) (smallest (length room) all) run refl (omega (arith, length-take (length room) all)) (length (smallest (length room) all)) u
          (changed (λ x. smallest (length room) all) count room run.fits (length (smallest (length room) all)) u refl (k.first ∙ ap (λ (x : List ℕ). over room count (smallest (length room) x)) w)) in
          (k.result ∙ ap length w, y.1)
