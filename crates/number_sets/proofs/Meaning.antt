-- What a set means, from OMG DDSI-RTPS 2.5, 8.3.5.5: its members are base + i for each bit i below the count that is set. Assumes nothing.
use Prim.Native.Nat.{ℕ, suc, ◌+◌, ◌-◌, ◌≤◌, ◌<◌, max}
use mathlib.Core.Path.{◌≡◌, refl, sym, ap, ◌∙◌}
use mathlib.Core.Bool.{Bool, true, false, cond, ◌&&◌, ◌||◌, false≢true}
use mathlib.Core.List.{List, [], ◌∷◌}
use mathlib.Core.Logic.{◌⊎◌, inl, inr}
use native.Mathlib.Omega.{arith}
use native.Mathlib.Nat.{le_trans}
use lib.Dec.{leb, ltb, eqb}
use lib.ListN.{length}
use borrow.Author.Tests.{leb-true, ltb-true, le-leb, lt-ltb, eqb-true}
use Rattle.sets.specs.Sets.{has, From, union, only, between}
use Rattle.sets.proofs.Bools.{decide, and_left, and_right, and_no}
use Rattle.sets.proofs.Has.{has-between, has-only, has-union, From-only, From-union, From-low}
use Rattle.sets.proofs.Ext.{ext}
use Rattle.sets.proofs.Those.{From-those, those-length}
use Rattle.numbers.specs.declared.sequence_number.SequenceNumber.{SequenceNumber}
use Rattle.numbers.specs.declared.fragment_number.FragmentNumber.{FragmentNumber}
use Rattle.numbers.specs.Number.{rank_of}
use Rattle.number_sets.specs.declared.sequence_number_set.SequenceNumberSet.{SequenceNumberSet}
use Rattle.number_sets.specs.Bits.{NumberSet, bit_at, marked, members, words_for, in_window, span}
use Rattle.number_sets.specs.Calls.{sequence_set, fragment_set, cut_set, joined_set, these_numbers, these_fragments}
use Rattle.number_sets.proofs.Eight.{bit_of_lem}
use Rattle.number_sets.proofs.Members.{has-marked, has-place}

-- A MEMBER IS base + i FOR A SET BIT i BELOW THE COUNT

pub member_bit : (z : NumberSet) (n : ℕ) → has (members z) n ≡ true → (i : ℕ) × (n ≡ z.base + i) × (i < z.count) × (bit_at z.words i ≡ true)
member_bit z n e =
    let t : ((leb z.base n && ltb n (z.base + z.count)) && bit_at z.words (n - z.base)) ≡ true = sym (has-marked z.count z.base z.words n) ∙ e in
    let r = and_left (leb z.base n && ltb n (z.base + z.count)) (bit_at z.words (n - z.base)) t in
    let lo : z.base ≤ n = leb-true z.base n (and_left (leb z.base n) (ltb n (z.base + z.count)) r) in
    let hi : n < z.base + z.count = ltb-true n (z.base + z.count) (and_right (leb z.base n) (ltb n (z.base + z.count)) r) in
    (n - z.base, omega arith, omega arith, and_right (leb z.base n && ltb n (z.base + z.count)) (bit_at z.words (n - z.base)) t)

pub bit_member : (z : NumberSet) (i : ℕ) → i < z.count → bit_at z.words i ≡ true → has (members z) (z.base + i) ≡ true
bit_member z i h e = has-place z.count z.base z.words i ∙ rw (lt-ltb i z.count h, e) refl

-- MEMBERS RISE STRICTLY FROM THE BASE ON, AND ARE NO MORE THAN THE COUNT

pub members_rise : (z : NumberSet) → From z.base (members z)
members_rise z = From-those z.count z.base (λ n. bit_at z.words (n - z.base))

pub members-few : (z : NumberSet) → length (members z) ≤ z.count
members-few z = those-length z.count z.base (λ n. bit_at z.words (n - z.base))

pub members_256 : (z : NumberSet) → z.count ≤ 256 → length (members z) ≤ 256
members_256 z h = le_trans (members-few z) h

-- THE WAY BACK: a set of at most 256 bits whose words are made for l has those of l that lie in its bits

pub has_made : (b k : ℕ) (l : List ℕ) (n : ℕ) → k ≤ 256 → has (marked k b (words_for b l)) n ≡ ((leb b n && ltb n (b + k)) && has l n)
has_made b k l n h = has-marked k b (words_for b l) n ∙ go (decide (leb b n)) (decide (ltb n (b + k)))
  where
    go : (leb b n ≡ true) ⊎ (leb b n ≡ false) → (ltb n (b + k) ≡ true) ⊎ (ltb n (b + k) ≡ false)
        → ((leb b n && ltb n (b + k)) && bit_at (words_for b l) (n - b)) ≡ ((leb b n && ltb n (b + k)) && has l n)
    go (inr e) f = rw e refl
    go (inl e) (inr f) = rw (e, f) refl
    go (inl e) (inl f) =
        let d : b + (n - b) ≡ n = omega (arith, leb-true b n e) in
        ap (λ (t : Bool). (leb b n && ltb n (b + k)) && t)
        (bit_of_lem (λ i. has l (b + i)) (n - b) (omega (arith, leb-true b n e, ltb-true n (b + k) f)) ∙ ap (has l) d)

-- a rising set whose numbers all lie in the bits is had as it is
pub made_is : (b k : ℕ) (l : List ℕ) → k ≤ 256 → From b l → ((n : ℕ) → has l n ≡ true → n < b + k) → marked k b (words_for b l) ≡ l
made_is b k l h f top =
    ext b b (marked k b (words_for b l)) l (From-those k b (λ n. bit_at (words_for b l) (n - b))) f (λ n. has_made b k l n h ∙ go n (decide (has l n)))
  where
    go : (n : ℕ) → (has l n ≡ true) ⊎ (has l n ≡ false) → ((leb b n && ltb n (b + k)) && has l n) ≡ has l n
    go n (inl e) = rw (e, le-leb b n (From-low b l n f e), lt-ltb n (b + k) (top n e)) refl
    go n (inr e) = rw (e, and_no (leb b n && ltb n (b + k))) refl

-- how far numbers in the window reach
span-has : (b : ℕ) (l : List ℕ) (n : ℕ) → has l n ≡ true → b ≤ n → n < b + span b l
span-has b [] n e h = absurd (false≢true e)
span-has b (x ∷ xs) n e h = go (eqb x n) refl e (span-has b xs n)
  where
    go : (t : Bool) → eqb x n ≡ t → (t || has xs n) ≡ true → (has xs n ≡ true → b ≤ n → n < b + span b xs) → n < b + max (suc x - b) (span b xs)
    go true f w r = omega (arith, eqb-true x n f)
    go false f w r = omega (arith, r w h)

pub span_window : (b : ℕ) (ns : List ℕ) → span b (in_window b ns) ≤ 256
span_window b [] = omega arith
span_window b (n ∷ ns) = go (decide (leb b n)) (decide (leb n (b + 255))) (span_window b ns)
  where
    go : (leb b n ≡ true) ⊎ (leb b n ≡ false) → (leb n (b + 255) ≡ true) ⊎ (leb n (b + 255) ≡ false) → span b (in_window b ns) ≤ 256
        → span b (cond (leb b n && leb n (b + 255)) (n ∷ in_window b ns) (in_window b ns)) ≤ 256
    go (inr e) f h = rw e h
    go (inl e) (inr f) h = rw (e, f) h
    go (inl e) (inl f) h = rw (e, f) (omega (arith, leb-true n (b + 255) f))

-- THE MEMBERS OF WHAT A CUT LEAVES, AND OF WHAT NUMBERS JOIN

pub members_cut : (s : SequenceNumberSet) (lo hi : ℕ) → s.count ≤ 256 → members (sequence_set (cut_set s lo hi)) ≡ between lo hi (members (sequence_set s))
members_cut s lo hi h =
    let b = rank_of s.base in
    let l = members (sequence_set s) in
    made_is b s.count (between lo hi l) h (From-only b (λ n. leb lo n && leb n hi) l (members_rise (sequence_set s)))
    (λ n e. top n (and_right (leb lo n && leb n hi) (has l n) (sym (has-between lo hi l n) ∙ e)))
  where
    top : (n : ℕ) → has (members (sequence_set s)) n ≡ true → n < rank_of s.base + s.count
    top n e = let m = member_bit (sequence_set s) n e in omega (arith, m.1, m.2)

-- the numbers that join need not rise
pub members_joined : (s : SequenceNumberSet) (ns : List ℕ) → s.count ≤ 256 → members (sequence_set (joined_set s ns)) ≡ union (in_window (rank_of s.base) ns) (members (sequence_set s))
members_joined s ns h =
    made_is b k all (omega (arith, span_window b ns)) (From-union b w l low (members_rise (sequence_set s))) top
  where
    b : ℕ
    b = rank_of s.base

    w : List ℕ
    w = in_window (rank_of s.base) ns

    l : List ℕ
    l = members (sequence_set s)

    all : List ℕ
    all = union (in_window (rank_of s.base) ns) (members (sequence_set s))

    k : ℕ
    k = max s.count (span (rank_of s.base) (in_window (rank_of s.base) ns))

    low : (n : ℕ) → has w n ≡ true → b ≤ n
    low n e = leb-true b n (and_left (leb b n) (leb n (b + 255)) (and_left (leb b n && leb n (b + 255)) (has ns n) (sym (has-between b (b + 255) ns n) ∙ e)))

    top : (n : ℕ) → has all n ≡ true → n < b + k
    top n e = go (decide (has w n))
      where
        go : (has w n ≡ true) ⊎ (has w n ≡ false) → n < b + k
        go (inl f) = omega (arith, span-has b w n f (low n f))
        go (inr f) =
            let t : (false || has l n) ≡ true = ap (λ (x : Bool). x || has l n) (sym f) ∙ sym (has-union w l n) ∙ e in
            let m = member_bit (sequence_set s) n t in omega (arith, m.1, m.2)

-- THE SET WRITTEN FOR GIVEN NUMBERS has those of them that lie in its window, and for rising numbers there, exactly those

pub made_has : (b : ℕ) (ns : List ℕ) (n : ℕ) → has (marked (span b (in_window b ns)) b (words_for b (in_window b ns))) n ≡ has (in_window b ns) n
made_has b ns n = has_made b (span b (in_window b ns)) (in_window b ns) n (span_window b ns) ∙ go (decide (has (in_window b ns) n))
  where
    go : (has (in_window b ns) n ≡ true) ⊎ (has (in_window b ns) n ≡ false) → ((leb b n && ltb n (b + span b (in_window b ns))) && has (in_window b ns) n) ≡ has (in_window b ns) n
    go (inr e) = rw (e, and_no (leb b n && ltb n (b + span b (in_window b ns)))) refl
    go (inl e) =
        let lo = leb-true b n (and_left (leb b n) (leb n (b + 255)) (and_left (leb b n && leb n (b + 255)) (has ns n) (sym (has-between b (b + 255) ns n) ∙ e))) in
        rw (e, le-leb b n lo, lt-ltb n (b + span b (in_window b ns)) (span-has b (in_window b ns) n e lo)) refl

pub made_members : (b : ℕ) (ns : List ℕ) → From b ns → ((n : ℕ) → has ns n ≡ true → n < b + 256) → marked (span b (in_window b ns)) b (words_for b (in_window b ns)) ≡ ns
made_members b ns f top =
    ext b b (marked (span b (in_window b ns)) b (words_for b (in_window b ns))) ns (From-those (span b (in_window b ns)) b (λ n. bit_at (words_for b (in_window b ns)) (n - b))) f (λ n. made_has b ns n ∙ has-between b (b + 255) ns n ∙ go n (decide (has ns n)))
  where
    go : (n : ℕ) → (has ns n ≡ true) ⊎ (has ns n ≡ false) → ((leb b n && leb n (b + 255)) && has ns n) ≡ has ns n
    go n (inl e) = rw (e, le-leb b n (From-low b ns n f e), le-leb n (b + 255) (omega (arith, top n e))) refl
    go n (inr e) = rw (e, and_no (leb b n && leb n (b + 255))) refl

pub members-these : (b : SequenceNumber) (ns : List ℕ) → From (rank_of b) ns → ((n : ℕ) → has ns n ≡ true → n < rank_of b + 256) → members (sequence_set (these_numbers b ns)) ≡ ns
members-these b ns f top = made_members (rank_of b) ns f top

pub members_these_fragments : (b : FragmentNumber) (ns : List ℕ) → From b.0 ns → ((n : ℕ) → has ns n ≡ true → n < b.0 + 256) → members (fragment_set (these_fragments b ns)) ≡ ns
members_these_fragments b ns f top = made_members b.0 ns f top

-- with no end that a member reaches, those from n on
pub onward_all : (z : NumberSet) (n top : ℕ) → z.base + z.count ≤ top → between n top (members z) ≡ only (leb n) (members z)
onward_all z n top h =
    ext z.base z.base (between n top (members z)) (only (leb n) (members z)) (From-only z.base (λ m. leb n m && leb m top) (members z) (members_rise z)) (From-only z.base (leb n) (members z) (members_rise z))
    (λ m. has-between n top (members z) m ∙ go m (decide (has (members z) m)) ∙ sym (has-only (leb n) (members z) m))
  where
    go : (m : ℕ) → (has (members z) m ≡ true) ⊎ (has (members z) m ≡ false) → ((leb n m && leb m top) && has (members z) m) ≡ (leb n m && has (members z) m)
    go m (inr e) = rw (e, and_no (leb n m && leb m top), and_no (leb n m)) refl
    go m (inl e) =
        let b = member_bit z m e in
        rw (le-leb m top (omega (arith, b.1, b.2)), e) (and_yes (leb n m))
      where
        and_yes : (t : Bool) → ((t && true) && true) ≡ (t && true)
        and_yes true = refl
        and_yes false = refl
