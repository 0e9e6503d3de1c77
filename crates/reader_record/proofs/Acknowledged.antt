-- An acknowledgement does what document 01 says, and nothing else does: the step `acknowledge` meets the one statement of it (specs/Acknowledged.antt), and any
-- two readers that meet it are the same. Assumes nothing.
use Prim.Native.Nat.{ℕ, zero, suc, ◌+◌, ◌-◌, ◌≤◌, ◌<◌, max}
use mathlib.Core.Path.{◌≡◌, refl, sym, ap, subst, ◌∙◌}
use mathlib.Core.Bool.{Bool, true, false, not, cond, ◌&&◌, ◌||◌}
use mathlib.Core.List.{List, [], ◌∷◌}
use native.Mathlib.Omega.{arith}
use lib.Dec.{leb, ltb, eqb, leb-suc-suc}
use lib.ListN.{length, take, length-take}
use borrow.Author.Tests.{le-leb, ltb-true, ltb-false, lt-ltb, eqb-true, ne_eqb, eq-eqb}
use Rattle.sets.specs.Sets.{has, From, insert, union, only, between, smallest}
use Rattle.sets.proofs.Bools.{and_both, and_no, and_yes, or_right, or_comm, neither, clash}
use Rattle.sets.proofs.Has.{has-union, has-only, has-between, From-low, From_weak, From-union, From-only}
use Rattle.sets.proofs.Ext.{ext, From_off}
use Rattle.sets.proofs.Smallest.{From-take}
use Rattle.sets.proofs.Append.{only_same}
use Rattle.rising.proofs.Meaning.{rises_are}
use Rattle.rising.proofs.Changes.{only_le, insert-same}
use Rattle.numbers.specs.Capacities.{top_number}
use Rattle.numbers.specs.Number.{rank_of}
use Rattle.numbers.specs.Refusals.{answer_of, is_done}
use Rattle.numbers.specs.Promise.{Left2, Gives2}
use Rattle.numbers.specs.declared.answer.Answer.{Answer}
use Rattle.numbers.specs.declared.sequence_number.SequenceNumber.{SequenceNumber}
use Rattle.number_sets.specs.declared.sequence_number_set.SequenceNumberSet.{SequenceNumberSet}
use Rattle.number_sets.specs.Bits.{members}
use Rattle.number_sets.specs.Calls.{sequence_set}
use Rattle.number_sets.proofs.Meaning.{members_rise}
use Rattle.requested_fragments.proofs.OneForm.{Words}
use Rattle.rtps_reader_proxy.specs.declared.acks.AckNacked.{AckNacked}
use Rattle.rtps_reader_proxy.specs.Reader.{Reader, base_of, is_ahead, is_late, acked_after, staying, wanted, acknowledge, left_out_of}
use Rattle.rtps_reader_proxy.specs.Acks.{ack_rows, ack_nacked_of, ack_leaves}
use Rattle.rtps_reader_proxy.proofs.AckCalls.{ackable}
use Rattle.reader_record.specs.Whole.{Picture, record_coherent, record_view, Valid}
use Rattle.reader_record.specs.Acknowledged.{stays, joins, how_many, smaller, Acknowledged}
use Rattle.reader_record.proofs.Whole.{view_valid}
use Rattle.reader_record.proofs.Kept.{acknowledged-valid}
use Rattle.reader_record.proofs.Steps.{stands_view, ack_nack_does}

-- truth values
and_comm : (a b : Bool) → (a && b) ≡ (b && a)
and_comm true b = sym (and_yes b)
and_comm false b = sym (and_no b)

and_twice : (a b : Bool) → ((a && b) && a) ≡ (a && b)
and_twice true b = and_yes b
and_twice false b = refl

-- tests that agree on the members leave the same
only_where : (p q : ℕ → Bool) (l : List ℕ) → ((n : ℕ) → has l n ≡ true → p n ≡ q n) → only p l ≡ only q l
only_where p q [] h = refl
only_where p q (x ∷ xs) h =
    rw (h x (ap (λ (t : Bool). t || has xs x) (eq-eqb x x refl)), only_where p q xs (λ n e. h n (or_right (eqb x n) (has xs n) e)))

-- OF A RISING SET, a number is among the m smallest exactly if it is in the set and fewer than m of these are smaller
has-smallest : (m b : ℕ) (l : List ℕ) (n : ℕ) → From b l → has (smallest m l) n ≡ (has l n && ltb (smaller n (smallest m l)) m)
has-smallest zero b l n f = sym (and_no (has l n))
has-smallest (suc m) b [] n f = refl
has-smallest (suc m) b (x ∷ xs) n f = go (ltb x n) refl (has-smallest m (suc x) xs n f.1)
  where
    below : List ℕ
    below = only (λ k. ltb k n) (take m xs)

    go : (t : Bool) → ltb x n ≡ t → has (take m xs) n ≡ (has xs n && ltb (length below) m)
        → (eqb x n || has (take m xs) n) ≡ ((eqb x n || has xs n) && ltb (length (cond t (x ∷ below) below)) (suc m))
    go true e h = let w = ltb-true x n e in rw (ne_eqb x n (λ (z : x ≡ n). omega arith)) (h ∙ ap (λ (t : Bool). has xs n && t) (sym (leb-suc-suc (suc (length below)) m)))
    go false e h =
        let w = ltb-false x n e in
        rw (
          From_off (suc x) (take m xs) n (From-take m (suc x) xs f.1) (omega arith),
          From_off (suc x) xs n f.1 (omega arith),
          lt-ltb (length below) (suc m) (omega (arith, only_le (λ k. ltb k n) (take m xs), length-take m xs)),
        ) (sym (and_yes (eqb x n || false)))

-- HOW MANY a union has: those of the second set, and those of the first that aren't among them
insert_new : (x : ℕ) (l : List ℕ) → has l x ≡ false → length (insert x l) ≡ suc (length l)
insert_new x [] h = refl
insert_new x (y ∷ ys) h = lt (ltb x y) (insert_new x ys (neither (eqb y x) (has ys x) h).1)
  where
    eq : (t : Bool) → eqb x y ≡ t → length (insert x ys) ≡ suc (length ys) → length (cond t (y ∷ ys) (y ∷ insert x ys)) ≡ suc (suc (length ys))
    eq true e r = clash (eqb y x) (eq-eqb y x (sym (eqb-true x y e))) (neither (eqb y x) (has ys x) h).0
    eq false e r = ap suc r

    lt : (t : Bool) → length (insert x ys) ≡ suc (length ys) → length (cond t (x ∷ y ∷ ys) (cond (eqb x y) (y ∷ ys) (y ∷ insert x ys))) ≡ suc (suc (length ys))
    lt true r = refl
    lt false r = eq (eqb x y) refl r

union-length : (p q : ℕ → Bool) (b : ℕ) (xs ys : List ℕ) → From b xs → From 0 ys → ((n : ℕ) → has ys n ≡ q n)
    → length (union (only p xs) ys) ≡ length ys + length (only (λ n. p n && not (q n)) xs)
union-length p q b [] ys f g h = omega arith
union-length p q b (x ∷ xs) ys f g h = go (p x) (q x) refl (union-length p q (suc x) xs ys f.1 g h)
  where
    all : List ℕ
    all = union (only p xs) ys

    new : List ℕ
    new = only (λ n. p n && not (q n)) xs

    rises : From 0 all
    rises = From-union 0 (only p xs) ys (λ n e. omega arith) g

    held : has all x ≡ q x
    held = has-union (only p xs) ys x ∙ ap (λ (t : Bool). t || has ys x) (From_off (suc x) (only p xs) x (From-only (suc x) p xs f.1) (omega arith)) ∙ h x

    go : (s t : Bool) → q x ≡ t → length all ≡ length ys + length new → length (union (cond s (x ∷ only p xs) (only p xs)) ys) ≡ length ys + length (cond (s && not t) (x ∷ new) new)
    go true true e r = ap length (insert-same x 0 all rises (held ∙ e)) ∙ r
    go true false e r = omega (arith, insert_new x all (held ∙ e))
    go false t e r = r

-- THE STEP
module _ (last b k : ℕ) (ms : List ℕ) (rising : From k ms) (r : Reader) (v : Valid r) where
  abbrev a : ℕ
  a = acked_after r.acked b

  abbrev all : List ℕ
  all = wanted last b ms r.acked r.unsent

  -- A
  acked-is : a ≡ cond (is_late r.acked b) r.acked (base_of b)
  acked-is = go (is_late r.acked b) refl
    where
      go : (t : Bool) → is_late r.acked b ≡ t → a ≡ cond t r.acked (base_of b)
      go true e = let w = ltb-true (base_of b) r.acked e in omega arith
      go false e = let w = ltb-false (base_of b) r.acked e in omega arith

  -- what stays, and what stays or joins
  staying-is : staying last b r.acked r.unsent ≡ only (stays last b r) r.unsent
  staying-is = go (is_late r.acked b)
    where
      by : Bool → ℕ → Bool
      by t n = has r.unsent n && (t || (leb (base_of b) n && leb n last))

      go : (t : Bool) → cond t r.unsent (between (base_of b) last r.unsent) ≡ only (by t) r.unsent
      go true = sym (only_same (by true) r.unsent (λ n h. and_both (has r.unsent n) true h refl))
      go false = only_where (λ n. leb (base_of b) n && leb n last) (by false) r.unsent (λ n h. sym (ap (λ (t : Bool). t && (leb (base_of b) n && leb n last)) h))

  has-staying : (n : ℕ) → has (only (stays last b r) r.unsent) n ≡ stays last b r n
  has-staying n = has-only (stays last b r) r.unsent n ∙ and_twice (has r.unsent n) (is_late r.acked b || (leb (base_of b) n && leb n last))

  has_all : (n : ℕ) → has all n ≡ (stays last b r n || joins last a ms n)
  has_all n =
      has-union (between a last ms) (staying last b r.acked r.unsent) n
      ∙ ap (λ (t : Bool). t || has (staying last b r.acked r.unsent) n) (has-between a last ms n ∙ and_comm (leb a n && leb n last) (has ms n))
      ∙ ap (λ (l : List ℕ). joins last a ms n || has l n) staying-is
      ∙ ap (λ (t : Bool). joins last a ms n || t) (has-staying n)
      ∙ or_comm (joins last a ms n) (stays last b r n)

  stay_rise : From 0 (only (stays last b r) r.unsent)
  stay_rise = From_weak 0 1 (only (stays last b r) r.unsent) (omega arith) (From-only 1 (stays last b r) r.unsent (rises_are 0 r.unsent v.unsent).from)

  all_rise : From 0 all
  all_rise = From-union 0 (between a last ms) (staying last b r.acked r.unsent) (λ n e. omega arith) (subst (From 0) (sym staying-is) stay_rise)

  how_many_lem : length all ≡ how_many last b ms r a
  how_many_lem =
      ap (λ (l : List ℕ). length (union (between a last ms) l)) staying-is
      ∙ union-length (λ n. leb a n && leb n last) (stays last b r) k ms (only (stays last b r) r.unsent) rising stay_rise has-staying
      ∙ ap (λ (l : List ℕ). length (only (stays last b r) r.unsent) + length l)
      (only_where (λ n. (leb a n && leb n last) && not (stays last b r n)) (λ n. joins last a ms n && not (stays last b r n)) ms
      (λ n h. sym (ap (λ (t : Bool). (t && (leb a n && leb n last)) && not (stays last b r n)) h)))

  -- a valid reader's gap members aren't below A, so a late acknowledgement takes none
  gaps_are : (n : ℕ) → has (only (leb a) r.gaps) n ≡ (has r.gaps n && (is_late r.acked b || leb (base_of b) n))
  gaps_are n = has-only (leb a) r.gaps n ∙ go (is_late r.acked b) refl (has r.gaps n) refl
    where
      go : (t : Bool) → is_late r.acked b ≡ t → (s : Bool) → has r.gaps n ≡ s → (leb a n && s) ≡ (s && (t || leb (base_of b) n))
      go true e true h =
          let w = ltb-true (base_of b) r.acked e in
          and_both (leb a n) true (le-leb a n (omega (arith, From-low (suc (max r.prefix (r.acked - 1))) r.gaps n (rises_are (max r.prefix (r.acked - 1)) r.gaps v.gaps).from h))) refl
      go false e true h =
          let w : a ≡ base_of b = omega (arith, ltb-false (base_of b) r.acked e) in
          and_yes (leb a n) ∙ ap (λ (x : ℕ). leb x n) w
      go t e false h = and_no (leb a n)

  acknowledged_by : last ≤ top_number → is_ahead last b ≡ false → Acknowledged last b ms r (acknowledge last b ms r) (left_out_of last b ms r)
  acknowledged_by top behind =
      record {
        acked = acked-is;
        never_falls = omega arith;
        never_ahead = λ h. omega (arith, ltb-false (suc last) (base_of b) behind);
        unsent = λ n. has-smallest r.cap 0 all n all_rise ∙ ap (λ (t : Bool). t && ltb (smaller n (smallest r.cap all)) r.cap) (has_all n);
        prefix = refl;
        gaps = gaps_are;
        left_out = ap (λ (m : ℕ). m - r.cap) how_many_lem;
        counted = omega (arith, length-take r.cap all, how_many_lem);
        frags = refl;
        cap = refl;
        valid = acknowledged-valid r v last b k ms rising top behind;
      }

-- THE THEOREM, of any set: its members rise
pub acknowledged : (set : SequenceNumberSet) (last : ℕ) (r : Reader) → Valid r → last ≤ top_number → is_ahead last (rank_of set.base) ≡ false
    → Acknowledged last (rank_of set.base) (members (sequence_set set)) r (acknowledge last (rank_of set.base) (members (sequence_set set)) r) (left_out_of last (rank_of set.base) (members (sequence_set set)) r)
acknowledged set last r v top behind = acknowledged_by last (rank_of set.base) (rank_of set.base) (members (sequence_set set)) (members_rise (sequence_set set)) r v top behind

-- AND NOTHING ELSE DOES: the statement says everything. Two readers that it allows are the same, and so are the two counts
module _ (last b : ℕ) (ms : List ℕ) (r p q : Reader) (i j : ℕ) (x : Acknowledged last b ms r p i) (y : Acknowledged last b ms r q j) where
  same-acked : p.acked ≡ q.acked
  same-acked = x.acked ∙ sym y.acked

  rise_p : From 1 p.unsent
  rise_p = (rises_are 0 p.unsent x.valid.unsent).from

  rise_q : From 1 q.unsent
  rise_q = (rises_are 0 q.unsent y.valid.unsent).from

  -- whether n is unsent goes by how many smaller ones are, and so by whether each of them is
  same-smaller : (n : ℕ) → ((k : ℕ) → k < n → has p.unsent k ≡ has q.unsent k) → smaller n p.unsent ≡ smaller n q.unsent
  same-smaller n h =
      ap length (ext 1 1 (only (λ k. ltb k n) p.unsent) (only (λ k. ltb k n) q.unsent) (From-only 1 (λ k. ltb k n) p.unsent rise_p) (From-only 1 (λ k. ltb k n) q.unsent rise_q)
      (λ k. has-only (λ k. ltb k n) p.unsent k ∙ go k (ltb k n) refl ∙ sym (has-only (λ k. ltb k n) q.unsent k)))
    where
      go : (k : ℕ) (t : Bool) → ltb k n ≡ t → (t && has p.unsent k) ≡ (t && has q.unsent k)
      go k true e = h k (ltb-true k n e)
      go k false e = refl

  same_at : (n : ℕ) → ((k : ℕ) → k < n → has p.unsent k ≡ has q.unsent k) → has p.unsent n ≡ has q.unsent n
  same_at n h =
      x.unsent n
      ∙ ap (λ (a : ℕ). (stays last b r n || joins last a ms n) && ltb (smaller n p.unsent) r.cap) same-acked
      ∙ ap (λ (m : ℕ). (stays last b r n || joins last q.acked ms n) && ltb m r.cap) (same-smaller n h)
      ∙ sym (y.unsent n)

  same-below : (n k : ℕ) → k < n → has p.unsent k ≡ has q.unsent k
  same-below zero k h = absurd (omega arith)
  same-below (suc n) k h = same_at k (λ m w. same-below n m (omega arith))

  same-unsent : p.unsent ≡ q.unsent
  same-unsent = ext 1 1 p.unsent q.unsent rise_p rise_q (λ n. same-below (suc n) n (omega arith))

  same-gaps : p.gaps ≡ q.gaps
  same-gaps =
      ext (suc (max p.prefix (p.acked - 1))) (suc (max q.prefix (q.acked - 1))) p.gaps q.gaps
      (rises_are (max p.prefix (p.acked - 1)) p.gaps x.valid.gaps).from (rises_are (max q.prefix (q.acked - 1)) q.gaps y.valid.gaps).from
      (λ n. x.gaps n ∙ sym (y.gaps n))

  pub acknowledged_unique : (p ≡ q) × (i ≡ j)
  acknowledged_unique = (
    rw (same-acked, x.cap ∙ sym y.cap, same-unsent, x.prefix ∙ sym y.prefix, same-gaps, x.frags ∙ sym y.frags),
    x.left_out ∙ ap (λ (a : ℕ). how_many last b ms r a - r.cap) same-acked ∙ sym y.left_out,
  )

-- THE CALL: a coherent record's reader, and the one of what `handle_ack_nack` leaves where it answers 0
module _ (p : Picture) (c : record_coherent p ≡ true) (w : Words p.words) (set : SequenceNumberSet) (last : SequenceNumber) where
  abbrev answer : Answer
  answer = answer_of (ack_rows p.proxy p.unsent p.gaps set last)

  abbrev refused : Left2 AckNacked (List ℕ) (List ℕ)
  refused = record { result = record { answer = answer; left_out = 0; proxy = p.proxy }; first = p.unsent; second = p.gaps }

  abbrev taken : Left2 AckNacked (List ℕ) (List ℕ)
  taken = ack_leaves set (rank_of last) p.proxy p.unsent p.gaps

  was_taken : (t : Bool) → is_done answer ≡ t → (cond t taken refused).result.answer.number ≡ 0 → (cond t taken refused ≡ taken) × (answer.number ≡ 0)
  was_taken true e z = (refl, eqb-true answer.number 0 e)
  was_taken false e z = clash (is_done answer) (eq-eqb answer.number 0 z) e

  pub ack_nack_acknowledges : (o : AckNacked) (u g : List ℕ) → Gives2 o u g (ack_nacked_of set last p.proxy p.unsent p.gaps) → o.answer.number ≡ 0
      → Acknowledged (rank_of last) (rank_of set.base) (members (sequence_set set)) (record_view p) (record_view (record { proxy = o.proxy; unsent = u; gaps = g; samples = p.samples; words = p.words })) o.left_out
  ack_nack_acknowledges o u g gives z =
      let b = rank_of set.base in
      let ms = members (sequence_set set) in
      let after : Picture = record { proxy = o.proxy; unsent = u; gaps = g; samples = p.samples; words = p.words } in
      let d = was_taken (is_done answer) refl (ap (λ (x : AckNacked). x.answer.number) (sym gives.result) ∙ z) in
      let k = ackable set last p.proxy p.unsent p.gaps answer refl d.1 (rank_of last) refl in
      let is : record_view after ≡ acknowledge (rank_of last) b ms (record_view p) = stands_view after (acknowledge (rank_of last) b ms (record_view p)) (ack_nack_does p c w set last o u g gives z) in
      let count : o.left_out ≡ left_out_of (rank_of last) b ms (record_view p) = ap (λ (x : AckNacked). x.left_out) (gives.result ∙ ap (λ (x : Left2 AckNacked (List ℕ) (List ℕ)). x.result) d.0) in
      subst (λ (q : Reader). Acknowledged (rank_of last) b ms (record_view p) q o.left_out) (sym is)
      (subst (Acknowledged (rank_of last) b ms (record_view p) (acknowledge (rank_of last) b ms (record_view p))) (sym count)
      (acknowledged set (rank_of last) (record_view p) (view_valid p c) k.top k.behind))
