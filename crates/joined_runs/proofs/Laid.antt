-- The room: what stands from one place to another gets as many cells as the members of a set need, and these are laid there. Assumes nothing.
use Prim.Native.Nat.{ℕ, ◌+◌, ◌-◌, ◌≤◌, ◌<◌, min, max}
use mathlib.Core.Path.{◌≡◌, refl, sym, ap, ◌∙◌}
use mathlib.Core.Bool.{Bool, true, false}
use mathlib.Core.List.{List, [], ◌++◌, append-nil, append_assoc}
use native.Mathlib.Omega.{arith}
use lib.Dec.{leb, eqb}
use lib.ListN.{length, take, drop, replicate, length-take, length-drop, length-append, length-replicate}
use lib.Seq.{take_all, length-take-le, take-take, drop-drop, drop_at, take-append-le, take-append-add, drop-append-le}
use borrow.Author.Tests.{leb-true, leb-false, le-leb, le-ltb, eq-eqb, ne_eqb}
use Rattle.sets.specs.Sets.{smallest}
use Rattle.sets.proofs.Loops.{done}
use Rattle.numbers.specs.Number.{rank_of, negative}
use Rattle.numbers.specs.Promise.{Left1, Gives1}
use Rattle.number_sets.specs.declared.sequence_number_set.SequenceNumberSet.{SequenceNumberSet}
use Rattle.number_sets.specs.declared.sequence_number_set.Listed.{Listed}
use Rattle.number_sets.specs.Bits.{members}
use Rattle.number_sets.specs.Calls.{sequence_set, joined_set, sequence_rows, set_rows, members_listed, all_listed}
use Rattle.number_sets.proofs.Meaning.{span_window}
use Rattle.rising.specs.Runs.{over, in_room, place_of, filled}
use Rattle.rising.proofs.Rooms.{drop-take, room-same}
use Rattle.rising.proofs.Inserts.{place_le}
use Rattle.joined_runs.specs.Joined.{replaced, grown, end_in, lying, with_members, laid_in, resized, Within, Listable}

-- LAID: N over what stands from p on, where T stands after the run
module _ (m p q : ℕ) (l N T : List ℕ) (pq : p ≤ q) (ql : q ≤ length l) (lm : length l ≤ m) (t : m < p + length N → T ≡ []) where
  abbrev wide : List ℕ
  wide = take (p + min (q - p) (length N)) l ++ (replicate (length N - (q - p)) 0 ++ drop q l)

  abbrev v : List ℕ
  v = take m wide ++ T

  wide_length : length wide ≡ p + length N + (length l - q)
  wide_length = simp (length-append, length-take, length-drop, length-replicate) (omega arith)

  long : length (replaced p q N l) ≡ p + length N + (length l - q)
  long = simp (length-append, length-take, length-drop) (omega arith)

  pub same_many : length (take m wide) ≡ length (take m (replaced p q N l))
  same_many = length-take m wide ∙ ap (min m) (wide_length ∙ sym long) ∙ sym (length-take m (replaced p q N l))

  front : take p v ≡ take p l
  front =
      take-append-le p (take m wide) T (omega (arith, length-take m wide, wide_length))
      ∙ take-take p m wide (omega arith)
      ∙ take-append-le p (take (p + min (q - p) (length N)) l) (replicate (length N - (q - p)) 0 ++ drop q l) (omega (arith, length-take (p + min (q - p) (length N)) l))
      ∙ take-take p (p + min (q - p) (length N)) l (omega arith)

  tail : drop (p + length N) wide ≡ drop q l
  tail =
      let a : length (take (p + min (q - p) (length N)) l ++ replicate (length N - (q - p)) 0) ≡ p + length N = simp (length-append, length-take, length-replicate) (omega arith) in
      ap (drop (p + length N)) (sym (append_assoc (take (p + min (q - p) (length N)) l) (replicate (length N - (q - p)) 0) (drop q l)))
      ∙ drop_at (take (p + min (q - p) (length N)) l ++ replicate (length N - (q - p)) 0) (drop q l) (p + length N) a

  pub laid : take p v ++ (take (m - p) N ++ drop (length N) (drop p v)) ≡ take m (replaced p q N l) ++ T
  laid = go (leb (p + length N) m) refl
    where
      lp : length (take p l) ≡ p
      lp = length-take-le p l (omega arith)

      go : (b : Bool) → leb (p + length N) m ≡ b → take p v ++ (take (m - p) N ++ drop (length N) (drop p v)) ≡ take m (replaced p q N l) ++ T
      go true e =
          let f = leb-true (p + length N) m e in
          let k : ℕ = m - (p + length N) in
          let d : drop (length N) (drop p v) ≡ take (m - (p + length N)) (drop q l) ++ T =
          drop-drop (length N) p v
          ∙ drop-append-le (p + length N) (take m wide) T (omega (arith, length-take m wide, wide_length))
          ∙ ap (λ (x : List ℕ). x ++ T) (drop-take (p + length N) m wide ∙ ap (take (m - (p + length N))) tail) in
          let lpn : length (take p l ++ N) ≡ p + length N = length-append (take p l) N ∙ omega (arith, lp) in
          let mq : m ≡ length (take p l ++ N) + (m - (p + length N)) = omega arith in
          let s : take m (replaced p q N l) ≡ (take p l ++ N) ++ take (m - (p + length N)) (drop q l) =
          ap (take m) (sym (append_assoc (take p l) N (drop q l))) ∙ ap (λ (x : ℕ). take x ((take p l ++ N) ++ drop q l)) mq ∙ take-append-add (take p l ++ N) (drop q l) (m - (p + length N)) in
          rw (front, take_all (m - p) N (omega arith), d, s, append_assoc (take p l ++ N), append_assoc (take p l))
      go false e =
          let f = leb-false (p + length N) m e in
          let n : T ≡ [] = t f in
          let d : drop (length N) (drop p v) ≡ [] =
          drop-drop (length N) p v ∙ done v (p + length N) (omega (arith, length-append (take m wide) T, ap length n, length-take m wide)) in
          let mp : m ≡ length (take p l) + (m - p) = omega (arith, lp) in
          let s : take m (replaced p q N l) ≡ take p l ++ take (m - p) N =
          ap (λ (x : ℕ). take x (take p l ++ (N ++ drop q l))) mp ∙ take-append-add (take p l) (N ++ drop q l) (m - p)
          ∙ ap (λ (x : List ℕ). take p l ++ x) (take-append-le (m - p) N (drop q l) (omega arith)) in
          ap (λ (x : List ℕ). x ++ (take (m - p) N ++ drop (length N) (drop p v))) front
          ∙ ap (λ (x : List ℕ). take p l ++ (take (m - p) N ++ x)) d
          ∙ ap (λ (x : List ℕ). take p l ++ x) (append-nil (take (m - p) N))
          ∙ sym (ap (λ (x : List ℕ). take m (replaced p q N l) ++ x) n ∙ append-nil (take m (replaced p q N l)) ∙ s)

-- REPLACED: in the room
over-length : (c : ℕ) (a x : List ℕ) → c ≤ length a → length x ≤ length a → length (over a c x) ≡ length a
over-length c a x h g = simp (length-append, length-replicate, length-drop) (omega arith)

module _ (p q count : ℕ) (a : List ℕ) (set : SequenceNumberSet) (w : Within p q count a) (s : Listable set) where
  abbrev N : List ℕ
  N = members (sequence_set set)

  abbrev l : List ℕ
  l = take count a

  ll : length l ≡ count
  ll = length-take-le count a w.fits

  pub replaced_total : (n : ℕ) → n ≡ length N → p + n + (count - q) ≡ length (replaced p q N l)
  replaced_total n e = e' ∙ sym (length-append (take p l) (N ++ drop q l) ∙ omega (arith, length-append N (drop q l), length-take p l, length-drop q l, ll, w.rises, w.most))
    where
      e' : p + n + (count - q) ≡ p + length N + (count - q)
      e' = omega arith

  -- the listing isn't refused
  listing : (r : Listed) (x o : List ℕ) → Gives1 r x (members_listed (sequence_rows set) N o) → x ≡ filled N o
  listing r x o g =
      let rows : members_listed (sequence_rows set) N o ≡ all_listed N o =
      ap (λ (b : Bool). members_listed (set_rows b (negative set.base)) N o) (le-ltb 256 set.count s.bits)
      ∙ ap (λ (b : Bool). members_listed (set_rows false b) N o) s.base in
      g.first ∙ ap (λ (y : Left1 Listed (List ℕ)). y.first) rows

  module _ (n g : ℕ) (v : List ℕ) (e : n ≡ length N) (k : Gives1 g v (in_room (resized (length a) p q n) count a)) where
    abbrev R : List ℕ
    R = resized (length a) p q (length N) l

    few : length R ≤ length a
    few = omega (arith, length-take (length a) (take (p + min (q - p) (length N)) l ++ (replicate (length N - (q - p)) 0 ++ drop q l)))

    v_is : v ≡ over a count R
    v_is =
        let z : Gives1 g v (record { result = length (resized (length a) p q n l); first = over a count (resized (length a) p q n l) }) = rw (le-leb count (length a) w.fits) at k in
        z.first ∙ ap (λ (x : ℕ). over a count (resized (length a) p q x l)) e

    pub resized_long : length v ≡ length a
    resized_long = ap length v_is ∙ over-length count a R w.fits few

    abbrev T : List ℕ
    T = replicate (count - length R) 0 ++ drop (max count (length R)) a

    none_after : length a < p + length N → T ≡ []
    none_after h =
        let lr : length R ≡ length a = length-take-le (length a) (take (p + min (q - p) (length N)) l ++ (replicate (length N - (q - p)) 0 ++ drop q l))
        (simp (length-append, length-take, length-drop, length-replicate) (omega (arith, w.rises, w.most, w.fits))) in
        let z : count - length R ≡ 0 = omega (arith, w.fits) in
        let x : max count (length R) ≡ length a = omega (arith, w.fits) in
        rw (z, x) (done a (length a) (omega arith))

    pub replaced-room : (r : Listed) (x : List ℕ) → Gives1 r x (members_listed (sequence_rows set) N (take (length v - p) (drop p v)))
        → take p v ++ (x ++ drop (length v - p) (drop p v)) ≡ over a count (smallest (length a) (replaced p q N l))
    replaced-room r x y =
        let lv = resized_long in
        let all : take (length v - p) (drop p v) ≡ drop p v = take_all (length v - p) (drop p v) (omega (arith, length-drop p v)) in
        let end : drop (length v - p) (drop p v) ≡ [] = done (drop p v) (length v - p) (omega (arith, length-drop p v)) in
        let o : x ≡ take (length a - p) N ++ drop (length N) (drop p v) =
        listing r x (take (length v - p) (drop p v)) y ∙ ap (filled N) all ∙ ap (λ (i : ℕ). take i N ++ drop (length N) (drop p v)) (length-drop p v ∙ ap (λ (i : ℕ). i - p) lv) in
        let lq : q ≤ length l = omega (arith, ll, w.most) in
        let lm : length l ≤ length a = omega (arith, ll, w.fits) in
        ap (λ (i : List ℕ). take p v ++ (x ++ i)) end ∙ ap (λ (i : List ℕ). take p v ++ i) (append-nil x ∙ o)
        ∙ ap (λ (i : List ℕ). take p i ++ (take (length a - p) N ++ drop (length N) (drop p i))) v_is
        ∙ laid (length a) p q l N T w.rises lq lm none_after
        ∙ ap (λ (i : ℕ). smallest (length a) (replaced p q N l) ++ (replicate (count - i) 0 ++ drop (max count i) a)) (same_many (length a) p q l N T w.rises lq lm none_after)

  -- whether they are more than stood there, by what the code counted
  module _ (n : ℕ) (e : n ≡ length N) where
    pub grown-none : n ≡ q - p → Gives1 count a (laid_in count a (grown p q N l))
    grown-none f =
        let z : eqb (length N) (q - p) ≡ true = eq-eqb (length N) (q - p) (sym e ∙ f) in
        let s : smallest (length a) l ≡ l = take_all (length a) l (omega (arith, ll, w.fits)) in
        rw (z, s) (record { result = sym ll; first = room-same count a w.fits })

    pub grown-some : (n ≡ q - p → ⊥) → (r : ℕ) (u : List ℕ) → Gives1 r u (laid_in count a (replaced p q N l)) → Gives1 r u (laid_in count a (grown p q N l))
    grown-some f r u g = rw (ne_eqb (length N) (q - p) (λ x. f (e ∙ x))) g

-- JOINED: the places that the code found, and the set
pub start_in : (count first p : ℕ) (a : List ℕ) → p ≡ place_of first (take count a) → p ≤ count
start_in count first p a e = omega (arith, place_le first (take count a), length-take count a)

module _ (count : ℕ) (a : List ℕ) (set : SequenceNumberSet) (first base p k q : ℕ) (fits : count ≤ length a) (s : Listable set) (eb : base ≡ rank_of set.base)
    (ep : p ≡ place_of first (take count a)) (ek : k ≡ place_of (base + set.count) (take (count - p) (drop p a))) (eq : q ≡ p + k) where
  pub joined_within : Within p q count a
  joined_within =
      let h = start_in count first p a ep in
      record { rises = omega arith; most = omega (arith, place_le (base + set.count) (take (count - p) (drop p a)), length-take (count - p) (drop p a)); fits = fits }

  q_is : q ≡ end_in first set (take count a)
  q_is =
      let d : take (count - p) (drop p a) ≡ drop p (take count a) = sym (drop-take p count a) in
      eq ∙ ap (λ (x : ℕ). p + x) (ek ∙ ap (place_of (base + set.count)) d ∙ ap (λ (x : ℕ). place_of (x + set.count) (drop p (take count a))) eb)
      ∙ ap (λ (x : ℕ). x + place_of (rank_of set.base + set.count) (drop x (take count a))) ep

  module _ (all : SequenceNumberSet) (e : all ≡ joined_set set (take (q - p) (drop p a))) where
    pub joined_listable : Listable all
    joined_listable = rw e (record { bits = omega (arith, s.bits, span_window (rank_of set.base) (take (q - p) (drop p a))); base = s.base })

    all_is : all ≡ joined_set set (lying first set (take count a))
    all_is =
        let y : take (q - p) (drop p a) ≡ take (q - p) (drop p (take count a)) =
        sym (ap (take (q - p)) (drop-take p count a) ∙ take-take (q - p) (count - p) (drop p a) (omega (arith, joined_within.most))) in
        e ∙ ap (joined_set set) (y ∙ ap (λ (x : ℕ). take (x - p) (drop p (take count a))) q_is ∙ ap (λ (x : ℕ). take (end_in first set (take count a) - x) (drop x (take count a))) ep)

    pub joined_some : (r : ℕ) (u : List ℕ) → Gives1 r u (laid_in count a (grown p q (members (sequence_set all)) (take count a))) → Gives1 r u (laid_in count a (with_members first set (take count a)))
    joined_some r u g =
        let x : grown p q (members (sequence_set all)) (take count a) ≡ with_members first set (take count a) =
        ap (λ (i : SequenceNumberSet). grown p q (members (sequence_set i)) (take count a)) all_is
        ∙ ap (λ (i : ℕ). grown i q (members (sequence_set (joined_set set (lying first set (take count a))))) (take count a)) ep
        ∙ ap (λ (i : ℕ). grown (place_of first (take count a)) i (members (sequence_set (joined_set set (lying first set (take count a))))) (take count a)) q_is in
        record { result = g.result ∙ ap length x; first = g.first ∙ ap (λ (i : List ℕ). over a count (smallest (length a) i)) x }
