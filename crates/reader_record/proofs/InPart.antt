-- A ROOM LENT IN PART: every call on a reader record that is lent rooms answers as if they were lent whole, and the parts that it leaves, with what is not lent, are
-- the rooms that it would leave then. The theorems stand in UnsentInPart, GapsInPart, AckInPart and FragsInPart, one for each call and named after it; here is what
-- holds of any room. What a call may add needs a place in the part (`room_for`): where there is none, it answers 1. Assumes nothing.
use Prim.Native.Nat.{ℕ, ◌+◌, ◌-◌, ◌≤◌}
use mathlib.Core.Path.{◌≡◌, refl, sym, ap, ◌∙◌}
use mathlib.Core.Bool.{Bool, true, false, cond}
use mathlib.Core.Logic.{◌⊎◌, inl, inr}
use mathlib.Core.List.{List, ◌++◌, append_assoc}
use native.Mathlib.Omega.{arith}
use lib.Dec.{leb}
use lib.ListN.{length, take, drop, replicate, replicate-append-replicate}
use lib.Seq.{length-take-le, take_at, drop_at, take-take}
use borrow.Author.Tests.{le-leb, eqb-true}
use Rattle.sets.proofs.Bools.{or_right}
use Rattle.numbers.specs.Refusals.{is_done}
use Rattle.numbers.specs.Answers.{answered}
use Rattle.numbers.specs.Promise.{Left1, Left2}
use Rattle.numbers.specs.declared.answer.Answer.{Answer}
use Rattle.rising.specs.Runs.{run_coherent, room_of}
use Rattle.rising.proofs.Meaning.{RunIs, room-is, room_ok, room-length}
use Rattle.rtps_reader_proxy.specs.Record.{room_for}
use Rattle.rtps_reader_proxy.proofs.Parts.{room_for_lem}
use Rattle.reader_record.specs.InPart.{AsWhole, AsWholes}

-- a room is its part and the zeros after it
pub room_split : (k m : ℕ) (l : List ℕ) → length l ≤ k → k ≤ m → room_of m l ≡ room_of k l ++ replicate (m - k) 0
room_split k m l a b =
    let e : m - length l ≡ (k - length l) + (m - k) = omega arith in
    ap (λ (x : ℕ). l ++ replicate x 0) e ∙ ap (λ (x : List ℕ). l ++ x) (sym (replicate-append-replicate (k - length l) (m - k) 0))
    ∙ sym (append_assoc l (replicate (k - length l) 0) (replicate (m - k) 0))

-- a room that is `l` and zeros: the part of it that is lent is `l` and fewer zeros, and other numbers in that part, with what is not lent, are those numbers in the whole
module _ (m k : ℕ) (room l : List ℕ) (is : room ≡ room_of m l) (few : length l ≤ k) (hi : k ≤ m) where
  long : length (room_of k l) ≡ k
  long = room-length k l few

  split : room ≡ room_of k l ++ replicate (m - k) 0
  split = is ∙ room_split k m l few hi

  pub part-is : take k room ≡ room_of k l
  part-is = ap (take k) split ∙ take_at (room_of k l) (replicate (m - k) 0) k long

  pub part_long : length (take k room) ≡ k
  part_long = ap length part-is ∙ long

  pub glue : (n : List ℕ) → length n ≤ k → room_of k n ++ drop k room ≡ room_of m n
  glue n fit =
      let rest : drop k room ≡ replicate (m - k) 0 = ap (drop k) split ∙ drop_at (room_of k l) (replicate (m - k) 0) k long in
      ap (λ (x : List ℕ). room_of k n ++ x) rest ∙ sym (room_split k m n fit hi)

-- a room of m numbers that passes the check, and the part of k numbers of it that is lent
module _ (p m count k : ℕ) (room : List ℕ) (run : RunIs p count room) (whole : length room ≡ m) (lo : count ≤ k) (hi : k ≤ m) where
  pub held_long : length (take count room) ≡ count
  held_long = length-take-le count room run.fits

  is-room : room ≡ room_of m (take count room)
  is-room = room-is p count room run ∙ ap (λ (x : ℕ). room_of x (take count room)) whole

  pub run_long : length (take k room) ≡ k
  run_long = part_long m k room (take count room) is-room (omega (arith, held_long)) hi

  -- it passes the check, and holds the same
  pub part-run : run_coherent p count (take k room) ≡ true
  part-run =
      ap (run_coherent p count) (part-is m k room (take count room) is-room (omega (arith, held_long)) hi) ∙ ap (λ (c : ℕ). run_coherent p c (room_of k (take count room))) (sym held_long)
      ∙ room_ok p k (take count room) (omega (arith, held_long)) run.rises

  pub part_held : take count (take k room) ≡ take count room
  part_held = take-take count k room lo

  -- other numbers, as many as the part has room for
  pub run_glue : (l : List ℕ) → length l ≤ k → room_of (length (take k room)) l ++ drop k room ≡ room_of (length room) l
  run_glue l few =
      ap (λ (x : ℕ). room_of x l ++ drop k room) run_long ∙ glue m k room (take count room) is-room (omega (arith, held_long)) hi l few ∙ ap (λ (x : ℕ). room_of x l) (sym whole)

-- the whole has room for any number that joins
pub all_fit : (n m count : ℕ) (room : List ℕ) → length room ≡ m → room_for n m count room ≡ true
all_fit n m count room whole = or_right (leb n (length room - count)) (leb m (length room)) (le-leb m (length room) (omega arith))

-- what joins and no more than the whole can have is in a part with room for it
pub fits-few : (n m count k x : ℕ) (part : List ℕ) → length part ≡ k → count ≤ k → room_for n m count part ≡ true → x ≤ count + n → x ≤ m → x ≤ k
fits-few n m count k x part long lo e a b = go (room_for_lem n m count part (omega arith) e)
  where
    go : (count + n ≤ length part) ⊎ (m ≤ length part) → x ≤ k
    go (inl w) = omega arith
    go (inr w) = omega arith

-- WHAT COMES OF A CALL with the part and with the whole, where it is answered the same
module _ {A : Type 0} (answer : Answer) (no : Answer → A) (yes : A) where
  abbrev out1 : List ℕ → List ℕ → Left1 A (List ℕ)
  out1 old new = answered answer (λ a. record { result = no a; first = old }) (record { result = yes; first = new })

  pub same1 : (rest x y X Y : List ℕ) → x ++ rest ≡ X → (answer.number ≡ 0 → y ++ rest ≡ Y) → AsWhole rest (out1 x y) (out1 X Y)
  same1 rest x y X Y old new = go (is_done answer) refl
    where
      go : (t : Bool) → is_done answer ≡ t
          → AsWhole rest (cond t (record { result = yes; first = y }) (record { result = no answer; first = x })) (cond t (record { result = yes; first = Y }) (record { result = no answer; first = X }))
      go true e = (refl, new (eqb-true answer.number 0 e))
      go false e = (refl, old)

  abbrev out2 : List ℕ → List ℕ → List ℕ → List ℕ → Left2 A (List ℕ) (List ℕ)
  out2 old new old2 new2 = answered answer (λ a. record { result = no a; first = old; second = old2 }) (record { result = yes; first = new; second = new2 })

  pub same2 : (rest x y X Y other z w Z W : List ℕ) → x ++ rest ≡ X → z ++ other ≡ Z → (answer.number ≡ 0 → (y ++ rest ≡ Y) × (w ++ other ≡ W))
      → AsWholes rest other (out2 x y z w) (out2 X Y Z W)
  same2 rest x y X Y other z w Z W old old2 new = go (is_done answer) refl
    where
      go : (t : Bool) → is_done answer ≡ t
          → AsWholes rest other (cond t (record { result = yes; first = y; second = w }) (record { result = no answer; first = x; second = z }))
          (cond t (record { result = yes; first = Y; second = W }) (record { result = no answer; first = X; second = Z }))
      go true e = let n = new (eqb-true answer.number 0 e) in (refl, (n.0, n.1))
      go false e = (refl, (old, old2))

-- two outcomes that are equal to such
pub as_whole : {A : Type 0} (rest : List ℕ) (a b c d : Left1 A (List ℕ)) → a ≡ b → c ≡ d → AsWhole rest b d → AsWhole rest a c
as_whole {A} rest a b c d e f s = (
  ap (λ (o : Left1 A (List ℕ)). o.result) e ∙ s.0 ∙ sym (ap (λ (o : Left1 A (List ℕ)). o.result) f),
  ap (λ (o : Left1 A (List ℕ)). o.first ++ rest) e ∙ s.1 ∙ sym (ap (λ (o : Left1 A (List ℕ)). o.first) f),
)

pub as_wholes : {A : Type 0} (rest other : List ℕ) (a b c d : Left2 A (List ℕ) (List ℕ)) → a ≡ b → c ≡ d → AsWholes rest other b d → AsWholes rest other a c
as_wholes {A} rest other a b c d e f s = (
  ap (λ (o : Left2 A (List ℕ) (List ℕ)). o.result) e ∙ s.0 ∙ sym (ap (λ (o : Left2 A (List ℕ) (List ℕ)). o.result) f),
  (
    ap (λ (o : Left2 A (List ℕ) (List ℕ)). o.first ++ rest) e ∙ s.1.0 ∙ sym (ap (λ (o : Left2 A (List ℕ) (List ℕ)). o.first) f),
    ap (λ (o : Left2 A (List ℕ) (List ℕ)). o.second ++ other) e ∙ s.1.1 ∙ sym (ap (λ (o : Left2 A (List ℕ) (List ℕ)). o.second) f),
  ),
)
