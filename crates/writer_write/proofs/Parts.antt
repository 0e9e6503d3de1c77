-- A reader's part of its stretch: where it lies, and that it stays as long as it is. Assumes nothing.
use Prim.Native.Nat.{ℕ, ◌+◌, ◌-◌, ◌*◌, ◌/◌, ◌≤◌, ◌<◌, max}
use mathlib.Core.Path.{◌≡◌, refl, ◌∙◌}
use mathlib.Core.Bool.{Bool, true, false, cond, ◌&&◌}
use mathlib.Core.List.{List, ◌++◌}
use native.Mathlib.Nat.{suc-mul, mul-le-mul_right, mul-div-le}
use native.Mathlib.Omega.{arith}
use lib.Dec.{ltb, leb}
use lib.ListN.{length, take, drop, get_or, set, replicate, length-replicate, length-drop, length-append, length-set}
use borrow.Author.Tests.{leb-true}
use Rattle.sets.specs.Sets.{insert}
use Rattle.sets.proofs.Smallest.{largest-few}
use Rattle.numbers.specs.Number.{rank_of}
use Rattle.numbers.specs.Refusals.{is_done}
use Rattle.numbers.specs.Promise.{Left1}
use Rattle.rising.specs.Runs.{over, in_room, newest, run_with}
use Rattle.rtps_reader_proxy.specs.declared.proxy.ReaderProxy.{ReaderProxy}
use Rattle.writer_send_buffer.specs.declared.flow.Numbered.{Numbered}
use Rattle.writer_write.specs.Write.{UnsentPart}
use Rattle.writer_write.specs.Places.{own_of}
use Rattle.writer_write.specs.Turns.{with_number, put_one}

-- it is inside its stretch, and within the cap
pub own_in : (s : ℕ) (h : ReaderProxy) → own_of s h ≤ s
own_in s h = omega arith

pub own_capped : (s : ℕ) (h : ReaderProxy) → own_of s h ≤ h.unsent_cap
own_capped s h = omega arith

-- stretch i of n is inside the room
pub within : (i n l : ℕ) → i < n → i * (l / n) + l / n ≤ l
within i n l h = omega (arith, suc-mul i (l / n), mul-le-mul_right (l / n) h, mul-div-le l n)

-- the run in a part stays in it
in_room_long : (n c : ℕ) (a : List ℕ) → length (in_room (newest (length a) n) c a).first ≡ length a
in_room_long n c a = go (leb c (length a)) refl
  where
    l : List ℕ
    l = newest (length a) n (take c a)

    go : (t : Bool) → leb c (length a) ≡ t → length (cond {A = Left1 ℕ (List ℕ)} t (record { result = length l; first = over a c l }) (record { result = c; first = a })).first ≡ length a
    go true q =
        length-append l (replicate (c - length l) 0 ++ drop (max c (length l)) a)
        ∙ (rw (length-append (replicate (c - length l) 0) (drop (max c (length l)) a), length-replicate {A = ℕ} (c - length l) 0, length-drop (max c (length l)) a)
        (omega (arith, leb-true c (length a) q, largest-few (length a) (insert n (take c a)))))
    go false q = refl

pub joined_long : (n c : ℕ) (a : List ℕ) → length (run_with n c a).first ≡ length a
joined_long n c a = go (ltb c (length a) && ltb (get_or a (c - 1) 0) n)
  where
    go : (t : Bool) → length (cond {A = Left1 ℕ (List ℕ)} t (record { result = c + 1; first = set a c n }) (in_room (newest (length a) n) c a)).first ≡ length a
    go true = length-set a c n
    go false = in_room_long n c a

pub put_long : (m : Numbered) (k : UnsentPart) → length (put_one m k).unsent ≡ length k.unsent
put_long m k = go (is_done m.answer)
  where
    go : (t : Bool) → length (cond t (with_number (rank_of m.number) k) k).unsent ≡ length k.unsent
    go true = joined_long (rank_of m.number) k.proxy.unsent_count k.unsent
    go false = refl
