-- What a cut comes to: the room holds the line's bytes, whatever the pieces were in which they came. Assumes nothing.
use Prim.Native.Nat.{ℕ, ◌+◌, ◌<◌, ◌≤◌, min}
use mathlib.Core.Path.{◌≡◌, refl, sym, ap, subst, ◌∙◌}
use mathlib.Core.Bool.{Bool, true, false, cond}
use mathlib.Core.List.{List, [], ◌∷◌, ◌++◌, append-nil, append_assoc}
use native.Mathlib.Numerals.{add-one}
use native.Mathlib.Omega.{arith}
use lib.Dec.{eqb, ltb}
use lib.ListN.{length, take, set, length-append, length-set}
use lib.Seq.{take_all, take-append-le, take-suc-set, set_out}
use borrow.Author.Tests.{ltb-true, ltb-false}
use Rattle.trace_text.specs.Cuts.{cut_of, line_in, ends_in, Holds}

-- before a line's first byte
pub holds-none : (room : List ℕ) → Holds room 0 []
holds-none room = record { count = omega arith; bytes = sym (take_all (length room) [] (omega arith)) }

-- one byte more
module _ (room l : List ℕ) (n b : ℕ) (h : Holds room n l) where
  long : length (l ++ (b ∷ [])) ≡ length l + 1
  long = length-append l (b ∷ [])

  within : length l < length room → take (length l + 1) (set room n b) ≡ take (length room) (l ++ (b ∷ []))
  within k =
      let e : n ≡ length l = omega (arith, h.count) in
      let all : take (length room) l ≡ l = take_all (length room) l (omega arith) in
      let more : take (length room) (l ++ (b ∷ [])) ≡ l ++ (b ∷ []) = take_all (length room) (l ++ (b ∷ [])) (omega (arith, long)) in
      ap (λ (m : ℕ). take (length l + 1) (set room m b)) e
      ∙ ap (λ (m : ℕ). take m (set room (length l) b)) (add-one (length l))
      ∙ take-suc-set room (length l) b k
      ∙ ap (λ (x : List ℕ). x ++ (b ∷ [])) (h.bytes ∙ all)
      ∙ sym more

  beyond : length room ≤ length l → take (length l + 1) (set room n b) ≡ take (length room) (l ++ (b ∷ []))
  beyond k =
      ap (take (length l + 1)) (set_out room n b (omega (arith, h.count)))
      ∙ take_all (length l + 1) room (omega arith)
      ∙ sym (take_all (length l) room k)
      ∙ h.bytes
      ∙ sym (take-append-le (length room) l (b ∷ []) k)

  pub holds_more : Holds (set room n b) (min n (length room) + 1) (l ++ (b ∷ []))
  holds_more =
      record {
        count = rw (length-set room n b, long) (omega (arith, h.count));
        bytes = rw (long, length-set room n b) (go (ltb (length l) (length room)) refl);
      }
    where
      go : (t : Bool) → ltb (length l) (length room) ≡ t → take (length l + 1) (set room n b) ≡ take (length room) (l ++ (b ∷ []))
      go true e = within (ltb-true (length l) (length room) e)
      go false e = beyond (ltb-false (length l) (length room) e)

-- the cut of a piece: the room holds what it held and the bytes up to the newline; and the cut has ended just where there is one
pub cut_holds : (s room l : List ℕ) (at n : ℕ) → Holds room n l → Holds (cut_of at s n room).first (cut_of at s n room).result.held (l ++ line_in s)
cut_holds [] room l at n h = rw (append-nil l) h
cut_holds (b ∷ s) room l at n h = go (eqb b 10) (cut_holds s (set room n b) (l ++ (b ∷ [])) (at + 1) (min n (length room) + 1) (holds_more room l n b h))
  where
    go : (t : Bool) → Holds (cut_of (at + 1) s (min n (length room) + 1) (set room n b)).first (cut_of (at + 1) s (min n (length room) + 1) (set room n b)).result.held ((l ++ (b ∷ [])) ++ line_in s)
        → Holds (cond t (record { result = record { at = at + 1; held = n; ended = true }; first = room }) (cut_of (at + 1) s (min n (length room) + 1) (set room n b))).first
        (cond t (record { result = record { at = at + 1; held = n; ended = true }; first = room }) (cut_of (at + 1) s (min n (length room) + 1) (set room n b))).result.held
        (l ++ cond t [] (b ∷ line_in s))
    go true k = rw (append-nil l) h
    go false k = subst (λ (x : List ℕ). Holds (cut_of (at + 1) s (min n (length room) + 1) (set room n b)).first (cut_of (at + 1) s (min n (length room) + 1) (set room n b)).result.held x) (append_assoc l (b ∷ []) (line_in s)) k

pub cut_ended : (s room : List ℕ) (at n : ℕ) → (cut_of at s n room).result.ended ≡ ends_in s
cut_ended [] room at n = refl
cut_ended (b ∷ s) room at n = go (eqb b 10) (cut_ended s (set room n b) (at + 1) (min n (length room) + 1))
  where
    go : (t : Bool) → (cut_of (at + 1) s (min n (length room) + 1) (set room n b)).result.ended ≡ ends_in s
        → (cond t (record { result = record { at = at + 1; held = n; ended = true }; first = room }) (cut_of (at + 1) s (min n (length room) + 1) (set room n b))).result.ended ≡ cond t true (ends_in s)
    go true e = refl
    go false e = e

-- so a line that isn't too long is in the room, byte for byte; and of one that is, the count says so
pub held-line : (room l : List ℕ) (n : ℕ) → Holds room n l → n ≤ length room → take n room ≡ l
held-line room l n h k =
    let e : n ≡ length l = omega (arith, h.count) in
    ap (λ (m : ℕ). take m room) e ∙ h.bytes ∙ take_all (length room) l (omega arith)

pub held_long : (room l : List ℕ) (n : ℕ) → Holds room n l → length room < n → length room < length l
held_long room l n h k = omega (arith, h.count)
