-- Every call that is accepted keeps the list coherent, and is the step on natural numbers. Assumes nothing.
use Prim.Native.Nat.{ℕ, zero, suc}
use mathlib.Core.Path.{◌≡◌, refl, sym, ap, subst, ◌∙◌}
use mathlib.Core.Bool.{Bool, true, false, not, cond, ◌&&◌, ◌||◌}
use mathlib.Core.Logic.{◌⊎◌, inl, inr}
use mathlib.Core.List.{List, [], ◌∷◌}
use lib.Dec.{leb, eqb}
use lib.ListN.{length, get_or, set, length-set}
use borrow.Author.Tests.{eq-eqb, ne_eqb, eqb-true, eqb-false}
use Rattle.sets.proofs.Bools.{and_left, and_right, neither}
use Rattle.numbers.specs.Number.{rank_of, negative, number_at}
use Rattle.numbers.specs.Refusals.{answer_of, is_done, unless, done, Rows}
use Rattle.numbers.specs.Promise.{Left1}
use Rattle.numbers.specs.declared.answer.Answer.{Answer}
use Rattle.numbers.proofs.Refused.{Clear, clear}
use Rattle.reader_list.specs.declared.heads.ReaderHead.{ReaderHead}
use Rattle.reader_list.specs.declared.calls.Match.{Match}
use Rattle.reader_list.specs.declared.calls.Acked.{Acked}
use Rattle.reader_list.specs.Readers.{Head, free, place_of_id, is_there, head_at, matched, departed, acknowledged, slot_coherent, slots_coherent, different, readers_coherent}
use Rattle.reader_list.specs.Slots.{head_view, readers, list_coherent, free_slot, list_rows, id_unknown, id_taken, match_rows, match_of, depart_of, ack_of}

-- one slot stored: the first that has the id j takes the head x
abbrev put : ℕ → Head → List Head → List Head
put j x hs = set hs (place_of_id j hs) x

-- an id that may stand there: none, the same, or one that is not in the list
abbrev Fresh : ℕ → ℕ → List Head → Type 0
Fresh i j hs = (i ≡ 0) ⊎ ((i ≡ j) ⊎ (is_there i hs ≡ false))

fresh_on : (i j : ℕ) (h : Head) (hs : List Head) → Fresh i j (h ∷ hs) → Fresh i j hs
fresh_on i j h hs (inl e) = inl e
fresh_on i j h hs (inr (inl e)) = inr (inl e)
fresh_on i j h hs (inr (inr e)) = inr (inr (neither (eqb h.id i) (is_there i hs) e).1)

put-there : (k j : ℕ) (x : Head) (hs : List Head) → is_there k hs ≡ false → eqb x.id k ≡ false → is_there k (put j x hs) ≡ false
put-there k j x [] e n = refl
put-there k j x (h ∷ hs) e n = go (eqb h.id j) (put-there k j x hs (neither (eqb h.id k) (is_there k hs) e).1 n)
  where
    go : (t : Bool) → is_there k (put j x hs) ≡ false → is_there k (set (h ∷ hs) (cond t 0 (suc (place_of_id j hs))) x) ≡ false
    go true r = rw (n, (neither (eqb h.id k) (is_there k hs) e).1)
    go false r = rw ((neither (eqb h.id k) (is_there k hs) e).0, r)

put-different : (j : ℕ) (x : Head) (hs : List Head) → Fresh x.id j hs → different hs ≡ true → different (put j x hs) ≡ true
put-different j x [] f d = refl
put-different j x (h ∷ hs) f d = go (eqb h.id j) refl (put-different j x hs (fresh_on x.id j h hs f) rest)
  where
    rest : different hs ≡ true
    rest = and_right (eqb h.id 0 || not (is_there h.id hs)) (different hs) d

    first : (eqb h.id 0 || not (is_there h.id hs)) ≡ true
    first = and_left (eqb h.id 0 || not (is_there h.id hs)) (different hs) d

    -- it stands in this slot
    here : h.id ≡ j → Fresh x.id j (h ∷ hs) → (eqb x.id 0 || not (is_there x.id hs)) ≡ true
    here q (inl e) = ap (λ (b : Bool). b || not (is_there x.id hs)) (eq-eqb x.id 0 e)
    here q (inr (inl e)) = subst (λ (i : ℕ). (eqb i 0 || not (is_there i hs)) ≡ true) (q ∙ sym e) first
    here q (inr (inr e)) = ap (λ (b : Bool). eqb x.id 0 || not b) (neither (eqb h.id x.id) (is_there x.id hs) e).1 ∙ or_true (eqb x.id 0)
      where
        or_true : (b : Bool) → (b || true) ≡ true
        or_true true = refl
        or_true false = refl

    -- it stands further on, and has not this slot's id
    other : (h.id ≡ 0 → ⊥) → (h.id ≡ j → ⊥) → Fresh x.id j (h ∷ hs) → eqb x.id h.id ≡ false
    other z n (inl e) = ne_eqb x.id h.id (λ q. z (sym q ∙ e))
    other z n (inr (inl e)) = ne_eqb x.id h.id (λ q. n (sym q ∙ e))
    other z n (inr (inr e)) = ne_eqb x.id h.id (λ q. eqb-false h.id x.id (neither (eqb h.id x.id) (is_there x.id hs) e).0 (sym q))

    on : (b : Bool) → eqb h.id 0 ≡ b → (h.id ≡ j → ⊥) → (b || not (is_there h.id hs)) ≡ true → (b || not (is_there h.id (put j x hs))) ≡ true
    on true z n p = refl
    on false z n p = ap not (put-there h.id j x hs (of_not (is_there h.id hs) p) (other (eqb-false h.id 0 z) n f))
      where
        of_not : (b : Bool) → not b ≡ true → b ≡ false
        of_not true e = sym e
        of_not false e = refl

    go : (t : Bool) → eqb h.id j ≡ t → different (put j x hs) ≡ true → different (set (h ∷ hs) (cond t 0 (suc (place_of_id j hs))) x) ≡ true
    go true q r = rw (here (eqb-true h.id j q) f, rest)
    go false q r = rw (on (eqb h.id 0) refl (eqb-false h.id j q) first, r)

put_fit : (j : ℕ) (x : Head) (hs : List Head) → slot_coherent x ≡ true → slots_coherent hs ≡ true → slots_coherent (put j x hs) ≡ true
put_fit j x [] e s = refl
put_fit j x (h ∷ hs) e s = go (eqb h.id j) (put_fit j x hs e (and_right (slot_coherent h) (slots_coherent hs) s))
  where
    go : (t : Bool) → slots_coherent (put j x hs) ≡ true → slots_coherent (set (h ∷ hs) (cond t 0 (suc (place_of_id j hs))) x) ≡ true
    go true r = rw (e, and_right (slot_coherent h) (slots_coherent hs) s)
    go false r = rw (and_left (slot_coherent h) (slots_coherent hs) s, r)

fits-put : (j : ℕ) (x : Head) (hs : List Head) → Fresh x.id j hs → slot_coherent x ≡ true → readers_coherent hs ≡ true → readers_coherent (put j x hs) ≡ true
fits-put j x hs f e c =
    let n : length (put j x hs) ≡ length hs = length-set hs (place_of_id j hs) x in
    let r = and_right (leb 1 (length hs)) (leb (length hs) 64 && (slots_coherent hs && different hs)) c in
    let q = and_right (leb (length hs) 64) (slots_coherent hs && different hs) r in
    rw (
      n,
      and_left (leb 1 (length hs)) (leb (length hs) 64 && (slots_coherent hs && different hs)) c,
      and_left (leb (length hs) 64) (slots_coherent hs && different hs) r,
      put_fit j x hs e (and_left (slots_coherent hs) (different hs) q),
      put-different j x hs f (and_right (slots_coherent hs) (different hs) q),
    )

-- ---- THE STEPS
module _ (hs : List Head) (c : readers_coherent hs ≡ true) where
  pub fits-matched : (i : ℕ) (r : Bool) → id_taken i hs ≡ false → readers_coherent (matched i r hs) ≡ true
  fits-matched i r e =
      fits-put 0 (record { id = i; reliable = r; acked = 0; below = false }) hs (inr (inr (neither (eqb i 0) (is_there i hs) e).1))
      (ap (λ (b : Bool). not b || (not r && eqb 0 0)) (neither (eqb i 0) (is_there i hs) e).0) c

  pub fits-departed : (i : ℕ) → readers_coherent (departed i hs) ≡ true
  fits-departed i = fits-put i free hs (inl refl) refl c

  pub fits-acknowledged : (i a : ℕ) → id_unknown i hs ≡ false → readers_coherent (acknowledged i a hs) ≡ true
  fits-acknowledged i a e =
      fits-put i (record { id = i; reliable = (head_at i hs).reliable; acked = a; below = false }) hs (inr (inl refl))
      (ap (λ (b : Bool). not b || (not (head_at i hs).reliable && (eqb a 0 && true))) (neither (eqb i 0) (not (is_there i hs)) e).0) c

-- ---- THE CALLS are these steps
pub readers_set : (hs : List ReaderHead) (k : ℕ) (h : ReaderHead) → readers (set hs k h) ≡ set (readers hs) k (head_view h)
readers_set [] k h = refl
readers_set (g ∷ hs) zero h = refl
readers_set (g ∷ hs) (suc k) h = ap (λ (l : List Head). head_view g ∷ l) (readers_set hs k h)

pub readers_get : (hs : List ReaderHead) (k : ℕ) → head_view (get_or hs k free_slot) ≡ get_or (readers hs) k free
readers_get [] k = refl
readers_get (g ∷ hs) zero = refl
readers_get (g ∷ hs) (suc k) = readers_get hs k

-- what a call leaves, by whether it is done
module _ (hs : List ReaderHead) (r : Rows) (k : ℕ) (h : ReaderHead) where
  abbrev left : Left1 Answer (List ReaderHead)
  left = unless r (λ a. record { result = a; first = hs }) (record { result = done; first = set hs k h })

  pub left-done : is_done (answer_of r) ≡ true → readers left.first ≡ set (readers hs) k (head_view h)
  left-done e = go (is_done (answer_of r)) e
    where
      go : (b : Bool) → b ≡ true → readers (cond {A = Left1 Answer (List ReaderHead)} b (record { result = done; first = set hs k h }) (record { result = answer_of r; first = hs })).first ≡ set (readers hs) k (head_view h)
      go b q = rw q (readers_set hs k h)

  left-coherent : list_coherent hs ≡ true → (Clear r → readers_coherent (set (readers hs) k (head_view h)) ≡ true) → list_coherent left.first ≡ true
  left-coherent c ok = go (is_done (answer_of r)) refl
    where
      go : (b : Bool) → is_done (answer_of r) ≡ b → list_coherent (cond {A = Left1 Answer (List ReaderHead)} b (record { result = done; first = set hs k h }) (record { result = answer_of r; first = hs })).first ≡ true
      go true e = ap readers_coherent (readers_set hs k h) ∙ ok (clear r (answer_of r) refl (eqb-true _ _ e))
      go false e = c

module _ (hs : List ReaderHead) where
  pub match_is : (m : Match) → is_done (answer_of (match_rows hs m)) ≡ true → readers (match_of hs m).first ≡ matched m.id m.reliable (readers hs)
  match_is m e = left-done hs (match_rows hs m) (place_of_id 0 (readers hs)) (record { id = m.id; reliable = m.reliable; acked = number_at 0 }) e

  pub depart-is : (i : ℕ) → is_done (answer_of (list_rows false (list_coherent hs) false (id_unknown i (readers hs)) false)) ≡ true → readers (depart_of hs i).first ≡ departed i (readers hs)
  depart-is i e = left-done hs (list_rows false (list_coherent hs) false (id_unknown i (readers hs)) false) (place_of_id i (readers hs)) free_slot e

  abbrev ack_rows_in : Acked → Rows
  ack_rows_in a = list_rows false (list_coherent hs) (negative a.acked) (id_unknown a.id (readers hs)) false

  -- the slot that is stored, where its acked isn't negative
  pub new_head : (a : Acked) → negative a.acked ≡ false
      → head_view (record { id = a.id; reliable = (get_or hs (place_of_id a.id (readers hs)) free_slot).reliable; acked = a.acked })
      ≡ record { id = a.id; reliable = (head_at a.id (readers hs)).reliable; acked = rank_of a.acked; below = false }
  new_head a e =
      ap (λ (g : Head). record { id = a.id; reliable = g.reliable; acked = rank_of a.acked; below = negative a.acked }) (readers_get hs (place_of_id a.id (readers hs)))
      ∙ ap (λ (t : Bool). record { id = a.id; reliable = (head_at a.id (readers hs)).reliable; acked = rank_of a.acked; below = t }) e

  pub ack-is : (a : Acked) → is_done (answer_of (list_rows false (list_coherent hs) (negative a.acked) (id_unknown a.id (readers hs)) false)) ≡ true → readers (ack_of hs a).first ≡ acknowledged a.id (rank_of a.acked) (readers hs)
  ack-is a e =
      left-done hs (list_rows false (list_coherent hs) (negative a.acked) (id_unknown a.id (readers hs)) false) (place_of_id a.id (readers hs)) (record { id = a.id; reliable = (get_or hs (place_of_id a.id (readers hs)) free_slot).reliable; acked = a.acked }) e
      ∙ ap (set (readers hs) (place_of_id a.id (readers hs))) (new_head a (clear (ack_rows_in a) (answer_of (ack_rows_in a)) refl (eqb-true _ _ e) 2 refl))

  module _ (c : list_coherent hs ≡ true) where
    -- COHERENCE IS KEPT, by a call that is refused too
    pub match-coherent : (m : Match) → list_coherent (match_of hs m).first ≡ true
    match-coherent m =
        left-coherent hs (match_rows hs m) (place_of_id 0 (readers hs)) (record { id = m.id; reliable = m.reliable; acked = number_at 0 }) c
        (λ w. fits-matched (readers hs) c m.id m.reliable (w 11 refl))

    pub depart-coherent : (i : ℕ) → list_coherent (depart_of hs i).first ≡ true
    depart-coherent i = left-coherent hs (list_rows false (list_coherent hs) false (id_unknown i (readers hs)) false) (place_of_id i (readers hs)) free_slot c (λ w. fits-departed (readers hs) c i)

    pub ack-coherent : (a : Acked) → list_coherent (ack_of hs a).first ≡ true
    ack-coherent a =
        left-coherent hs (list_rows false (list_coherent hs) (negative a.acked) (id_unknown a.id (readers hs)) false) (place_of_id a.id (readers hs))
        (record { id = a.id; reliable = (get_or hs (place_of_id a.id (readers hs)) free_slot).reliable; acked = a.acked }) c
        (λ w. subst (λ (g : Head). readers_coherent (set (readers hs) (place_of_id a.id (readers hs)) g) ≡ true) (sym (new_head a (w 2 refl)))
        (fits-acknowledged (readers hs) c a.id (rank_of a.acked) (w 11 refl)))
