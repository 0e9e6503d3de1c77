-- The reader list: what stands in it for an id after a match, a departure or an acknowledgement, and the frontier against each of its heads. Assumes nothing.
use Prim.Native.Nat.{ℕ, zero, suc, ◌≤◌, max}
use mathlib.Core.Path.{◌≡◌, refl, sym, ap, subst, ◌∙◌}
use mathlib.Core.Bool.{Bool, true, false, not, cond, ◌&&◌, ◌||◌, true≢false, false≢true}
use mathlib.Core.Logic.{◌⊎◌, inl, inr}
use mathlib.Core.List.{List, [], ◌∷◌}
use lib.Dec.{ltb, leb, eqb}
use lib.ListN.{length, get_or, set, replicate, length-set, length-replicate}
use native.Mathlib.Omega.{arith}
use borrow.Author.Tests.{le-leb, eqb-true, eqb-false, eq-eqb, ne_eqb, not-true}
use Rattle.sets.proofs.Bools.{and_left, and_right, and_both, or_right, clash, decide}
use Rattle.reader_list.proofs.Gather.{place-there}
use Rattle.reader_list.proofs.Smallest.{at_most_each}
use Rattle.reader_list.specs.Readers.{Head, free, meet, frontier, place_of_id, is_there, head_at, departed, slots_coherent, different, readers_coherent}
use Rattle.reader_list.specs.Slots.{id_unknown}

-- the id is there if it stands first or further on
pub there-is : (i : ℕ) (h : Head) (hs : List Head) → is_there i (h ∷ hs) ≡ (eqb h.id i || is_there i hs)
there-is i h hs = refl

-- ONE SLOT CHANGED, the first of the id k: another id j stands where it stood
module _ (k j : ℕ) (x : Head) (d : k ≡ j → ⊥) (c : x.id ≡ j → ⊥) where
  pub place_other : (hs : List Head) → place_of_id j (set hs (place_of_id k hs) x) ≡ place_of_id j hs
  place_other [] = refl
  place_other (y ∷ ys) = go (eqb y.id k) refl (place_other ys)
    where
      go : (t : Bool) → eqb y.id k ≡ t → place_of_id j (set ys (place_of_id k ys) x) ≡ place_of_id j ys → place_of_id j (set (y ∷ ys) (cond t 0 (suc (place_of_id k ys))) x) ≡ cond (eqb y.id j) 0 (suc (place_of_id j ys))
      go true e r =
          ap (λ (t : Bool). cond t 0 (suc (place_of_id j ys))) (ne_eqb x.id j c)
          ∙ sym (ap (λ (t : Bool). cond t 0 (suc (place_of_id j ys))) (ne_eqb y.id j (λ (z : y.id ≡ j). d (sym (eqb-true y.id k e) ∙ z))))
      go false e r = ap (λ (n : ℕ). cond (eqb y.id j) 0 (suc n)) r

  pub head_other : (hs : List Head) → head_at j (set hs (place_of_id k hs) x) ≡ head_at j hs
  head_other hs = ap (λ (p : ℕ). get_or (set hs (place_of_id k hs) x) p free) (place_other hs) ∙ at hs
    where
      at : (hs : List Head) → get_or (set hs (place_of_id k hs) x) (place_of_id j hs) free ≡ get_or hs (place_of_id j hs) free
      at [] = refl
      at (y ∷ ys) = go (eqb y.id k) refl (eqb y.id j) refl (at ys)
        where
          go : (t : Bool) → eqb y.id k ≡ t → (u : Bool) → eqb y.id j ≡ u → get_or (set ys (place_of_id k ys) x) (place_of_id j ys) free ≡ get_or ys (place_of_id j ys) free
              → get_or (set (y ∷ ys) (cond t 0 (suc (place_of_id k ys))) x) (cond u 0 (suc (place_of_id j ys))) free ≡ get_or (y ∷ ys) (cond u 0 (suc (place_of_id j ys))) free
          go true e true f r = absurd (d (sym (eqb-true y.id k e) ∙ eqb-true y.id j f))
          go true e false f r = refl
          go false e true f r = refl
          go false e false f r = r

  pub there_other : (hs : List Head) → is_there j (set hs (place_of_id k hs) x) ≡ is_there j hs
  there_other hs =
      sym (place-there j (set hs (place_of_id k hs) x))
      ∙ ap (λ (p : ℕ). ltb p (length (set hs (place_of_id k hs) x))) (place_other hs)
      ∙ ap (λ (n : ℕ). ltb (place_of_id j hs) n) (length-set hs (place_of_id k hs) x)
      ∙ place-there j hs

-- and the new head stands for its own id, if that is k or was not there
pub set_own : (k : ℕ) (x : Head) (hs : List Head) → is_there k hs ≡ true → ((x.id ≡ k) ⊎ (is_there x.id hs ≡ false))
    → (is_there x.id (set hs (place_of_id k hs) x) ≡ true) × (head_at x.id (set hs (place_of_id k hs) x) ≡ x)
set_own k x [] h w = absurd (false≢true h)
set_own k x (y ∷ ys) h w = go (eqb y.id k) refl (sym (there-is k y ys) ∙ h) (set_own k x ys)
  where
    own : eqb x.id x.id ≡ true
    own = eq-eqb x.id x.id refl

    off : eqb y.id k ≡ false → (x.id ≡ k) ⊎ (is_there x.id (y ∷ ys) ≡ false) → eqb y.id x.id ≡ false
    off e (inl q) = ap (eqb y.id) q ∙ e
    off e (inr q) = elim (decide (eqb y.id x.id)) [ inl f ↦ clash (is_there x.id (y ∷ ys)) (there-is x.id y ys ∙ ap (λ (t : Bool). t || is_there x.id ys) f) q | inr f ↦ f ]

    rest : (x.id ≡ k) ⊎ (is_there x.id (y ∷ ys) ≡ false) → (x.id ≡ k) ⊎ (is_there x.id ys ≡ false)
    rest (inl q) = inl q
    rest (inr q) = inr (elim (decide (is_there x.id ys)) [ inl f ↦ clash (is_there x.id (y ∷ ys)) (there-is x.id y ys ∙ or_right (eqb y.id x.id) (is_there x.id ys) f) q | inr f ↦ f ])

    go : (t : Bool) → eqb y.id k ≡ t → (t || is_there k ys) ≡ true
        → (is_there k ys ≡ true → ((x.id ≡ k) ⊎ (is_there x.id ys ≡ false)) → (is_there x.id (set ys (place_of_id k ys) x) ≡ true) × (head_at x.id (set ys (place_of_id k ys) x) ≡ x))
        → (is_there x.id (set (y ∷ ys) (cond t 0 (suc (place_of_id k ys))) x) ≡ true) × (head_at x.id (set (y ∷ ys) (cond t 0 (suc (place_of_id k ys))) x) ≡ x)
    go true e g r = (
      there-is x.id x ys ∙ ap (λ (t : Bool). t || is_there x.id ys) own,
      ap (λ (t : Bool). get_or (x ∷ ys) (cond t 0 (suc (place_of_id x.id ys))) free) own,
    )
    go false e g r =
        let o = r g (rest w) in (
          there-is x.id y (set ys (place_of_id k ys) x) ∙ or_right (eqb y.id x.id) (is_there x.id (set ys (place_of_id k ys) x)) o.0,
          ap (λ (t : Bool). get_or (y ∷ set ys (place_of_id k ys) x) (cond t 0 (suc (place_of_id x.id (set ys (place_of_id k ys) x)))) free) (off e w) ∙ o.1,
        )

-- a reader that is known has an id from 1 on, and is there; one that departed is not
pub known_is : (i : ℕ) (hs : List Head) → id_unknown i hs ≡ false → ((i ≡ 0) → ⊥) × (is_there i hs ≡ true)
known_is i hs e = go (eqb i 0) refl (is_there i hs) refl e
  where
    go : (t : Bool) → eqb i 0 ≡ t → (u : Bool) → is_there i hs ≡ u → (t || not u) ≡ false → ((i ≡ 0) → ⊥) × (is_there i hs ≡ true)
    go false p true q e = (eqb-false i 0 p, q)
    go false p false q e = absurd (true≢false e)
    go true p u q e = absurd (true≢false e)

pub is_known : (i : ℕ) (hs : List Head) → (i ≡ 0 → ⊥) → is_there i hs ≡ true → id_unknown i hs ≡ false
is_known i hs d e = ap (λ (t : Bool). t || not (is_there i hs)) (ne_eqb i 0 d) ∙ ap not e

pub gone : (i : ℕ) → (i ≡ 0 → ⊥) → (hs : List Head) → different hs ≡ true → is_there i (departed i hs) ≡ false
gone i d [] e = refl
gone i d (y ∷ ys) e = go (eqb y.id i) refl (gone i d ys (and_right (eqb y.id 0 || not (is_there y.id ys)) (different ys) e))
  where
    alone : y.id ≡ i → is_there i ys ≡ false
    alone q =
        subst (λ (k : ℕ). is_there k ys ≡ false) q
        (not-true (is_there y.id ys)
        (sym (ap (λ (t : Bool). t || not (is_there y.id ys)) (ne_eqb y.id 0 (λ (z : y.id ≡ 0). d (sym q ∙ z)))) ∙ and_left (eqb y.id 0 || not (is_there y.id ys)) (different ys) e))

    go : (t : Bool) → eqb y.id i ≡ t → is_there i (departed i ys) ≡ false → is_there i (set (y ∷ ys) (cond t 0 (suc (place_of_id i ys))) free) ≡ false
    go true q r = there-is i free ys ∙ ap (λ (t : Bool). t || is_there i ys) (ne_eqb 0 i (λ (z : 0 ≡ i). d (sym z))) ∙ alone (eqb-true y.id i q)
    go false q r = there-is i y (departed i ys) ∙ ap (λ (t : Bool). t || is_there i (departed i ys)) q ∙ r

pub free-none : (i n : ℕ) → (i ≡ 0 → ⊥) → is_there i (replicate n free) ≡ false
free-none i zero d = refl
free-none i (suc n) d = there-is i free (replicate n free) ∙ ap (λ (t : Bool). t || is_there i (replicate n free)) (ne_eqb 0 i (λ (z : 0 ≡ i). d (sym z))) ∙ free-none i n d

-- COHERENCE, and that of a new list

pub fits-different : (hs : List Head) → readers_coherent hs ≡ true → different hs ≡ true
fits-different hs e =
    and_right (slots_coherent hs) (different hs)
    (and_right (leb (length hs) 64) (slots_coherent hs && different hs) (and_right (leb 1 (length hs)) (leb (length hs) 64 && (slots_coherent hs && different hs)) e))

pub fits-free : (n : ℕ) → 1 ≤ n → n ≤ 64 → readers_coherent (replicate n free) ≡ true
fits-free n p q =
    and_both (leb 1 (length (replicate n free))) _ (ap (leb 1) (length-replicate n free) ∙ le-leb 1 n p)
    (and_both (leb (length (replicate n free)) 64) _ (ap (λ (c : ℕ). leb c 64) (length-replicate n free) ∙ le-leb n 64 q) (and_both (slots_coherent (replicate n free)) (different (replicate n free)) (all n) (apart n)))
  where
    all : (n : ℕ) → slots_coherent (replicate n free) ≡ true
    all zero = refl
    all (suc n) = all n

    apart : (n : ℕ) → different (replicate n free) ≡ true
    apart zero = refl
    apart (suc n) = apart n

-- THE FRONTIER

pub frontier_at_lem : (j : ℕ) (hs : List Head) → (head_at j hs).reliable ≡ true → (1 ≤ frontier hs) × (frontier hs ≤ max 1 (head_at j hs).acked)
frontier_at_lem j hs r = at_most_each hs (place_of_id j hs) r

-- no head has acknowledged more than last + 1: so the frontier can be stored
abbrev pub Low : ℕ → List Head → Type 0
Low n [] = Unit {0}
Low n (h ∷ hs) = ((h.acked ≤ suc n) × (h.below ≡ false)) × Low n hs

pub low_set : (n : ℕ) (hs : List Head) (p : ℕ) (x : Head) → x.acked ≤ suc n → x.below ≡ false → Low n hs → Low n (set hs p x)
low_set n [] p x q b h = tt
low_set n (y ∷ ys) zero x q b h = ((q, b), h.1)
low_set n (y ∷ ys) (suc p) x q b h = (h.0, low_set n ys p x q b h.1)

pub low_at : (n : ℕ) (hs : List Head) (p : ℕ) → Low n hs → (get_or hs p free).acked ≤ suc n
low_at n [] p h = omega arith
low_at n (y ∷ ys) zero h = h.0.0
low_at n (y ∷ ys) (suc p) h = low_at n ys p h.1

pub low_more : (n m : ℕ) (hs : List Head) → n ≤ m → Low n hs → Low m hs
low_more n m [] q h = tt
low_more n m (y ∷ ys) q h = ((omega (arith, h.0.0), h.0.1), low_more n m ys q h.1)

pub low_free : (n k : ℕ) → Low n (replicate k free)
low_free n zero = tt
low_free n (suc k) = ((omega arith, refl), low_free n k)

meet_high : (a b c : ℕ) → a ≤ c → b ≤ c → meet a b ≤ c
meet_high zero b c p q = q
meet_high (suc a) zero c p q = p
meet_high (suc a) (suc b) c p q = omega arith

pub frontier-low : (n : ℕ) (hs : List Head) → Low n hs → frontier hs ≤ suc n
frontier-low n [] h = omega arith
frontier-low n (y ∷ ys) h = go y.reliable (frontier-low n ys h.1)
  where
    go : (t : Bool) → frontier ys ≤ suc n → cond t (meet (max 1 y.acked) (frontier ys)) (frontier ys) ≤ suc n
    go true r = meet_high (max 1 y.acked) (frontier ys) (suc n) (omega (arith, h.0)) r
    go false r = r
