-- Slot by slot, whether each is free or none before it has its id: so the ids are all different. Assumes nothing.
use Prim.Native.Nat.{ℕ, ◌+◌, ◌*◌, ◌/◌, ◌%◌, ◌^◌, max}
use mathlib.Core.Path.{◌≡◌, refl, sym, ap, ◌∙◌}
use mathlib.Core.Bool.{Bool, true, false, not, ◌&&◌, ◌||◌}
use mathlib.Core.List.{List, [], ◌∷◌, ◌++◌}
use native.Mathlib.Omega.{arith}
use lib.Arith.{bin_ind}
use lib.Bits.{bit_or, or_step, or_comm, or_self}
use lib.Dec.{eqb}
use borrow.Author.Tests.{eqb-true, eq-eqb, eqb-false, ne_eqb}
use Rattle.std.specs.List.{list_any}
use Rattle.std.proofs.lemmas.List.Folds.{list_any-append}
use Rattle.sets.proofs.Bools.{or_assoc, or_no, and_yes}
use Rattle.reader_list.specs.declared.heads.ReaderHead.{ReaderHead}
use Rattle.reader_list.specs.Readers.{is_there, different}
use Rattle.reader_list.specs.Slots.{readers}

-- ---- words joined by or
or_all : (a b c : ℕ) → bit_or (bit_or a b) c ≡ bit_or a (bit_or b c)
or_all = bin_ind (λ (n : ℕ). (b c : ℕ) → bit_or (bit_or n b) c ≡ bit_or n (bit_or b c)) (λ b c. refl) step
  where
    half : (n b : ℕ) → bit_or n b / 2 ≡ bit_or (n / 2) (b / 2)
    half n b = let e = or_step n b in omega arith

    odd : (n b : ℕ) → bit_or n b % 2 ≡ max (n % 2) (b % 2)
    odd n b = let e = or_step n b in omega arith

    step : (n : ℕ) → ((b c : ℕ) → bit_or (bit_or (n / 2) b) c ≡ bit_or (n / 2) (bit_or b c)) → (b c : ℕ) → bit_or (bit_or n b) c ≡ bit_or n (bit_or b c)
    step n ih b c =
        let l : bit_or (bit_or n b) c ≡ bit_or (bit_or (n / 2) (b / 2)) (c / 2) * 2 + max (max (n % 2) (b % 2)) (c % 2) = or_step (bit_or n b) c ∙ (λ i. bit_or (half n b i) (c / 2) * 2 + max (odd n b i) (c % 2)) in
        let r : bit_or n (bit_or b c) ≡ bit_or (n / 2) (bit_or (b / 2) (c / 2)) * 2 + max (n % 2) (max (b % 2) (c % 2)) = or_step n (bit_or b c) ∙ (λ i. bit_or (n / 2) (half b c i) * 2 + max (n % 2) (odd b c i)) in
        let m : max (max (n % 2) (b % 2)) (c % 2) ≡ max (n % 2) (max (b % 2) (c % 2)) = omega arith in
        l ∙ (λ i. ih (b / 2) (c / 2) i * 2 + m i) ∙ sym r

-- what is joined is in there; and stays so
or_in : (a b : ℕ) → bit_or (bit_or a b) b ≡ bit_or a b
or_in a b = or_all a b b ∙ ap (bit_or a) (or_self b)

or_still : (a b c : ℕ) → bit_or a b ≡ a → bit_or (bit_or a c) b ≡ bit_or a c
or_still a b c e = or_all a c b ∙ ap (bit_or a) (or_comm c b) ∙ sym (or_all a b c) ∙ ap (λ (x : ℕ). bit_or x c) e

-- the low six bits of an id, as one bit of a word
abbrev pub id_bit : ℕ → ℕ
id_bit i = 1 * 2 ^ (i % 64) % 18446744073709551616

-- ---- what is known of the slots so far: of each reader's id among them the bit is there, and whether all are different
pub record Known (hs : List ReaderHead) (low : ℕ) (all : Bool) : Type 0 where
  pub has_bit : (i : ℕ) → (i ≡ 0 → ⊥) → is_there i (readers hs) ≡ true → bit_or low (id_bit i) ≡ low
  pub all_is : all ≡ different (readers hs)

-- and of the ids gathered: they are those of the readers among the slots
pub record Gathered (hs : List ReaderHead) (ids : List ℕ) : Type 0 where
  pub same : (i : ℕ) → (i ≡ 0 → ⊥) → list_any (λ j. eqb j i) ids ≡ is_there i (readers hs)

-- ---- one slot more
there_more : (i : ℕ) (hs : List ReaderHead) (h : ReaderHead) → is_there i (readers (hs ++ h ∷ [])) ≡ (is_there i (readers hs) || eqb h.id i)
there_more i [] h = or_no (eqb h.id i)
there_more i (x ∷ hs) h = ap (λ (b : Bool). eqb x.id i || b) (there_more i hs h) ∙ sym (or_assoc (eqb x.id i) (is_there i (readers hs)) (eqb h.id i))

different_more : (hs : List ReaderHead) (h : ReaderHead) → different (readers (hs ++ h ∷ [])) ≡ (different (readers hs) && (eqb h.id 0 || not (is_there h.id (readers hs))))
different_more [] h = or_true (eqb h.id 0)
  where
    or_true : (b : Bool) → ((b || true) && true) ≡ (b || true)
    or_true true = refl
    or_true false = refl
different_more (x ∷ hs) h =
    (λ k. (eqb x.id 0 || not (there_more x.id hs h k)) && different_more hs h k)
    ∙ go (eqb h.id x.id) (eqb x.id h.id) (eqb x.id 0) (eqb h.id 0) (is_there x.id (readers hs)) (is_there h.id (readers hs)) (different (readers hs)) refl refl refl refl refl refl
  where
    same_id : (z a b d : Bool) → ((z || not (a || true)) && (d && (z || not b))) ≡ (((z || not a) && d) && (z || not (true || b)))
    same_id true a b d = refl
    same_id false true b d = refl
    same_id false false b true = refl
    same_id false false b false = refl

    other_id : (z w a b d : Bool) → ((z || not (a || false)) && (d && (w || not b))) ≡ (((z || not a) && d) && (w || not (false || b)))
    other_id true w a b d = refl
    other_id false w true b d = refl
    other_id false w false b d = refl

    go : (e f z w a b d : Bool) → eqb h.id x.id ≡ e → eqb x.id h.id ≡ f → eqb x.id 0 ≡ z → eqb h.id 0 ≡ w → is_there x.id (readers hs) ≡ a → is_there h.id (readers hs) ≡ b
        → ((z || not (a || e)) && (d && (w || not b))) ≡ (((z || not a) && d) && (w || not (f || b)))
    go true f z w a b d p q r s t u =
        let same : h.id ≡ x.id = eqb-true h.id x.id p in
        let f' : f ≡ true = sym q ∙ eq-eqb x.id h.id (sym same) in
        let w' : w ≡ z = sym s ∙ ap (λ (i : ℕ). eqb i 0) same ∙ r in
        rw (f', w') (same_id z a b d)
    go false f z w a b d p q r s t u =
        let f' : f ≡ false = sym q ∙ ne_eqb x.id h.id (λ e. eqb-false h.id x.id p (sym e)) in
        rw f' (other_id z w a b d)

-- a reader whose bit is new stands alone
new_alone : (hs : List ReaderHead) (i low : ℕ) → (is_there i (readers hs) ≡ true → bit_or low (id_bit i) ≡ low) → (bit_or low (id_bit i) ≡ low → ⊥) → is_there i (readers hs) ≡ false
new_alone hs i low k n = go (is_there i (readers hs)) refl
  where
    go : (t : Bool) → is_there i (readers hs) ≡ t → t ≡ false
    go false e = refl
    go true e = absurd (n (k e))

-- a free slot changes nothing
there_free : (i : ℕ) (hs : List ReaderHead) (h : ReaderHead) → h.id ≡ 0 → (i ≡ 0 → ⊥) → is_there i (readers (hs ++ h ∷ [])) ≡ is_there i (readers hs)
there_free i hs h z n = there_more i hs h ∙ ap (λ (b : Bool). is_there i (readers hs) || b) (ne_eqb h.id i (λ e. n (sym e ∙ z))) ∙ or_no (is_there i (readers hs))

pub known_free : (hs : List ReaderHead) (h : ReaderHead) (low : ℕ) (all : Bool) → h.id ≡ 0 → Known hs low all → Known (hs ++ h ∷ []) low all
known_free hs h low all z k = record {
  has_bit = λ i n e. k.has_bit i n (sym (there_free i hs h z n) ∙ e);
  all_is = k.all_is ∙ sym (and_yes (different (readers hs))) ∙ (λ i. different (readers hs) && (sym (eq-eqb h.id 0 z) i || not (is_there h.id (readers hs)))) ∙ sym (different_more hs h);
}

pub gathered_free : (hs : List ReaderHead) (ids : List ℕ) (h : ReaderHead) → h.id ≡ 0 → Gathered hs ids → Gathered (hs ++ h ∷ []) ids
gathered_free hs ids h z g = record { same = λ i n. g.same i n ∙ sym (there_free i hs h z n) }

-- a reader's id is gathered; and whether it is among those before it is asked only where its bit was there
pub gathered_more : (hs : List ReaderHead) (ids : List ℕ) (h : ReaderHead) → Gathered hs ids → Gathered (hs ++ h ∷ []) (ids ++ h.id ∷ [])
gathered_more hs ids h g = record { same = λ i n. list_any-append (λ j. eqb j i) ids (h.id ∷ []) ∙ (λ p. g.same i n p || or_no (eqb h.id i) p) ∙ sym (there_more i hs h) }

pub known_more : (hs : List ReaderHead) (h : ReaderHead) (low : ℕ) (all new : Bool) → (h.id ≡ 0 → ⊥) → Known hs low all
    → ((bit_or low (id_bit h.id) ≡ low) → new ≡ (all && not (is_there h.id (readers hs))))
    → (((bit_or low (id_bit h.id) ≡ low) → ⊥) → new ≡ all)
    → Known (hs ++ h ∷ []) (bit_or low (id_bit h.id)) new
known_more hs h low all new z k asked alone = record {
  has_bit = λ i n e. low_more i n (is_there i (readers hs)) refl (sym (there_more i hs h) ∙ e);
  all_is = go (eqb (bit_or low (id_bit h.id)) low) refl ∙ (λ p. different (readers hs) && (sym (ne_eqb h.id 0 z) p || not (is_there h.id (readers hs)))) ∙ sym (different_more hs h);
}
  where
    low_more : (i : ℕ) → (i ≡ 0 → ⊥) → (t : Bool) → is_there i (readers hs) ≡ t → (t || eqb h.id i) ≡ true → bit_or (bit_or low (id_bit h.id)) (id_bit i) ≡ bit_or low (id_bit h.id)
    low_more i n true q e = or_still low (id_bit i) (id_bit h.id) (k.has_bit i n q)
    low_more i n false q e = ap (λ (j : ℕ). bit_or (bit_or low (id_bit h.id)) (id_bit j)) (sym (eqb-true h.id i e)) ∙ or_in low (id_bit h.id)

    go : (t : Bool) → eqb (bit_or low (id_bit h.id)) low ≡ t → new ≡ (different (readers hs) && not (is_there h.id (readers hs)))
    go true e = asked (eqb-true _ low e) ∙ (λ p. k.all_is p && not (is_there h.id (readers hs)))
    go false e =
        let n = eqb-false (bit_or low (id_bit h.id)) low e in
        alone n ∙ k.all_is ∙ sym (and_yes (different (readers hs))) ∙ ap (λ (b : Bool). different (readers hs) && not b) (sym (new_alone hs h.id low (k.has_bit h.id z) n))
