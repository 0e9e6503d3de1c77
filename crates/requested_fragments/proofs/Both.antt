-- Entries in rooms, and back: the rooms that pass the check are those of their entries, and entries that are valid are those of their rooms. Assumes nothing.
use Prim.Native.Nat.{ℕ, suc, ◌-◌, ◌*◌, ◌/◌, ◌%◌, ◌^◌, ◌≤◌, ◌<◌}
use mathlib.Core.Path.{◌≡◌, refl, sym, ap, subst, ◌∙◌}
use mathlib.Core.Bool.{Bool, true, false, not, cond, ◌&&◌}
use mathlib.Core.Logic.{◌⊎◌, inl, inr}
use mathlib.Core.List.{List, [], ◌∷◌}
use native.Mathlib.Omega.{arith}
use lib.Dec.{eqb, ltb}
use lib.ListN.{length, take, get_or, set, replicate, get_or-replicate, length-replicate, get_or-eq_default}
use lib.Seq.{get_or-set_same, get_or-set_other, set_out}
use lib.Bits.{bit_or, or_lt}
use lib.Pow.{pow-lt}
use borrow.Author.Tests.{eqb-true, eqb-false, ltb-true, ltb-false}
use Rattle.sets.specs.Sets.{From, empty, without}
use Rattle.sets.proofs.Bools.{decide, and_both}
use Rattle.rising.specs.Runs.{rises_above, room_of}
use Rattle.rising.proofs.Meaning.{room-length}
use Rattle.requested_fragments.specs.Words.{fragments_of, asking}
use Rattle.requested_fragments.specs.Entries.{Entry, sent, samples_of}
use Rattle.requested_fragments.specs.Table.{Block, samples_in, words_in, blocks_view, table_of, entries_of, frag_rooms_coherent, ask_all, blocks_for, samples_room, words_room}
use Rattle.requested_fragments.proofs.Asking.{ask_all-length}
use Rattle.requested_fragments.proofs.Coherent.{is-coherent, coherent-is}
use Rattle.requested_fragments.proofs.Meaning.{Full, Within, ask_all_new}
use Rattle.requested_fragments.proofs.Form.{Fit, hold_t, words-length, form_coherent, form_table, coherent_fit}
use Rattle.requested_fragments.proofs.OneForm.{Words, Bounded, tables, bounded, is_form}
use Rattle.requested_fragments.proofs.Frags.{frag-rises, frag-within}

-- entries as they must be: at most 16, the samples rise and are sample numbers, each asks for something, and for fragments from 1 to 4,096
abbrev pub Asks : List Entry → Type 0
Asks [] = Unit {0}
Asks (e ∷ es) = (From 1 e.frags × (Within e.frags 64 × (empty e.frags ≡ false))) × Asks es

pub record Valid (es : List Entry) : Type 0 where
  pub small : length es ≤ 16
  pub rises : rises_above 0 (samples_of es) ≡ true
  pub asks : Asks es

samples_for : (es : List Entry) → samples_in (blocks_for es) ≡ samples_of es
samples_for [] = refl
samples_for (e ∷ es) = ap (λ (l : List ℕ). e.sample ∷ l) (samples_for es)

length_for_lem : (es : List Entry) → length (blocks_for es) ≡ length es
length_for_lem [] = refl
length_for_lem (e ∷ es) = ap suc (length_for_lem es)

full_for : (es : List Entry) → Full (blocks_for es)
full_for [] = tt
full_for (e ∷ es) = (ask_all-length e.frags (replicate 64 0), full_for es)

view_for : (es : List Entry) → Asks es → blocks_view (blocks_for es) ≡ es
view_for [] h = refl
view_for (e ∷ es) h =
    ap (λ (l : List ℕ). record { sample = e.sample; frags = l } ∷ blocks_view (blocks_for es)) (ask_all_new 64 e.frags h.0.0 h.0.1.0)
    ∙ ap (λ (l : List Entry). e ∷ l) (view_for es h.1)

hold_for : (es : List Entry) → Asks es → hold_t (blocks_for es) ≡ true
hold_for [] h = refl
hold_for (e ∷ es) h =
    and_both (not (empty (fragments_of (ask_all e.frags (replicate 64 0))))) (hold_t (blocks_for es))
    (ap not (ap empty (ask_all_new 64 e.frags h.0.0 h.0.1.0) ∙ h.0.1.1)) (hold_for es h.1)

fit_for : (k : ℕ) (es : List Entry) → Valid es → length es ≤ k → Fit k (blocks_for es)
fit_for k es v few =
    record {
      full = full_for es;
      small = omega (arith, length_for_lem es);
      rises = ap (rises_above 0) (samples_for es) ∙ v.rises;
      holds = hold_for es v.asks;
    }

pub samples-count : (es : List Entry) → length (samples_of es) ≡ length es
samples-count [] = refl
samples-count (e ∷ es) = ap suc (samples-count es)

pub words_count : (es : List Entry) → length (words_in (blocks_for es)) ≡ 64 * length es
words_count es = words-length (blocks_for es) (full_for es) ∙ ap (λ (k : ℕ). 64 * k) (length_for_lem es)

pub rooms_long : (k : ℕ) (es : List Entry) → length es ≤ k → length (samples_room k es) ≡ k
rooms_long k es few = room-length k (samples_of es) (omega (arith, samples-count es))

-- THE ROOMS OF VALID ENTRIES, for k samples, pass the check, and hold these entries
module _ (k : ℕ) (es : List Entry) (v : Valid es) (few : length es ≤ k) where
  pub rooms_pass : k ≤ 16 → frag_rooms_coherent (length es) (samples_room k es) (words_room k es) ≡ true
  rooms_pass most =
      subst (λ (c : ℕ). frag_rooms_coherent c (samples_room k es) (words_room k es) ≡ true) (length_for_lem es)
      (subst (λ (l : List ℕ). frag_rooms_coherent (length (blocks_for es)) (room_of k l) (words_room k es) ≡ true) (samples_for es)
      (coherent-is (length (blocks_for es)) (room_of k (samples_in (blocks_for es))) (words_room k es) (form_coherent k (blocks_for es) most (fit_for k es v few))))

  pub rooms_hold_lem : entries_of (length es) (samples_room k es) (words_room k es) ≡ es
  rooms_hold_lem =
      ap (λ (c : ℕ). entries_of c (samples_room k es) (words_room k es)) (sym (length_for_lem es))
      ∙ ap (λ (l : List ℕ). entries_of (length (blocks_for es)) (room_of k l) (words_room k es)) (sym (samples_for es))
      ∙ ap blocks_view (form_table k (blocks_for es) (fit_for k es v few)) ∙ view_for es v.asks

-- ---- back
ask_words : (f : ℕ) (ws : List ℕ) → Words ws → Words (asking f ws)
ask_words f ws h i = go (eqb f 0)
  where
    at : ℕ
    at = (f - 1) / 64

    one : bit_or (get_or ws ((f - 1) / 64) 0) (2 ^ ((f - 1) % 64)) < 2 ^ 64
    one = or_lt 64 (get_or ws ((f - 1) / 64) 0) (2 ^ ((f - 1) % 64)) (h ((f - 1) / 64)) (pow-lt {i = (f - 1) % 64} {j = 64} (omega arith))

    put : (eqb i ((f - 1) / 64) ≡ true) ⊎ (eqb i ((f - 1) / 64) ≡ false) → (ltb ((f - 1) / 64) (length ws) ≡ true) ⊎ (ltb ((f - 1) / 64) (length ws) ≡ false)
        → get_or (set ws ((f - 1) / 64) (bit_or (get_or ws ((f - 1) / 64) 0) (2 ^ ((f - 1) % 64)))) i 0 < 2 ^ 64
    put (inl e) (inl l) = rw (eqb-true i ((f - 1) / 64) e, get_or-set_same ws ((f - 1) / 64) (bit_or (get_or ws ((f - 1) / 64) 0) (2 ^ ((f - 1) % 64))) 0 (ltb-true ((f - 1) / 64) (length ws) l)) one
    put (inr e) l = rw (get_or-set_other ws ((f - 1) / 64) i (bit_or (get_or ws ((f - 1) / 64) 0) (2 ^ ((f - 1) % 64))) 0 (eqb-false i ((f - 1) / 64) e)) (h i)
    put (inl e) (inr l) = rw (set_out ws ((f - 1) / 64) (bit_or (get_or ws ((f - 1) / 64) 0) (2 ^ ((f - 1) % 64))) (ltb-false ((f - 1) / 64) (length ws) l)) (h i)

    go : (t : Bool) → get_or (cond t ws (set ws ((f - 1) / 64) (bit_or (get_or ws ((f - 1) / 64) 0) (2 ^ ((f - 1) % 64))))) i 0 < 2 ^ 64
    go true = h i
    go false = put (decide (eqb i ((f - 1) / 64))) (decide (ltb ((f - 1) / 64) (length ws)))

all_words : (ms ws : List ℕ) → Words ws → Words (ask_all ms ws)
all_words [] ws h = h
all_words (f ∷ fs) ws h = all_words fs (asking f ws) (ask_words f ws h)

zero-words : (k : ℕ) → Words (replicate k 0)
zero-words k i = go (decide (ltb i k))
  where
    go : (ltb i k ≡ true) ⊎ (ltb i k ≡ false) → get_or (replicate k 0) i 0 < 2 ^ 64
    go (inl e) = subst (λ (x : ℕ). x < 2 ^ 64) (sym (get_or-replicate k i 0 0 (ltb-true i k e))) (omega arith)
    go (inr e) = subst (λ (x : ℕ). x < 2 ^ 64) (sym (get_or-eq_default (replicate k 0) 0 {n = i} (omega (arith, length-replicate {A = ℕ} k 0, ltb-false i k e)))) (omega arith)

bounded_for : (es : List Entry) → Bounded (blocks_for es)
bounded_for [] = tt
bounded_for (e ∷ es) = (all_words e.frags (replicate 64 0) (zero-words 64), bounded_for es)

asks_of : (t : List Block) → Full t → hold_t t ≡ true → Asks (blocks_view t)
asks_of [] f h = tt
asks_of (b ∷ bs) f h = go (empty (fragments_of b.words)) refl h (asks_of bs f.1)
  where
    go : (z : Bool) → empty (fragments_of b.words) ≡ z → (not z && hold_t bs) ≡ true → (hold_t bs ≡ true → Asks (blocks_view bs)) → Asks (blocks_view (b ∷ bs))
    go true e q r = absurd (omega_false q)
      where
        omega_false : false ≡ true → ⊥
        omega_false w = let o : ◌≡◌ {A = ℕ} 0 1 = cc in omega arith
    go false e q r = ((frag-rises b.words, (subst (λ (k : ℕ). Within (fragments_of b.words) k) f.0 (frag-within b.words), e)), r q)

pub view_samples : (t : List Block) → samples_of (blocks_view t) ≡ samples_in t
view_samples [] = refl
view_samples (b ∷ bs) = ap (λ (l : List ℕ). b.sample ∷ l) (view_samples bs)

pub view_length : (t : List Block) → length (blocks_view t) ≡ length t
view_length [] = refl
view_length (b ∷ bs) = ap suc (view_length bs)

pub entries_valid : (c : ℕ) (S W : List ℕ) → frag_rooms_coherent c S W ≡ true → Valid (entries_of c S W)
entries_valid c S W h =
    let t = table_of c S W in
    let f = coherent_fit c S W (is-coherent c S W h) in
    record { small = omega (arith, view_length t, f.small, (is-coherent c S W h).length_s); rises = ap (rises_above 0) (view_samples t) ∙ f.rises; asks = asks_of t f.full f.holds }

-- there are no more of them than what is lent has room for; and no more after one was sent
pub entries_few : (c : ℕ) (S W : List ℕ) → frag_rooms_coherent c S W ≡ true → length (entries_of c S W) ≤ length S
entries_few c S W h = omega (arith, view_length (table_of c S W), (coherent_fit c S W (is-coherent c S W h)).small)

pub sent-few : (n f : ℕ) (es : List Entry) → length (sent n f es) ≤ length es
sent-few n f [] = omega arith
sent-few n f (e ∷ es) = go (eqb e.sample n) (empty (without f e.frags)) (sent-few n f es)
  where
    go : (x y : Bool) → length (sent n f es) ≤ length es → length (cond x (cond y es (record { sample = e.sample; frags = without f e.frags } ∷ es)) (e ∷ sent n f es)) ≤ suc (length es)
    go true true r = omega arith
    go true false r = omega arith
    go false y r = omega arith

-- ROOMS THAT PASS THE CHECK are those of their entries
pub rooms_are : (c : ℕ) (S W : List ℕ) → frag_rooms_coherent c S W ≡ true → Words W → (c ≡ length (entries_of c S W)) × (S ≡ samples_room (length S) (entries_of c S W)) × (W ≡ words_room (length S) (entries_of c S W))
rooms_are c S W h hw =
    let k = is-coherent c S W h in
    let t = table_of c S W in
    let es = entries_of c S W in
    let v = entries_valid c S W h in
    let e : table_of c S W ≡ blocks_for (entries_of c S W) = tables t (blocks_for es) (coherent_fit c S W k).full (full_for es) (bounded (take c S) W hw) (bounded_for es) (sym (view_for es v.asks)) in
    let a = is_form c S W k in (
      a.0 ∙ sym (view_length t),
      a.1 ∙ ap (λ (l : List ℕ). room_of (length S) l) (sym (view_samples t)),
      a.2 ∙ ap (λ (x : List Block). room_of (64 * length S) (words_in x)) e,
    )
