-- The fragments of a run of words: where they are, what asking for one and clearing one leave, and the first one. Assumes nothing.
use Prim.Native.Nat.{ℕ, zero, suc, ◌+◌, ◌-◌, ◌*◌, ◌/◌, ◌%◌, ◌^◌, ◌≤◌, ◌<◌}
use mathlib.Core.Path.{◌≡◌, refl, sym, ap, subst, ◌∙◌}
use mathlib.Core.Bool.{Bool, true, false, not, cond, ◌&&◌, ◌||◌, true≢false, false≢true}
use mathlib.Core.Logic.{◌⊎◌, inl, inr}
use mathlib.Core.List.{List, [], ◌∷◌}
use lib.Dec.{eqb, ltb, leb}
use lib.ListN.{length, get_or, set, length-set, get_or-eq_default}
use lib.Seq.{get_or-set_same, get_or-set_other, ext_get_or}
use lib.Bits.{bit_or, bit_xor, or_add_and, and_le_l, and_le_r}
use native.Mathlib.Omega.{arith}
use native.Mathlib.Nat.{div-one, zero-div, div-add-mod, div-div-eq-div-mul, pow-suc, pow-succ', div-lt_iff_lt-mul, zero-lt-suc}
use borrow.Author.Tests.{eqb-true, eqb-false, eq-eqb, ne_eqb, ltb-true, ltb-false, le-leb, leb-true}
use Rattle.number_sets.proofs.Eight.{eqb_same}
use Rattle.sets.specs.Sets.{has, From, insert, only, without, empty}
use Rattle.sets.proofs.Has.{has-insert, has-only, From-insert, From-only, From-low}
use Rattle.sets.proofs.Bools.{decide, clash, and_left, and_right}
use Rattle.sets.proofs.Those.{From-those, has_those_is}
use Rattle.sets.proofs.Ext.{ext, From_off}
use Rattle.std.specs.Prelude.{Some, None}
use Rattle.rising.specs.Runs.{zeros}
use Rattle.sets.proofs.First.{first-is, empty-none, empty-some}
use Rattle.number_sets.proofs.First.{first_none, first_some}
use Rattle.requested_fragments.specs.Words.{low_bit_of, low_bit_at, fragments_of, asking, not_asking, next_in}
use Rattle.requested_fragments.proofs.Digit.{or_bit, xor_bit}

pub zero_bit : (j : ℕ) → low_bit_of 0 j ≡ false
zero_bit j = ap (λ (x : ℕ). eqb (x % 2) 1) (zero-div (2 ^ j))

pub frag-rises : (ws : List ℕ) → From 1 (fragments_of ws)
frag-rises ws = From-those (64 * length ws) 1 (λ f. low_bit_at ws (f - 1))

pub frag-zero : (ws : List ℕ) → has (fragments_of ws) 0 ≡ false
frag-zero ws = From_off 1 (fragments_of ws) 0 (frag-rises ws) (omega arith)

pub past : (ws : List ℕ) (p : ℕ) → 64 * length ws ≤ p → low_bit_at ws p ≡ false
past ws p h =
    let q : length ws ≤ p / 64 = omega arith in
    ap (λ (w : ℕ). low_bit_of w (p % 64)) (get_or-eq_default ws 0 q) ∙ zero_bit (p % 64)

pub frag_at : (ws : List ℕ) (p : ℕ) → has (fragments_of ws) (suc p) ≡ low_bit_at ws p
frag_at ws p = has_those_is (64 * length ws) 1 (λ f. low_bit_at ws (f - 1)) (suc p) ∙ go (decide (ltb (suc p) (1 + 64 * length ws)))
  where
    back : suc p - 1 ≡ p
    back = omega arith

    go : (ltb (suc p) (1 + 64 * length ws) ≡ true) ⊎ (ltb (suc p) (1 + 64 * length ws) ≡ false) → ((leb 1 (suc p) && ltb (suc p) (1 + 64 * length ws)) && low_bit_at ws (suc p - 1)) ≡ low_bit_at ws p
    go (inl e) = rw (le-leb 1 (suc p) (omega arith), e, back) refl
    go (inr e) = rw (le-leb 1 (suc p) (omega arith), e) (sym (past ws p (omega (arith, ltb-false (suc p) (1 + 64 * length ws) e))))

-- for any number
pub frag_of : (ws : List ℕ) (f : ℕ) → 1 ≤ f → has (fragments_of ws) f ≡ low_bit_at ws (f - 1)
frag_of ws f h = let e : f ≡ suc (f - 1) = omega arith in ap (has (fragments_of ws)) e ∙ frag_at ws (f - 1)

-- ---- two runs that ask alike
eqb-suc : (q p : ℕ) → eqb (suc q) (suc p) ≡ eqb q p
eqb-suc q p = eqb_same (suc q) (suc p) q p (λ z. omega arith) (λ z. omega arith)

abbrev asked : ℕ → List ℕ → List ℕ
asked q ws = set ws (q / 64) (bit_or (get_or ws (q / 64) 0) (2 ^ (q % 64)))

abbrev turned : ℕ → List ℕ → List ℕ
turned q ws = set ws (q / 64) (bit_xor (get_or ws (q / 64) 0) (2 ^ (q % 64)))

module _ (q p : ℕ) (ws : List ℕ) (h : q / 64 < length ws) where
  other : (v : ℕ) → (p / 64 ≡ q / 64 → ⊥) → low_bit_at (set ws (q / 64) v) p ≡ low_bit_at ws p
  other v d = ap (λ (w : ℕ). low_bit_of w (p % 64)) (get_or-set_other ws (q / 64) (p / 64) v 0 d)

  same : (v : ℕ) → p / 64 ≡ q / 64 → low_bit_at (set ws (q / 64) v) p ≡ low_bit_of v (p % 64)
  same v e = ap (λ (i : ℕ). low_bit_of (get_or (set ws (q / 64) v) i 0) (p % 64)) e ∙ ap (λ (w : ℕ). low_bit_of w (p % 64)) (get_or-set_same ws (q / 64) v 0 h)

  here : p / 64 ≡ q / 64 → eqb (p % 64) (q % 64) ≡ eqb q p
  here e = eqb_same (p % 64) (q % 64) q p (λ z. omega (arith, div-add-mod p 64, div-add-mod q 64)) (λ z. ap (λ (x : ℕ). x % 64) (sym z))

  off : (p / 64 ≡ q / 64 → ⊥) → eqb q p ≡ false
  off d = ne_eqb q p (λ (z : q ≡ p). d (ap (λ (x : ℕ). x / 64) (sym z)))

  swap : (a b : Bool) → (a || b) ≡ (b || a)
  swap true true = refl
  swap true false = refl
  swap false true = refl
  swap false false = refl

  pub asked_bit : low_bit_at (asked q ws) p ≡ (eqb q p || low_bit_at ws p)
  asked_bit = go (decide (eqb (p / 64) (q / 64)))
    where
      go : (eqb (p / 64) (q / 64) ≡ true) ⊎ (eqb (p / 64) (q / 64) ≡ false) → low_bit_at (asked q ws) p ≡ (eqb q p || low_bit_at ws p)
      go (inl e) =
          let z : p / 64 ≡ q / 64 = eqb-true (p / 64) (q / 64) e in
          same _ z ∙ or_bit (get_or ws (q / 64) 0) (q % 64) (p % 64)
          ∙ swap (low_bit_of (get_or ws (q / 64) 0) (p % 64)) (eqb (p % 64) (q % 64))
          ∙ ap (λ (t : Bool). t || low_bit_of (get_or ws (q / 64) 0) (p % 64)) (here z)
          ∙ ap (λ (i : ℕ). eqb q p || low_bit_of (get_or ws i 0) (p % 64)) (sym z)
      go (inr e) =
          let d : p / 64 ≡ q / 64 → ⊥ = eqb-false (p / 64) (q / 64) e in
          other _ d ∙ ap (λ (t : Bool). t || low_bit_at ws p) (sym (off d))

  pub turned_bit : low_bit_at ws q ≡ true → low_bit_at (turned q ws) p ≡ (not (eqb q p) && low_bit_at ws p)
  turned_bit k = go (decide (eqb (p / 64) (q / 64)))
    where
      go : (eqb (p / 64) (q / 64) ≡ true) ⊎ (eqb (p / 64) (q / 64) ≡ false) → low_bit_at (turned q ws) p ≡ (not (eqb q p) && low_bit_at ws p)
      go (inl e) =
          let z : p / 64 ≡ q / 64 = eqb-true (p / 64) (q / 64) e in
          same _ z ∙ xor_bit (get_or ws (q / 64) 0) (q % 64) (p % 64) k
          ∙ ap (λ (t : Bool). not t && low_bit_of (get_or ws (q / 64) 0) (p % 64)) (here z)
          ∙ ap (λ (i : ℕ). not (eqb q p) && low_bit_of (get_or ws i 0) (p % 64)) (sym z)
      go (inr e) =
          let d : p / 64 ≡ q / 64 → ⊥ = eqb-false (p / 64) (q / 64) e in
          other _ d ∙ ap (λ (t : Bool). not t && low_bit_at ws p) (sym (off d))

-- ---- what asking for a fragment and clearing it leave
pub asking-is : (f : ℕ) (ws : List ℕ) → 1 ≤ f → f ≤ 64 * length ws → fragments_of (asking f ws) ≡ insert f (fragments_of ws)
asking-is f ws lo hi =
    ap (λ (t : Bool). fragments_of (cond t ws (asked (f - 1) ws))) (ne_eqb f 0 (λ (z : f ≡ 0). omega arith)) ∙
    ext 1 1 (fragments_of (asked (f - 1) ws)) (insert f (fragments_of ws)) (frag-rises (asked (f - 1) ws)) (From-insert 1 f (fragments_of ws) lo (frag-rises ws)) go
  where
    inside : (f - 1) / 64 < length ws
    inside = omega arith

    up : f ≡ suc (f - 1)
    up = omega arith

    go : (n : ℕ) → has (fragments_of (asked (f - 1) ws)) n ≡ has (insert f (fragments_of ws)) n
    go zero = frag-zero (asked (f - 1) ws) ∙ sym (has-insert f 0 (fragments_of ws) ∙ ap (λ (t : Bool). t || has (fragments_of ws) 0) (ne_eqb f 0 (λ z. omega arith)) ∙ frag-zero ws)
    go (suc p) =
        frag_at (asked (f - 1) ws) p ∙ asked_bit (f - 1) p ws inside
        ∙ ap (λ (t : Bool). t || low_bit_at ws p) (sym (eqb-suc (f - 1) p) ∙ ap (λ (x : ℕ). eqb x (suc p)) (sym up))
        ∙ ap (λ (t : Bool). eqb f (suc p) || t) (sym (frag_at ws p))
        ∙ sym (has-insert f (suc p) (fragments_of ws))

off_without : (f : ℕ) (l : List ℕ) (b : ℕ) → From b l → has l f ≡ false → without f l ≡ l
off_without f l b h e = ext b b (without f l) l (From-only b (λ n. not (eqb f n)) l h) h go
  where
    go : (n : ℕ) → has (without f l) n ≡ has l n
    go n = has-only (λ m. not (eqb f m)) l n ∙ pick (eqb f n) refl
      where
        pick : (t : Bool) → eqb f n ≡ t → (not t && has l n) ≡ has l n
        pick true g = sym (ap (has l) (sym (eqb-true f n g)) ∙ e)
        pick false g = refl

pub not_asking-is : (f : ℕ) (ws : List ℕ) → fragments_of (not_asking f ws) ≡ without f (fragments_of ws)
not_asking-is f ws = cases (has (fragments_of ws) f) refl
  where
    clear : (g : ℕ) → has (fragments_of ws) (suc g) ≡ true → fragments_of (turned g ws) ≡ without (suc g) (fragments_of ws)
    clear g e = ext 1 1 (fragments_of (turned g ws)) (without (suc g) (fragments_of ws)) (frag-rises (turned g ws)) (From-only 1 (λ n. not (eqb (suc g) n)) (fragments_of ws) (frag-rises ws)) go
      where
        bit : low_bit_at ws g ≡ true
        bit = sym (frag_at ws g) ∙ e

        inside : g / 64 < length ws
        inside = elim (decide (ltb g (64 * length ws))) [ inl z ↦ omega (arith, ltb-true g (64 * length ws) z) | inr z ↦ clash (low_bit_at ws g) bit (past ws g (ltb-false g (64 * length ws) z)) ]

        none : (t : Bool) → false ≡ (t && false)
        none true = refl
        none false = refl

        go : (n : ℕ) → has (fragments_of (turned g ws)) n ≡ has (without (suc g) (fragments_of ws)) n
        go zero = frag-zero (turned g ws) ∙ none (not (eqb (suc g) 0)) ∙ ap (λ (t : Bool). not (eqb (suc g) 0) && t) (sym (frag-zero ws)) ∙ sym (has-only (λ m. not (eqb (suc g) m)) (fragments_of ws) 0)
        go (suc p) =
            frag_at (turned g ws) p ∙ turned_bit g p ws inside bit
            ∙ ap (λ (t : Bool). not t && low_bit_at ws p) (sym (eqb-suc g p))
            ∙ ap (λ (t : Bool). not (eqb (suc g) (suc p)) && t) (sym (frag_at ws p))
            ∙ sym (has-only (λ m. not (eqb (suc g) m)) (fragments_of ws) (suc p))

    some : (g : ℕ) → f ≡ suc g → has (fragments_of ws) f ≡ true → fragments_of (turned (f - 1) ws) ≡ without f (fragments_of ws)
    some g z e =
        let b : f - 1 ≡ g = omega arith in
        ap (λ (x : ℕ). fragments_of (turned x ws)) b ∙ clear g (ap (has (fragments_of ws)) (sym z) ∙ e) ∙ ap (λ (x : ℕ). without x (fragments_of ws)) (sym z)

    pos : (g : ℕ) → f ≡ g → has (fragments_of ws) f ≡ true → fragments_of (turned (f - 1) ws) ≡ without f (fragments_of ws)
    pos zero z e = clash (has (fragments_of ws) f) e (ap (has (fragments_of ws)) z ∙ frag-zero ws)
    pos (suc g) z e = some g z e

    cases : (t : Bool) → has (fragments_of ws) f ≡ t → fragments_of (cond t (turned (f - 1) ws) ws) ≡ without f (fragments_of ws)
    cases true e = pos f refl e
    cases false e = sym (off_without f (fragments_of ws) 1 (frag-rises ws) e)

-- ---- half a number
pub half : (q d : ℕ) → q < 2 ^ suc d → q / 2 < 2 ^ d
half q d h = (div-lt_iff_lt-mul (zero-lt-suc 1)).1 (subst (λ (x : ℕ). q < x) (pow-suc 2 d) h)

pub step_bit : (q j : ℕ) → q / 2 ^ suc j % 2 ≡ q / 2 / 2 ^ j % 2
step_bit q j = ap (λ (x : ℕ). x % 2) (ap (λ (x : ℕ). q / x) (pow-succ' 2 j) ∙ sym (div-div-eq-div-mul q 2 (2 ^ j)))

-- ---- word by word
pub word_none : (ws : List ℕ) (i p : ℕ) → ◌≡◌ {A = ℕ} (get_or ws i 0) 0 → p / 64 ≡ i → low_bit_at ws p ≡ false
word_none ws i p e h =
    ap (λ (j : ℕ). low_bit_of (get_or ws j 0) (p % 64)) h ∙ ap (λ (w : ℕ). low_bit_of w (p % 64)) e ∙ zero_bit (p % 64)

split : (i k : ℕ) → k < 64 → (64 * i + k) / 64 ≡ i
split i k h = omega arith

rest : (i k : ℕ) → k < 64 → (64 * i + k) % 64 ≡ k
rest i k h = omega arith

pub bit_in : (ws : List ℕ) (i k : ℕ) → k < 64 → low_bit_at ws (64 * i + k) ≡ low_bit_of (get_or ws i 0) k
bit_in ws i k h = ap (λ (j : ℕ). low_bit_of (get_or ws j 0) ((64 * i + k) % 64)) (split i k h) ∙ ap (λ (j : ℕ). low_bit_of (get_or ws i 0) j) (rest i k h)

-- ---- words are their bits
-- one digit
digit : (a b : ℕ) → eqb (a % 2) 1 ≡ eqb (b % 2) 1 → a % 2 ≡ b % 2
digit a b e = go (eqb (a % 2) 1) refl (sym e)
  where
    go : (t : Bool) → eqb (a % 2) 1 ≡ t → eqb (b % 2) 1 ≡ eqb (a % 2) 1 → a % 2 ≡ b % 2
    go true f g = eqb-true (a % 2) 1 f ∙ sym (eqb-true (b % 2) 1 (g ∙ f))
    go false f g = zero_digit a (eqb-false (a % 2) 1 f) ∙ sym (zero_digit b (eqb-false (b % 2) 1 (g ∙ f)))
      where
        zero_digit : (x : ℕ) → (x % 2 ≡ 1 → ⊥) → x % 2 ≡ 0
        zero_digit x d = omega arith

pub word_unique : (d a b : ℕ) → a < 2 ^ d → b < 2 ^ d → ((j : ℕ) → j < d → low_bit_of a j ≡ low_bit_of b j) → a ≡ b
word_unique zero a b ha hb e = omega arith
word_unique (suc d) a b ha hb e =
    let low : a % 2 ≡ b % 2 = digit a b (sym (ap (λ (x : ℕ). eqb (x % 2) 1) (div-one a)) ∙ e 0 (omega arith) ∙ ap (λ (x : ℕ). eqb (x % 2) 1) (div-one b)) in
    let high : a / 2 ≡ b / 2 = word_unique d (a / 2) (b / 2) (half a d ha) (half b d hb) (λ j h. sym (ap (λ (x : ℕ). eqb x 1) (step_bit a j)) ∙ e (suc j) (omega arith) ∙ ap (λ (x : ℕ). eqb x 1) (step_bit b j)) in
    omega (arith, div-add-mod a 2, div-add-mod b 2)

pub words_unique : (ws vs : List ℕ) → length ws ≡ length vs → ((i : ℕ) → get_or ws i 0 < 2 ^ 64) → ((i : ℕ) → get_or vs i 0 < 2 ^ 64) → fragments_of ws ≡ fragments_of vs → ws ≡ vs
words_unique ws vs l hw hv e =
    ext_get_or 0 ws vs l
    (λ i h. word_unique 64 (get_or ws i 0) (get_or vs i 0) (hw i) (hv i)
    (λ j q. sym (bit_in ws i j q) ∙ sym (frag_at ws (64 * i + j)) ∙ ap (λ (x : List ℕ). has x (suc (64 * i + j))) e ∙ frag_at vs (64 * i + j) ∙ bit_in vs i j q))

-- ---- none at all
empty-has : (l : List ℕ) (n : ℕ) → empty l ≡ true → has l n ≡ false
empty-has [] n e = refl
empty-has (x ∷ xs) n e = absurd (false≢true e)

none-empty : (l : List ℕ) → ((n : ℕ) → has l n ≡ false) → empty l ≡ true
none-empty [] h = refl
none-empty (x ∷ xs) h = absurd (true≢false (sym (ap (λ (t : Bool). t || has xs x) (eq-eqb x x refl)) ∙ h x))

pub empty_word : (ws : List ℕ) (i : ℕ) → get_or ws i 0 < 2 ^ 64 → empty (fragments_of ws) ≡ true → get_or ws i 0 ≡ 0
empty_word ws i fits e =
    word_unique 64 (get_or ws i 0) 0 fits (omega arith)
    (λ j h. sym (bit_in ws i j h) ∙ sym (frag_at ws (64 * i + j)) ∙ empty-has (fragments_of ws) (suc (64 * i + j)) e ∙ sym (zero_bit j))

pub zeros-empty : (ws : List ℕ) → ((k : ℕ) → k < length ws → ◌≡◌ {A = ℕ} (get_or ws k 0) 0) → empty (fragments_of ws) ≡ true
zeros-empty ws h = none-empty (fragments_of ws) go
  where
    go : (n : ℕ) → has (fragments_of ws) n ≡ false
    go zero = frag-zero ws
    go (suc p) = frag_at ws p ∙ pick (decide (ltb p (64 * length ws)))
      where
        pick : (ltb p (64 * length ws) ≡ true) ⊎ (ltb p (64 * length ws) ≡ false) → low_bit_at ws p ≡ false
        pick (inl z) = word_none ws (p / 64) p (h (p / 64) (omega (arith, ltb-true p (64 * length ws) z))) refl
        pick (inr z) = past ws p (ltb-false p (64 * length ws) z)

-- no word asks for anything if all are zero, and only then
zero_at : (ws : List ℕ) → zeros ws ≡ true → (k : ℕ) → ◌≡◌ {A = ℕ} (get_or ws k 0) 0
zero_at [] e k = refl
zero_at (x ∷ xs) e zero = eqb-true x 0 (and_left (eqb x 0) (zeros xs) e)
zero_at (x ∷ xs) e (suc k) = zero_at xs (and_right (eqb x 0) (zeros xs) e) k

zeros_from : (ws : List ℕ) → ((k : ℕ) → ◌≡◌ {A = ℕ} (get_or ws k 0) 0) → zeros ws ≡ true
zeros_from [] h = refl
zeros_from (x ∷ xs) h = rw (eq-eqb x 0 (h 0)) (zeros_from xs (λ k. h (suc k)))

pub zeros_is : (ws : List ℕ) → ((k : ℕ) → get_or ws k 0 < 2 ^ 64) → zeros ws ≡ empty (fragments_of ws)
zeros_is ws fits = go (zeros ws) refl (empty (fragments_of ws)) refl
  where
    go : (t : Bool) → zeros ws ≡ t → (u : Bool) → empty (fragments_of ws) ≡ u → t ≡ u
    go true e true f = refl
    go false e false f = refl
    go true e false f = sym (zeros-empty ws (λ k h. zero_at ws e k)) ∙ f
    go false e true f = sym e ∙ zeros_from ws (λ k. empty_word ws k (fits k) f)

pub or_none_lem : (a b : ℕ) → bit_or a b ≡ 0 → (a ≡ 0) × (b ≡ 0)
or_none_lem a b e = (omega (arith, or_add_and a b, and_le_l a b, and_le_r a b), omega (arith, or_add_and a b, and_le_l a b, and_le_r a b))

pub none_or : (a b : ℕ) → a ≡ 0 → b ≡ 0 → bit_or a b ≡ 0
none_or a b e f = omega (arith, or_add_and a b)

-- a fragment that is asked for has its place
pub asked_place : (ws : List ℕ) (f : ℕ) → has (fragments_of ws) f ≡ true → (1 ≤ f) × ((f - 1) / 64 < length ws)
asked_place ws f e = (lo, inside (decide (ltb (f - 1) (64 * length ws))))
  where
    lo : 1 ≤ f
    lo = From-low 1 (fragments_of ws) f (frag-rises ws) e

    inside : (ltb (f - 1) (64 * length ws) ≡ true) ⊎ (ltb (f - 1) (64 * length ws) ≡ false) → (f - 1) / 64 < length ws
    inside (inl z) = omega (arith, ltb-true (f - 1) (64 * length ws) z)
    inside (inr z) = clash (low_bit_at ws (f - 1)) (sym (frag_of ws f lo) ∙ e) (past ws (f - 1) (ltb-false (f - 1) (64 * length ws) z))

pub not_asking-length : (f : ℕ) (ws : List ℕ) → length (not_asking f ws) ≡ length ws
not_asking-length f ws = go (has (fragments_of ws) f)
  where
    go : (t : Bool) → length (cond t (set ws ((f - 1) / 64) (bit_xor (get_or ws ((f - 1) / 64) 0) (2 ^ ((f - 1) % 64)))) ws) ≡ length ws
    go true = length-set ws ((f - 1) / 64) (bit_xor (get_or ws ((f - 1) / 64) 0) (2 ^ ((f - 1) % 64)))
    go false = refl

-- ---- the first fragment at or after f: no bit from f up to n
pub record Searching (f : ℕ) (ws : List ℕ) (n : ℕ) : Type 0 where
  pub from : f ≤ n
  pub none : (m : ℕ) → f ≤ m → m < n → has (fragments_of ws) m ≡ false

module _ (f : ℕ) (ws : List ℕ) (n : ℕ) (h : Searching f ws n) where
  unheld : (m : ℕ) → (f ≤ m → has (fragments_of ws) m ≡ false) → has (only (leb f) (fragments_of ws)) m ≡ false
  unheld m k = has-only (leb f) (fragments_of ws) m ∙ go (decide (leb f m))
    where
      go : (leb f m ≡ true) ⊎ (leb f m ≡ false) → (leb f m && has (fragments_of ws) m) ≡ false
      go (inl e) = rw (e, k (leb-true f m e)) refl
      go (inr e) = rw e refl

  pub search_found : has (fragments_of ws) n ≡ true → Some n ≡ next_in f ws
  search_found e =
      let here : has (only (leb f) (fragments_of ws)) n ≡ true = has-only (leb f) (fragments_of ws) n ∙ rw (le-leb f n h.from, e) refl in
      sym (first_some n (only (leb f) (fragments_of ws)) (empty-some n (only (leb f) (fragments_of ws)) here)
      (first-is 0 1 n (only (leb f) (fragments_of ws)) (From-only 1 (leb f) (fragments_of ws) (frag-rises ws)) here (λ m u. unheld m (λ a. h.none m a u))))

  pub search_none : length ws ≤ 64 → 4096 < n → None ≡ next_in f ws
  search_none l u = sym (first_none (only (leb f) (fragments_of ws)) (empty-none (only (leb f) (fragments_of ws)) (λ m. unheld m (λ a. go m a (decide (ltb m n))))))
    where
      high : (m : ℕ) → 4096 < m → has (fragments_of ws) m ≡ false
      high m v = frag_of ws m (omega arith) ∙ past ws (m - 1) (omega arith)

      go : (m : ℕ) → f ≤ m → (ltb m n ≡ true) ⊎ (ltb m n ≡ false) → has (fragments_of ws) m ≡ false
      go m a (inl z) = h.none m a (ltb-true m n z)
      go m a (inr z) = high m (omega (arith, ltb-false m n z))

pub asking-length : (f : ℕ) (ws : List ℕ) → length (asking f ws) ≡ length ws
asking-length f ws = go (eqb f 0)
  where
    go : (t : Bool) → length (cond t ws (asked (f - 1) ws)) ≡ length ws
    go true = refl
    go false = length-set ws ((f - 1) / 64) _

-- they are no more than the words have bits for
pub frag-within : (ws : List ℕ) (n : ℕ) → has (fragments_of ws) n ≡ true → (1 ≤ n) × (n ≤ 64 * length ws)
frag-within ws n e = let p = asked_place ws n e in (p.0, omega (arith, p.0, p.1))
