-- The folds that look for a number above another. Assumes nothing.
use Prim.Native.Nat.{ℕ, zero, suc, ◌+◌, ◌*◌, ◌/◌, ◌≤◌, ◌<◌}
use mathlib.Core.Path.{◌≡◌, refl, sym, ap, ◌∙◌}
use mathlib.Core.Bool.{Bool, true, ◌&&◌}
use mathlib.Core.List.{List, [], ◌∷◌, ◌++◌}
use native.Mathlib.Omega.{arith}
use lib.Dec.{leb}
use lib.Bits.{bit_or, or_add_and, and_le_l, and_le_r}
use lib.ListN.{length, get_or, take, drop, take-append-drop}
use lib.Seq.{drop-drop}
use borrow.Author.Tests.{le-leb}
use borrow.Author.Count.{below_more}
use Rattle.std.specs.Simd.{first_chunks}
use Rattle.std.specs.Prelude.{fold}
use Rattle.sets.proofs.Bools.{and_assoc, and_yes}
use Rattle.writer_send_buffer.specs.Samples.{all_at_most}

or_l : (a b : ℕ) → a ≤ bit_or a b
or_l a b = omega (arith, or_add_and a b, and_le_r a b)

or_r : (a b : ℕ) → b ≤ bit_or a b
or_r a b = omega (arith, or_add_and a b, and_le_l a b)

-- all or-ed: what the or isn't above, none of them is
or_from : (s : List ℕ) (m a : ℕ) → fold bit_or a s ≤ m → (a ≤ m) × (all_at_most m s ≡ true)
or_from [] m a h = (h, refl)
or_from (x ∷ s) m a h =
    let k = or_from s m (bit_or a x) h in
    (omega (arith, k.0, or_l a x), rw (le-leb x m (omega (arith, k.0, or_r a x))) k.1)

pub or_fits : (s : List ℕ) (m : ℕ) → fold bit_or 0 s ≤ m → all_at_most m s ≡ true
or_fits s m h = (or_from s m 0 h).1

-- ALL OR-ED, four side by side

abbrev pub Fit : List (List ℕ) → ℕ → ℕ → Type 0
Fit fours i m = (k : ℕ) → k < i → all_at_most m (get_or fours k []) ≡ true

four_fits : (m : ℕ) (x : List ℕ) → length x ≡ 4 → get_or x 0 0 ≤ m → get_or x 1 0 ≤ m → get_or x 2 0 ≤ m → get_or x 3 0 ≤ m → all_at_most m x ≡ true
four_fits m [] e h i j k = absurd (omega arith)
four_fits m (x ∷ []) e h i j k = absurd (omega arith)
four_fits m (x ∷ (y ∷ [])) e h i j k = absurd (omega arith)
four_fits m (x ∷ (y ∷ (z ∷ []))) e h i j k = absurd (omega arith)
four_fits m (x ∷ (y ∷ (z ∷ (w ∷ [])))) e h i j k = rw (le-leb x m h, le-leb y m i, le-leb z m j, le-leb w m k)
four_fits m (x ∷ (y ∷ (z ∷ (w ∷ (v ∷ s))))) e h i j k = absurd (omega arith)

pub fours_more : (fours : List (List ℕ)) (i a b c d : ℕ) → length (get_or fours i []) ≡ 4 → ((m : ℕ) → a ≤ m → b ≤ m → c ≤ m → d ≤ m → Fit fours i m)
    → (m : ℕ) → bit_or a (get_or (get_or fours i []) 0 0) ≤ m → bit_or b (get_or (get_or fours i []) 1 0) ≤ m → bit_or c (get_or (get_or fours i []) 2 0) ≤ m → bit_or d (get_or (get_or fours i []) 3 0) ≤ m → Fit fours (i + 1) m
fours_more fours i a b c d e p m ka kb kc kd =
    let x = get_or fours i [] in
    below_more (λ (k : ℕ). all_at_most m (get_or fours k []) ≡ true) i
    (p m (omega (arith, or_l a (get_or x 0 0))) (omega (arith, or_l b (get_or x 1 0))) (omega (arith, or_l c (get_or x 2 0))) (omega (arith, or_l d (get_or x 3 0))))
    (four_fits m x e (omega (arith, or_r a (get_or x 0 0))) (omega (arith, or_r b (get_or x 1 0))) (omega (arith, or_r c (get_or x 2 0))) (omega (arith, or_r d (get_or x 3 0))))

pub fours_end : (a b c d m : ℕ) → bit_or (bit_or a b) (bit_or c d) ≤ m → (a ≤ m) × (b ≤ m) × (c ≤ m) × (d ≤ m)
fours_end a b c d m h =
    let l = or_l (bit_or a b) (bit_or c d) in
    let r = or_r (bit_or a b) (bit_or c d) in
    (omega (arith, l, or_l a b), omega (arith, l, or_r a b), omega (arith, r, or_l c d), omega (arith, r, or_r c d))

pub at_most_append : (m : ℕ) (s t : List ℕ) → all_at_most m (s ++ t) ≡ (all_at_most m s && all_at_most m t)
at_most_append m [] t = refl
at_most_append m (x ∷ s) t = ap (λ (b : Bool). leb x m && b) (at_most_append m s t) ∙ sym (and_assoc (leb x m) (all_at_most m s) (all_at_most m t))

pub chunks_fit : (n : ℕ) (s : List ℕ) (m : ℕ) → Fit (first_chunks 4 n s) n m → all_at_most m (drop (n * 4) s) ≡ true → all_at_most m s ≡ true
chunks_fit zero s m h k = k
chunks_fit (suc n) s m h k =
    let q : suc n * 4 ≡ 4 + n * 4 = omega arith in
    let t : all_at_most m (drop 4 s) ≡ true = chunks_fit n (drop 4 s) m (λ i l. h (suc i) (omega arith)) (rw drop-drop (rw q at k)) in
    ap (all_at_most m) (sym (take-append-drop 4 s)) ∙ at_most_append m (take 4 s) (drop 4 s) ∙ rw (h 0 (omega arith), t)

pub fours_fit : (s : List ℕ) (m : ℕ) (fours : List (List ℕ)) (rest : List ℕ) (a b : ℕ) → fours ≡ first_chunks 4 (length s / 4) s → rest ≡ drop (length s / 4 * 4) s → length fours ≡ length s / 4
    → ((m : ℕ) → a ≤ m → Fit fours (length fours) m) → b ≡ fold bit_or 0 rest → bit_or a b ≤ m → all_at_most m s ≡ true
fours_fit s m fours rest a b e r n f o h =
    let p : Fit fours (length s / 4) m = λ k i. f m (omega (arith, or_l a b)) k (omega arith) in
    chunks_fit (length s / 4) s m (rw e at p) (rw r at (or_fits rest m (omega (arith, or_r a b))))

-- each compared
each_from : (s : List ℕ) (m : ℕ) (fit : Bool) → fold (λ t x. t && leb x m) fit s ≡ (fit && all_at_most m s)
each_from [] m fit = sym (and_yes fit)
each_from (x ∷ s) m fit = each_from s m (fit && leb x m) ∙ and_assoc fit (leb x m) (all_at_most m s)

pub each_fits : (s : List ℕ) (m : ℕ) → fold (λ fit x. fit && leb x m) true s ≡ all_at_most m s
each_fits s m = each_from s m true
