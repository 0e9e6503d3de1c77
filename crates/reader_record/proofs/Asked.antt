-- What is asked for, piece by piece: what a request and a piece marked sent make of it, and that the question for the next piece finds the smallest. Proved of
-- the definitions that the promises cite. Assumes nothing.
use Prim.Native.Nat.{ℕ, suc, ◌≤◌, ◌<◌}
use mathlib.Core.Path.{◌≡◌, refl, sym, ap, ◌∙◌}
use mathlib.Core.Bool.{Bool, true, false, not, cond, ◌&&◌, ◌||◌, false≢true}
use mathlib.Core.Logic.{◌⊎◌, inl, inr}
use mathlib.Core.List.{List, [], ◌∷◌}
use native.Mathlib.Omega.{arith}
use lib.Dec.{leb, eqb}
use borrow.Author.Tests.{leb-true, leb-false, le-leb, eqb-true, eqb-false, eq-eqb, ne_eqb}
use Rattle.sets.specs.Sets.{has, union, without, only, first_or}
use Rattle.sets.proofs.Bools.{and_left, and_right, and_no, or_swap, or_assoc, decide, clash}
use Rattle.sets.proofs.Has.{has-union, has-only, has-without, From-only}
use Rattle.sets.proofs.First.{first_cases}
use Rattle.requested_fragments.specs.Entries.{Entry, entry, keep, requested_some, requested, sent, next_sample, next_fragment}
use Rattle.requested_fragments.specs.Drain.{EntriesCoherent, is_asked}

module _ (s f : ℕ) where
  -- A REQUEST adds the pieces that it names, of its sample, and no other; one for nothing adds nothing
  spread : (x a b c : Bool) → ((x && (a || b)) || c) ≡ ((x && a) || ((x && b) || c))
  spread true a b c = or_assoc a b c
  spread false a b c = refl

  named : (n : ℕ) (ms : List ℕ) (es : List Entry) → is_asked s f (requested_some n ms es) ≡ ((eqb n s && has ms f) || is_asked s f es)
  named n ms [] = refl
  named n ms (e ∷ es) = go (eqb e.sample n) refl (leb n e.sample) (named n ms es)
    where
      go : (t : Bool) → eqb e.sample n ≡ t → (u : Bool) → is_asked s f (requested_some n ms es) ≡ ((eqb n s && has ms f) || is_asked s f es)
          → is_asked s f (cond t (entry e.sample (union ms e.frags) ∷ es) (cond u (entry n ms ∷ e ∷ es) (e ∷ requested_some n ms es)))
          ≡ ((eqb n s && has ms f) || ((eqb e.sample s && has e.frags f) || is_asked s f es))
      go true d u r =
          ap (λ (t : Bool). (eqb e.sample s && t) || is_asked s f es) (has-union ms e.frags f)
          ∙ spread (eqb e.sample s) (has ms f) (has e.frags f) (is_asked s f es)
          ∙ ap (λ (k : ℕ). (eqb k s && has ms f) || ((eqb e.sample s && has e.frags f) || is_asked s f es)) (eqb-true e.sample n d)
      go false d true r = refl
      go false d false r =
          ap (λ (t : Bool). (eqb e.sample s && has e.frags f) || t) r
          ∙ or_swap (eqb n s && has ms f) (eqb e.sample s && has e.frags f) (is_asked s f es)

  pub asked_more : (n : ℕ) (ms : List ℕ) (es : List Entry) → is_asked s f (requested n ms es) ≡ ((eqb n s && has ms f) || is_asked s f es)
  asked_more n [] es = sym (ap (λ (t : Bool). t || is_asked s f es) (and_no (eqb n s)))
  asked_more n (m ∷ ms) es = named n (m ∷ ms) es

  -- A PIECE MARKED SENT is no longer asked for, and all others are as before
  none_before : (b : ℕ) (es : List Entry) → EntriesCoherent b es → s < b → is_asked s f es ≡ false
  none_before b [] h q = refl
  none_before b (e ∷ es) h q =
      rw (ne_eqb e.sample s (λ (z : e.sample ≡ s). omega (arith, z, h.0))) (none_before (suc e.sample) es h.1.1.1 (omega (arith, h.0)))

  kept : (k : ℕ) (l : List ℕ) (es : List Entry) → is_asked s f (keep (entry k l) es) ≡ ((eqb k s && has l f) || is_asked s f es)
  kept k [] es = sym (ap (λ (t : Bool). t || is_asked s f es) (and_no (eqb k s)))
  kept k (x ∷ xs) es = refl

  pub asked_less : (b n g : ℕ) (es : List Entry) → EntriesCoherent b es → is_asked s f (sent n g es) ≡ (not (eqb n s && eqb g f) && is_asked s f es)
  asked_less b n g [] h = sym (and_no (not (eqb n s && eqb g f)))
  asked_less b n g (e ∷ es) h = go (eqb e.sample n) refl (asked_less (suc e.sample) n g es h.1.1.1)
    where
      here : (x : Bool) → eqb e.sample s ≡ x → (y a : Bool) → ((x && (not y && a)) || is_asked s f es) ≡ (not (x && y) && ((x && a) || is_asked s f es))
      here true d true a = rw (none_before (suc e.sample) es h.1.1.1 (omega (arith, eqb-true e.sample s d)))
      here true d false a = refl
      here false d y a = refl

      past : (x y p : Bool) → (x ≡ true → p ≡ false) → (c : Bool) → (p || (not (x && y) && c)) ≡ (not (x && y) && (p || c))
      past true true p z c = rw (z refl)
      past true false p z c = refl
      past false y p z c = refl

      other : eqb e.sample n ≡ false → eqb n s ≡ true → (eqb e.sample s && has e.frags f) ≡ false
      other d q =
          rw (ne_eqb e.sample s (λ (z : e.sample ≡ s). eqb-false e.sample n d (z ∙ sym (eqb-true n s q))))

      go : (t : Bool) → eqb e.sample n ≡ t → is_asked s f (sent n g es) ≡ (not (eqb n s && eqb g f) && is_asked s f es)
          → is_asked s f (cond t (keep (entry e.sample (without g e.frags)) es) (e ∷ sent n g es))
          ≡ (not (eqb n s && eqb g f) && ((eqb e.sample s && has e.frags f) || is_asked s f es))
      go true d r =
          kept e.sample (without g e.frags) es
          ∙ ap (λ (t : Bool). (eqb e.sample s && t) || is_asked s f es) (has-without g e.frags f)
          ∙ here (eqb e.sample s) refl (eqb g f) (has e.frags f)
          ∙ ap (λ (k : ℕ). not (eqb k s && eqb g f) && ((eqb e.sample s && has e.frags f) || is_asked s f es)) (eqb-true e.sample n d)
      go false d r =
          ap (λ (t : Bool). (eqb e.sample s && has e.frags f) || t) r
          ∙ past (eqb n s) (eqb g f) (eqb e.sample s && has e.frags f) (other d) (is_asked s f es)

-- THE NEXT PIECE from c on: of the smallest sample of which anything is asked, the smallest piece from c on; 0 where it has none
pub smallest-sample : (b : ℕ) (es : List Entry) → EntriesCoherent b es → (n g : ℕ) → is_asked n g es ≡ true → next_sample es ≤ n
smallest-sample b [] h n g e = absurd (false≢true e)
smallest-sample b (e ∷ es) h n g q = case (decide (leb e.sample n))
  where
    case : (leb e.sample n ≡ true) ⊎ (leb e.sample n ≡ false) → e.sample ≤ n
    case (inl w) = leb-true e.sample n w
    case (inr w) = clash (is_asked n g (e ∷ es)) q (none_before n g e.sample (e ∷ es) (omega arith, h.1) (leb-false e.sample n w))

-- of the first sample, what is asked for is what its entry holds
own : (b : ℕ) (e : Entry) (es : List Entry) → EntriesCoherent b (e ∷ es) → (g : ℕ) → is_asked e.sample g (e ∷ es) ≡ has e.frags g
own b e es h g =
    rw (eq-eqb e.sample e.sample refl, none_before e.sample g (suc e.sample) es h.1.1.1 (omega arith)) (no (has e.frags g))
  where
    no : (t : Bool) → (t || false) ≡ t
    no true = refl
    no false = refl

pub smallest-piece : (c b : ℕ) (es : List Entry) → EntriesCoherent b es
    → ((next_fragment c es ≡ 0) × ((m : ℕ) → c ≤ m → is_asked (next_sample es) m es ≡ false))
    ⊎ ((c ≤ next_fragment c es) × ((is_asked (next_sample es) (next_fragment c es) es ≡ true) × ((m : ℕ) → c ≤ m → is_asked (next_sample es) m es ≡ true → next_fragment c es ≤ m)))
smallest-piece c b [] h = inl (refl, λ m q. refl)
smallest-piece c b (e ∷ es) h = case (first_cases 0 1 (only (leb c) e.frags) (From-only 1 (leb c) e.frags h.1.0))
  where
    in_list : (m : ℕ) → c ≤ m → has (only (leb c) e.frags) m ≡ has e.frags m
    in_list m q = has-only (leb c) e.frags m ∙ rw (le-leb c m q)

    case : ((first_or 0 (only (leb c) e.frags) ≡ 0) × ((m : ℕ) → has (only (leb c) e.frags) m ≡ false))
        ⊎ ((has (only (leb c) e.frags) (first_or 0 (only (leb c) e.frags)) ≡ true) × ((m : ℕ) → m < first_or 0 (only (leb c) e.frags) → has (only (leb c) e.frags) m ≡ false))
        → ((next_fragment c (e ∷ es) ≡ 0) × ((m : ℕ) → c ≤ m → is_asked e.sample m (e ∷ es) ≡ false))
        ⊎ ((c ≤ next_fragment c (e ∷ es)) × ((is_asked e.sample (next_fragment c (e ∷ es)) (e ∷ es) ≡ true) × ((m : ℕ) → c ≤ m → is_asked e.sample m (e ∷ es) ≡ true → next_fragment c (e ∷ es) ≤ m)))
    case (inl z) = inl (z.0, λ m q. own b e es h m ∙ sym (in_list m q) ∙ z.1 m)
    case (inr z) =
        let x : (leb c (next_fragment c (e ∷ es)) && has e.frags (next_fragment c (e ∷ es))) ≡ true = sym (has-only (leb c) e.frags (next_fragment c (e ∷ es))) ∙ z.0 in
        inr (
          leb-true c (next_fragment c (e ∷ es)) (and_left (leb c (next_fragment c (e ∷ es))) (has e.frags (next_fragment c (e ∷ es))) x),
          (
            own b e es h (next_fragment c (e ∷ es)) ∙ and_right (leb c (next_fragment c (e ∷ es))) (has e.frags (next_fragment c (e ∷ es))) x,
            λ m q w. least m q w (decide (leb (next_fragment c (e ∷ es)) m)),
          ),
        )
      where
        least : (m : ℕ) → c ≤ m → is_asked e.sample m (e ∷ es) ≡ true → (leb (next_fragment c (e ∷ es)) m ≡ true) ⊎ (leb (next_fragment c (e ∷ es)) m ≡ false) → next_fragment c (e ∷ es) ≤ m
        least m q w (inl d) = leb-true (next_fragment c (e ∷ es)) m d
        least m q w (inr d) = clash (has e.frags m) (sym (own b e es h m) ∙ w) (sym (in_list m q) ∙ z.1 m (leb-false (next_fragment c (e ∷ es)) m d))
