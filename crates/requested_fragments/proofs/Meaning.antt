-- What the table means: marking and asking, on samples and fragments. Assumes nothing.
use Prim.Native.Nat.{ℕ, ◌*◌, ◌≤◌, ◌<◌}
use mathlib.Core.Path.{◌≡◌, refl, sym, ap, subst, ◌∙◌}
use mathlib.Core.Bool.{Bool, true, false, cond, ◌||◌, false≢true}
use mathlib.Core.List.{List, [], ◌∷◌}
use lib.Dec.{eqb, leb}
use native.Mathlib.Omega.{arith}
use lib.ListN.{length, drop, replicate, get_or-replicate, length-replicate, length-drop}
use lib.Seq.{length-take-le}
use borrow.Author.Tests.{eq-eqb, eqb-true, leb-false}
use Rattle.sets.specs.Sets.{has, From, empty, without, union}
use Rattle.sets.proofs.Has.{has-insert, has-union, From-union}
use Rattle.sets.proofs.Bools.{or_right, or_swap, or_assoc}
use Rattle.sets.proofs.Ext.{ext, union_nil}
use Rattle.requested_fragments.specs.Words.{fragments_of, asking, not_asking}
use Rattle.requested_fragments.proofs.Frags.{not_asking-is, asking-is, asking-length, frag-rises, zeros-empty}
use Rattle.requested_fragments.specs.Entries.{Entry, keep, sent, requested_some}
use Rattle.requested_fragments.specs.Table.{Block, blocks_of, keep_block, mark_t, blocks_view, ask_t, ask_all}

view_keep : (b : Block) (bs : List Block) → blocks_view (keep_block b bs) ≡ keep (record { sample = b.sample; frags = fragments_of b.words }) (blocks_view bs)
view_keep b bs = go (empty (fragments_of b.words))
  where
    go : (t : Bool) → blocks_view (cond t bs (b ∷ bs)) ≡ cond t (blocks_view bs) (record { sample = b.sample; frags = fragments_of b.words } ∷ blocks_view bs)
    go true = refl
    go false = refl

-- marking a fragment sent, on the table, is marking it sent
pub mark_means : (n f : ℕ) (t : List Block) → blocks_view (mark_t n f t) ≡ sent n f (blocks_view t)
mark_means n f [] = refl
mark_means n f (b ∷ bs) = go (eqb b.sample n) (mark_means n f bs)
  where
    go : (t : Bool) → blocks_view (mark_t n f bs) ≡ sent n f (blocks_view bs)
        → blocks_view (cond t (keep_block (record { sample = b.sample; words = not_asking f b.words }) bs) (b ∷ mark_t n f bs))
        ≡ cond t (keep (record { sample = b.sample; frags = without f (fragments_of b.words) }) (blocks_view bs)) (record { sample = b.sample; frags = fragments_of b.words } ∷ sent n f (blocks_view bs))
    go true r = view_keep (record { sample = b.sample; words = not_asking f b.words }) bs ∙ ap (λ (l : List ℕ). keep (record { sample = b.sample; frags = l }) (blocks_view bs)) (not_asking-is f b.words)
    go false r = ap (λ (l : List Entry). record { sample = b.sample; frags = fragments_of b.words } ∷ l) r

-- ---- asking
-- all of ms have a place in ws
abbrev pub Within : List ℕ → ℕ → Type 0
Within ms k = (n : ℕ) → has ms n ≡ true → (1 ≤ n) × (n ≤ 64 * k)

ask_all-has : (ms ws : List ℕ) → Within ms (length ws) → (n : ℕ) → has (fragments_of (ask_all ms ws)) n ≡ (has ms n || has (fragments_of ws) n)
ask_all-has [] ws h n = refl
ask_all-has (f ∷ fs) ws h n =
    let hf : (1 ≤ f) × (f ≤ 64 * length ws) = h f (ap (λ (t : Bool). t || has fs f) (eq-eqb f f refl)) in
    let hr : Within fs (length (asking f ws)) = λ m e. subst (λ (k : ℕ). (1 ≤ m) × (m ≤ 64 * k)) (sym (asking-length f ws)) (h m (or_right (eqb f m) (has fs m) e)) in
    ask_all-has fs (asking f ws) hr n
    ∙ ap (λ (l : List ℕ). has fs n || has l n) (asking-is f ws hf.0 hf.1)
    ∙ ap (λ (t : Bool). has fs n || t) (has-insert f n (fragments_of ws))
    ∙ or_swap (eqb f n) (has fs n) (has (fragments_of ws) n)
    ∙ sym (or_assoc (eqb f n) (has fs n) (has (fragments_of ws) n))

pub ask_all-is : (ms ws : List ℕ) → Within ms (length ws) → fragments_of (ask_all ms ws) ≡ union ms (fragments_of ws)
ask_all-is ms ws h =
    ext 1 1 (fragments_of (ask_all ms ws)) (union ms (fragments_of ws)) (frag-rises (ask_all ms ws)) (From-union 1 ms (fragments_of ws) (λ n e. (h n e).0) (frag-rises ws))
    (λ n. ask_all-has ms ws h n ∙ sym (has-union ms (fragments_of ws) n))

empty_nil : (l : List ℕ) → empty l ≡ true → l ≡ []
empty_nil [] e = refl
empty_nil (x ∷ xs) e = absurd (false≢true e)

pub ask_all_new : (k : ℕ) (ms : List ℕ) → From 1 ms → Within ms k → fragments_of (ask_all ms (replicate k 0)) ≡ ms
ask_all_new k ms g h =
    let z : fragments_of (replicate k 0) ≡ [] = empty_nil (fragments_of (replicate k 0)) (zeros-empty (replicate k 0) (λ i q. get_or-replicate k i 0 0 (subst (λ (x : ℕ). i < x) (length-replicate {A = ℕ} k 0) q))) in
    ask_all-is ms (replicate k 0) (subst (Within ms) (sym (length-replicate {A = ℕ} k 0)) h) ∙ ap (union ms) z ∙ union_nil 1 ms g

-- each block has its 64 words
abbrev pub Full : List Block → Type 0
Full [] = Unit {0}
Full (b ∷ bs) = (length b.words ≡ 64) × Full bs

pub full_of : (ss ws : List ℕ) → 64 * length ss ≤ length ws → Full (blocks_of ss ws)
full_of [] ws h = tt
full_of (s ∷ ss) ws h = (length-take-le 64 ws (omega arith), full_of ss (drop 64 ws) (rw length-drop (omega arith)))

-- asking, on the table, is asking
module _ (n : ℕ) (ms : List ℕ) (g : From 1 ms) (h : Within ms 64) where
  abbrev shown : Block → Entry
  shown b = record { sample = b.sample; frags = fragments_of b.words }

  made : shown (record { sample = n; words = ask_all ms (replicate 64 0) }) ≡ record { sample = n; frags = ms }
  made = ap (λ (l : List ℕ). record { sample = n; frags = l }) (ask_all_new 64 ms g h)

  pub ask_means : (t : List Block) → Full t → blocks_view (ask_t n ms t) ≡ requested_some n ms (blocks_view t)
  ask_means [] f = ap (λ (e : Entry). e ∷ []) made
  ask_means (b ∷ bs) f = go (leb n b.sample) refl (eqb b.sample n) refl (ask_means bs f.1)
    where
      go : (x : Bool) → leb n b.sample ≡ x → (y : Bool) → eqb b.sample n ≡ y → blocks_view (ask_t n ms bs) ≡ requested_some n ms (blocks_view bs)
          → blocks_view (cond x (cond y (record { sample = b.sample; words = ask_all ms b.words } ∷ bs) (record { sample = n; words = ask_all ms (replicate 64 0) } ∷ b ∷ bs)) (b ∷ ask_t n ms bs))
          ≡ cond y (record { sample = b.sample; frags = union ms (fragments_of b.words) } ∷ blocks_view bs) (cond x (record { sample = n; frags = ms } ∷ shown b ∷ blocks_view bs) (shown b ∷ requested_some n ms (blocks_view bs)))
      go true p true q r = ap (λ (l : List ℕ). record { sample = b.sample; frags = l } ∷ blocks_view bs) (ask_all-is ms b.words (subst (Within ms) (sym f.0) h))
      go true p false q r = ap (λ (e : Entry). e ∷ shown b ∷ blocks_view bs) made
      go false p true q r = absurd (omega (arith, leb-false n b.sample p, eqb-true b.sample n q))
      go false p false q r = ap (λ (l : List Entry). shown b ∷ l) r
