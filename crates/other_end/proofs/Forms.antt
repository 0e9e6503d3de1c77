-- The reader list on natural numbers, and the list of slots that stands for it. Assumes nothing.
use Prim.Native.Nat.{ℕ, zero, suc, ◌≤◌}
use mathlib.Core.Path.{◌≡◌, refl, sym, ap, ◌∙◌}
use mathlib.Core.Bool.{Bool, true, false, cond}
use mathlib.Core.List.{List, [], ◌∷◌}
use native.Mathlib.Omega.{arith}
use lib.Dec.{ltb}
use lib.IntN.{pos}
use lib.ListN.{get_or, set}
use Rattle.numbers.specs.Capacities.{top_number}
use Rattle.numbers.specs.Number.{negative, below0, number_at}
use Rattle.numbers.proofs.Ranks.{rank_back}
use Rattle.reader_list.specs.declared.heads.ReaderHead.{ReaderHead}
use Rattle.reader_list.specs.Readers.{Head, free, readers_coherent}
use Rattle.reader_list.specs.Slots.{readers, head_form, list_form, free_slot, list_coherent}
use Rattle.other_end.proofs.Heads.{Low}

-- the number of a natural number isn't negative
number_natural : (n : ℕ) → negative (number_at n) ≡ false
number_natural n = go (ltb n 9223372036854775808)
  where
    go : (t : Bool) → below0 (cond t (pos n) (pos 0)) ≡ false
    go true = refl
    go false = refl

pub list_back : (n : ℕ) (hs : List Head) → n ≤ top_number → Low n hs → readers (list_form hs) ≡ hs
list_back n [] q l = refl
list_back n (h ∷ hs) q l = λ i.
    record { id = h.id; reliable = h.reliable; acked = rank_back h.acked (omega (arith, l.0.0)) i; below = (number_natural h.acked ∙ sym l.0.1) i } ∷ list_back n hs q l.1 i

pub list-coherent : (n : ℕ) (hs : List Head) → n ≤ top_number → Low n hs → readers_coherent hs ≡ true → list_coherent (list_form hs) ≡ true
list-coherent n hs q l f = ap readers_coherent (list_back n hs q l) ∙ f

pub list_set : (hs : List Head) (k : ℕ) (x : Head) → list_form (set hs k x) ≡ set (list_form hs) k (head_form x)
list_set [] k x = refl
list_set (h ∷ hs) zero x = refl
list_set (h ∷ hs) (suc k) x = ap (λ (l : List ReaderHead). head_form h ∷ l) (list_set hs k x)

pub list_get : (hs : List Head) (k : ℕ) → get_or (list_form hs) k free_slot ≡ head_form (get_or hs k free)
list_get [] k = refl
list_get (h ∷ hs) zero = refl
list_get (h ∷ hs) (suc k) = list_get hs k
