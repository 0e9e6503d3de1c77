-- The members laid into a room, one by one. Assumes nothing.
use Prim.Native.Nat.{ℕ, ◌+◌, ◌-◌, ◌≤◌, ◌<◌}
use mathlib.Core.Path.{◌≡◌, refl, sym, ap, ◌∙◌}
use mathlib.Core.Bool.{Bool, true, false, true≢false}
use mathlib.Core.List.{List, [], ◌∷◌, ◌++◌, append-nil}
use mathlib.Core.Logic.{inl, inr}
use native.Mathlib.Omega.{arith}
use lib.Dec.{ltb}
use borrow.Author.Tests.{ltb-true, ltb-false}
use Rattle.sets.proofs.Bools.{decide}
use native.Mathlib.Numerals.{add-one}
use lib.ListN.{length, take, drop, get_or, set, length-set, length-append, drop_of_length-le}
use lib.Seq.{drop-cons, set_at, append_snoc, take_all, take-append-le}
use Rattle.sets.proofs.Those.{single, those_snoc, those-append, those-none, those-length}
use Rattle.number_sets.specs.Bits.{bit_at, next_bit, marked}
use Rattle.rising.specs.Runs.{filled}
use Rattle.std.specs.Prelude.{Some, None}
use Rattle.number_sets.proofs.Eight.{bit_past}
use Rattle.number_sets.proofs.Members.{NextIs, next_bit_gone, next_bit_some}

-- a room, with one number more
filled_in : (l room : List ℕ) (n : ℕ) → length l < length room → set (filled l room) (length l) n ≡ filled (l ++ (n ∷ [])) room
filled_in l room n h =
    let d : drop (length l) room ≡ get_or room (length l) 0 ∷ drop (length l + 1) room = rw (add-one, drop-cons room (length l) 0) in
    let a : filled l room ≡ l ++ (get_or room (length l) 0 ∷ drop (length l + 1) room) =
    ap (λ (x : List ℕ). x ++ drop (length l) room) (take_all (length room) l (omega arith)) ∙ ap (λ (x : List ℕ). l ++ x) d in
    let s : length (l ++ (n ∷ [])) ≡ length l + 1 = length-append l (n ∷ []) in
    ap (λ (x : List ℕ). set x (length l) n) a
    ∙ set_at l (get_or room (length l) 0) (drop (length l + 1) room) n (length l) refl
    ∙ sym (append_snoc l n (drop (length l + 1) room))
    ∙ ap (λ (x : ℕ). (l ++ (n ∷ [])) ++ drop x room) (sym s)
    ∙ ap (λ (x : List ℕ). x ++ drop (length (l ++ (n ∷ []))) room) (sym (take_all (length room) (l ++ (n ∷ [])) (omega arith)))

filled-past : (l room : List ℕ) (n : ℕ) → length room ≤ length l → filled l room ≡ filled (l ++ (n ∷ [])) room
filled-past l room n h =
    let s : length (l ++ (n ∷ [])) ≡ length l + 1 = length-append l (n ∷ []) in
    ap (λ (x : List ℕ). x ++ drop (length l) room) (sym (take-append-le (length room) l (n ∷ []) h))
    ∙ ap (λ (x : List ℕ). take (length room) (l ++ (n ∷ [])) ++ x) (drop_of_length-le room {i = length l} h ∙ sym (drop_of_length-le room {i = length (l ++ (n ∷ []))} (omega arith)))

-- no bit from i on up to j
marked_skip : (b i j : ℕ) (ws : List ℕ) → i ≤ j → ((m : ℕ) → i ≤ m → m < j → bit_at ws m ≡ false) → marked j b ws ≡ marked i b ws
marked_skip b i j ws h none =
    let e : j ≡ i + (j - i) = omega arith in
    ap (λ (x : ℕ). marked x b ws) e ∙ those-append i (j - i) b (λ n. bit_at ws (n - b))
    ∙ ap (λ (x : List ℕ). marked i b ws ++ x) (those-none (j - i) (b + i) (λ n. bit_at ws (n - b)) (λ n l u. none (n - b) (omega arith) (omega arith)))
    ∙ append-nil (marked i b ws)

marked_one : (b i : ℕ) (ws : List ℕ) → bit_at ws i ≡ true → marked (i + 1) b ws ≡ marked i b ws ++ ((b + i) ∷ [])
marked_one b i ws e =
    let z : b + i - b ≡ i = omega arith in
    ap (λ (n : ℕ). marked n b ws) (add-one i) ∙ those_snoc i b (λ n. bit_at ws (n - b))
    ∙ ap (λ (n : ℕ). marked i b ws ++ single (bit_at ws n) (b + i)) z
    ∙ ap (λ (t : Bool). marked i b ws ++ single t (b + i)) e

-- THE LOOP: the members before place i stand in the room
pub record Listing (b count : ℕ) (ws out₀ out : List ℕ) (k i : ℕ) : Type 0 where
  pub most : i ≤ count
  pub counted : k ≡ length (marked i b ws)
  pub long : length out ≡ length out₀
  pub laid : out ≡ filled (marked i b ws) out₀

pub listing_few : (b count : ℕ) (ws out₀ out : List ℕ) (k i : ℕ) → Listing b count ws out₀ out k i → k ≤ i
listing_few b count ws out₀ out k i h = omega (arith, h.counted, those-length i b (λ n. bit_at ws (n - b)))

module _ (b count : ℕ) (ws out₀ out : List ℕ) (k i : ℕ) (h : Listing b count ws out₀ out k i) where
  module _ (j : ℕ) (e : next_bit ws count i ≡ Some j) where
    next : NextIs ws count i j
    next = next_bit_some ws count i j e

    more : marked (j + 1) b ws ≡ marked i b ws ++ ((b + j) ∷ [])
    more = marked_one b j ws next.bit ∙ ap (λ (l : List ℕ). l ++ ((b + j) ∷ [])) (marked_skip b i j ws next.low next.none)

    counted-on : k + 1 ≡ length (marked (j + 1) b ws)
    counted-on = sym (ap length more ∙ length-append (marked i b ws) ((b + j) ∷ []) ∙ ap (λ (x : ℕ). x + 1) (sym h.counted))

    -- a set bit lies in the words
    pub listing_in : length ws ≡ 8 → (i ≤ j) × (j < count) × (j < 256)
    listing_in l = (next.low, next.high, elim (decide (ltb j 256)) [ inl z ↦ ltb-true j 256 z | inr z ↦ absurd (true≢false (sym next.bit ∙ bit_past ws j l (ltb-false j 256 z))) ])

    pub listing_set : k < length out → Listing b count ws out₀ (set out k (b + j)) (k + 1) (j + 1)
    listing_set q =
        record {
          most = omega (arith, next.high);
          counted = counted-on;
          long = length-set out k (b + j) ∙ h.long;
          laid = ap (λ (l : List ℕ). set l k (b + j)) h.laid ∙ ap (λ (x : ℕ). set (filled (marked i b ws) out₀) x (b + j)) h.counted
              ∙ filled_in (marked i b ws) out₀ (b + j) (omega (arith, h.counted, h.long)) ∙ ap (λ (l : List ℕ). filled l out₀) (sym more);
        }

    pub listing_past : length out ≤ k → Listing b count ws out₀ out (k + 1) (j + 1)
    listing_past q =
        record {
          most = omega (arith, next.high);
          counted = counted-on;
          long = h.long;
          laid = h.laid ∙ filled-past (marked i b ws) out₀ (b + j) (omega (arith, h.counted, h.long)) ∙ ap (λ (l : List ℕ). filled l out₀) (sym more);
        }

  pub listing_end : next_bit ws count i ≡ None → (k ≡ length (marked count b ws)) × (out ≡ filled (marked count b ws) out₀)
  listing_end e =
      let s : marked count b ws ≡ marked i b ws = marked_skip b i count ws h.most (next_bit_gone ws count i e) in
      (h.counted ∙ sym (ap length s), h.laid ∙ sym (ap (λ (l : List ℕ). filled l out₀) s))
