-- A coherent reader is told by what is put into its room, and a free place is left as it is by both. Assumes nothing.
use Prim.Native.Nat.{ℕ, ◌≤◌}
use mathlib.Core.Path.{◌≡◌, refl, sym, ap, ◌∙◌}
use mathlib.Core.Bool.{Bool, true, false, not, cond, ◌&&◌}
use mathlib.Core.Logic.{◌⊎◌, inl, inr}
use mathlib.Core.List.{List, [], ◌∷◌, map}
use native.Mathlib.Nat.{suc-ne-zero, not-suc-le-zero}
use native.Mathlib.Omega.{arith}
use lib.Dec.{leb, eqb}
use lib.ListN.{length, drop, length-take}
use borrow.Author.Tests.{eqb-true}
use Rattle.sets.proofs.Bools.{and_left, and_right, and_no, or_false}
use Rattle.numbers.specs.Number.{rank_of, is_sample}
use Rattle.numbers.specs.Refusals.{row, answer_of, is_done}
use Rattle.numbers.specs.Promise.{Gives1}
use Rattle.numbers.specs.declared.answer.Answer.{Answer}
use Rattle.numbers.specs.declared.sequence_number.SequenceNumber.{SequenceNumber}
use Rattle.rising.specs.Runs.{run_with}
use Rattle.rtps_reader_proxy.specs.Parts.{count_unsent}
use Rattle.rtps_reader_proxy.specs.declared.proxy.ReaderProxy.{ReaderProxy}
use Rattle.rtps_reader_proxy.specs.declared.proxy.Changed.{Changed}
use Rattle.rtps_reader_proxy.specs.Record.{room_for, unsent_coherent, changed}
use Rattle.rtps_reader_proxy.specs.Reader.{notified}
use Rattle.rtps_reader_proxy.specs.Unsent.{notified_of}
use Rattle.rtps_reader_proxy.proofs.UnsentCalls.{unsent-is, unsent_refused, notify-is}
use Rattle.reader_record.proofs.Whole.{proxy-is}
use Rattle.writer_send_buffer.specs.declared.flow.Numbered.{Numbered}
use Rattle.writer_write.specs.Write.{UnsentPart, told, told_all}
use Rattle.writer_write.specs.Places.{is_free, own_of, reader_at, readers_from}
use Rattle.writer_write.specs.Coherent.{place_coherent, places_coherent_from}
use Rattle.writer_write.specs.Turns.{with_number, put_one}
use Rattle.writer_write.proofs.Parts.{own_capped}

-- what is done to a reader, where the write is answered m
abbrev pub told_one : Numbered → UnsentPart → UnsentPart
told_one m k = cond (is_done m.answer) (told m.number k) k

pub map_same : (ks : List UnsentPart) → map (λ k. k) ks ≡ ks
map_same [] = refl
map_same (k ∷ ks) = ap (λ (l : List UnsentPart). k ∷ l) (map_same ks)

pub all_ones : (m : Numbered) (ks : List UnsentPart) → map (told_one m) ks ≡ told_all m ks
all_ones m ks = go (is_done m.answer)
  where
    go : (t : Bool) → map (λ k. cond t (told m.number k) k) ks ≡ cond t (map (told m.number) ks) ks
    go true = refl
    go false = map_same ks

-- A NOTIFICATION, as an equation of readers
module _ (n : SequenceNumber) (k : UnsentPart) where
  abbrev fits : Bool
  fits = room_for 1 k.proxy.unsent_cap k.proxy.unsent_count k.unsent

  abbrev rows : Bool → Answer
  rows t = answer_of (row 1 refl (not t) ∷ row 2 refl (not (is_sample n)) ∷ [])

  as_told : {r : Changed} {w : List ℕ} → Gives1 r w (notified_of n k.proxy k.unsent) → ◌≡◌ {A = UnsentPart} (record { proxy = r.proxy; unsent = w }) (told n k)
  as_told g = λ j. record { proxy = (g.result j).proxy; unsent = g.first j }

  refused : ((rows (fits && unsent_coherent k.proxy k.unsent)).number ≡ 0 → ⊥) → k ≡ told n k
  refused z = as_told (unsent_refused k.proxy k.unsent fits (row 2 refl (not (is_sample n)) ∷ []) (rows (fits && unsent_coherent k.proxy k.unsent)) refl (notified (rank_of n)) z)

  -- where it isn't coherent, it stays as it is
  not_coherent : unsent_coherent k.proxy k.unsent ≡ false → k ≡ told n k
  not_coherent e = refused (λ z. suc-ne-zero 0 (sym (ap (λ (t : Bool). (rows (fits && t)).number) e ∙ ap (λ (t : Bool). (rows t).number) (and_no fits)) ∙ z))

  module _ (ok : (fits && unsent_coherent k.proxy k.unsent) ≡ true) where
    -- where it is, the number joins at the end or at its place
    joins : is_sample n ≡ true → with_number (rank_of n) k ≡ told n k
    joins e =
        as_told (notify-is n k.proxy k.unsent fits (is_sample n) (rows (fits && unsent_coherent k.proxy k.unsent)) refl refl refl
        (changed (rows (fits && unsent_coherent k.proxy k.unsent)) (with_number (rank_of n) k).proxy) (with_number (rank_of n) k).unsent
        (λ z. absurd (z (λ j. (answer_of (row 1 refl (not (ok j)) ∷ row 2 refl (not (e j)) ∷ [])).number)))
        {k = λ m. m ≡ (run_with (rank_of n) k.proxy.unsent_count k.unsent).result}
        (λ z. ((run_with (rank_of n) k.proxy.unsent_count k.unsent).result, refl, refl))
        (λ m em. record { result = em; first = refl }))

-- A FREE PLACE: its cap and its count are 0
pub free-cap : (h : ReaderProxy) → is_free h ≡ true → h.unsent_cap ≡ 0
free-cap h e = eqb-true h.unsent_cap 0 (and_left (eqb h.unsent_cap 0) _ e)

free-count : (h : ReaderProxy) → is_free h ≡ true → h.unsent_count ≡ 0
free-count h e = eqb-true h.unsent_count 0 (and_left (eqb h.unsent_count 0) _ (and_right (eqb h.unsent_cap 0) _ e))

-- it isn't coherent as a reader: a notification leaves it
not_reader : (h : ReaderProxy) (u : List ℕ) → is_free h ≡ true → unsent_coherent h u ≡ false
not_reader h u free = go (unsent_coherent h u) refl
  where
    go : (t : Bool) → unsent_coherent h u ≡ t → t ≡ false
    go true e = absurd (omega (arith, (proxy-is h (unsent-is h u e).proxy).cap-low, free-cap h free))
    go false e = refl

pub told_free : (n : SequenceNumber) (k : UnsentPart) → is_free k.proxy ≡ true → k ≡ told n k
told_free n k free = not_coherent n k (not_reader k.proxy k.unsent free)

-- and nothing joins where there is no room
joined_empty : (r : ℕ) (h : ReaderProxy) (u : List ℕ) → h.unsent_count ≡ 0 → length u ≤ 0 → with_number r (record { proxy = h; unsent = u }) ≡ record { proxy = h; unsent = u }
joined_empty r h [] e l = (λ j. record { proxy = count_unsent (run_with r (e j) []).result h; unsent = (run_with r (e j) []).first }) ∙ (λ j. record { proxy = count_unsent (sym e j) h; unsent = [] })
joined_empty r h (x ∷ xs) e l = absurd (not-suc-le-zero l)

-- A COHERENT PLACE: what is put is what is told, since the number given is a sample's
abbrev pub Given : Numbered → Type 0
Given m = is_done m.answer ≡ true → is_sample m.number ≡ true

pub put-told : (m : Numbered) → Given m → (k : UnsentPart) → length k.unsent ≤ k.proxy.unsent_cap → place_coherent k.proxy k.unsent ≡ true → put_one m k ≡ told_one m k
put-told m given k few e = go (is_done m.answer) refl (or_false (is_free k.proxy) (fits m.number k && unsent_coherent k.proxy k.unsent) e)
  where
    go : (t : Bool) → is_done m.answer ≡ t → (is_free k.proxy ≡ true) ⊎ ((fits m.number k && unsent_coherent k.proxy k.unsent) ≡ true)
        → cond t (with_number (rank_of m.number) k) k ≡ cond t (told m.number k) k
    go true d (inl free) =
        joined_empty (rank_of m.number) k.proxy k.unsent (free-count k.proxy free) (omega (arith, few, free-cap k.proxy free)) ∙ told_free m.number k free
    go true d (inr ok) = joins m.number k ok (given d)
    go false d w = refl

pub puts_told : (m : Numbered) → Given m → (n s : ℕ) (hs : List ReaderProxy) (v : List ℕ) → places_coherent_from n s hs v ≡ true → map (put_one m) (readers_from s hs v) ≡ told_all m (readers_from s hs v)
puts_told m given n s hs v e = each hs v e ∙ all_ones m (readers_from s hs v)
  where
    each : (hs : List ReaderProxy) (v : List ℕ) → places_coherent_from n s hs v ≡ true → map (put_one m) (readers_from s hs v) ≡ map (told_one m) (readers_from s hs v)
    each [] v e = refl
    each (h ∷ hs) v e =
        let here = leb n 64 && place_coherent h (reader_at s h v).unsent in
        let here-coherent = and_right (leb n 64) (place_coherent h (reader_at s h v).unsent) (and_left here (places_coherent_from n s hs (drop s v)) e) in
        λ j. put-told m given (reader_at s h v) (omega (arith, length-take (own_of s h) v, own_capped s h)) here-coherent j ∷ each hs (drop s v) (and_right here (places_coherent_from n s hs (drop s v)) e) j
