-- A write at one place, where the reader's whole room stands in its stretch: its part serves as well as the whole, and the rest of the stretch stays.
-- Assumes nothing.
use Prim.Native.Nat.{ℕ, ◌-◌, ◌≤◌}
use mathlib.Core.Path.{◌≡◌, refl, sym, ap, ◌∙◌}
use mathlib.Core.Bool.{Bool, true, false, not, cond, ◌&&◌, ◌||◌}
use mathlib.Core.List.{List, [], ◌∷◌, ◌++◌, append_assoc}
use native.Mathlib.Omega.{arith}
use lib.Dec.{ltb, leb}
use lib.ListN.{length, take, drop, length-take, length-drop, length-append, take-append-drop}
use lib.Seq.{length-take-le, drop-append-le, take-take, take_at, drop_at}
use borrow.Author.Tests.{ltb-true, ltb-false, le-leb}
use Rattle.sets.proofs.Bools.{and_both, or_right}
use Rattle.numbers.specs.Number.{rank_of, is_sample}
use Rattle.numbers.specs.Refusals.{row, answer_of, is_done, done, Rows}
use Rattle.numbers.specs.Promise.{Left1}
use Rattle.rising.specs.Runs.{room_of}
use Rattle.rtps_reader_proxy.specs.Parts.{count_unsent}
use Rattle.rtps_reader_proxy.specs.declared.proxy.ReaderProxy.{ReaderProxy}
use Rattle.rtps_reader_proxy.specs.declared.proxy.Changed.{Changed}
use Rattle.rtps_reader_proxy.specs.Reader.{notified}
use Rattle.rtps_reader_proxy.specs.Record.{room_for, unsent_coherent}
use Rattle.rtps_reader_proxy.specs.Unsent.{notified_of, by_unsent}
use Rattle.rtps_reader_proxy.proofs.UnsentCalls.{unsent-is}
use Rattle.reader_record.proofs.Whole.{ProxyIs, proxy-is}
use Rattle.reader_record.proofs.UnsentInPart.{unsent_part_ok, notify_in_part}
use Rattle.writer_send_buffer.specs.declared.flow.Numbered.{Numbered}
use Rattle.writer_write.specs.Write.{UnsentPart, told}
use Rattle.writer_write.specs.Places.{is_free, own_of, reader_at}
use Rattle.writer_write.specs.Coherent.{place_coherent}
use Rattle.writer_write.specs.Standing.{ReaderPlace, vacant, keeps, place_at}
use Rattle.writer_write.proofs.Parts.{own_in, own_capped, put_long}
use Rattle.writer_write.proofs.Tells.{told_one, Given, free-cap, told_free, put-told}
use Rattle.writer_write.proofs.Unchanged.{start_back}

-- a reader that is told keeps its cap
pub cap-stays : (m : Numbered) (k : UnsentPart) → (told_one m k).proxy.unsent_cap ≡ k.proxy.unsent_cap
cap-stays m k = go (is_done m.answer) (is_done (answer_of rows))
  where
    h : ReaderProxy
    h = k.proxy

    rows : Rows
    rows = row 1 refl (not (room_for 1 h.unsent_cap h.unsent_count k.unsent && unsent_coherent h k.unsent)) ∷ row 2 refl (not (is_sample m.number)) ∷ []

    new : List ℕ
    new = (notified (rank_of m.number) (by_unsent h k.unsent)).unsent

    leaves : Bool → Left1 Changed (List ℕ)
    leaves d = cond d (record { result = record { answer = done; proxy = count_unsent (length new) h }; first = room_of (length k.unsent) new }) (record { result = record { answer = answer_of rows; proxy = h }; first = k.unsent })

    go : (t d : Bool) → (cond t (record { proxy = (leaves d).result.proxy; unsent = (leaves d).first }) k).proxy.unsent_cap ≡ k.proxy.unsent_cap
    go true true = refl
    go true false = refl
    go false d = refl

not_free : (p : ReaderProxy) → 1 ≤ p.unsent_cap → is_free p ≡ false
not_free p h = go (is_free p) refl
  where
    go : (t : Bool) → is_free p ≡ t → t ≡ false
    go true e = absurd (omega (arith, free-cap p e))
    go false e = refl

module _ (s : ℕ) (h : ReaderProxy) (v : List ℕ) (long : s ≤ length v) where
  abbrev after : Numbered → UnsentPart
  after m = told_one m (reader_at s h v)

  -- what the stretch is then
  abbrev pub stretch : Numbered → List ℕ
  stretch m = (after m).unsent ++ drop (length (after m).unsent) (take s v)

  -- A FREE PLACE
  module _ (free : is_free h ≡ true) (m : Numbered) where
    same : after m ≡ reader_at s h v
    same = go (is_done m.answer)
      where
        go : (t : Bool) → cond t (told m.number (reader_at s h v)) (reader_at s h v) ≡ reader_at s h v
        go true = sym (told_free m.number (reader_at s h v) free)
        go false = refl

    pub vacant_stretch : stretch m ≡ take s v
    vacant_stretch = ap (λ (k : UnsentPart). k.unsent ++ drop (length k.unsent) (take s v)) same ∙ start_back s (own_of s h) v (own_in s h)

    pub vacant-after : (rest : List ℕ) → place_at s (after m).proxy (stretch m ++ rest) ≡ vacant h (take s v)
    vacant-after rest =
        ap (λ (k : UnsentPart). place_at s k.proxy (stretch m ++ rest)) same
        ∙ ap (λ (t : Bool). cond t (vacant h (take s (stretch m ++ rest))) (keeps (record { proxy = h; unsent = take h.unsent_cap (take s (stretch m ++ rest)) }) (drop h.unsent_cap (take s (stretch m ++ rest))))) free
        ∙ ap (vacant h) (take_at (stretch m) rest s (ap length vacant_stretch ∙ length-take-le s v long) ∙ vacant_stretch)

  -- A READER
  module _ (fit : h.unsent_cap ≤ s) (ok : unsent_coherent h (take h.unsent_cap (take s v)) ≡ true) where
    abbrev own : ℕ
    own = own_of s h

    abbrev whole : List ℕ
    whole = take h.unsent_cap (take s v)

    abbrev kept : UnsentPart
    kept = record { proxy = h; unsent = whole }

    head : ProxyIs h
    head = proxy-is h (unsent-is h whole ok).proxy

    whole_long : length whole ≡ h.unsent_cap
    whole_long = length-take-le h.unsent_cap (take s v) (omega (arith, length-take-le s v long))

    part_of : take own v ≡ take own whole
    part_of = sym (take-take own h.unsent_cap (take s v) (own_capped s h) ∙ take-take own s v (own_in s h))

    holds_all : h.unsent_count ≤ own
    holds_all = omega (arith, head.unsent)

    part_long : length (take own whole) ≡ own
    part_long = length-take-le own whole (omega (arith, whole_long, own_capped s h))

    -- one more has room in it, or it is the whole
    has_room : room_for 1 h.unsent_cap h.unsent_count (take own whole) ≡ true
    has_room = go (ltb h.unsent_count h.unsent_cap) refl
      where
        go : (t : Bool) → ltb h.unsent_count h.unsent_cap ≡ t → room_for 1 h.unsent_cap h.unsent_count (take own whole) ≡ true
        go true e =
            let w = ltb-true h.unsent_count h.unsent_cap e in
            ap (λ (t : Bool). t || leb h.unsent_cap (length (take own whole))) (le-leb 1 (length (take own whole) - h.unsent_count) (omega (arith, part_long)))
        go false e =
            let w = ltb-false h.unsent_count h.unsent_cap e in
            or_right (leb 1 (length (take own whole) - h.unsent_count)) (leb h.unsent_cap (length (take own whole))) (le-leb h.unsent_cap (length (take own whole)) (omega (arith, part_long)))

    pub part-coherent : place_coherent h (take own v) ≡ true
    part-coherent =
        or_right (is_free h) (room_for 1 h.unsent_cap h.unsent_count (take own v) && unsent_coherent h (take own v))
        (ap (λ (l : List ℕ). room_for 1 h.unsent_cap h.unsent_count l && unsent_coherent h l) part_of
        ∙ and_both (room_for 1 h.unsent_cap h.unsent_count (take own whole)) (unsent_coherent h (take own whole)) has_room (unsent_part_ok h whole ok whole_long own holds_all (own_capped s h)))

    module _ (m : Numbered) where
      -- the part that is told, with what is not looked at, is the whole that is told
      in_part : ((after m).proxy ≡ (told_one m kept).proxy) × ((after m).unsent ++ drop own whole ≡ (told_one m kept).unsent)
      in_part = go (is_done m.answer)
        where
          go : (t : Bool)
              → ((cond t (told m.number (reader_at s h v)) (reader_at s h v)).proxy ≡ (cond t (told m.number kept) kept).proxy)
              × ((cond t (told m.number (reader_at s h v)) (reader_at s h v)).unsent ++ drop own whole ≡ (cond t (told m.number kept) kept).unsent)
          go true =
              let e = notify_in_part h whole ok whole_long own holds_all (own_capped s h) m.number has_room in (
                ap (λ (l : List ℕ). (notified_of m.number h l).result.proxy) part_of ∙ ap (λ (c : Changed). c.proxy) e.0,
                ap (λ (l : List ℕ). (notified_of m.number h l).first ++ drop own whole) part_of ∙ e.1,
              )
          go false = (refl, ap (λ (l : List ℕ). l ++ drop own whole) part_of ∙ take-append-drop own whole)

      module _ (given : Given m) where
        after_long : length (after m).unsent ≡ own
        after_long =
            ap (λ (k : UnsentPart). length k.unsent) (sym (put-told m given (reader_at s h v) (omega (arith, length-take own v, own_capped s h)) part-coherent))
            ∙ put_long m (reader_at s h v) ∙ length-take-le own v (omega (arith, own_in s h))

        told_long : length (told_one m kept).unsent ≡ h.unsent_cap
        told_long = ap length (sym in_part.1) ∙ length-append (after m).unsent (drop own whole) ∙ omega (arith, after_long, length-drop own whole, whole_long, own_capped s h)

        pub kept_stretch : stretch m ≡ (told_one m kept).unsent ++ drop h.unsent_cap (take s v)
        kept_stretch =
            ap (λ (c : ℕ). (after m).unsent ++ drop c (take s v)) after_long
            ∙ ap (λ (l : List ℕ). (after m).unsent ++ drop own l) (sym (take-append-drop h.unsent_cap (take s v)))
            ∙ ap (λ (l : List ℕ). (after m).unsent ++ l) (drop-append-le own whole (drop h.unsent_cap (take s v)) (omega (arith, whole_long, own_capped s h)))
            ∙ sym (append_assoc (after m).unsent (drop own whole) (drop h.unsent_cap (take s v)))
            ∙ ap (λ (l : List ℕ). l ++ drop h.unsent_cap (take s v)) in_part.1

        pub kept_long : length (stretch m) ≡ s
        kept_long =
            ap length kept_stretch ∙ length-append (told_one m kept).unsent (drop h.unsent_cap (take s v))
            ∙ omega (arith, told_long, length-drop h.unsent_cap (take s v), length-take-le s v long)

        abbrev shown : ReaderProxy → ℕ → List ℕ → ReaderPlace
        shown p c w = keeps (record { proxy = p; unsent = take c w }) (drop c w)

        abbrev rest_of : List ℕ
        rest_of = drop h.unsent_cap (take s v)

        pub kept-after : (rest : List ℕ) → place_at s (after m).proxy (stretch m ++ rest) ≡ keeps (told_one m kept) (drop h.unsent_cap (take s v))
        kept-after rest =
            ap (λ (t : Bool). cond t (vacant p (take s (stretch m ++ rest))) (shown p p.unsent_cap (take s (stretch m ++ rest)))) (not_free p (omega (arith, cap-stays m (reader_at s h v), head.cap-low)))
            ∙ ap (λ (c : ℕ). shown p c (take s (stretch m ++ rest))) (cap-stays m (reader_at s h v))
            ∙ ap (shown p h.unsent_cap) (take_at (stretch m) rest s kept_long ∙ kept_stretch)
            ∙ (λ j. keeps (record { proxy = in_part.0 j; unsent = take_at (told_one m kept).unsent rest_of h.unsent_cap told_long j }) (drop_at (told_one m kept).unsent rest_of h.unsent_cap told_long j))
          where
            p : ReaderProxy
            p = (after m).proxy
