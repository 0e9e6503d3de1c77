-- A WRITE ON WHOLE ROOMS: for readers whose whole rooms stand in their stretches, with free places among them, the write in place is the write step on those
-- readers. They are coherent without further premise, and free places and all that stands after a room stay as they are. Assumes nothing.
use Prim.Native.Nat.{ℕ, suc, ◌*◌, ◌/◌, ◌≤◌}
use mathlib.Core.Path.{◌≡◌, refl, sym, ap, ◌∙◌}
use mathlib.Core.Bool.{Bool, true, false, cond, ◌&&◌, ◌||◌}
use mathlib.Core.List.{List, [], ◌∷◌, ◌++◌, map}
use native.Mathlib.Nat.{suc-mul, mul-div-le}
use native.Mathlib.Omega.{arith}
use lib.Dec.{leb}
use lib.ListN.{length, take, drop, length-drop, length-append}
use lib.Seq.{length-take-le, drop_at}
use borrow.Author.Tests.{leb-true}
use Rattle.sets.proofs.Bools.{and_left, and_right, and_both}
use Rattle.rtps_reader_proxy.specs.declared.proxy.ReaderProxy.{ReaderProxy}
use Rattle.rtps_reader_proxy.specs.Record.{room_for, unsent_coherent}
use Rattle.writer_send_buffer.specs.declared.flow.WriterSendBuffer.{WriterSendBuffer}
use Rattle.writer_send_buffer.specs.declared.flow.Numbered.{Numbered}
use Rattle.writer_send_buffer.specs.Samples.{admit_of}
use Rattle.writer_write.specs.Write.{UnsentPart, write_step}
use Rattle.writer_write.specs.Places.{is_free, stride_of, reader_at, readers_from, readers_in, proxies_of, laid_from}
use Rattle.writer_write.specs.Coherent.{place_coherent, places_coherent_from, places_coherent}
use Rattle.writer_write.specs.InPlace.{LeftByWrite, side_by_side, write_incoherent, write_of}
use Rattle.writer_write.specs.Standing.{ReaderPlace, vacant, keeps, place_at, places_from, places, readers_at, on_reader, standing, caps_fit, roomy, all_unsent_coherent, stands_as}
use Rattle.writer_write.proofs.Tells.{told_one, Given, all_ones}
use Rattle.writer_write.proofs.Writes.{is_given}
use Rattle.writer_write.proofs.WholeRooms.{cap-stays, stretch, vacant_stretch, vacant-after, part-coherent, kept_long, kept-after}

readers-told : (g : UnsentPart → UnsentPart) (ps : List ReaderPlace) → readers_at (map (on_reader g) ps) ≡ map g (readers_at ps)
readers-told g [] = refl
readers-told g (vacant h w ∷ ps) = readers-told g ps
readers-told g (keeps k w ∷ ps) = ap (λ (l : List UnsentPart). g k ∷ l) (readers-told g ps)

-- the first place, by whether it is free
module _ (s : ℕ) (h : ReaderProxy) (v : List ℕ) where
  abbrev kept : UnsentPart
  kept = record { proxy = h; unsent = take h.unsent_cap (take s v) }

  abbrev place_by : Bool → ReaderPlace
  place_by t = cond t (vacant h (take s v)) (keeps kept (drop h.unsent_cap (take s v)))

-- COHERENT
coherent_from : (n s : ℕ) → leb n 64 ≡ true → (hs : List ReaderProxy) (v : List ℕ) → caps_fit s hs ≡ true → all_unsent_coherent (readers_at (places_from s hs v)) ≡ true → length hs * s ≤ length v → places_coherent_from n s hs v ≡ true
coherent_from n s few [] v fit ok f = refl
coherent_from n s few (h ∷ hs) v fit ok f =
    go (is_free h) refl ok (λ e. coherent_from n s few hs (drop s v) (and_right (leb h.unsent_cap s) (caps_fit s hs) fit) e (omega (arith, f, suc-mul (length hs) s, length-drop s v)))
  where
    go : (t : Bool) → is_free h ≡ t → all_unsent_coherent (readers_at (place_by s h v t ∷ places_from s hs (drop s v))) ≡ true → (all_unsent_coherent (readers_at (places_from s hs (drop s v))) ≡ true → places_coherent_from n s hs (drop s v) ≡ true)
        → places_coherent_from n s (h ∷ hs) v ≡ true
    go true free ok rest =
        and_both (leb n 64 && place_coherent h (reader_at s h v).unsent) (places_coherent_from n s hs (drop s v))
        (and_both (leb n 64) (place_coherent h (reader_at s h v).unsent) few (ap (λ (t : Bool). t || (room_for 1 h.unsent_cap h.unsent_count (reader_at s h v).unsent && unsent_coherent h (reader_at s h v).unsent)) free)) (rest ok)
    go false q ok rest =
        and_both (leb n 64 && place_coherent h (reader_at s h v).unsent) (places_coherent_from n s hs (drop s v))
        (and_both (leb n 64) (place_coherent h (reader_at s h v).unsent) few
        (part-coherent s h v (omega (arith, f, suc-mul (length hs) s)) (leb-true h.unsent_cap s (and_left (leb h.unsent_cap s) (caps_fit s hs) fit)) (and_left (unsent_coherent h (kept s h v).unsent) (all_unsent_coherent (readers_at (places_from s hs (drop s v)))) ok)))
        (rest (and_right (unsent_coherent h (kept s h v).unsent) (all_unsent_coherent (readers_at (places_from s hs (drop s v)))) ok))

-- AFTERWARDS, where m is answered
module _ (m : Numbered) (given : Given m) (s : ℕ) where
  abbrev afters : List ReaderProxy → List ℕ → List UnsentPart
  afters hs v = map (told_one m) (readers_from s hs v)

  -- what the list and the room are then, from a place on; and what is known of them
  pub record After (hs : List ReaderProxy) (v : List ℕ) : Type 0 where
    pub are : places_from s (proxies_of (afters hs v)) (laid_from s (afters hs v) v) ≡ map (on_reader (told_one m)) (places_from s hs v)
    pub many : length (proxies_of (afters hs v)) ≡ length hs
    pub long : length (laid_from s (afters hs v) v) ≡ length v
    pub fit : caps_fit s (proxies_of (afters hs v)) ≡ true

  after_from : (hs : List ReaderProxy) (v : List ℕ) → caps_fit s hs ≡ true → all_unsent_coherent (readers_at (places_from s hs v)) ≡ true → length hs * s ≤ length v → After hs v
  after_from [] v fit ok f = record { are = refl; many = refl; long = refl; fit = refl }
  after_from (h ∷ hs) v fit ok f =
      go (is_free h) refl ok (λ e. after_from hs (drop s v) (and_right (leb h.unsent_cap s) (caps_fit s hs) fit) e (omega (arith, f, suc-mul (length hs) s, length-drop s v)))
    where
      here : s ≤ length v
      here = omega (arith, f, suc-mul (length hs) s)

      cap-fits : leb h.unsent_cap s ≡ true
      cap-fits = and_left (leb h.unsent_cap s) (caps_fit s hs) fit

      rest : List UnsentPart
      rest = afters hs (drop s v)

      room : List ℕ
      room = laid_from s rest (drop s v)

      -- the first of all the places then is what p is then, and the room is as long as it was
      First : ReaderPlace → Type 0
      First p =
          (places_from s (proxies_of (afters (h ∷ hs) v)) (laid_from s (afters (h ∷ hs) v) v) ≡ on_reader (told_one m) p ∷ map (on_reader (told_one m)) (places_from s hs (drop s v)))
          × (length (laid_from s (afters (h ∷ hs) v) v) ≡ length v)

      then : (p : ReaderPlace) → place_at s (told_one m (reader_at s h v)).proxy (stretch s h v here m ++ room) ≡ on_reader (told_one m) p → length (stretch s h v here m) ≡ s → After hs (drop s v) → First p
      then p e l r = (
        (λ j. e j ∷ places_from s (proxies_of rest) (drop_at (stretch s h v here m) room s l j)) ∙ ap (λ (ps : List ReaderPlace). on_reader (told_one m) p ∷ ps) r.are,
        length-append (stretch s h v here m) room ∙ omega (arith, l, r.long, length-drop s v, here),
      )

      go : (t : Bool) → is_free h ≡ t → all_unsent_coherent (readers_at (place_by s h v t ∷ places_from s hs (drop s v))) ≡ true → (all_unsent_coherent (readers_at (places_from s hs (drop s v))) ≡ true → After hs (drop s v)) → After (h ∷ hs) v
      go t q ok tail =
          let r = tail (tail_ok t ok) in
          let w = by t q ok r in
          record {
            are = w.0 ∙ ap (λ (b : Bool). on_reader (told_one m) (place_by s h v b) ∷ map (on_reader (told_one m)) (places_from s hs (drop s v))) (sym q);
            many = ap suc r.many;
            long = w.1;
            fit = and_both (leb (told_one m (reader_at s h v)).proxy.unsent_cap s) (caps_fit s (proxies_of rest)) (ap (λ (c : ℕ). leb c s) (cap-stays m (reader_at s h v)) ∙ cap-fits) r.fit;
          }
        where
          tail_ok : (t : Bool) → all_unsent_coherent (readers_at (place_by s h v t ∷ places_from s hs (drop s v))) ≡ true → all_unsent_coherent (readers_at (places_from s hs (drop s v))) ≡ true
          tail_ok true e = e
          tail_ok false e = and_right (unsent_coherent h (kept s h v).unsent) (all_unsent_coherent (readers_at (places_from s hs (drop s v)))) e

          by : (t : Bool) → is_free h ≡ t → all_unsent_coherent (readers_at (place_by s h v t ∷ places_from s hs (drop s v))) ≡ true → After hs (drop s v) → First (place_by s h v t)
          by true free e r = then (vacant h (take s v)) (vacant-after s h v here free m room) (ap length (vacant_stretch s h v here free m) ∙ length-take-le s v here) r
          by false q e r =
              let fits = leb-true h.unsent_cap s cap-fits in
              let o = and_left (unsent_coherent h (kept s h v).unsent) (all_unsent_coherent (readers_at (places_from s hs (drop s v)))) e in
              then (keeps (kept s h v) (drop h.unsent_cap (take s v))) (kept-after s h v here fits o m given room) (kept_long s h v here fits o m given) r

-- THE WRITE
module _ (hs : List ReaderProxy) (u : List ℕ) (room : roomy hs u ≡ true) (ok : all_unsent_coherent (standing hs u) ≡ true) where
  abbrev s : ℕ
  s = stride_of (length hs) u

  caps : caps_fit (stride_of (length hs) u) hs ≡ true
  caps = and_right (leb (length hs) 64) (caps_fit (stride_of (length hs) u) hs) room

  -- they are coherent
  pub standing-coherent : places_coherent hs u ≡ true
  standing-coherent =
      coherent_from (length hs) (stride_of (length hs) u) (and_left (leb (length hs) 64) (caps_fit (stride_of (length hs) u) hs) room) hs u caps ok (mul-div-le (length u) (length hs))

  module _ (f : WriterSendBuffer) (store lens payload : List ℕ) (opted : Bool) where
    abbrev m : Numbered
    m = (admit_of f store lens payload opted).result

    abbrev laid : List UnsentPart → LeftByWrite
    laid ks = side_by_side (record { writer = admit_of f store lens payload opted; readers = ks }) s u

    abbrev ones : List UnsentPart
    ones = map (told_one m) (readers_in hs u)

    -- so the sample is admitted as it is, and each is told
    done_so : write_of f store lens payload opted hs u ≡ laid ones
    done_so =
        ap (λ (t : Bool). side_by_side (cond t (write_step f store lens payload opted (readers_in hs u)) (record { writer = write_incoherent f store lens; readers = readers_in hs u })) s u) standing-coherent
        ∙ ap laid (sym (all_ones m (readers_in hs u)))

    after : After m (is_given f store lens payload opted) s hs u
    after = after_from m (is_given f store lens payload opted) s hs u caps ok (mul-div-le (length u) (length hs))

    same_stride : stride_of (length (laid ones).proxies) (laid ones).unsent ≡ stride_of (length hs) u
    same_stride = λ j. after.long j / after.many j

    -- EVERY PLACE: a free one is as it was, and so is what stands after a room; a reader is told
    pub places-after : places (write_of f store lens payload opted hs u).proxies (write_of f store lens payload opted hs u).unsent ≡ map (on_reader (told_one (write_of f store lens payload opted hs u).result)) (places hs u)
    places-after =
        ap (λ (x : LeftByWrite). places x.proxies x.unsent) done_so
        ∙ ap (λ (z : ℕ). places_from z (laid ones).proxies (laid ones).unsent) same_stride
        ∙ after.are
        ∙ ap (λ (x : LeftByWrite). map (on_reader (told_one x.result)) (places hs u)) (sym done_so)

    -- THE READERS: the write in place is the write step on the readers that stand there
    pub whole_after : stands_as (write_of f store lens payload opted hs u) ≡ write_step f store lens payload opted (standing hs u)
    whole_after =
        ap stands_as done_so
        ∙ ap (λ (ps : List ReaderPlace). record { writer = admit_of f store lens payload opted; readers = readers_at ps })
        (ap (λ (z : ℕ). places_from z (laid ones).proxies (laid ones).unsent) same_stride ∙ after.are)
        ∙ ap (λ (ks : List UnsentPart). record { writer = admit_of f store lens payload opted; readers = ks }) (readers-told (told_one m) (places hs u) ∙ all_ones m (standing hs u))

    -- and there is room for them again
    pub roomy_after : roomy (write_of f store lens payload opted hs u).proxies (write_of f store lens payload opted hs u).unsent ≡ true
    roomy_after =
        ap (λ (x : LeftByWrite). roomy x.proxies x.unsent) done_so
        ∙ and_both (leb (length (laid ones).proxies) 64) (caps_fit (stride_of (length (laid ones).proxies) (laid ones).unsent) (laid ones).proxies)
        (ap (λ (n : ℕ). leb n 64) after.many ∙ and_left (leb (length hs) 64) (caps_fit (stride_of (length hs) u) hs) room)
        (ap (λ (z : ℕ). caps_fit z (laid ones).proxies) same_stride ∙ after.fit)
