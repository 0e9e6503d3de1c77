-- A WRITE THAT IS REFUSED, by whatever row, changes nothing. Assumes nothing.
use Prim.Native.Nat.{ℕ, zero, suc, ◌≤◌}
use mathlib.Core.Path.{◌≡◌, refl, sym, ap, ◌∙◌}
use mathlib.Core.Bool.{Bool, true, false, cond, true≢false}
use mathlib.Core.List.{List, [], ◌∷◌, ◌++◌, map}
use lib.ListN.{length, take, drop, take-append-drop}
use lib.Seq.{take-take}
use Rattle.numbers.specs.Number.{number_at}
use Rattle.numbers.specs.Refusals.{answer_of, is_done}
use Rattle.rtps_reader_proxy.specs.declared.proxy.ReaderProxy.{ReaderProxy}
use Rattle.writer_send_buffer.specs.declared.flow.WriterSendBuffer.{WriterSendBuffer}
use Rattle.writer_send_buffer.specs.declared.flow.Numbered.{Numbered}
use Rattle.writer_send_buffer.specs.Samples.{write_rows}
use Rattle.writer_write.specs.Write.{told, told_all, Written, write_step}
use Rattle.writer_write.specs.Places.{stride_of, own_of, readers_from, readers_in, proxies_of, laid_from}
use Rattle.writer_write.specs.Coherent.{places_coherent}
use Rattle.writer_write.specs.InPlace.{LeftByWrite, side_by_side, write_incoherent, write_of}
use Rattle.writer_write.proofs.Parts.{own_in}
use Rattle.writer_write.proofs.Writes.{by_rows}
use Rattle.numbers.specs.Number.{rank_of}
use Rattle.numbers.specs.Promise.{Gives2}
use Rattle.writer_write.specs.Write.{UnsentPart}
use Rattle.writer_write.specs.Turns.{with_number, put_in_all}
use Rattle.writer_write.proofs.Tells.{map_same}

-- the readers laid where they lay
module _ (s : ℕ) where
  pub heads_back : (hs : List ReaderProxy) (v : List ℕ) → proxies_of (readers_from s hs v) ≡ hs
  heads_back [] v = refl
  heads_back (h ∷ hs) v = ap (λ (l : List ReaderProxy). h ∷ l) (heads_back hs (drop s v))

  -- a stretch, with its own start over it
  pub start_back : (c : ℕ) (v : List ℕ) → c ≤ s → take c v ++ drop (length (take c v)) (take s v) ≡ take s v
  start_back c v l =
      ap (λ (w : List ℕ). w ++ drop (length w) (take s v)) (sym (take-take c s v l)) ∙ own_start c (take s v)
    where
      own_start : (k : ℕ) (w : List ℕ) → take k w ++ drop (length (take k w)) w ≡ w
      own_start zero w = refl
      own_start (suc k) [] = refl
      own_start (suc k) (x ∷ w) = ap (λ (r : List ℕ). x ∷ r) (own_start k w)

  pub room_back : (hs : List ReaderProxy) (v : List ℕ) → laid_from s (readers_from s hs v) v ≡ v
  room_back [] v = refl
  room_back (h ∷ hs) v = (λ j. start_back (own_of s h) v (own_in s h) j ++ room_back hs (drop s v) j) ∙ take-append-drop s v

module _ (f : WriterSendBuffer) (store lens payload : List ℕ) (opted : Bool) (hs : List ReaderProxy) (u : List ℕ) where
  abbrev pub unchanged : Numbered → LeftByWrite
  unchanged r = record { result = r; flow = f; store = store; lens = lens; proxies = hs; unsent = u }

  abbrev laid_as : Written → LeftByWrite
  laid_as w = side_by_side w (stride_of (length hs) u) u

  same-readers : (r : Numbered) → laid_as (record { writer = record { result = r; first = f; second = store; third = lens }; readers = readers_in hs u }) ≡ unchanged r
  same-readers r = λ j. record { result = r; flow = f; store = store; lens = lens; proxies = heads_back (stride_of (length hs) u) hs u j; unsent = room_back (stride_of (length hs) u) hs u j }

  pub refused_unchanged : is_done (write_of f store lens payload opted hs u).result.answer ≡ false → write_of f store lens payload opted hs u ≡ unchanged (write_of f store lens payload opted hs u).result
  refused_unchanged = go (places_coherent hs u)
    where
      by_test : Bool → Written
      by_test t = cond t (write_step f store lens payload opted (readers_in hs u)) (record { writer = write_incoherent f store lens; readers = readers_in hs u })

      step_by : Bool → Written
      step_by d = record { writer = by_rows f store lens payload opted d; readers = told_all (by_rows f store lens payload opted d).result (readers_in hs u) }

      inner : (d : Bool) → is_done (answer_of (write_rows f (length store) lens (length payload) opted)) ≡ d → is_done (step_by d).writer.result.answer ≡ false → laid_as (step_by d) ≡ unchanged (step_by d).writer.result
      inner true q no_row = absurd (true≢false no_row)
      inner false q _ =
          ap (λ (t : Bool). laid_as (record { writer = by_rows f store lens payload opted false; readers = cond t (map (told (number_at 0)) (readers_in hs u)) (readers_in hs u) })) q
          ∙ same-readers (by_rows f store lens payload opted false).result

      go : (t : Bool) → is_done (by_test t).writer.result.answer ≡ false → laid_as (by_test t) ≡ unchanged (by_test t).writer.result
      go true r = inner (is_done (answer_of (write_rows f (length store) lens (length payload) opted))) refl r
      go false r = same-readers (by_test false).writer.result

-- where no number was given, nothing is put
module _ (m : Numbered) (hs : List ReaderProxy) (u : List ℕ) where
  abbrev s : ℕ
  s = stride_of (length hs) u

  abbrev put_by : Bool → List UnsentPart
  put_by t = map (λ k. cond t (with_number (rank_of m.number) k) k) (readers_in hs u)

  pub not_put : is_done m.answer ≡ false → Gives2 m hs u (put_in_all m hs u)
  not_put e =
      record {
        result = refl;
        first = sym (ap (λ (t : Bool). proxies_of (put_by t)) e ∙ ap proxies_of (map_same (readers_in hs u)) ∙ heads_back s hs u);
        second = sym (ap (λ (t : Bool). laid_from s (put_by t) u) e ∙ ap (λ (ks : List UnsentPart). laid_from s ks u) (map_same (readers_in hs u)) ∙ room_back s hs u);
      }
