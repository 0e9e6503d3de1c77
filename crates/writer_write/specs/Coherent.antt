-- When the readers that stand side by side are coherent. Assumes nothing.
use Rattle.std.specs.Prelude.{ℕ, Bool, true, ◌&&◌, ◌||◌, List, [], ◌∷◌, leb, length, drop}
use Rattle.rtps_reader_proxy.specs.declared.proxy.ReaderProxy.{ReaderProxy}
use Rattle.rtps_reader_proxy.specs.Record.{room_for, unsent_coherent}
use Rattle.writer_write.specs.Places.{is_free, stride_of, reader_at}
use Rattle.numbers.specs.Capacities.{most_readers}

-- a free place is; a reader, if its proxy and what is looked at of its unsent room are, and there is room for one number more
abbrev pub place_coherent : ReaderProxy → List ℕ → Bool
place_coherent h part = is_free h || (room_for 1 h.unsent_cap h.unsent_count part && unsent_coherent h part)

-- 0 to 64 readers: n places, with stretches of s
abbrev pub places_coherent_from : ℕ → ℕ → List ReaderProxy → List ℕ → Bool
places_coherent_from n s [] v = true
places_coherent_from n s (h ∷ hs) v = (leb n most_readers && place_coherent h (reader_at s h v).unsent) && places_coherent_from n s hs (drop s v)

abbrev pub places_coherent : List ReaderProxy → List ℕ → Bool
places_coherent hs u = places_coherent_from (length hs) (stride_of (length hs) u) hs u
