-- The places with all that is in them, and the readers whose whole rooms stand there: what the theorems on a write speak of. Assumes nothing.
use Rattle.std.specs.Prelude.{ℕ, Bool, true, cond, ◌&&◌, List, [], ◌∷◌, leb, length, take, drop}
use Rattle.rtps_reader_proxy.specs.declared.proxy.ReaderProxy.{ReaderProxy}
use Rattle.rtps_reader_proxy.specs.Reader.{Reader}
use Rattle.rtps_reader_proxy.specs.Record.{unsent_coherent, proxy_of, unsent_room}
use Rattle.writer_write.specs.Write.{UnsentPart, Written}
use Rattle.writer_write.specs.Places.{is_free, stride_of}
use Rattle.writer_write.specs.InPlace.{LeftByWrite}
use Rattle.numbers.specs.Capacities.{most_readers}

-- a free place, with the numbers in its stretch; or a reader with its whole room, and what its stretch has after it
pub data ReaderPlace : Type 0 where
  vacant : ReaderProxy → List ℕ → ReaderPlace
  keeps : UnsentPart → List ℕ → ReaderPlace

-- the place with the proxy h, whose stretch of s numbers is at the start of v: the whole room has as many numbers as the cap
abbrev pub place_at : ℕ → ReaderProxy → List ℕ → ReaderPlace
place_at s h v =
    cond (is_free h) (vacant h (take s v)) (keeps (record { proxy = h; unsent = take h.unsent_cap (take s v) }) (drop h.unsent_cap (take s v)))

abbrev pub places_from : ℕ → List ReaderProxy → List ℕ → List ReaderPlace
places_from s [] v = []
places_from s (h ∷ hs) v = place_at s h v ∷ places_from s hs (drop s v)

abbrev pub places : List ReaderProxy → List ℕ → List ReaderPlace
places hs u = places_from (stride_of (length hs) u) hs u

-- its readers, one after another, and what is done to a reader at its place
abbrev pub readers_at : List ReaderPlace → List UnsentPart
readers_at [] = []
readers_at (vacant h w ∷ ps) = readers_at ps
readers_at (keeps k w ∷ ps) = k ∷ readers_at ps

abbrev pub on_reader : (UnsentPart → UnsentPart) → ReaderPlace → ReaderPlace
on_reader f (vacant h w) = vacant h w
on_reader f (keeps k w) = keeps (f k) w

-- THE READERS WHOSE WHOLE ROOMS STAND in the room u, free places left out
abbrev pub standing : List ReaderProxy → List ℕ → List UnsentPart
standing hs u = readers_at (places hs u)

-- there is room for them: at most 64 places, and each cap fits its stretch
abbrev pub caps_fit : ℕ → List ReaderProxy → Bool
caps_fit s [] = true
caps_fit s (h ∷ hs) = leb h.unsent_cap s && caps_fit s hs

abbrev pub roomy : List ReaderProxy → List ℕ → Bool
roomy hs u = leb (length hs) most_readers && caps_fit (stride_of (length hs) u) hs

-- they are coherent
abbrev pub all_unsent_coherent : List UnsentPart → Bool
all_unsent_coherent [] = true
all_unsent_coherent (k ∷ ks) = unsent_coherent k.proxy k.unsent && all_unsent_coherent ks

-- a reader as it stands
abbrev pub unsent_part_of : Reader → UnsentPart
unsent_part_of r = record { proxy = proxy_of r; unsent = unsent_room r }

-- what a write leaves, with the readers that stand there then
abbrev pub stands_as : LeftByWrite → Written
stands_as o = record { writer = record { result = o.result; first = o.flow; second = o.store; third = o.lens }; readers = standing o.proxies o.unsent }
