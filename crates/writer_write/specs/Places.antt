-- Where the readers stand, side by side: their proxies in a list, their unsent rooms in one room, a stretch of it for each. Assumes nothing.
use Rattle.std.specs.Prelude.{ℕ, ◌+◌, ◌/◌, min, Bool, ◌&&◌, List, [], ◌∷◌, ◌++◌, map, eqb, length, take, drop}
use Rattle.numbers.specs.Number.{in_range}
use Rattle.rtps_reader_proxy.specs.declared.proxy.ReaderProxy.{ReaderProxy}
use Rattle.writer_write.specs.Write.{UnsentPart}

-- A FREE PLACE is no reader's: its proxy is all zeros
abbrev pub is_free : ReaderProxy → Bool
is_free h =
    eqb h.unsent_cap 0
    && (eqb h.unsent_count 0
    && (eqb h.gap_count 0
    && (eqb h.frag_count 0
    && (in_range h.all_acked_before 0
    && in_range h.gap_prefix_end 0))))

-- n places share the room u: each has a stretch of so many numbers
abbrev pub stride_of : ℕ → List ℕ → ℕ
stride_of n u = length u / n

-- of a stretch of s, the part that goes by what the reader holds: that and one more, but no more than its cap or the stretch
abbrev pub own_of : ℕ → ReaderProxy → ℕ
own_of s h = min (min h.unsent_cap s) (h.unsent_count + 1)

-- the reader with the proxy h, whose stretch is at the start of v, and that part; and the readers with the proxies hs. A free place's part is empty
abbrev pub reader_at : ℕ → ReaderProxy → List ℕ → UnsentPart
reader_at s h v = record { proxy = h; unsent = take (own_of s h) v }

abbrev pub readers_from : ℕ → List ReaderProxy → List ℕ → List UnsentPart
readers_from s [] v = []
readers_from s (h ∷ hs) v = reader_at s h v ∷ readers_from s hs (drop s v)

-- the readers in the room u
abbrev pub readers_in : List ReaderProxy → List ℕ → List UnsentPart
readers_in hs u = readers_from (stride_of (length hs) u) hs u

-- and back: the proxies, and the room v with each reader's part at the start of its stretch
abbrev pub proxies_of : List UnsentPart → List ReaderProxy
proxies_of ks = map (λ k. k.proxy) ks

abbrev pub laid_from : ℕ → List UnsentPart → List ℕ → List ℕ
laid_from s [] v = v
laid_from s (k ∷ ks) v = (k.unsent ++ drop (length k.unsent) (take s v)) ++ laid_from s ks (drop s v)
