-- Place after place looked at, or the number put into it, is what the definitions say of all of them: what a turn makes of what is left, with what is done. Assumes nothing.
use Prim.Native.Nat.{ℕ, suc, ◌+◌, ◌-◌, ◌*◌, ◌≤◌, ◌<◌}
use mathlib.Core.Path.{◌≡◌, refl, sym, ap, ◌∙◌}
use mathlib.Core.Bool.{Bool, true, false, ◌&&◌}
use mathlib.Core.List.{List, [], ◌∷◌, ◌++◌, map, append_assoc}
use native.Mathlib.Nat.{suc-mul, add-sub_cancel_left}
use native.Mathlib.Omega.{arith}
use lib.Dec.{leb}
use lib.ListN.{length, take, drop, get_or, set, length-drop, length-append, take-append-drop}
use lib.Seq.{length-take-le, drop-append-le, drop-drop, drop-cons, take-suc-set, take_at, drop_at}
use Rattle.std.proofs.lemmas.List.{drop-set-lt, drop_all}
use Rattle.sets.proofs.Bools.{and_assoc}
use Rattle.numbers.specs.Promise.{Gives1}
use Rattle.rising.specs.Runs.{run_with}
use Rattle.rtps_reader_proxy.specs.Parts.{count_unsent}
use Rattle.rtps_reader_proxy.specs.declared.proxy.ReaderProxy.{ReaderProxy}
use Rattle.writer_write.specs.Write.{UnsentPart}
use Rattle.writer_write.specs.Places.{stride_of, own_of, reader_at, readers_from, proxies_of, laid_from}
use Rattle.writer_write.specs.Coherent.{place_coherent, places_coherent_from, places_coherent}
use Rattle.writer_write.specs.Turns.{with_number}
use Rattle.writer_write.proofs.Parts.{own_in, joined_long}

-- what stands from place i on begins with that place
module _ (s : ℕ) (u : List ℕ) (i : ℕ) where
  next_at : drop s (drop (i * s) u) ≡ drop (suc i * s) u
  next_at = drop-drop s (i * s) u ∙ ap (λ (k : ℕ). drop k u) (sym (suc-mul i s))

  -- place i is lent as what lies from its start to an end
  pub lent-is : (z own : ℕ) → z ≡ own → take (i * s + z - i * s) (drop (i * s) u) ≡ take own (drop (i * s) u)
  lent-is z own e = ap (λ (c : ℕ). take c (drop (i * s) u)) (add-sub_cancel_left (i * s) z ∙ e)

-- LOOKED AT: whether the places are coherent, however many they are
abbrev pub all_looked : ℕ → List ReaderProxy → List ℕ → Bool
all_looked s [] v = true
all_looked s (h ∷ hs) v = place_coherent h (reader_at s h v).unsent && all_looked s hs (drop s v)

pub look-turn : (s : ℕ) (hs : List ReaderProxy) (u : List ℕ) (i : ℕ) (d : ReaderProxy) (t ok all : Bool) (z : ℕ) → i < length hs → z ≡ own_of s (get_or hs i d)
    → ok ≡ place_coherent (get_or hs i d) (take (i * s + z - i * s) (drop (i * s) u))
    → (t && all_looked s (drop i hs) (drop (i * s) u)) ≡ all → ((t && ok) && all_looked s (drop (suc i) hs) (drop (suc i * s) u)) ≡ all
look-turn s hs u i d t ok all z lt ez eo e = and_assoc t ok (all_looked s (drop (suc i) hs) (drop (suc i * s) u)) ∙ ap (λ (b : Bool). t && b) (sym here) ∙ e
  where
    h : ReaderProxy
    h = get_or hs i d

    looked : place_coherent h (reader_at s h (drop (i * s) u)).unsent ≡ ok
    looked = sym (eo ∙ ap (place_coherent h) (lent-is s u i z (own_of s h) ez))

    here : all_looked s (drop i hs) (drop (i * s) u) ≡ ok && all_looked s (drop (suc i) hs) (drop (suc i * s) u)
    here =
        ap (λ (l : List ReaderProxy). all_looked s l (drop (i * s) u)) (drop-cons hs i d lt)
        ∙ (λ j. looked j && all_looked s (drop (suc i) hs) (next_at s u i j))

-- and that they are no more than 64
few-looked : (n s : ℕ) (hs : List ReaderProxy) (v : List ℕ) → leb n 64 ≡ true → all_looked s hs v ≡ places_coherent_from n s hs v
few-looked n s [] v e = refl
few-looked n s (h ∷ hs) v e = rw e (ap (λ (b : Bool). place_coherent h (reader_at s h v).unsent && b) (few-looked n s hs (drop s v) e))

looked-from : (hs : List ReaderProxy) (s : ℕ) (v : List ℕ) → (leb (length hs) 64 && all_looked s hs v) ≡ places_coherent_from (length hs) s hs v
looked-from [] s v = refl
looked-from (h ∷ hs) s v = go (leb (suc (length hs)) 64) refl
  where
    go : (b : Bool) → leb (suc (length hs)) 64 ≡ b → (leb (suc (length hs)) 64 && all_looked s (h ∷ hs) v) ≡ places_coherent_from (suc (length hs)) s (h ∷ hs) v
    go true e = ap (λ (b : Bool). b && all_looked s (h ∷ hs) v) e ∙ few-looked (suc (length hs)) s (h ∷ hs) v e
    go false e = rw e refl

pub looked-all : (hs : List ReaderProxy) (u : List ℕ) (i s : ℕ) (t : Bool) → length hs ≤ i → s ≡ stride_of (length hs) u
    → (t && all_looked s (drop i hs) (drop (i * s) u)) ≡ (leb (length hs) 64 && all_looked s hs u) → t ≡ places_coherent hs u
looked-all hs u i s t done es e =
    and_true t ∙ ap (λ (l : List ReaderProxy). t && all_looked s l (drop (i * s) u)) (sym (drop_all i hs done)) ∙ e
    ∙ looked-from hs s u ∙ ap (λ (z : ℕ). places_coherent_from (length hs) z hs u) es
  where
    and_true : (t : Bool) → t ≡ (t && true)
    and_true true = refl
    and_true false = refl

-- PUT: a stretch, x over its first numbers, and then the other stretches
stretch : (x v : List ℕ) (c s : ℕ) → length x ≡ c → c ≤ s → s ≤ length v → x ++ drop c v ≡ (x ++ drop (length x) (take s v)) ++ drop s v
stretch x v c s e l f =
    ap (λ (w : List ℕ). x ++ drop c w) (sym (take-append-drop s v))
    ∙ ap (λ (w : List ℕ). x ++ w) (drop-append-le c (take s v) (drop s v) (omega (arith, length-take-le s v f)) ∙ ap (λ (z : ℕ). drop z (take s v) ++ drop s v) (sym e))
    ∙ sym (append_assoc x (drop (length x) (take s v)) (drop s v))

-- the proxies and the room that come of it, where the places before i are done and r is put into the others
abbrev pub told_from : ℕ → ℕ → List ReaderProxy → List ℕ → List UnsentPart
told_from r s hs v = map (with_number r) (readers_from s hs v)

abbrev pub proxies_at : ℕ → ℕ → ℕ → List ReaderProxy → List ℕ → List ReaderProxy
proxies_at r s i hs u = take i hs ++ proxies_of (told_from r s (drop i hs) (drop (i * s) u))

abbrev pub room_at : ℕ → ℕ → ℕ → List ReaderProxy → List ℕ → List ℕ
room_at r s i hs u = take (i * s) u ++ laid_from s (told_from r s (drop i hs) (drop (i * s) u)) (drop (i * s) u)

module _ (r s : ℕ) (hs : List ReaderProxy) (u : List ℕ) (i : ℕ) (d : ReaderProxy) (lt : i < length hs) (room : i * s + s ≤ length u) (z c : ℕ) (w : List ℕ) (ez : z ≡ own_of s (get_or hs i d))
    (g : Gives1 c w (run_with r (get_or hs i d).unsent_count (take (i * s + z - i * s) (drop (i * s) u)))) where
  abbrev here : ReaderProxy
  here = get_or hs i d

  abbrev rest : List ℕ
  rest = drop (i * s) u

  abbrev done_here : List UnsentPart
  done_here = told_from r s (drop (suc i) hs) (drop (suc i * s) u)

  abbrev hs' : List ReaderProxy
  hs' = set hs i (count_unsent c here)

  abbrev u' : List ℕ
  u' = take (i * s) u ++ (w ++ drop (i * s + z - i * s) (drop (i * s) u))

  long_rest : s ≤ length rest
  long_rest = omega (arith, room, length-drop (i * s) u)

  -- the number is put into place i
  put : ◌≡◌ {A = UnsentPart} (record { proxy = count_unsent c here; unsent = w }) (with_number r (reader_at s here rest))
  put =
      (λ j. record { proxy = count_unsent (g.result j) here; unsent = g.first j })
      ∙ ap (λ (a : List ℕ). with_number r (record { proxy = here; unsent = a })) (lent-is s u i z (own_of s here) ez)

  own_long : length w ≡ own_of s here
  own_long = ap (λ (k : UnsentPart). length k.unsent) put ∙ joined_long r here.unsent_count (take (own_of s here) rest) ∙ length-take-le (own_of s here) rest (omega (arith, own_in s here, long_rest))

  abbrev own_stretch : List ℕ
  own_stretch = w ++ drop (length w) (take s rest)

  stretch_long : length own_stretch ≡ s
  stretch_long = length-append w (drop (length w) (take s rest)) ∙ (rw (length-drop (length w) (take s rest), length-take-le s rest long_rest, own_long) (omega (arith, own_in s here)))

  before_long : length (take (i * s) u) ≡ i * s
  before_long = length-take-le (i * s) u (omega (arith, room))

  through : length (take (i * s) u ++ own_stretch) ≡ suc i * s
  through = length-append (take (i * s) u) own_stretch ∙ omega (arith, before_long, stretch_long, suc-mul i s)

  laid : u' ≡ (take (i * s) u ++ own_stretch) ++ drop (suc i * s) u
  laid =
      ap (λ (k : ℕ). take (i * s) u ++ (w ++ drop k rest)) (add-sub_cancel_left (i * s) z ∙ ez)
      ∙ ap (λ (l : List ℕ). take (i * s) u ++ l) (stretch w rest (own_of s here) s own_long (own_in s here) long_rest ∙ ap (λ (l : List ℕ). own_stretch ++ l) (next_at s u i))
      ∙ sym (append_assoc (take (i * s) u) own_stretch (drop (suc i * s) u))

  front : take (suc i * s) u' ≡ take (i * s) u ++ own_stretch
  front = ap (take (suc i * s)) laid ∙ take_at (take (i * s) u ++ own_stretch) (drop (suc i * s) u) (suc i * s) through

  back : drop (suc i * s) u' ≡ drop (suc i * s) u
  back = ap (drop (suc i * s)) laid ∙ drop_at (take (i * s) u ++ own_stretch) (drop (suc i * s) u) (suc i * s) through

  same_left : told_from r s (drop (suc i) hs') (drop (suc i * s) u') ≡ done_here
  same_left = λ j. told_from r s (drop-set-lt (suc i) hs i (count_unsent c here) (omega arith) j) (back j)

  begins : told_from r s (drop i hs) rest ≡ record { proxy = count_unsent c here; unsent = w } ∷ done_here
  begins =
      ap (λ (l : List ReaderProxy). told_from r s l rest) (drop-cons hs i d lt)
      ∙ (λ j. sym put j ∷ told_from r s (drop (suc i) hs) (next_at s u i j))

  pub proxies-turn : proxies_at r s (suc i) hs' u' ≡ proxies_at r s i hs u
  proxies-turn =
      (λ j. take-suc-set hs i (count_unsent c here) lt j ++ proxies_of (same_left j))
      ∙ append_assoc (take i hs) (count_unsent c here ∷ []) (proxies_of done_here)
      ∙ ap (λ (l : List UnsentPart). take i hs ++ proxies_of l) (sym begins)

  pub room-turn : room_at r s (suc i) hs' u' ≡ room_at r s i hs u
  room-turn =
      (λ j. front j ++ laid_from s (same_left j) (back j))
      ∙ append_assoc (take (i * s) u) own_stretch (laid_from s done_here (drop (suc i * s) u))
      ∙ ap (λ (l : List ℕ). take (i * s) u ++ (own_stretch ++ laid_from s done_here l)) (sym (next_at s u i))
      ∙ ap (λ (l : List UnsentPart). take (i * s) u ++ laid_from s l rest) (sym begins)
