-- Where what is sent lies, and the send step for many, call by call. Assumes nothing.
use Prim.Native.Nat.{ℕ, zero, suc, ◌+◌, ◌≤◌, ◌<◌, min}
use mathlib.Core.Path.{◌≡◌, refl, sym, ap, subst, ◌∙◌}
use mathlib.Core.Bool.{Bool, true, false, not, cond, ◌&&◌, ◌||◌, false≢true}
use mathlib.Core.List.{List, [], ◌∷◌, ◌++◌, map, append_assoc}
use native.Mathlib.Nat.{lt_irrefl}
use native.Mathlib.Omega.{arith}
use lib.Dec.{eqb}
use lib.ListN.{length, take, drop, get_or, set, length-map, take-append-drop}
use lib.Seq.{length-take-le, take_at, take_all, drop-append-le}
use borrow.Author.Tests.{eq-eqb, ne_eqb}
use Rattle.sets.specs.Sets.{has, empty, without}
use Rattle.sets.proofs.Loops.{upto, upto_more}
use Rattle.numbers.specs.Capacities.{top_number}
use Rattle.numbers.specs.Number.{rank_of, number_at}
use Rattle.numbers.specs.Refusals.{row, answer_of, unless, done, is_done}
use Rattle.numbers.specs.Promise.{Left2, Left4, Gives2, Gives4}
use Rattle.numbers.specs.declared.answer.Answer.{Answer}
use Rattle.numbers.proofs.Ranks.{rank_back}
use Rattle.rising.specs.Runs.{filled, room_of}
use Rattle.rising.proofs.Meaning.{room-is, rising_smallest}
use Rattle.rising.proofs.Lists.{filled-length, filled_at, filled_end}
use Rattle.rtps_reader_proxy.specs.Parts.{count_unsent}
use Rattle.rtps_reader_proxy.specs.declared.proxy.ReaderProxy.{ReaderProxy}
use Rattle.rtps_reader_proxy.specs.declared.unsent.Taken.{Taken}
use Rattle.rtps_reader_proxy.specs.Reader.{taken, untaken}
use Rattle.rtps_reader_proxy.specs.Record.{unsent_coherent}
use Rattle.rtps_reader_proxy.specs.Unsent.{taken_of}
use Rattle.rtps_reader_proxy.proofs.UnsentCalls.{UnsentIs, unsent-is, taken_is}
use Rattle.writer_send_buffer.specs.declared.flow.WriterSendBuffer.{WriterSendBuffer}
use Rattle.writer_send_buffer.specs.declared.samples.Located.{Located}
use Rattle.writer_send_buffer.specs.Flow.{retained}
use Rattle.writer_send_buffer.specs.Buffer.{flow_view, fetched}
use Rattle.writer_send_buffer.specs.Samples.{store_coherent, store_rows, slot_start, slot_of, locate_of}
use Rattle.writer_send_buffer.proofs.Sound.{holds}
use Rattle.writer_send_buffer.proofs.Locating.{located_coherent}
use Rattle.writer_steps.specs.declared.many.SentMany.{SentMany}
use Rattle.writer_steps.specs.Many.{Gone, Sending, sending, no_start, starts_at, long_as, most_of, many_left, send_many_of, gone_as, located_start, start_for, length_for, Placeable}
use Rattle.writer_steps.proofs.Repeats.{sending-is}

-- ---- WHERE ONE LIES: what `locate` says of a coherent store, with no look at it
module _ (f : WriterSendBuffer) (room : ℕ) (lens : List ℕ) (ok : store_coherent f room lens ≡ true) where
  abbrev at : Bool → Bool → ℕ → Located
  at t r m = unless (fetched t r) (λ no. record { answer = no; start = 0; length = 0 }) (record { answer = done; start = slot_start (flow_view f) m; length = get_or lens (slot_of (flow_view f) m) 0 })

  length-is : (n : ℕ) → length_for f lens n ≡ long_as f room lens (gone_as f n)
  length-is n = ap (λ (l : Located). l.length) (located_coherent f lens (number_at n) room ok)

  start_is : (n : ℕ) → n ≤ top_number → start_for f lens n ≡ starts_at f room lens (gone_as f n)
  start_is n top = ap located_start (located_coherent f lens (number_at n) room ok ∙ located) ∙ by_cases (retained n (flow_view f)) ∙ ap (λ (l : Located). cond (retained n (flow_view f)) l.start no_start) (sym located)
    where
      located : locate_of f room lens (number_at n) ≡ at true (retained n (flow_view f)) n
      located =
          ap (λ (t : Bool). at t (retained (rank_of (number_at n)) (flow_view f)) (rank_of (number_at n))) ok
          ∙ ap (λ (m : ℕ). at true (retained m (flow_view f)) m) (rank_back n (omega arith))

      by_cases : (t : Bool) → located_start (at true t n) ≡ cond t (at true t n).start no_start
      by_cases true = refl
      by_cases false = refl

-- ---- WHERE EACH LIES: one store more
pub put_next : (F : ℕ → ℕ) (ns t s : List ℕ) (i v : ℕ) → s ≡ upto (filled (map F ns) t) t i → i < length ns → length ns ≤ length t → v ≡ F (get_or ns i 0) → set s i v ≡ upto (filled (map F ns) t) t (i + 1)
put_next F ns t s i v e h l q =
    ap (λ (x : List ℕ). set x i v) e
    ∙ upto_more (filled (map F ns) t) t (filled-length (map F ns) t) i v (omega arith)
    (q ∙ sym (filled_at (map F ns) t i (omega arith) (omega (arith, length-map ns F)) ∙ at_place F ns i h))
  where
    at_place : (G : ℕ → ℕ) (l : List ℕ) (k : ℕ) → k < length l → get_or (map G l) k 0 ≡ G (get_or l k 0)
    at_place G [] k h = absurd (omega arith)
    at_place G (x ∷ xs) zero h = refl
    at_place G (x ∷ xs) (suc k) h = at_place G xs k (omega arith)

pub all_put : (F : ℕ → ℕ) (ns t s : List ℕ) (i : ℕ) → s ≡ upto (filled (map F ns) t) t i → i ≡ length ns → length ns ≤ length t → s ≡ filled (map F ns) t
all_put F ns t s i e h l =
    let same : i ≡ min (length ns) (length t) = omega arith in
    e ∙ ap (upto (filled (map F ns) t) t) same ∙ filled_end (map F ns) t (length ns) (omega (arith, length-map ns F))

-- ---- MANY
-- the answer of the call on the unsent room, or 14
abbrev pub emptied : Bool → Bool → Answer
emptied taken nothing = answer_of (row 1 refl (not taken) ∷ row 14 refl nothing ∷ [])

filled-part : (l s : List ℕ) (k : ℕ) → length l ≤ k → k ≤ length s → filled l (take k s) ++ drop k s ≡ filled l s
filled-part l s k h q =
    ap (λ (x : List ℕ). (x ++ drop (length l) (take k s)) ++ drop k s) (take_all (length (take k s)) l (omega (arith, length-take-le k s q)))
    ∙ append_assoc l (drop (length l) (take k s)) (drop k s)
    ∙ ap (λ (x : List ℕ). l ++ x) (sym (drop-append-le (length l) (take k s) (drop k s) (omega (arith, length-take-le k s q))) ∙ ap (drop (length l)) (take-append-drop k s))
    ∙ ap (λ (x : List ℕ). x ++ drop (length l) s) (sym (take_all (length s) l (omega arith)))

none-held : (l : List ℕ) → eqb (length l) 0 ≡ empty l
none-held [] = refl
none-held (x ∷ xs) = ne_eqb (suc (length xs)) 0 (λ z. lt_irrefl 0 (omega arith))

taken-few : (k : ℕ) (l : List ℕ) → length (taken k l) ≤ k
taken-few zero l = omega arith
taken-few (suc k) [] = omega arith
taken-few (suc k) (n ∷ l) = omega (arith, taken-few k (without n l))

or_true : (a b : Bool) → b ≡ true → (a || b) ≡ true
or_true true b e = refl
or_true false b e = e

module _ (f : WriterSendBuffer) (room : ℕ) (lens : List ℕ) (h : ReaderProxy) (u ns ss ls : List ℕ) where
  abbrev held : List ℕ
  held = take h.unsent_count u

  abbrev k : ℕ
  k = most_of ns ss ls

  abbrev refused_by : Answer → Left4 SentMany (List ℕ) (List ℕ) (List ℕ) (List ℕ)
  refused_by a = record { result = record { answer = a; count = 0; proxy = h }; first = u; second = ns; third = ss; fourth = ls }

  abbrev many_by : Bool → Bool → Bool → Left4 SentMany (List ℕ) (List ℕ) (List ℕ) (List ℕ)
  many_by t v n = unless (row 1 refl (not (t && v)) ∷ row 14 refl n ∷ []) refused_by (many_left f room lens (sending k f h u) ns ss ls)

  module _ (ok : store_coherent f room lens ≡ true) (t : Taken) (u' o : List ℕ) (g : Gives2 t u' o (taken_of h u (take k ns))) (a : Answer) (ea : a ≡ emptied (is_done t.answer) (eqb h.unsent_count 0)) where
    abbrev taken_by : Bool → Left2 Taken (List ℕ) (List ℕ)
    taken_by v =
        unless (row 1 refl (not v) ∷ [])
        (λ x. record { result = record { answer = x; count = 0; proxy = h }; first = u; second = take k ns })
        (record {
          result = record { answer = done; count = length (taken (length (take k ns)) held); proxy = count_unsent (length (untaken (length (take k ns)) held)) h };
          first = room_of (length u) (untaken (length (take k ns)) held);
          second = filled (taken (length (take k ns)) held) (take k ns);
        })

    long : length (take k ns) ≡ k
    long = length-take-le k ns (omega arith)

    -- the unsent room isn't coherent
    module _ (bad : unsent_coherent h u ≡ false) where
      is-bad : Gives2 t u' o (taken_by false)
      is-bad = subst (λ (v : Bool). Gives2 t u' o (taken_by v)) bad g

      bad-left : Gives4 (record { answer = a; count = 0; proxy = h }) u' (o ++ drop k ns) ss ls (many_by true false (empty held))
      bad-left =
          record {
            result = ap (λ (x : Answer). record { answer = x; count = 0; proxy = h }) (ea ∙ ap (λ (x : Taken). emptied (is_done x.answer) (eqb h.unsent_count 0)) is-bad.result);
            first = is-bad.first;
            second = ap (λ (x : List ℕ). x ++ drop k ns) is-bad.second ∙ take-append-drop k ns;
            third = refl;
            fourth = refl;
          }

    module _ (good : unsent_coherent h u ≡ true) where
      is_good : Gives2 t u' o (taken_by true)
      is_good = subst (λ (v : Bool). Gives2 t u' o (taken_by v)) good g

      us : UnsentIs h u
      us = unsent-is h u good

      count-is : length held ≡ h.unsent_count
      count-is = length-take-le h.unsent_count u us.run.fits

      answer-is : a ≡ emptied true (empty held)
      answer-is =
          ea
          ∙ ap (λ (x : Taken). emptied (is_done x.answer) (eqb h.unsent_count 0)) is_good.result
          ∙ ap (emptied true) (ap (λ (n : ℕ). eqb n 0) (sym count-is) ∙ none-held held)

      -- nothing is unsent
      none_left : empty held ≡ true → Gives4 (record { answer = a; count = 0; proxy = h }) u' (o ++ drop k ns) ss ls (many_by true true true)
      none_left e =
          let z : held ≡ [] = is-empty held e in
          let y : untaken (length (take k ns)) held ≡ [] = ap (untaken (length (take k ns))) z ∙ untaken-none (length (take k ns)) in
          let x : taken (length (take k ns)) held ≡ [] = ap (taken (length (take k ns))) z ∙ taken_none (length (take k ns)) in
          record {
            result = ap (λ (b : Answer). record { answer = b; count = 0; proxy = h }) (answer-is ∙ ap (emptied true) e);
            first = is_good.first ∙ ap (room_of (length u)) (y ∙ sym z) ∙ sym (room-is 0 h.unsent_count u us.run);
            second = ap (λ (b : List ℕ). b ++ drop k ns) (is_good.second ∙ ap (λ (b : List ℕ). filled b (take k ns)) x ∙ ap (λ (b : List ℕ). b ++ take k ns) (take-nil (length (take k ns)))) ∙ take-append-drop k ns;
            third = refl;
            fourth = refl;
          }
        where
          is-empty : (l : List ℕ) → empty l ≡ true → l ≡ []
          is-empty [] e = refl
          is-empty (x ∷ xs) e = absurd (false≢true e)

          untaken-none : (m : ℕ) → untaken m [] ≡ []
          untaken-none zero = refl
          untaken-none (suc m) = refl

          taken_none : (m : ℕ) → taken m [] ≡ []
          taken_none zero = refl
          taken_none (suc m) = refl

          take-nil : (m : ℕ) → take {A = ℕ} m [] ≡ []
          take-nil zero = refl
          take-nil (suc m) = refl

      -- what was taken
      took : o ++ drop k ns ≡ filled (taken k held) ns
      took =
          ap (λ (b : List ℕ). b ++ drop k ns) (is_good.second ∙ ap (λ (m : ℕ). filled (taken m held) (take k ns)) long)
          ∙ filled-part (taken k held) ns k (taken-few k held) (omega arith)

      count-taken : t.count ≡ length (taken k held)
      count-taken = ap (λ (x : Taken). x.count) is_good.result ∙ ap (λ (m : ℕ). length (taken m held)) long

      numbers-taken : take t.count (o ++ drop k ns) ≡ taken k held
      numbers-taken =
          ap (λ (m : ℕ). take m (o ++ drop k ns)) count-taken
          ∙ ap (take (length (taken k held))) (took ∙ ap (λ (x : List ℕ). x ++ drop (length (taken k held)) ns) (take_all (length ns) (taken k held) (omega (arith, taken-few k held))))
          ∙ take_at (taken k held) (drop (length (taken k held)) ns) (length (taken k held)) refl

      pub placeable : Placeable (take t.count (o ++ drop k ns)) ss ls
      placeable =
          subst (λ (x : List ℕ). Placeable x ss ls) (sym numbers-taken)
          (record { starts_fit = omega (arith, taken-few k held); fitting_lengths = omega (arith, taken-few k held) })

      -- and sent
      module _ (some : empty held ≡ false) (ss' ls' : List ℕ) (es : ss' ≡ filled (map (start_for f lens) (take t.count (o ++ drop k ns))) ss) (el : ls' ≡ filled (map (length_for f lens) (take t.count (o ++ drop k ns))) ls) where
        sent_so_lem : sending k f h u ≡ record { gone = map (gone_as f) (taken k held); proxy = count_unsent (length (untaken k held)) h; unsent = room_of (length u) (untaken k held) }
        sent_so_lem = sending-is f (holds (store_rows f room lens) ok 0) k h u good

        map_twice : (F : Gone → ℕ) (l : List ℕ) → map F (map (gone_as f) l) ≡ map (λ n. F (gone_as f n)) l
        map_twice F [] = refl
        map_twice F (n ∷ l) = ap (λ (x : List ℕ). F (gone_as f n) ∷ x) (map_twice F l)

        map_same : (l : List ℕ) → map (λ (n : ℕ). n) l ≡ l
        map_same [] = refl
        map_same (n ∷ l) = ap (λ (x : List ℕ). n ∷ x) (map_same l)

        -- each number that was taken is a sample's
        tops : (n : ℕ) → has (taken k held) n ≡ true → n ≤ top_number
        tops n q = (rising_smallest 0 k held us.run.rises).top n (subst (λ (x : List ℕ). has x n ≡ true) (taken_is k 1 held us.run.rises.from) q)

        starts_are : (l : List ℕ) → ((n : ℕ) → has l n ≡ true → n ≤ top_number) → map (start_for f lens) l ≡ map (λ n. starts_at f room lens (gone_as f n)) l
        starts_are [] top = refl
        starts_are (n ∷ l) top =
            λ j. start_is f room lens ok n (top n (ap (λ (b : Bool). b || has l n) (eq-eqb n n refl))) j ∷ starts_are l (λ m q. top m (or_true (eqb n m) (has l m) q)) j

        lengths_are : (l : List ℕ) → map (length_for f lens) l ≡ map (λ n. long_as f room lens (gone_as f n)) l
        lengths_are [] = refl
        lengths_are (n ∷ l) = λ j. length-is f room lens ok n j ∷ lengths_are l j

        all_left : Gives4 (record { answer = a; count = t.count; proxy = t.proxy }) u' (o ++ drop k ns) ss' ls' (many_by true true false)
        all_left =
            subst (λ (s : Sending). Gives4 (record { answer = a; count = t.count; proxy = t.proxy }) u' (o ++ drop k ns) ss' ls' (many_left f room lens s ns ss ls)) (sym sent_so_lem)
            (record {
              result = λ j. record { answer = (answer-is ∙ ap (emptied true) some) j; count = (count-taken ∙ sym (length-map (taken k held) (gone_as f))) j; proxy = (ap (λ (x : Taken). x.proxy) is_good.result ∙ ap (λ (m : ℕ). count_unsent (length (untaken m held)) h) long) j };
              first = is_good.first ∙ ap (λ (m : ℕ). room_of (length u) (untaken m held)) long;
              second = took ∙ ap (λ (x : List ℕ). filled x ns) (sym (map_twice (λ g. g.number) (taken k held) ∙ map_same (taken k held)));
              third = es ∙ ap (λ (x : List ℕ). filled (map (start_for f lens) x) ss) numbers-taken ∙ ap (λ (x : List ℕ). filled x ss) (starts_are (taken k held) tops ∙ sym (map_twice (starts_at f room lens) (taken k held)));
              fourth = el ∙ ap (λ (x : List ℕ). filled (map (length_for f lens) x) ls) numbers-taken ∙ ap (λ (x : List ℕ). filled x ls) (lengths_are (taken k held) ∙ sym (map_twice (long_as f room lens) (taken k held)));
            })

    as_called : (v n : Bool) → unsent_coherent h u ≡ v → empty held ≡ n → many_by true v n ≡ send_many_of f room lens h u ns ss ls
    as_called v n ev en = (λ j. many_by (sym ok j) (sym ev j) (sym en j))

    pub many_refused : (a.number ≡ 0 → ⊥) → Gives4 (record { answer = a; count = 0; proxy = h }) u' (o ++ drop k ns) ss ls (send_many_of f room lens h u ns ss ls)
    many_refused z = go (unsent_coherent h u) refl (empty held) refl
      where
        go : (v : Bool) → unsent_coherent h u ≡ v → (n : Bool) → empty held ≡ n → Gives4 (record { answer = a; count = 0; proxy = h }) u' (o ++ drop k ns) ss ls (send_many_of f room lens h u ns ss ls)
        go false ev n en = subst (Gives4 (record { answer = a; count = 0; proxy = h }) u' (o ++ drop k ns) ss ls) (as_called false (empty held) ev refl) (bad-left ev)
        go true ev true en = subst (Gives4 (record { answer = a; count = 0; proxy = h }) u' (o ++ drop k ns) ss ls) (as_called true true ev en) (none_left ev en)
        go true ev false en = absurd (z (ap (λ (x : Answer). x.number) (answer-is ev ∙ ap (emptied true) en)))

    module _ (z : a.number ≡ 0) where
      pub unsent_good : unsent_coherent h u ≡ true
      unsent_good = go (unsent_coherent h u) refl
        where
          go : (v : Bool) → unsent_coherent h u ≡ v → v ≡ true
          go true ev = refl
          go false ev = absurd (lt_irrefl 0 (omega (arith, z, ap (λ (x : SentMany). x.answer.number) (bad-left ev).result)))

      pub unsent-some : empty held ≡ false
      unsent-some = go (empty held) refl
        where
          go : (n : Bool) → empty held ≡ n → n ≡ false
          go false en = refl
          go true en = absurd (lt_irrefl 0 (omega (arith, z, ap (λ (x : SentMany). x.answer.number) (none_left unsent_good en).result)))

      pub many_done : (ss' ls' : List ℕ) → ss' ≡ filled (map (start_for f lens) (take t.count (o ++ drop k ns))) ss → ls' ≡ filled (map (length_for f lens) (take t.count (o ++ drop k ns))) ls
          → Gives4 (record { answer = a; count = t.count; proxy = t.proxy }) u' (o ++ drop k ns) ss' ls' (send_many_of f room lens h u ns ss ls)
      many_done ss' ls' es el =
          subst (Gives4 (record { answer = a; count = t.count; proxy = t.proxy }) u' (o ++ drop k ns) ss' ls') (as_called true false unsent_good unsent-some) (all_left unsent_good unsent-some ss' ls' es el)

  -- as the code has it: q is as many as the rooms have places for
  module _ (ok : store_coherent f room lens ≡ true) (q m : ℕ) (em : m ≡ min (length ss) (length ls)) (eq : q ≡ min (length ns) m) (t : Taken) (u' o : List ℕ) (g : Gives2 t u' o (taken_of h u (take q ns)))
      (a : Answer) (ea : a ≡ emptied (is_done t.answer) (eqb h.unsent_count 0)) where
    same : q ≡ most_of ns ss ls
    same = eq ∙ ap (min (length ns)) em

    g' : Gives2 t u' o (taken_of h u (take (most_of ns ss ls) ns))
    g' = subst (λ (x : ℕ). Gives2 t u' o (taken_of h u (take x ns))) same g

    pub refused_at : (a.number ≡ 0 → ⊥) → Gives4 (record { answer = a; count = 0; proxy = h }) u' (o ++ drop q ns) ss ls (send_many_of f room lens h u ns ss ls)
    refused_at z = subst (λ (x : ℕ). Gives4 (record { answer = a; count = 0; proxy = h }) u' (o ++ drop x ns) ss ls (send_many_of f room lens h u ns ss ls)) (sym same) (many_refused ok t u' o g' a ea z)

    module _ (z : a.number ≡ 0) where
      pub count_in : t.count ≤ length (o ++ drop q ns)
      count_in =
          subst (λ (x : ℕ). t.count ≤ length (o ++ drop x ns)) (sym same)
          (omega (
            arith,
            count-taken ok t u' o g' a ea (unsent_good ok t u' o g' a ea z),
            ap length (took ok t u' o g' a ea (unsent_good ok t u' o g' a ea z)),
            filled-length (taken (most_of ns ss ls) held) ns,
            taken-few (most_of ns ss ls) held,
          ))

      pub placeable_at : Placeable (take t.count (o ++ drop q ns)) ss ls
      placeable_at = subst (λ (x : ℕ). Placeable (take t.count (o ++ drop x ns)) ss ls) (sym same) (placeable ok t u' o g' a ea (unsent_good ok t u' o g' a ea z))

      pub done_at : (ss' ls' : List ℕ) → ss' ≡ filled (map (start_for f lens) (take t.count (o ++ drop q ns))) ss → ls' ≡ filled (map (length_for f lens) (take t.count (o ++ drop q ns))) ls
          → Gives4 (record { answer = a; count = t.count; proxy = t.proxy }) u' (o ++ drop q ns) ss' ls' (send_many_of f room lens h u ns ss ls)
      done_at ss' ls' es el =
          subst (λ (x : ℕ). Gives4 (record { answer = a; count = t.count; proxy = t.proxy }) u' (o ++ drop x ns) ss' ls' (send_many_of f room lens h u ns ss ls)) (sym same)
          (many_done ok t u' o g' a ea z ss' ls' (subst (λ (x : ℕ). ss' ≡ filled (map (start_for f lens) (take t.count (o ++ drop x ns))) ss) same es)
          (subst (λ (x : ℕ). ls' ≡ filled (map (length_for f lens) (take t.count (o ++ drop x ns))) ls) same el))
