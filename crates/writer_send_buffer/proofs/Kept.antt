-- What is written is what is fetched: over any run of calls, each retained number is answered 0 and shows exactly the bytes admitted under it. Assumes nothing.
use Prim.Native.Nat.{ℕ, ◌+◌, ◌-◌, ◌*◌, ◌%◌, ◌<◌, ◌≤◌}
use mathlib.Core.Path.{◌≡◌, refl, sym, ap, subst, ◌∙◌}
use mathlib.Core.Bool.{Bool, true, false, not, cond, ◌&&◌}
use mathlib.Core.Logic.{⊎_elim}
use mathlib.Core.List.{List, [], ◌∷◌, ◌++◌}
use native.Mathlib.Omega.{arith}
use lib.Dec.{ltb, leb}
use lib.ListN.{length, get_or, set, length-set, length-append, get_or-append}
use lib.Seq.{get_or-set_same, get_or-set_other, get_or-append_seam}
use borrow.Author.Tests.{le-leb, leb-true, eq-eqb, eqb-true}
use Rattle.sets.proofs.Bools.{and_left, and_right, and_both}
use Rattle.numbers.specs.Number.{rank_of}
use Rattle.numbers.specs.Refusals.{answer_at, answer_of, is_done, done}
use Rattle.numbers.specs.declared.answer.Answer.{Answer}
use Rattle.numbers.specs.declared.sequence_number.SequenceNumber.{SequenceNumber}
use Rattle.writer_send_buffer.specs.declared.flow.WriterSendBuffer.{WriterSendBuffer}
use Rattle.writer_send_buffer.specs.Flow.{Flow, used_up, admitted, trimmed, retained, ahead, stored, wakes, raised, evicted}
use Rattle.reader_list.specs.Slots.{frontier_of}
use Rattle.writer_send_buffer.specs.Buffer.{flow_view, flow_form, told_no}
use Rattle.writer_send_buffer.specs.Samples.{slot_of, bytes_of, with_bytes, lengths_fit, store_rows, store_coherent, write_rows, Shown, sample_shown, none_shown, fetch_of}
use Rattle.writer_send_buffer.specs.History.{WriterLent, WriterCall, admit, set_acked, set_sent, evict_before, leaves, payloads_after, run_calls, history, Retains}
use Rattle.std.proofs.lemmas.Bool.{cases_lt}
use Rattle.writer_send_buffer.proofs.Slots.{slot_in, apart, over-length, over-same, over_other}
use Rattle.writer_send_buffer.proofs.Sound.{holds, all_hold, Fits, Sound, sound_is, Writes, written_is, slot_below, next_slot, length-fits, fit_of}
use Rattle.writer_send_buffer.proofs.Steps.{by_range, left_by, view_form, form_coherent, After, after, fits-admitted, fits-stored, fits-raised, fits-evicted}

-- ---- what a fetch is answered: 1 where the record or the store isn't coherent, else 14 where the sample isn't retained, else 0
module _ (f : WriterSendBuffer) (s lens : List ℕ) (n : SequenceNumber) where
  pub fetched-answer : (fetch_of f s lens n).answer ≡ answer_at (cond (not (store_coherent f (length s) lens)) 1 (cond (not (retained (rank_of n) (flow_view f))) 14 0))
  fetched-answer = go (store_coherent f (length s) lens) (retained (rank_of n) (flow_view f))
    where
      go : (t u : Bool) → (cond (is_done (answer_at (cond (not t) 1 (cond (not u) 14 0)))) (sample_shown (bytes_of (flow_view f) s lens (rank_of n))) (none_shown (answer_at (cond (not t) 1 (cond (not u) 14 0))))).answer ≡ answer_at (cond (not t) 1 (cond (not u) 14 0))
      go true true = refl
      go true false = refl
      go false u = refl

  -- 0 exactly if they are coherent and the sample is retained
  pub fetched_exactly : is_done (fetch_of f s lens n).answer ≡ (store_coherent f (length s) lens && retained (rank_of n) (flow_view f))
  fetched_exactly = ap is_done fetched-answer ∙ go (store_coherent f (length s) lens) (retained (rank_of n) (flow_view f))
    where
      go : (t u : Bool) → is_done (answer_at (cond (not t) 1 (cond (not u) 14 0))) ≡ (t && u)
      go true true = refl
      go true false = refl
      go false u = refl

  -- a retained sample of a coherent store is shown
  shown-kept : store_coherent f (length s) lens ≡ true → retained (rank_of n) (flow_view f) ≡ true → fetch_of f s lens n ≡ sample_shown (bytes_of (flow_view f) s lens (rank_of n))
  shown-kept c r = go (store_coherent f (length s) lens) (retained (rank_of n) (flow_view f)) c r
    where
      go : (t u : Bool) → t ≡ true → u ≡ true → cond (is_done (answer_at (cond (not t) 1 (cond (not u) 14 0)))) (sample_shown (bytes_of (flow_view f) s lens (rank_of n))) (none_shown (answer_at (cond (not t) 1 (cond (not u) 14 0)))) ≡ sample_shown (bytes_of (flow_view f) s lens (rank_of n))
      go t u p q = rw (p, q)

low_of : (n : ℕ) (f : Flow) → retained n f ≡ true → f.first ≤ n
low_of n f e = leb-true _ _ (and_left (leb f.first n) (leb n f.last) e)

high_of : (n : ℕ) (f : Flow) → retained n f ≡ true → n ≤ f.last
high_of n f e = leb-true _ _ (and_right (leb f.first n) (leb n f.last) e)

retained_of : (n : ℕ) (f : Flow) → f.first ≤ n → n ≤ f.last → retained n f ≡ true
retained_of n f p q = and_both (leb f.first n) (leb n f.last) (le-leb _ _ p) (le-leb _ _ q)

-- ---- a write
module _ (l : WriterLent) (p : List ℕ) (opted : Bool) (w : Writes l.flow (length l.bytes) l.lens (length p) opted) where
  abbrev f : WriterSendBuffer
  f = l.flow

  abbrev v : Flow
  v = flow_view f

  abbrev bytes : ℕ
  bytes = f.limits.slot_bytes

  abbrev slot : ℕ
  slot = v.last % f.limits.slots

  abbrev bytes' : List ℕ
  bytes' = with_bytes l.bytes (slot * bytes) p

  abbrev lens' : List ℕ
  lens' = set l.lens slot (length p)

  abbrev start : ℕ
  start = trimmed v opted

  old : Fits v
  old = w.sound.flow.numbers

  a : After v old opted
  a = after v old opted w.slot_free

  inside : slot < f.limits.slots
  inside = slot_below f v.last w.sound.flow.limits

  within : slot * bytes + bytes ≤ length l.bytes
  within = omega (arith, slot_in bytes inside, w.sound.space_is)

  same-room : length bytes' ≡ length l.bytes
  same-room = over-length l.bytes (slot * bytes) p (omega (arith, within, w.fits))

  -- an older sample that is still retained stands in another slot
  module _ (n : ℕ) (from : start ≤ n) (to : n ≤ v.last) where
    other : slot_of v n ≡ slot → ⊥
    other e = apart f.limits.slots (n - 1) v.last (omega (arith, a.low, old.first_some)) (omega (arith, a.held)) e

    old_length : get_or lens' (slot_of v n) 0 ≡ get_or l.lens (slot_of v n) 0
    old_length = get_or-set_other l.lens slot (slot_of v n) (length p) 0 other

    old_fits : get_or l.lens (slot_of v n) 0 ≤ bytes
    old_fits = length-fits f (length l.bytes) l.lens w.sound n (omega (arith, a.low)) to

    old_bytes : bytes_of v bytes' lens' n ≡ bytes_of v l.bytes l.lens n
    old_bytes = rw old_length (over_other l.bytes p bytes slot (slot_of v n) (get_or l.lens (slot_of v n) 0) within w.fits old_fits other)

  -- the new one shows what was written
  new_length : get_or lens' slot 0 ≡ length p
  new_length = get_or-set_same l.lens slot (length p) 0 (omega (arith, inside, w.sound.lens-length))

  new_bytes : bytes_of v bytes' lens' (v.last + 1) ≡ p
  new_bytes = rw (next_slot v v.last, new_length) (over-same l.bytes (slot * bytes) p (omega (arith, within, w.fits)))

  fitting_lengths : lengths_fit lens' (length lens') bytes (start - 1) (v.last + 1 + 1 - start) ≡ true
  fitting_lengths = fit_of lens' (length lens') bytes (start - 1) (v.last + 1 + 1 - start) each
    where
      each : (i : ℕ) → i < v.last + 1 + 1 - start → get_or lens' ((start - 1 + i) % length lens') 0 ≤ bytes
      each i k =
          let q : start - 1 + i ≡ start + i - 1 = omega (arith, a.low, old.first_some) in
          rw (length-set, w.sound.lens-length, q)
          (⊎_elim
          (λ u. rw (old_length (start + i) (omega arith) (omega arith)) (old_fits (start + i) (omega arith) (omega arith)))
          (λ u.
          let z : start + i - 1 ≡ v.last = omega arith in
          rw (z, new_length) w.fits)
          (cases_lt (start + i) (v.last + 1)))

  abbrev g : Flow
  g = admitted v opted

  new : Fits g
  new = fits-admitted v old opted (not_used w.number) w.slot_free
    where
      not_used : (v.last ≡ 9223372036854775806 → ⊥) → used_up v ≡ false
      not_used n = go (used_up v) refl
        where
          go : (t : Bool) → used_up v ≡ t → t ≡ false
          go true e = absurd (n (eqb-true _ _ e))
          go false e = refl

  seen : flow_view (flow_form g) ≡ g
  seen = view_form g new

  coherent : store_coherent (flow_form g) (length bytes') lens' ≡ true
  coherent =
      all_hold (store_rows (flow_form g) (length bytes') lens')
      (form_coherent g new, (eq-eqb _ _ (length-set l.lens slot (length p) ∙ w.sound.lens-length), (eq-eqb _ _ (same-room ∙ w.sound.space_is), (lens_fit, tt))))
    where
      lens_fit : lengths_fit lens' (length lens') bytes ((flow_view (flow_form g)).first - 1) ((flow_view (flow_form g)).last + 1 - (flow_view (flow_form g)).first) ≡ true
      lens_fit = subst (λ (u : Flow). lengths_fit lens' (length lens') bytes (u.first - 1) (u.last + 1 - u.first) ≡ true) (sym seen) fitting_lengths

  module _ (h : List (List ℕ)) (k : Retains l h) where
    shows : (n : SequenceNumber) → retained (rank_of n) g ≡ true → bytes_of g bytes' lens' (rank_of n) ≡ get_or (h ++ (p ∷ [])) (rank_of n - 1) []
    shows n e =
        let low = low_of (rank_of n) g e in
        let high = high_of (rank_of n) g e in
        ⊎_elim
        (λ u.
        let r : rank_of n ≤ v.last = omega arith in
        let from : v.first ≤ rank_of n = omega (arith, a.low) in
        let q : rank_of n - 1 < length h = omega (arith, k.numbered, old.first_some) in
        let t = retained_of (rank_of n) v from r in
        old_bytes (rank_of n) low r
        ∙ ap (λ (r : Shown). r.bytes) (sym (shown-kept f l.bytes l.lens n k.coherent t) ∙ k.shows n t)
        ∙ sym (get_or-append h (p ∷ []) [] (rank_of n - 1) q))
        (λ u.
        let r : rank_of n ≡ v.last + 1 = omega arith in
        let q : v.last + 1 - 1 ≡ length h = omega (arith, k.numbered) in
        ap (bytes_of v bytes' lens') r ∙ new_bytes ∙ sym (get_or-append_seam h p [] []) ∙ ap (λ (x : ℕ). get_or (h ++ (p ∷ [])) x []) (sym q ∙ ap (λ (x : ℕ). x - 1) (sym r)))
        (cases_lt (rank_of n) (v.last + 1))

    kept-write : Retains (record { flow = flow_form g; bytes = bytes'; lens = lens' }) (h ++ (p ∷ []))
    kept-write =
        record {
          coherent = coherent;
          numbered = length-append h (p ∷ []) ∙ ap (λ (x : ℕ). x + 1) k.numbered ∙ sym (ap (λ (u : Flow). u.last) seen);
          shows = λ n e.
              shown-kept (flow_form g) bytes' lens' n coherent e
              ∙ ap (λ (u : Flow). sample_shown (bytes_of u bytes' lens' (rank_of n))) seen
              ∙ ap sample_shown (shows n (subst (λ (u : Flow). retained (rank_of n) u ≡ true) seen e));
        }

-- ---- a step that leaves the store, the last number and the limits, and only moves the first on
module _ (l : WriterLent) (c : store_coherent l.flow (length l.bytes) l.lens ≡ true) (g : Flow) (gf : Fits g) (on : (flow_view l.flow).first ≤ g.first) (same : g.last ≡ (flow_view l.flow).last) (limits : g.limits ≡ l.flow.limits) where
  abbrev e : WriterSendBuffer
  e = l.flow

  so : Sound e (length l.bytes) l.lens
  so = sound_is e (length l.bytes) l.lens c

  eyed : flow_view (flow_form g) ≡ g
  eyed = view_form g gf

  moved_fit : lengths_fit l.lens (length l.lens) e.limits.slot_bytes (g.first - 1) (g.last + 1 - g.first) ≡ true
  moved_fit = fit_of l.lens (length l.lens) e.limits.slot_bytes (g.first - 1) (g.last + 1 - g.first) each
    where
      each : (i : ℕ) → i < g.last + 1 - g.first → get_or l.lens ((g.first - 1 + i) % length l.lens) 0 ≤ e.limits.slot_bytes
      each i j =
          let q : g.first - 1 + i ≡ g.first + i - 1 = omega (arith, gf.first_some) in
          rw (so.lens-length, q) (length-fits e (length l.bytes) l.lens so (g.first + i) (omega arith) (omega arith))

  moved-coherent : store_coherent (flow_form g) (length l.bytes) l.lens ≡ true
  moved-coherent =
      let r = holds (store_rows e (length l.bytes) l.lens) c in
      all_hold (store_rows (flow_form g) (length l.bytes) l.lens) (form_coherent g gf, (rw limits (r 1), (rw limits (r 2), (fit, tt))))
    where
      fit : lengths_fit l.lens (length l.lens) g.limits.slot_bytes ((flow_view (flow_form g)).first - 1) ((flow_view (flow_form g)).last + 1 - (flow_view (flow_form g)).first) ≡ true
      fit = rw limits (subst (λ (u : Flow). lengths_fit l.lens (length l.lens) e.limits.slot_bytes (u.first - 1) (u.last + 1 - u.first) ≡ true) (sym eyed) moved_fit)

  kept-moved : (h : List (List ℕ)) → Retains l h → Retains (record { flow = flow_form g; bytes = l.bytes; lens = l.lens }) h
  kept-moved h k =
      record {
        coherent = moved-coherent;
        numbered = k.numbered ∙ sym same ∙ sym (ap (λ (u : Flow). u.last) eyed);
        shows = λ n t.
            let t' = subst (λ (u : Flow). retained (rank_of n) u ≡ true) eyed t in
            let from : (flow_view e).first ≤ rank_of n = omega (arith, low_of (rank_of n) g t') in
            let to : rank_of n ≤ (flow_view e).last = omega (arith, high_of (rank_of n) g t') in
            let was = retained_of (rank_of n) (flow_view e) from to in
            shown-kept (flow_form g) l.bytes l.lens n moved-coherent t
            ∙ ap (λ (u : Flow). sample_shown (bytes_of u l.bytes l.lens (rank_of n))) eyed
            ∙ rw limits (sym (shown-kept e l.bytes l.lens n k.coherent was) ∙ k.shows n was);
      }

-- ---- a call, and a run of calls
abbrev Coh : WriterLent → WriterSendBuffer → Type 0
Coh l f = store_coherent f (length l.bytes) l.lens ≡ true

abbrev Ok : WriterLent → List (List ℕ) → WriterSendBuffer → Type 0
Ok l h f = Retains (record { flow = f; bytes = l.bytes; lens = l.lens }) h

-- a call that moves a frontier or the first, refused or not
module _ {A : Type 0} (say : Answer → A) (ok : A) (l : WriterLent) (out : Bool) (g : Flow) (fine : Fits (flow_view l.flow) → out ≡ false → Fits g) (on : (flow_view l.flow).first ≤ g.first) (same : g.last ≡ (flow_view l.flow).last) (limits : g.limits ≡ l.flow.limits) where
  kept-ranged : (h : List (List ℕ)) → Retains l h → Ok l h (left_by (Ok l h) say ok l.flow out g).first
  kept-ranged h k = by_range (Ok l h) say ok l.flow out g k (λ v e. kept-moved l k.coherent g (fine v e) on same limits h k)

  coherent-ranged : Coh l l.flow → Coh l (left_by (Coh l) say ok l.flow out g).first
  coherent-ranged c = by_range (Coh l) say ok l.flow out g c (λ v e. moved-coherent l c g (fine v e) on same limits)

kept_step : (l : WriterLent) (h : List (List ℕ)) → Retains l h → (c : WriterCall) → Retains (leaves c l) (payloads_after c l h)
kept_step l h k (admit p opted) = go (is_done (answer_of (write_rows l.flow (length l.bytes) l.lens (length p) opted))) refl
  where
    go : (t : Bool) → is_done (answer_of (write_rows l.flow (length l.bytes) l.lens (length p) opted)) ≡ t → Retains (leaves (admit p opted) l) (payloads_after (admit p opted) l h)
    go true e =
        let w = written_is l.flow (length l.bytes) l.lens (length p) opted (answer_of (write_rows l.flow (length l.bytes) l.lens (length p) opted)) refl (eqb-true _ _ e) in
        rw (e, next_slot (flow_view l.flow) (flow_view l.flow).last) (kept-write l p opted w h k)
    go false e = rw (e, e) k
kept_step l h k (set_acked a) =
    kept-ranged told_no (record { answer = done; yes = wakes (frontier_of a) (flow_view l.flow) }) l (ahead (frontier_of a) (flow_view l.flow)) (stored (frontier_of a) (flow_view l.flow)) (λ v e. fits-stored (flow_view l.flow) v (frontier_of a) e) (omega arith) refl refl h k
kept_step l h k (set_sent n) =
    kept-ranged told_no (record { answer = done; yes = ltb (rank_of l.flow.sent) (rank_of n) }) l (ltb (rank_of l.flow.last) (rank_of n)) (raised (rank_of n) (flow_view l.flow)) (λ v e. fits-raised (flow_view l.flow) v (rank_of n) e) (omega arith) refl refl h k
kept_step l h k (evict_before n) =
    kept-ranged (λ a. a) done l (ahead (rank_of n) (flow_view l.flow)) (evicted (rank_of n) (flow_view l.flow)) (λ v e. fits-evicted (flow_view l.flow) v (rank_of n) e) (omega arith) refl refl h k

-- COHERENCE IS KEPT by every call, whatever was written before
pub coherent-step : (l : WriterLent) → Coh l l.flow → (c : WriterCall) → Coh (leaves c l) (leaves c l).flow
coherent-step l k (admit p opted) = go (is_done (answer_of (write_rows l.flow (length l.bytes) l.lens (length p) opted))) refl
  where
    go : (t : Bool) → is_done (answer_of (write_rows l.flow (length l.bytes) l.lens (length p) opted)) ≡ t → Coh (leaves (admit p opted) l) (leaves (admit p opted) l).flow
    go true e =
        let w = written_is l.flow (length l.bytes) l.lens (length p) opted (answer_of (write_rows l.flow (length l.bytes) l.lens (length p) opted)) refl (eqb-true _ _ e) in
        rw (e, next_slot (flow_view l.flow) (flow_view l.flow).last) (coherent l p opted w)
    go false e = rw e k
coherent-step l k (set_acked a) =
    coherent-ranged told_no (record { answer = done; yes = wakes (frontier_of a) (flow_view l.flow) }) l (ahead (frontier_of a) (flow_view l.flow)) (stored (frontier_of a) (flow_view l.flow)) (λ v e. fits-stored (flow_view l.flow) v (frontier_of a) e) (omega arith) refl refl k
coherent-step l k (set_sent n) =
    coherent-ranged told_no (record { answer = done; yes = ltb (rank_of l.flow.sent) (rank_of n) }) l (ltb (rank_of l.flow.last) (rank_of n)) (raised (rank_of n) (flow_view l.flow)) (λ v e. fits-raised (flow_view l.flow) v (rank_of n) e) (omega arith) refl refl k
coherent-step l k (evict_before n) =
    coherent-ranged (λ a. a) done l (ahead (rank_of n) (flow_view l.flow)) (evicted (rank_of n) (flow_view l.flow)) (λ v e. fits-evicted (flow_view l.flow) v (rank_of n) e) (omega arith) refl refl k

-- over any run of calls
pub kept : (cs : List WriterCall) (l : WriterLent) (h : List (List ℕ)) → Retains l h → Retains (run_calls cs l) (history cs l h)
kept [] l h k = k
kept (c ∷ cs) l h k = kept cs (leaves c l) (payloads_after c l h) (kept_step l h k c)

-- a coherent store to which nothing was written keeps nothing
pub kept_fresh : (l : WriterLent) → store_coherent l.flow (length l.bytes) l.lens ≡ true → rank_of l.flow.last ≡ 0 → Retains l []
kept_fresh l c z =
    let so = sound_is l.flow (length l.bytes) l.lens c in
    record { coherent = c; numbered = sym z; shows = λ n e. absurd (omega (arith, so.flow.numbers.first_some, low_of (rank_of n) (flow_view l.flow) e, high_of (rank_of n) (flow_view l.flow) e)) }

-- WHAT IS WRITTEN IS WHAT IS FETCHED
pub written_is_fetched : (l : WriterLent) → store_coherent l.flow (length l.bytes) l.lens ≡ true → rank_of l.flow.last ≡ 0 → (cs : List WriterCall) → Retains (run_calls cs l) (history cs l [])
written_is_fetched l c z cs = kept cs l [] (kept_fresh l c z)
