-- What the tests say, as facts on numbers. Assumes nothing.
use Prim.Native.Nat.{ℕ, zero, suc, ◌+◌, ◌-◌, ◌*◌, ◌<◌, ◌≤◌, ◌%◌}
use mathlib.Core.Path.{◌≡◌, refl, sym, ap}
use mathlib.Core.Bool.{Bool, true, false, not, cond, ◌&&◌}
use mathlib.Core.List.{List, [], ◌∷◌}
use native.Mathlib.Nat.{mod-lt, add-sub_cancel, add-zero, suc-add, add-suc}
use native.Mathlib.Omega.{arith}
use lib.Dec.{leb}
use lib.ListN.{length, get_or}
use borrow.Author.Tests.{le-leb, leb-true, ltb-false, eqb-true, eqb-false, not-false}
use Rattle.sets.proofs.Bools.{and_left, and_right, and_both}
use Rattle.numbers.specs.Number.{rank_of, negative}
use Rattle.numbers.specs.declared.sequence_number.SequenceNumber.{SequenceNumber}
use Rattle.numbers.specs.Refusals.{answer_of, is_done, done}
use Rattle.numbers.specs.declared.answer.Answer.{Answer}
use Rattle.numbers.proofs.Refused.{Clear, clear}
use Rattle.writer_send_buffer.specs.declared.limits.Limits.{Limits}
use Rattle.writer_send_buffer.specs.declared.flow.WriterSendBuffer.{WriterSendBuffer}
use Rattle.writer_send_buffer.specs.declared.samples.Located.{Located}
use Rattle.writer_send_buffer.specs.Flow.{Flow, all_of, limit_rows, allowed, coherent_rows, flow_view_coherent, has_room, full, retained}
use Rattle.writer_send_buffer.specs.Buffer.{flow_view, flow_coherent}
use Rattle.writer_send_buffer.specs.Samples.{lengths_fit, store_rows, store_coherent, write_rows, slot_of, slot_start, fetch_rows, bytes_of, locate_of, part_of, sample_shown, none_shown, fetch_of}
use Rattle.writer_send_buffer.proofs.Slots.{slot_in}

pub holds : (bs : List Bool) → all_of bs ≡ true → (i : ℕ) → get_or bs i true ≡ true
holds [] h i = refl
holds (b ∷ []) h zero = h
holds (b ∷ []) h (suc i) = refl
holds (b ∷ (c ∷ bs)) h zero = and_left b (all_of (c ∷ bs)) h
holds (b ∷ (c ∷ bs)) h (suc i) = holds (c ∷ bs) (and_right b (all_of (c ∷ bs)) h) i

abbrev pub Each : List Bool → Type 0
Each [] = Unit {0}
Each (b ∷ bs) = (b ≡ true) × Each bs

pub all_hold : (bs : List Bool) → Each bs → all_of bs ≡ true
all_hold [] e = refl
all_hold (b ∷ []) e = e.0
all_hold (b ∷ (c ∷ bs)) e = and_both b (all_of (c ∷ bs)) e.0 (all_hold (c ∷ bs) e.1)

-- ---- the record
pub record Allowed (l : Limits) : Type 0 where
  pub window_some : 1 ≤ l.window
  pub backlog_some : 1 ≤ l.backlog
  pub retain_some : 1 ≤ l.retain
  pub retain_few : l.retain ≤ l.slots
  pub slots-some : 1 ≤ l.slots
  pub slots-few : l.slots ≤ 256
  pub bytes-some : 1 ≤ l.slot_bytes
  pub bytes-few : l.slot_bytes ≤ 8192

pub allowed-is : (l : Limits) → allowed l ≡ true → Allowed l
allowed-is l h =
    let r = holds (limit_rows l) h in
    record {
      window_some = leb-true _ _ (r 0);
      backlog_some = leb-true _ _ (r 2);
      retain_some = leb-true _ _ (r 4);
      retain_few = leb-true _ _ (r 5);
      slots-some = leb-true _ _ (r 6);
      slots-few = leb-true _ _ (r 7);
      bytes-some = leb-true _ _ (r 8);
      bytes-few = leb-true _ _ (r 9);
    }

pub record Fits (f : Flow) : Type 0 where
  pub last-most : f.last ≤ 9223372036854775806
  pub first_some : 1 ≤ f.first
  pub first_in : f.first ≤ f.last + 1
  pub held : f.last + 1 - f.first ≤ f.limits.slots
  pub sent_in : f.sent ≤ f.last
  pub acked-some : 1 ≤ f.acked
  pub acked_in : f.acked ≤ f.last + 1
  pub are_allowed : allowed f.limits ≡ true

pub fits-is : (f : Flow) → flow_view_coherent f ≡ true → Fits f
fits-is f h =
    let r = holds (coherent_rows f) h in
    record {
      last-most = leb-true _ _ (r 0);
      first_some = leb-true _ _ (r 1);
      first_in = leb-true _ _ (r 2);
      held = leb-true _ _ (r 3);
      sent_in = leb-true _ _ (r 4);
      acked-some = leb-true _ _ (r 5);
      acked_in = leb-true _ _ (r 6);
      are_allowed = r 7;
    }

pub is-fits : (f : Flow) → Fits f → flow_view_coherent f ≡ true
is-fits f h =
    all_hold (coherent_rows f)
    (le-leb _ _ h.last-most, (le-leb _ _ h.first_some, (le-leb _ _ h.first_in, (le-leb _ _ h.held, (le-leb _ _ h.sent_in, (le-leb _ _ h.acked-some, (le-leb _ _ h.acked_in, (h.are_allowed, tt))))))))

pub record Coherent (f : WriterSendBuffer) : Type 0 where
  pub last_not : negative f.last ≡ false
  pub sent_not : negative f.sent ≡ false
  pub numbers : Fits (flow_view f)
  pub limits : Allowed f.limits

pub coherent-is : (f : WriterSendBuffer) → flow_coherent f ≡ true → Coherent f
coherent-is f h =
    let k = and_right (not (negative f.last)) (not (negative f.sent) && flow_view_coherent (flow_view f)) h in
    let n = fits-is (flow_view f) (and_right (not (negative f.sent)) (flow_view_coherent (flow_view f)) k) in
    record {
      last_not = of_not (negative f.last) (and_left (not (negative f.last)) (not (negative f.sent) && flow_view_coherent (flow_view f)) h);
      sent_not = of_not (negative f.sent) (and_left (not (negative f.sent)) (flow_view_coherent (flow_view f)) k);
      numbers = n;
      limits = allowed-is f.limits n.are_allowed;
    }
  where
    of_not : (b : Bool) → not b ≡ true → b ≡ false
    of_not true e = sym e
    of_not false e = refl

-- ---- the lent store
pub record Sound (f : WriterSendBuffer) (space : ℕ) (lens : List ℕ) : Type 0 where
  pub flow : Coherent f
  pub lens-length : length lens ≡ f.limits.slots
  pub space_is : space ≡ f.limits.slots * f.limits.slot_bytes
  pub lens_fit : lengths_fit lens (length lens) f.limits.slot_bytes (rank_of f.first - 1) (rank_of f.last + 1 - rank_of f.first) ≡ true

pub sound_is : (f : WriterSendBuffer) (space : ℕ) (lens : List ℕ) → store_coherent f space lens ≡ true → Sound f space lens
sound_is f space lens h =
    let r = holds (store_rows f space lens) h in
    record { flow = coherent-is f (r 0); lens-length = eqb-true _ _ (r 1); space_is = eqb-true _ _ (r 2); lens_fit = r 3 }

-- a write that is not refused
pub record Writes (f : WriterSendBuffer) (space : ℕ) (lens : List ℕ) (len : ℕ) (opted : Bool) : Type 0 where
  pub sound : Sound f space lens
  pub fits : len ≤ f.limits.slot_bytes
  pub number : rank_of f.last ≡ 9223372036854775806 → ⊥
  pub has_room : has_room (flow_view f) opted ≡ true
  pub slot_free : full (flow_view f) opted ≡ false

pub writes_is : (f : WriterSendBuffer) (space : ℕ) (lens : List ℕ) (len : ℕ) (opted : Bool) → Clear (write_rows f space lens len opted) → Writes f space lens len opted
writes_is f space lens len opted c =
    record {
      sound = sound_is f space lens (not-false _ (c 1 refl));
      fits = ltb-false _ _ (c 4 refl);
      number = eqb-false _ _ (c 5 refl);
      has_room = not-false _ (c 6 refl);
      slot_free = c 7 refl;
    }

pub written_is : (f : WriterSendBuffer) (space : ℕ) (lens : List ℕ) (len : ℕ) (opted : Bool) (a : Answer) → a ≡ answer_of (write_rows f space lens len opted) → a.number ≡ 0
    → Writes f space lens len opted
written_is f space lens len opted a q e = writes_is f space lens len opted (clear (write_rows f space lens len opted) a q e)

-- ---- slots
pub slot_below : (f : WriterSendBuffer) (m : ℕ) → Allowed f.limits → m % f.limits.slots < f.limits.slots
slot_below f m a = mod-lt m a.slots-some

pub next_slot : (f : Flow) (n : ℕ) → slot_of f (n + 1) ≡ n % f.limits.slots
next_slot f n = ap (λ (m : ℕ). m % f.limits.slots) (add-sub_cancel n 1)

-- ---- a retained sample
pub fit_at : (l : List ℕ) (s b m c i : ℕ) → lengths_fit l s b m c ≡ true → i < c → get_or l ((m + i) % s) 0 ≤ b
fit_at l s b m zero i h k = absurd (omega arith)
fit_at l s b m (suc c) zero h k = rw add-zero (leb-true _ _ (and_left (leb (get_or l (m % s) 0) b) (lengths_fit l s b (suc m) c) h))
fit_at l s b m (suc c) (suc i) h k =
    let q : m + suc i ≡ suc m + i = omega arith in
    rw q (fit_at l s b (suc m) c i (and_right (leb (get_or l (m % s) 0) b) (lengths_fit l s b (suc m) c) h) (omega arith))

pub fit_of : (l : List ℕ) (s b m c : ℕ) → ((i : ℕ) → i < c → get_or l ((m + i) % s) 0 ≤ b) → lengths_fit l s b m c ≡ true
fit_of l s b m zero h = refl
fit_of l s b m (suc c) h =
    let p : get_or l (m % s) 0 ≤ b = rw add-zero at (h 0 (omega arith)) in
    and_both (leb (get_or l (m % s) 0) b) (lengths_fit l s b (suc m) c) (le-leb _ _ p) (fit_of l s b (suc m) c (λ i k. rw (suc-add m i, ← add-suc m i) (h (suc i) (omega arith))))

pub record Fetches (f : WriterSendBuffer) (space : ℕ) (lens : List ℕ) (n : ℕ) : Type 0 where
  pub sound : Sound f space lens
  pub low : rank_of f.first ≤ n
  pub high : n ≤ rank_of f.last

pub fetches_is : (f : WriterSendBuffer) (space : ℕ) (lens : List ℕ) (n : SequenceNumber) → Clear (fetch_rows f space lens n) → Fetches f space lens (rank_of n)
fetches_is f space lens n c =
    let r : retained (rank_of n) (flow_view f) ≡ true = not-false _ (c 14 refl) in
    record {
      sound = sound_is f space lens (not-false _ (c 1 refl));
      low = leb-true _ _ (and_left (leb (rank_of f.first) (rank_of n)) (leb (rank_of n) (rank_of f.last)) r);
      high = leb-true _ _ (and_right (leb (rank_of f.first) (rank_of n)) (leb (rank_of n) (rank_of f.last)) r);
    }

pub fetched-is : (f : WriterSendBuffer) (space : ℕ) (lens : List ℕ) (n : SequenceNumber) (a : Answer) → a ≡ answer_of (fetch_rows f space lens n) → a.number ≡ 0 → Fetches f space lens (rank_of n)
fetched-is f space lens n a q e = fetches_is f space lens n (clear (fetch_rows f space lens n) a q e)

module _ (f : WriterSendBuffer) (space : ℕ) (lens : List ℕ) (so : Sound f space lens) (n : ℕ) (low : rank_of f.first ≤ n) (high : n ≤ rank_of f.last) where
  pub length-fits : get_or lens (slot_of (flow_view f) n) 0 ≤ f.limits.slot_bytes
  length-fits =
      let q : rank_of f.first - 1 + (n - rank_of f.first) ≡ n - 1 = omega (arith, so.flow.numbers.first_some) in
      let h : get_or lens ((rank_of f.first - 1 + (n - rank_of f.first)) % length lens) 0 ≤ f.limits.slot_bytes =
      fit_at lens (length lens) f.limits.slot_bytes (rank_of f.first - 1) (rank_of f.last + 1 - rank_of f.first) (n - rank_of f.first) so.lens_fit (omega arith) in
      rw (q, so.lens-length) at h

  pub sample_in : slot_start (flow_view f) n + get_or lens (slot_of (flow_view f) n) 0 ≤ space
  sample_in = omega (arith, length-fits, slot_in f.limits.slot_bytes (slot_below f (n - 1) so.flow.limits), so.space_is)

-- ---- the part that is fetched
module _ (f : WriterSendBuffer) (space : ℕ) (lens : List ℕ) (n : SequenceNumber) where
  abbrev found : Located
  found = record { answer = done; start = slot_start (flow_view f) (rank_of n); length = get_or lens (slot_of (flow_view f) (rank_of n)) 0 }

  abbrev gone : Located
  gone = record { answer = answer_of (fetch_rows f space lens n); start = 0; length = 0 }

  -- what `locate` names lies within the store, so who cuts there, as the C side does, reads the store alone
  pub located_in : (locate_of f space lens n).start + (locate_of f space lens n).length ≤ space
  located_in = go (is_done (answer_of (fetch_rows f space lens n))) refl
    where
      go : (t : Bool) → is_done (answer_of (fetch_rows f space lens n)) ≡ t → (cond t found gone).start + (cond t found gone).length ≤ space
      go true e =
          let k = fetched-is f space lens n (answer_of (fetch_rows f space lens n)) refl (eqb-true _ _ e) in
          sample_in f space lens k.sound (rank_of n) k.low k.high
      go false e = omega arith

  fetched-there : (s : List ℕ) → length s ≡ space → record { answer = (locate_of f space lens n).answer; bytes = part_of (locate_of f space lens n) s } ≡ fetch_of f s lens n
  fetched-there s q = rw q (go (is_done (answer_of (fetch_rows f space lens n))))
    where
      go : (t : Bool) → record { answer = (cond t found gone).answer; bytes = part_of (cond t found gone) s } ≡ cond t (sample_shown (bytes_of (flow_view f) s lens (rank_of n))) (none_shown (answer_of (fetch_rows f space lens n)))
      go true = refl
      go false = refl
