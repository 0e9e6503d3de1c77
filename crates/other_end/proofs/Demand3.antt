-- Demand 3 is proved. Assumes nothing.
use Prim.Native.Nat.{ℕ, zero, suc, ◌+◌, ◌≤◌, ◌<◌, min, max}
use mathlib.Core.Path.{◌≡◌, refl, sym, ap, subst, ◌∙◌}
use mathlib.Core.Bool.{Bool, true, false, not, ◌||◌}
use mathlib.Core.List.{List, []}
use mathlib.Core.Option.{some}
use lib.Dec.{ltb}
use native.Mathlib.Omega.{arith}
use borrow.Author.Tests.{ltb-true}
use Rattle.sets.specs.Sets.{has}
use Rattle.reader_record.proofs.Whole.{form_coherent}
use Rattle.writer_send_buffer.specs.declared.limits.Kind.{Kind}
use Rattle.writer_send_buffer.proofs.Window.{no_trim_with_readers}
use Rattle.writer_send_buffer.proofs.Steps.{form_coherent as flow-coherent}
use Rattle.other_end.specs.Model.{base}
use Rattle.other_end.specs.System.{Line, State, find, start}
use Rattle.other_end.specs.Rounds.{Round, Rounds, clean_round, clean_rounds}
use Rattle.other_end.specs.Coherent.{Coherent}
use Rattle.other_end.specs.Demand3.{Reached, Present, Kept, HasData, HasSettled, StaysKept, MovedOn, rounds_for, Demand3}
use Rattle.other_end.proofs.Gaps.{gap_ge, gap_all, gap_not}
use Rattle.other_end.proofs.Heads.{frontier-low}
use Rattle.other_end.proofs.Forms.{list-coherent}
use Rattle.other_end.proofs.Fine.{Fine, base_pos}
use Rattle.other_end.proofs.Sound.{Sound}
use Rattle.other_end.proofs.Runs.{sound_run, sound_start}
use Rattle.other_end.proofs.AsCalled.{starts, as_called}
use Rattle.other_end.proofs.Beside.{Same}
use Rattle.other_end.proofs.Round.{Runs, runs_round, round_moves}
use Rattle.other_end.proofs.OneByOne.{one_round}
use Rattle.other_end.proofs.Rounds.{rounds_run, reached_runs, levelled, enough}
use Rattle.other_end.proofs.Lasting.{kind-run}

pub sound : (s : State) → Reached s → Sound s
sound s r = subst Sound r.comes (sound_run r.events (start r.kind r.limits r.slots) (sound_start r.kind r.limits r.slots r.allowed r.some r.few))

pub coherent : (s : State) → Reached s → Coherent s
coherent s r =
    let h = sound s r in
    record {
      flow = flow-coherent s.flow h.flow;
      list = list-coherent s.flow.last s.heads h.flow.last-most h.low h.list;
      readers = λ i l e. ((h.lines i l e).valid, form_coherent l.server (h.lines i l e).valid);
      heads = λ i l e. ((h.held i l e).there, (h.held i l e).head);
      records = h.known;
      frontier = frontier-low s.flow.last s.heads h.low;
    }

module _ (s : State) (i : ℕ) (l : Line) (p : Present s i l) where
  fine : Fine s.flow s.careful s.net l
  fine = (sound s p.reached).lines i l p.there

  told : (n : ℕ) → 1 ≤ n → n < max 1 l.server.acked → HasSettled l n
  told n a q = gap_all 1 l.model.settled n fine.rise a (omega (arith, fine.credit p.anew, base_pos s.flow s.careful s.net l fine))

module _ (s : State) (i : ℕ) (l : Line) (k : Kept s i l) where
  kept : (s.flow.first ≤ max 1 l.server.acked) × (l.model.settled ≡ l.model.samples)
  kept = (fine s i l k.present).kept (k.writer, k.careful) (k.early, k.reliable, k.present.anew)

  below : (n : ℕ) → 1 ≤ n → n < max 1 l.server.acked → HasData l n
  below n a q = subst (λ (u : List ℕ). has u n ≡ true) kept.1 (told s i l k.present n a q)

  held : (n : ℕ) → 1 ≤ n → n < base l.model → HasData l n
  held n a q = subst (λ (u : List ℕ). has u n ≡ true) kept.1 (gap_all 1 l.model.settled n (fine s i l k.present).rise a q)

-- a line that is there after a run, the same but for its record and what it received, is present, and kept if it was
stays : (s : State) (i : ℕ) (l : Line) → Present s i l → (s' : State) (l' : Line) → Runs s s' → find i s'.lines ≡ some l' → Same l l' → Present s' i l' × StaysKept s s' i l l'
stays s i l p s' l' r f e = (there, λ k c. let w = still k c in (w, held s' i l' w))
  where
    there : Present s' i l'
    there = record { reached = reached_runs s s' p.reached r; there = f; anew = e.anew ∙ p.anew }

    kind : s'.flow.kind.reliable ≡ s.flow.kind.reliable
    kind = ap (λ (y : State). y.flow.kind.reliable) (sym r.1) ∙ ap (λ (k : Kind). k.reliable) (kind-run r.0 s)

    still : Kept s i l → s'.careful ≡ true → Kept s' i l'
    still k c = record { present = there; reliable = e.reliable ∙ k.reliable; early = e.since ∙ k.early; writer = kind ∙ k.writer; careful = c }

module _ (s : State) (i : ℕ) (l : Line) (p : Present s i l) where
  level : (s' : State) (r : ℕ) → Rounds i r s s'
      → (l' : Line) × Present s' i l' × (s'.flow.last ≡ s.flow.last)
      × ((n : ℕ) → base l.model + n ≡ suc s.flow.last → rounds_for n (min 256 l.server.cap) ≤ r → base l'.model ≡ suc s.flow.last)
      × (1 ≤ r → (l'.server.acked ≡ base l'.model) × (base l'.model ≡ suc s.flow.last → l'.server.unsent ≡ []))
      × StaysKept s s' i l l'
  level s' r d =
      let v = levelled i r l s s' (sound s p.reached) p.anew p.there d in
      let w = stays s i l p s' v.line (rounds_run i r s s' d) v.found v.same in (
        v.line,
        w.0,
        v.last,
        λ n e q. let z = v.on (suc s.flow.last) (omega arith) (enough (base l.model) n (min 256 l.server.cap) r (suc s.flow.last) (omega (arith, (fine s i l p).valid.cap-low)) e q) in omega (arith, z, v.within),
        λ q. v.agrees (λ e. absurd (omega arith)),
        w.1,
      )

  round : (s' : State) → Round i s s'
      → (l' : Line) × Present s' i l' × (s'.flow.last ≡ s.flow.last) × (l'.server.cap ≡ l.server.cap) × MovedOn s.flow.last l l' × StaysKept s s' i l l'
  round s' d =
      let m = round_moves i l s.flow.last s s' (sound s p.reached) (record { found = p.there; last = refl }) p.anew d in
      let w = stays s i l p s' m.0 (runs_round i s s' d) m.1 m.3 in
      (m.0, w.0, m.2, m.3.cap, m.4, w.1)

always : (r : ℕ) (s : State) (i : ℕ) (l : Line) → Present s i l → Rounds i r s (clean_rounds i r s)
always zero s i l p = refl
always (suc r) s i l p =
    let d = one_round i l s (sound s p.reached) p.there in
    let m = round s i l p (clean_round i s) d in
    ([], tt, clean_round i s, d, always r (clean_round i s) i m.0 m.1)

-- "Its base is the smallest positive number not settled"
pub base-is : (s : State) (i : ℕ) (l : Line) → Present s i l → (1 ≤ base l.model) × (has l.model.settled (base l.model) ≡ false) × ((n : ℕ) → 1 ≤ n → n < base l.model → HasSettled l n)
base-is s i l p =
    let f = fine s i l p in
    (gap_ge 1 l.model.settled, gap_not 1 l.model.settled f.rise, λ n a q. gap_all 1 l.model.settled n f.rise a q)

pub demand_3 : Demand3
demand_3 =
    record {
      credit = λ s i l k n a q. below s i l k n a (omega arith);
      frontier = λ s i l k n a q. below s i l k n a (omega (arith, ((fine s i l k.present).front k.reliable).1));
      through = λ s i l k t y n a q.
          let f = (fine s i l k.present).front k.reliable in
          let w : t < s.flow.acked = ltb-true t s.flow.acked (sym (ap (λ (p : Bool). not p || ltb t s.flow.acked) f.0) ∙ y) in
          below s i l k n a (omega (arith, f.1, w));
      evicted = λ s i l k n a q. below s i l k n a (omega (arith, (kept s i l k).0));
      untrimmed = λ s i l k opted. no_trim_with_readers s.flow opted k.writer ((fine s i l k.present).front k.reliable).0;
      round = λ s s' i l p d. round s i l p s' d;
      one_by_one = λ s i l p. one_round i l s (sound s p.reached) p.there;
      told = λ s i l p n a q. told s i l p n a (omega arith);
      level = λ s s' i r l p d. level s i l p s' r d;
      always = λ s i l p r. always r s i l p;
      coherent = coherent;
      starts = starts;
      calls = λ s r e. as_called s (sound s r) e;
    }
