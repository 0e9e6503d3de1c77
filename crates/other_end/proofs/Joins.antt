-- A match, a departure and an ACKNACK keep what holds of every state. Assumes nothing.
use Prim.Native.Nat.{ℕ, suc, ◌+◌, ◌≤◌, max}
use mathlib.Core.Path.{◌≡◌, refl, sym, ap, subst, ◌∙◌}
use mathlib.Core.Bool.{Bool, true, false, not, cond, ◌&&◌, ◌||◌, false≢true}
use mathlib.Core.Logic.{◌⊎◌, inl, inr}
use mathlib.Core.List.{List}
use mathlib.Core.Option.{Option, none, some}
use lib.Dec.{leb, eqb}
use native.Mathlib.Omega.{arith}
use borrow.Author.Tests.{leb-true, eqb-true, eqb-false, eq-eqb, ne_eqb, le-ltb, ltb-false, not-true, not-false}
use Rattle.sets.specs.Sets.{has}
use Rattle.sets.proofs.Bools.{or_right, and_left, and_right, clash}
use Rattle.numbers.specs.Refusals.{answer_of, is_done}
use Rattle.numbers.proofs.Refused.{Clear}
use Rattle.number_sets.specs.Bits.{NumberSet, members}
use Rattle.rtps_reader_proxy.specs.Reader.{base_of, acked_after, acknowledge}
use Rattle.reader_record.proofs.Kept.{fresh-valid}
use Rattle.reader_list.specs.Readers.{Head, free, frontier, place_of_id, is_there, head_at, matched, departed}
use Rattle.reader_list.proofs.Kept.{fits-matched, fits-departed, fits-acknowledged}
use Rattle.writer_send_buffer.specs.Flow.{Flow, stored}
use Rattle.writer_send_buffer.proofs.Sound.{Fits}
use Rattle.writer_send_buffer.proofs.Steps.{fits-stored}
use Rattle.other_end.specs.Model.{base}
use Rattle.other_end.specs.System.{Line, State, find, upd, dropped, line_head, on_server, match_refusals, newcomer, line_matched, line_departed, ack_refusals, acked_heads, acknowledges}
use Rattle.other_end.proofs.Found.{some-line, find-id, find-upd, find-stays, find-left, find-kept, apart_upd, apart_dropped}
use Rattle.other_end.proofs.Heads.{there_other, head_other, set_own, known_is, is_known, gone, fits-different, frontier_at_lem, Low, low_set, low_at, frontier-low}
use Rattle.other_end.proofs.Records.{within-fresh}
use Rattle.other_end.proofs.Calls.{done-clear, both_false}
use Rattle.other_end.proofs.Fine.{Fine, fine_ack, fine_flow}
use Rattle.other_end.proofs.Sound.{Held, Sound}

-- the frontier, stored: what it is against a reliable line
front_stored : (f : Flow) (hs : List Head) (j : ℕ) (l : Line) → Held hs j l → l.reliable ≡ true → ((stored (frontier hs) f).present ≡ true) × ((stored (frontier hs) f).acked ≤ max 1 l.server.acked)
front_stored f hs j l h r =
    let w = frontier_at_lem j hs (ap (λ (x : Head). x.reliable) h.head ∙ r) in
    let a : (head_at j hs).acked ≡ l.server.acked = ap (λ (x : Head). x.acked) h.head in
    let z : eqb (frontier hs) 0 ≡ false = ne_eqb (frontier hs) 0 (λ (q : frontier hs ≡ 0). omega (arith, w.0)) in
    (ap not z, subst (λ (t : Bool). cond t f.acked (frontier hs) ≤ max 1 l.server.acked) (sym z) (omega (arith, w.1, a)))

-- a frontier that isn't past last + 1 can be stored
flow-stored : (f : Flow) → Fits f → (a : ℕ) → a ≤ suc f.last → Fits (stored a f)
flow-stored f h a q = fits-stored f h a (le-ltb (f.last + 1) a (omega arith))

module _ (s : State) (h : Sound s) where
  pub sound_joined : (i : ℕ) (r : Bool) (m : ℕ) → is_done (answer_of (match_refusals i m s)) ≡ true → Sound (line_matched i r m s)
  sound_joined i r m d =
      record {
        lines = λ j l e. each j l (eqb j i) refl e (stands j l e);
        held = stands;
        flow = flow';
        list = fits-matched s.heads h.list i r (c 11 refl);
        low = low';
        ids = λ j l e. known j l (eqb j i) refl e;
        tags = λ k p e. or_right (eqb i p.line) (has s.used p.line) (h.tags k p e);
        sane = h.sane;
        known = λ j e. known_of j (eqb j i) refl (known_is j (matched i r s.heads) e);
        apart = (fresh-id (find i s.lines) refl, h.apart);
      }
    where
      c : Clear (match_refusals i m s)
      c = done-clear (match_refusals i m s) d

      cap : (leb 1 m && leb m 1024) ≡ true
      cap = not-false (leb 1 m && leb m 1024) (c 13 refl)

      nonzero : i ≡ 0 → ⊥
      nonzero = eqb-false i 0 (both_false (eqb i 0) (is_there i s.heads) (c 11 refl)).0

      absent : is_there i s.heads ≡ false
      absent = (both_false (eqb i 0) (is_there i s.heads) (c 11 refl)).1

      roomy : is_there 0 s.heads ≡ true
      roomy = not-false (is_there 0 s.heads) (c 8 refl)

      x : Head
      x = record { id = i; reliable = r; acked = 0; below = false }

      new : Line
      new = newcomer i r m s

      f' : Flow
      f' = (line_matched i r m s).flow

      low' : Low s.flow.last (matched i r s.heads)
      low' = low_set s.flow.last s.heads (place_of_id 0 s.heads) x (omega arith) refl h.low

      flow' : Fits f'
      flow' = flow-stored s.flow h.flow (frontier (matched i r s.heads)) (frontier-low s.flow.last (matched i r s.heads) low')

      own : (is_there i (matched i r s.heads) ≡ true) × (head_at i (matched i r s.heads) ≡ x)
      own = set_own 0 x s.heads roomy (inr absent)

      stands : (j : ℕ) (l : Line) → cond (eqb j i) (some new) (find j s.lines) ≡ some l → Held (matched i r s.heads) j l
      stands j l e = go (eqb j i) refl e
        where
          go : (t : Bool) → eqb j i ≡ t → cond t (some new) (find j s.lines) ≡ some l → Held (matched i r s.heads) j l
          go true q e =
              subst (λ (k : ℕ). Held (matched i r s.heads) k l) (sym (eqb-true j i q))
              (record { some_id = nonzero; there = own.0; head = own.1 ∙ ap line_head (some-line e) })
          go false q e =
              let o = h.held j l e in
              let a : 0 ≡ j → ⊥ = λ (z : 0 ≡ j). o.some_id (sym z) in
              let b : i ≡ j → ⊥ = λ (z : i ≡ j). eqb-false j i q (sym z) in
              record { some_id = o.some_id; there = there_other 0 j x a b s.heads ∙ o.there; head = head_other 0 j x a b s.heads ∙ o.head }

      fresh-id : (o : Option Line) → find i s.lines ≡ o → o ≡ none
      fresh-id none e = refl
      fresh-id (some l) e = clash (is_there i s.heads) (h.held i l e).there absent

      known_of : (j : ℕ) (t : Bool) → eqb j i ≡ t → ((j ≡ 0) → ⊥) × (is_there j (matched i r s.heads) ≡ true) → (l : Line) × (cond t (some new) (find j s.lines) ≡ some l)
      known_of j true q k = (new, refl)
      known_of j false q k =
          let a : 0 ≡ j → ⊥ = λ (z : 0 ≡ j). k.0 (sym z) in
          let b : i ≡ j → ⊥ = λ (z : i ≡ j). eqb-false j i q (sym z) in
          h.known j (is_known j s.heads k.0 (sym (there_other 0 j x a b s.heads) ∙ k.1))

      each : (j : ℕ) (l : Line) (t : Bool) → eqb j i ≡ t → cond t (some new) (find j s.lines) ≡ some l → Held (matched i r s.heads) j l → Fine f' s.careful s.net l
      each j l false q e o =
          fine_flow s.flow s.careful s.net l (h.lines j l e) f' s.careful refl (λ t. t) (front_stored s.flow (matched i r s.heads) j l o) (λ t k. ((h.lines j l e).kept t k).0)
      each j l true q e o =
          subst (λ (y : Line). (y.reliable ≡ true → (f'.present ≡ true) × (f'.acked ≤ max 1 y.server.acked)) → Fine f' s.careful s.net y) (some-line e)
          (λ fr.
          record {
            rise = tt;
            top = λ n w. absurd (false≢true w);
            known = omega arith;
            valid = fresh-valid m (leb-true 1 m (and_left (leb 1 m) (leb m 1024) cap)) (leb-true m 1024 (and_right (leb 1 m) (leb m 1024) cap));
            within = within-fresh s.flow.last m;
            above = tt;
            credit = λ a. omega arith;
            front = fr;
            kept = λ t k. (omega (arith, h.flow.first_in, k.0), refl);
            mail = λ a k p w z. clash (has s.used i) (ap (has s.used) (sym z) ∙ h.tags k p w) (not-true (has s.used i) a);
          })
          (front_stored s.flow (matched i r s.heads) j l o)

      known : (j : ℕ) (l : Line) (t : Bool) → eqb j i ≡ t → cond t (some new) (find j s.lines) ≡ some l → (eqb i j || has s.used j) ≡ true
      known j l true q e = ap (λ (t : Bool). t || has s.used j) (eq-eqb i j (sym (eqb-true j i q)))
      known j l false q e = or_right (eqb i j) (has s.used j) (h.ids j l e)

  pub sound_left : (i : ℕ) → Sound (line_departed i s)
  sound_left i =
      record {
        lines = λ j l e. let w = find-left i j s.lines l e in fine_flow s.flow s.careful s.net l (h.lines j l w.1) f' s.careful refl (λ t. t) (front_stored s.flow (departed i s.heads) j l (stands j l e)) (λ t k. ((h.lines j l w.1).kept t k).0);
        held = stands;
        flow = flow-stored s.flow h.flow (frontier (departed i s.heads)) (frontier-low s.flow.last (departed i s.heads) low');
        list = fits-departed s.heads h.list i;
        low = low';
        ids = λ j l e. h.ids j l (find-left i j s.lines l e).1;
        tags = h.tags;
        sane = h.sane;
        known = λ j e. stay j (eqb i j) refl (known_is j (departed i s.heads) e);
        apart = apart_dropped i s.lines h.apart;
      }
    where
      stay : (j : ℕ) (t : Bool) → eqb i j ≡ t → ((j ≡ 0) → ⊥) × (is_there j (departed i s.heads) ≡ true) → (l : Line) × (find j (dropped i s.lines) ≡ some l)
      stay j true q k =
          let w : i ≡ j = eqb-true i j q in
          clash (is_there j (departed i s.heads)) k.1 (subst (λ (n : ℕ). is_there j (departed n s.heads) ≡ false) (sym w) (gone j k.0 s.heads (fits-different s.heads h.list)))
      stay j false q k =
          let d = eqb-false i j q in
          let w = h.known j (is_known j s.heads k.0 (sym (there_other i j free d (λ (z : 0 ≡ j). k.0 (sym z)) s.heads) ∙ k.1)) in
          (w.0, find-stays i j d s.lines ∙ w.1)

      f' : Flow
      f' = (line_departed i s).flow

      low' : Low s.flow.last (departed i s.heads)
      low' = low_set s.flow.last s.heads (place_of_id i s.heads) free (omega arith) refl h.low

      stands : (j : ℕ) (l : Line) → find j (dropped i s.lines) ≡ some l → Held (departed i s.heads) j l
      stands j l e =
          let w = find-left i j s.lines l e in
          let o = h.held j l w.1 in
          let b : 0 ≡ j → ⊥ = λ (z : 0 ≡ j). o.some_id (sym z) in
          record { some_id = o.some_id; there = there_other i j free w.0 b s.heads ∙ o.there; head = head_other i j free w.0 b s.heads ∙ o.head }

  pub sound_ack : (i : ℕ) (z : NumberSet) → ((l : Line) (j : ℕ) → find j s.lines ≡ some l → i ≡ l.id → l.anew ≡ true → z.base ≤ base l.model)
      → is_done (answer_of (ack_refusals i z s)) ≡ true → Sound (acknowledges i z s)
  sound_ack i z g d =
      record {
        lines = λ j l' e. let w = find-upd i j up (λ l. refl) s.lines l' e in each j l' w.0 (stands j l' e) w.1 w.2;
        held = stands;
        flow = flow-stored s.flow h.flow (frontier hs') (frontier-low s.flow.last hs' low');
        list = fits-acknowledged s.heads h.list i (acked_after (head_at i s.heads).acked z.base) (c 11 refl);
        low = low';
        ids = λ j l' e. let w = find-upd i j up (λ l. refl) s.lines l' e in h.ids j w.0 w.1;
        tags = h.tags;
        sane = h.sane;
        known = λ j e. let w = knew j (eqb i j) refl (known_is j (acked_heads i z s) e) in find-kept i j up (λ l. refl) s.lines w.0 w.1;
        apart = apart_upd i up (λ l. refl) s.lines h.apart;
      }
    where
      up : Line → Line
      up = on_server (acknowledge s.flow.last z.base (members z))

      c : Clear (ack_refusals i z s)
      c = done-clear (ack_refusals i z s) d

      u : (eqb i 0 ≡ false) × (not (is_there i s.heads) ≡ false)
      u = both_false (eqb i 0) (not (is_there i s.heads)) (c 11 refl)

      nonzero : i ≡ 0 → ⊥
      nonzero = eqb-false i 0 u.0

      here : is_there i s.heads ≡ true
      here = not-false (is_there i s.heads) u.1

      near : base_of z.base ≤ suc s.flow.last
      near = ltb-false (suc s.flow.last) (base_of z.base) (c 12 refl)

      x : Head
      x = record { id = i; reliable = (head_at i s.heads).reliable; acked = acked_after (head_at i s.heads).acked z.base; below = false }

      hs' : List Head
      hs' = acked_heads i z s

      low' : Low s.flow.last (acked_heads i z s)
      low' = low_set s.flow.last s.heads (place_of_id i s.heads) x (omega (arith, near, low_at s.flow.last s.heads (place_of_id i s.heads) h.low)) refl h.low

      knew : (j : ℕ) (t : Bool) → eqb i j ≡ t → ((j ≡ 0) → ⊥) × (is_there j (acked_heads i z s) ≡ true) → (l : Line) × (find j s.lines ≡ some l)
      knew j true q k = h.known j (is_known j s.heads k.0 (subst (λ (n : ℕ). is_there n s.heads ≡ true) (eqb-true i j q) here))
      knew j false q k = let d = eqb-false i j q in h.known j (is_known j s.heads k.0 (sym (there_other i j x d d s.heads) ∙ k.1))

      own : (is_there i (acked_heads i z s) ≡ true) × (head_at i (acked_heads i z s) ≡ x)
      own = set_own i x s.heads here (inl refl)

      stands : (j : ℕ) (l' : Line) → find j (upd i (on_server (acknowledge s.flow.last z.base (members z))) s.lines) ≡ some l' → Held (acked_heads i z s) j l'
      stands j l' e = let w = find-upd i j (on_server (acknowledge s.flow.last z.base (members z))) (λ l. refl) s.lines l' e in go w.0 w.1 w.2
        where
          go : (l : Line) → find j s.lines ≡ some l → ((i ≡ l.id) × (l' ≡ on_server (acknowledge s.flow.last z.base (members z)) l)) ⊎ (((i ≡ j) → ⊥) × (l' ≡ l)) → Held (acked_heads i z s) j l'
          go l e (inl w) =
              let o = h.held j l e in
              let q : i ≡ j = w.0 ∙ find-id j s.lines l e in
              let a : head_at i s.heads ≡ line_head l = subst (λ (k : ℕ). head_at k s.heads ≡ line_head l) (sym q) o.head in
              let v : x ≡ line_head (on_server (acknowledge s.flow.last z.base (members z)) l) =
              ap (λ (y : Head). record { id = i; reliable = y.reliable; acked = acked_after y.acked z.base; below = false }) a
              ∙ ap (λ (k : ℕ). record { id = k; reliable = l.reliable; acked = acked_after l.server.acked z.base; below = false }) w.0 in
              subst (λ (k : ℕ). Held (acked_heads i z s) k l') q (record { some_id = nonzero; there = own.0; head = own.1 ∙ v ∙ ap line_head (sym w.1) })
          go l e (inr w) =
              let o = h.held j l e in
              record { some_id = o.some_id; there = there_other i j x w.0 w.0 s.heads ∙ o.there; head = head_other i j x w.0 w.0 s.heads ∙ o.head ∙ ap line_head (sym w.1) }

      f' : Flow
      f' = (acknowledges i z s).flow

      each : (j : ℕ) (l' l : Line) → Held (acked_heads i z s) j l' → find j s.lines ≡ some l → ((i ≡ l.id) × (l' ≡ on_server (acknowledge s.flow.last z.base (members z)) l)) ⊎ (((i ≡ j) → ⊥) × (l' ≡ l)) → Fine f' s.careful s.net l'
      each j l' l o e (inl w) =
          subst (λ (y : Line). Fine f' s.careful s.net y) (sym w.1)
          (fine_ack s.flow s.careful s.net l (h.lines j l e) f' z h.flow.last-most refl refl (λ t. t) (c 12 refl) (g l j e w.0)
          (front_stored s.flow (acked_heads i z s) j (on_server (acknowledge s.flow.last z.base (members z)) l) (subst (λ (y : Line). Held (acked_heads i z s) j y) w.1 o)))
      each j l' l o e (inr w) =
          subst (λ (y : Line). Fine f' s.careful s.net y) (sym w.1)
          (fine_flow s.flow s.careful s.net l (h.lines j l e) f' s.careful refl (λ t. t)
          (front_stored s.flow (acked_heads i z s) j l (subst (λ (y : Line). Held (acked_heads i z s) j y) w.1 o)) (λ t k. ((h.lines j l e).kept t k).0))
