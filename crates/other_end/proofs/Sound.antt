-- What holds of every state that the system can reach. That every step keeps it is in Joins and Runs. Assumes nothing.
use Prim.Native.Nat.{ℕ, zero, suc}
use mathlib.Core.Path.{◌≡◌, refl, sym, ap, subst, ◌∙◌}
use mathlib.Core.Bool.{Bool, true, false, cond}
use mathlib.Core.Logic.{◌⊎◌, inl, inr}
use mathlib.Core.List.{List, ◌∷◌}
use mathlib.Core.Option.{some}
use Rattle.sets.specs.Sets.{has}
use Rattle.numbers.specs.Refusals.{answer_of, is_done, Rows}
use Rattle.reader_list.specs.Readers.{Head, is_there, head_at, readers_coherent}
use Rattle.reader_list.specs.Slots.{id_unknown}
use Rattle.writer_send_buffer.proofs.Sound.{Fits}
use Rattle.other_end.specs.System.{Line, Body, Msg, State, find, upd, nth, line_head, with_lines, post, tried}
use Rattle.other_end.proofs.Found.{some_msg, find-id, find-upd, find-kept, Apart, apart_upd}
use Rattle.other_end.proofs.Heads.{Low}
use Rattle.other_end.proofs.Fine.{Sane, Good, Fine, fine_post}

-- in the list stands, for the id i, the head of the line l
pub record Held (hs : List Head) (i : ℕ) (l : Line) : Type 0 where
  pub some_id : i ≡ 0 → ⊥
  pub there : is_there i hs ≡ true
  pub head : head_at i hs ≡ line_head l

pub record Sound (s : State) : Type 0 where
  pub lines : (i : ℕ) (l : Line) → find i s.lines ≡ some l → Fine s.flow s.careful s.net l
  pub held : (i : ℕ) (l : Line) → find i s.lines ≡ some l → Held s.heads i l
  pub flow : Fits s.flow
  pub list : readers_coherent s.heads ≡ true
  pub low : Low s.flow.last s.heads
  pub ids : (i : ℕ) (l : Line) → find i s.lines ≡ some l → has s.used i ≡ true
  pub tags : (k : ℕ) (m : Msg) → nth s.net k ≡ some m → has s.used m.line ≡ true
  pub sane : (k : ℕ) (m : Msg) → nth s.net k ≡ some m → Sane s.flow.last m.body
  pub known : (i : ℕ) → id_unknown i s.heads ≡ false → (l : Line) × (find i s.lines ≡ some l)
  pub apart : Apart s.lines

pub sound_tried : (r : Rows) (x y : State) → Sound x → (is_done (answer_of r) ≡ true → Sound y) → Sound (tried r x y)
sound_tried r x y p q = go (is_done (answer_of r)) refl
  where
    go : (t : Bool) → is_done (answer_of r) ≡ t → Sound (cond t y x)
    go true e = q e
    go false e = p

module _ (s : State) (h : Sound s) where
  -- lines with the id i changed, in a way that leaves their heads
  pub sound_upd : (i : ℕ) (g : Line → Line) → ((l : Line) → line_head (g l) ≡ line_head l) → ((j : ℕ) (l : Line) → find j s.lines ≡ some l → i ≡ l.id → Fine s.flow s.careful s.net (g l))
      → Sound (with_lines (upd i g s.lines) s)
  sound_upd i g keeps fine =
      record {
        lines = λ j l' e. let w = find-upd i j g ids s.lines l' e in each j l' w.0 w.1 w.2;
        held = λ j l' e. let w = find-upd i j g ids s.lines l' e in stands j l' w.0 (h.held j w.0 w.1) w.2;
        flow = h.flow;
        list = h.list;
        low = h.low;
        ids = λ j l' e. let w = find-upd i j g ids s.lines l' e in h.ids j w.0 w.1;
        tags = h.tags;
        sane = h.sane;
        known = λ j e. let w = h.known j e in find-kept i j g ids s.lines w.0 w.1;
        apart = apart_upd i g ids s.lines h.apart;
      }
    where
      ids : (l : Line) → (g l).id ≡ l.id
      ids l = ap (λ (x : Head). x.id) (keeps l)

      each : (j : ℕ) (l' l : Line) → find j s.lines ≡ some l → ((i ≡ l.id) × (l' ≡ g l)) ⊎ (((i ≡ j) → ⊥) × (l' ≡ l)) → Fine s.flow s.careful s.net l'
      each j l' l e (inl w) = subst (λ (x : Line). Fine s.flow s.careful s.net x) (sym w.1) (fine j l e w.0)
      each j l' l e (inr w) = subst (λ (x : Line). Fine s.flow s.careful s.net x) (sym w.1) (h.lines j l e)

      stands : (j : ℕ) (l' l : Line) → Held s.heads j l → ((i ≡ l.id) × (l' ≡ g l)) ⊎ (((i ≡ j) → ⊥) × (l' ≡ l)) → Held s.heads j l'
      stands j l' l d (inl w) = record { some_id = d.some_id; there = d.there; head = d.head ∙ sym (keeps l) ∙ ap line_head (sym w.1) }
      stands j l' l d (inr w) = subst (λ (x : Line). Held s.heads j x) (sym w.1) d

  pub sound_post : (i : ℕ) (b : Body) → has s.used i ≡ true → Sane s.flow.last b → ((l : Line) → find i s.lines ≡ some l → Good s.flow s.careful l b) → Sound (post i b s)
  sound_post i b u n g =
      record {
        lines = λ j l e. fine_post s.flow s.careful s.net l (h.lines j l e) i b (λ a (q : i ≡ l.id). g l (subst (λ (k : ℕ). find k s.lines ≡ some l) (sym (q ∙ find-id j s.lines l e)) e));
        held = h.held;
        flow = h.flow;
        list = h.list;
        low = h.low;
        ids = h.ids;
        tags = tagged;
        sane = saner;
        known = h.known;
        apart = h.apart;
      }
    where
      tagged : (k : ℕ) (m : Msg) → nth (record { line = i; body = b } ∷ s.net) k ≡ some m → has s.used m.line ≡ true
      tagged zero m e = ap (λ (z : Msg). has s.used z.line) (sym (some_msg e)) ∙ u
      tagged (suc k) m e = h.tags k m e

      saner : (k : ℕ) (m : Msg) → nth (record { line = i; body = b } ∷ s.net) k ≡ some m → Sane s.flow.last m.body
      saner zero m e = subst (λ (z : Msg). Sane s.flow.last z.body) (some_msg e) n
      saner (suc k) m e = h.sane k m e
