-- What holds of one line in every state that the system can reach, and what keeps it. Assumes nothing.
use Prim.Native.Nat.{ℕ, zero, suc, ◌+◌, ◌≤◌, max}
use mathlib.Core.Path.{◌≡◌, refl, sym, ap, subst, ◌∙◌}
use mathlib.Core.Bool.{Bool, true, false, not}
use mathlib.Core.Logic.{◌⊎◌, inl, inr}
use mathlib.Core.List.{List, ◌∷◌}
use mathlib.Core.Option.{some}
use lib.Dec.{eqb}
use native.Mathlib.Omega.{arith}
use borrow.Author.Tests.{ltb-false}
use Rattle.sets.specs.Sets.{has, From, insert}
use Rattle.sets.proofs.Bools.{or_right, decide}
use Rattle.sets.proofs.Has.{has-insert, From-insert, From-only}
use Rattle.numbers.specs.Capacities.{top_number}
use Rattle.numbers.specs.Refusals.{answer_of, is_done}
use Rattle.number_sets.specs.Bits.{NumberSet, members}
use Rattle.number_sets.proofs.Meaning.{members_rise}
use Rattle.rtps_reader_proxy.specs.Reader.{Reader, base_of, is_ahead, acked_after, acknowledge, notified, marked_sent}
use Rattle.reader_record.specs.Whole.{Valid}
use Rattle.reader_record.proofs.Kept.{notified-valid, marked-valid, acknowledged-valid}
use Rattle.writer_send_buffer.specs.Flow.{Flow}
use Rattle.other_end.specs.Model.{gap_from, got_data, got_gap, got_beat, base}
use Rattle.other_end.specs.Calls.{ReaderCall, result, call_rows}
use Rattle.other_end.specs.System.{Line, Body, sample, gap, beat, ack, Msg, nth, on_server, on_model}
use Rattle.other_end.proofs.Gaps.{gap_ge, gap_le, gap_mono}
use Rattle.other_end.proofs.Found.{some_msg}
use Rattle.other_end.proofs.Records.{in_insert, Above, Within, within-only, within-notified, above_notified, within-acked, above_acked}
use Rattle.other_end.proofs.Calls.{call-acked, above_call, within-call, valid-call}

-- a line matched before the first write, with an id not matched before, and reliable; and: the writer is reliable and has evicted up to the frontier only
abbrev pub Early : Line → Type 0
Early l = (l.since ≡ 0) × (l.reliable ≡ true) × (l.anew ≡ true)

abbrev pub Trusted : Flow → Bool → Type 0
Trusted f c = (f.kind.reliable ≡ true) × (c ≡ true)

-- of every message ever sent
abbrev pub Sane : ℕ → Body → Type 0
Sane last (sample n) = (1 ≤ n) × (n ≤ last)
Sane last (gap n) = (1 ≤ n) × (n ≤ last)
Sane last (beat k) = k ≤ last
Sane last (ack z) = z.base ≤ suc last

-- of every message to or from a line whose id was not matched before
abbrev pub Good : Flow → Bool → Line → Body → Type 0
Good f c l (sample n) = Unit {0}
Good f c l (gap n) = Trusted f c → Early l → ⊥
Good f c l (beat k) = Unit {0}
Good f c l (ack z) = z.base ≤ base l.model

pub record Fine (f : Flow) (c : Bool) (net : List Msg) (l : Line) : Type 0 where
  pub rise : From 1 l.model.settled
  pub top : (n : ℕ) → has l.model.settled n ≡ true → n ≤ f.last
  pub known : l.model.known ≤ f.last
  pub valid : Valid l.server
  pub within : Within f.last l.server
  pub above : Above l.server
  pub credit : l.anew ≡ true → l.server.acked ≤ base l.model
  pub front : l.reliable ≡ true → (f.present ≡ true) × (f.acked ≤ max 1 l.server.acked)
  pub kept : Trusted f c → Early l → (f.first ≤ max 1 l.server.acked) × (l.model.settled ≡ l.model.samples)
  pub mail : l.anew ≡ true → (k : ℕ) (m : Msg) → nth net k ≡ some m → m.line ≡ l.id → Good f c l m.body

pub sane_more : (a b : ℕ) → a ≤ b → (m : Body) → Sane a m → Sane b m
sane_more a b q (sample n) g = (g.0, omega (arith, g.1))
sane_more a b q (gap n) g = (g.0, omega (arith, g.1))
sane_more a b q (beat k) g = omega (arith, g)
sane_more a b q (ack z) g = omega (arith, g)

module _ (f : Flow) (c : Bool) (net : List Msg) (l : Line) (h : Fine f c net l) where
  pub base_pos : 1 ≤ base l.model
  base_pos = gap_ge 1 l.model.settled

  pub base-last : base l.model ≤ suc f.last
  base-last = gap_le 1 l.model.settled (suc f.last) h.rise (omega arith) (off (decide (has l.model.settled (suc f.last))))
    where
      off : (has l.model.settled (suc f.last) ≡ true) ⊎ (has l.model.settled (suc f.last) ≡ false) → has l.model.settled (suc f.last) ≡ false
      off (inl e) = absurd (omega (arith, h.top (suc f.last) e))
      off (inr e) = e

  -- a number that settles, as data or as a gap
  settle_top : (n : ℕ) → n ≤ f.last → (k : ℕ) → has (insert n l.model.settled) k ≡ true → k ≤ f.last
  settle_top n q k e = go (in_insert n k l.model.settled e)
    where
      go : (n ≡ k) ⊎ (has l.model.settled k ≡ true) → k ≤ f.last
      go (inl w) = omega (arith, w)
      go (inr w) = h.top k w

  pub settle_base : (n : ℕ) → 1 ≤ n → base l.model ≤ gap_from 1 (insert n l.model.settled)
  settle_base n p =
      gap_mono 1 l.model.settled (insert n l.model.settled) h.rise (From-insert 1 n l.model.settled p h.rise)
      (λ k e. has-insert n k l.model.settled ∙ or_right (eqb n k) (has l.model.settled k) e)

  -- what is Good stays so as the line comes to know more
  good_more : (f' : Flow) (c' : Bool) (l' : Line) → (Trusted f' c' → Trusted f c) → l'.since ≡ l.since → l'.reliable ≡ l.reliable → l'.anew ≡ l.anew → base l.model ≤ base l'.model
      → (b : Body) → Good f c l b → Good f' c' l' b
  good_more f' c' l' t s r a w (sample n) g = tt
  good_more f' c' l' t s r a w (gap n) g = λ u k. g (t u) (sym s ∙ k.0, sym r ∙ k.1, sym a ∙ k.2)
  good_more f' c' l' t s r a w (beat k) g = tt
  good_more f' c' l' t s r a w (ack z) g = omega (arith, g, w)

  -- WHAT ARRIVES AT THE LINE

  fine_settled : (n : ℕ) (samples : List ℕ) → 1 ≤ n → n ≤ f.last → (Trusted f c → Early l → insert n l.model.settled ≡ samples)
      → Fine f c net (on_model (λ m. record { settled = insert n m.settled; known = max n m.known; samples = samples }) l)
  fine_settled n samples p q same =
      record {
        rise = From-insert 1 n l.model.settled p h.rise;
        top = settle_top n q;
        known = omega (arith, h.known);
        valid = h.valid;
        within = h.within;
        above = h.above;
        credit = λ a. omega (arith, h.credit a, settle_base n p);
        front = h.front;
        kept = λ t k. ((h.kept t k).0, same t k);
        mail = λ a k m e i. good_more f c (on_model (λ m. record { settled = insert n m.settled; known = max n m.known; samples = samples }) l) (λ t. t) refl refl refl (settle_base n p) m.body (h.mail a k m e i);
      }

  pub fine_data : (n : ℕ) → 1 ≤ n → n ≤ f.last → Fine f c net (on_model (got_data n) l)
  fine_data n p q = fine_settled n (insert n l.model.samples) p q (λ t k. ap (insert n) (h.kept t k).1)

  pub fine_gap : (n : ℕ) → 1 ≤ n → n ≤ f.last → (Trusted f c → Early l → ⊥) → Fine f c net (on_model (got_gap n) l)
  fine_gap n p q late = fine_settled n l.model.samples p q (λ t k. absurd (late t k))

  pub fine_beat : (n : ℕ) → n ≤ f.last → Fine f c net (on_model (got_beat n) l)
  fine_beat n q =
      record {
        rise = h.rise;
        top = h.top;
        known = omega (arith, h.known);
        valid = h.valid;
        within = h.within;
        above = h.above;
        credit = h.credit;
        front = h.front;
        kept = h.kept;
        mail = λ a k m e i. good_more f c (on_model (got_beat n) l) (λ t. t) refl refl refl (omega arith) m.body (h.mail a k m e i);
      }

  -- WHAT HAPPENS TO ITS RECORD

  -- a change that leaves acked
  fine_server : (g : Reader → Reader) → (g l.server).acked ≡ l.server.acked → Valid (g l.server) → Within f.last (g l.server) → Above (g l.server) → Fine f c net (on_server g l)
  fine_server g e v w ab =
      record {
        rise = h.rise;
        top = h.top;
        known = h.known;
        valid = v;
        within = w;
        above = ab;
        credit = λ a. omega (arith, h.credit a, e);
        front = λ r. ((h.front r).0, omega (arith, (h.front r).1, e));
        kept = λ t k. (omega (arith, (h.kept t k).0, e), (h.kept t k).1);
        mail = λ a k m e i. good_more f c (on_server g l) (λ t. t) refl refl refl (omega arith) m.body (h.mail a k m e i);
      }

  pub fine_sent : (n : ℕ) → Fine f c net (on_server (marked_sent n) l)
  fine_sent n =
      fine_server (marked_sent n) refl (marked-valid l.server h.valid n) (within-only f.last l.server h.within (λ k. not (eqb n k)))
      (From-only (max 1 l.server.acked) (λ k. not (eqb n k)) l.server.unsent h.above)

  pub fine_call : (d : ReaderCall) → f.last ≤ top_number → is_done (answer_of (call_rows f.last d l.server)) ≡ true → Fine f c net (on_server (result d) l)
  fine_call d q e =
      fine_server (result d) (call-acked d l.server) (valid-call f.last l.server h.valid d q e) (within-call d f.last l.server h.within) (above_call d l.server h.above)

  -- an acknowledgement; `f'` is the flow with the frontier stored
  pub fine_ack : (f' : Flow) (z : NumberSet) → f.last ≤ top_number → f'.last ≡ f.last → f'.first ≡ f.first → (Trusted f' c → Trusted f c) → is_ahead f.last z.base ≡ false
      → (l.anew ≡ true → z.base ≤ base l.model)
      → (l.reliable ≡ true → (f'.present ≡ true) × (f'.acked ≤ max 1 (acked_after l.server.acked z.base)))
      → Fine f' c net (on_server (acknowledge f.last z.base (members z)) l)
  fine_ack f' z top p q t w g fr =
      record {
        rise = h.rise;
        top = λ n e. omega (arith, h.top n e, p);
        known = omega (arith, h.known, p);
        valid = acknowledged-valid l.server h.valid f.last z.base z.base (members z) (members_rise z) top w;
        within =
            subst (λ (n : ℕ). Within n (acknowledge f.last z.base (members z) l.server)) (sym p)
            (within-acked f.last l.server h.within z.base (members z) (ltb-false (suc f.last) (base_of z.base) w));
        above = above_acked f.last l.server h.within z.base (members z) h.above;
        credit = λ a. omega (arith, h.credit a, base_pos, g a);
        front = fr;
        kept = λ u k. (omega (arith, (h.kept (t u) k).0, q), (h.kept (t u) k).1);
        mail = λ a k m e i. good_more f' c (on_server (acknowledge f.last z.base (members z)) l) t refl refl refl (omega arith) m.body (h.mail a k m e i);
      }

  -- a new sample's number, last + 1
  pub fine_notified : (f' : Flow) → f'.last ≤ top_number → f'.last ≡ f.last + 1 → f'.present ≡ f.present → f'.acked ≡ f.acked → (Trusted f' c → Trusted f c) → (Trusted f' c → Early l → f'.first ≡ f.first)
      → Fine f' c net (on_server (notified (f.last + 1)) l)
  fine_notified f' top p pr ac t fi =
      record {
        rise = h.rise;
        top = λ n e. omega (arith, h.top n e, p);
        known = omega (arith, h.known, p);
        valid = notified-valid l.server h.valid (f.last + 1) (omega arith) (omega (arith, p, top));
        within = subst (λ (n : ℕ). Within n (notified (f.last + 1) l.server)) (sym p) (within-notified f.last l.server h.within);
        above = above_notified f.last l.server h.within h.above;
        credit = h.credit;
        front = λ r. (pr ∙ (h.front r).0, omega (arith, (h.front r).1, ac));
        kept = λ u k. (omega (arith, (h.kept (t u) k).0, fi u k), (h.kept (t u) k).1);
        mail = λ a k m e i. good_more f' c (on_server (notified (f.last + 1)) l) t refl refl refl (omega arith) m.body (h.mail a k m e i);
      }

  -- WHAT HAPPENS ELSEWHERE

  -- only the flow changes
  pub fine_flow : (f' : Flow) (c' : Bool) → f'.last ≡ f.last → (Trusted f' c' → Trusted f c)
      → (l.reliable ≡ true → (f'.present ≡ true) × (f'.acked ≤ max 1 l.server.acked))
      → (Trusted f' c' → Early l → f'.first ≤ max 1 l.server.acked)
      → Fine f' c' net l
  fine_flow f' c' p t fr ke =
      record {
        rise = h.rise;
        top = λ n e. omega (arith, h.top n e, p);
        known = omega (arith, h.known, p);
        valid = h.valid;
        within = subst (λ (n : ℕ). Within n l.server) (sym p) h.within;
        above = h.above;
        credit = h.credit;
        front = fr;
        kept = λ u k. (ke u k, (h.kept (t u) k).1);
        mail = λ a k m e i. good_more f' c' l t refl refl refl (omega arith) m.body (h.mail a k m e i);
      }

  -- one more message
  pub fine_post : (i : ℕ) (b : Body) → (l.anew ≡ true → i ≡ l.id → Good f c l b) → Fine f c (record { line = i; body = b } ∷ net) l
  fine_post i b g =
      record {
        rise = h.rise;
        top = h.top;
        known = h.known;
        valid = h.valid;
        within = h.within;
        above = h.above;
        credit = h.credit;
        front = h.front;
        kept = h.kept;
        mail = go;
      }
    where
      go : l.anew ≡ true → (k : ℕ) (m : Msg) → nth (record { line = i; body = b } ∷ net) k ≡ some m → m.line ≡ l.id → Good f c l m.body
      go a zero m e w = subst (λ (z : Msg). z.line ≡ l.id → Good f c l z.body) (some_msg e) (g a) w
      go a (suc k) m e w = h.mail a k m e w
