-- The clean rounds of two lines may interleave: what the one does is beside the other; and a computed run, all of which is a round of the one line, and a
-- part of which is a round of the other. Assumes nothing.
use Prim.Native.Nat.{ℕ, zero, suc}
use mathlib.Core.Path.{◌≡◌, refl, sym, ap, subst, ◌∙◌}
use mathlib.Core.Bool.{true, false}
use mathlib.Core.Logic.{inl, inr}
use mathlib.Core.List.{List, [], ◌∷◌}
use mathlib.Core.Option.{Option, none, some}
use lib.ListN.{take}
use native.Mathlib.Omega.{arith}
use Rattle.sets.specs.Sets.{has}
use Rattle.numbers.specs.Number.{number_at}
use Rattle.number_sets.specs.Bits.{word_of, words_of}
use Rattle.other_end.specs.Model.{base}
use Rattle.other_end.specs.System.{Line, Body, sample, Msg, State, Event, match, write, sent_to, heartbeat, send, reply, deliver, find, nth, run, start}
use Rattle.other_end.specs.Rounds.{Elsewhere, Beside, Arrives, SettledAt, Received, Round}
use Rattle.other_end.proofs.Found.{some-line, some_msg}

-- WHAT A ROUND OF ANOTHER LINE DOES is beside a line, so nothing of the one bars the other: so are its heartbeat, its ACKNACKs and what is sent to it by
-- the definition of `Beside`, and so is the arrival of each
pub other_arrives : (i j : ℕ) → (j ≡ i → ⊥) → (s : State) (k : ℕ) (b : Body) → nth s.net k ≡ some (record { line = j; body = b }) → Beside i (deliver k) s
other_arrives i j d s k b e = subst (Elsewhere i) (sym e) d

-- A RUN

abbrev new : State
new =
    run (match 1 true 4 ∷ match 2 true 4 ∷ write 1 false ∷ [])
    (start (record { reliable = true; builtin = false; volatile = true }) (record { window = 10; backlog = 10; retain = 4; slots = 4; slot_bytes = 16 }) 4)

-- heartbeats and first ACKNACKs; the number sent to each and received; second ACKNACKs. A sent frontier and a match come between
abbrev both : List Event
both =
    heartbeat 1 ∷ heartbeat 2 ∷ deliver 1 ∷ reply 1 ∷ deliver 1 ∷ reply 2 ∷ deliver 1 ∷ deliver 0
    ∷ send 1 ∷ send 2 ∷ deliver 0 ∷ deliver 1 ∷ sent_to (number_at 1) ∷ reply 2 ∷ reply 1 ∷ deliver 1 ∷ match 3 true 4 ∷ deliver 0 ∷ []

-- the state after so many of these
abbrev after : ℕ → State
after k = run (take k both) new

one_two : ◌≡◌ {A = ℕ} 1 2 → ⊥
one_two e = omega arith

two_one : ◌≡◌ {A = ℕ} 2 1 → ⊥
two_one e = omega arith

-- THE LINE 1, all of the run: of the messages since its first ACKNACK was taken, the third newest is to it
received_1 : (l : Line) → l.model.settled ≡ 1 ∷ [] → Received 1 4 l (after 14)
unfolding word_of words_of
received_1 l s zero m q e o = absurd (two_one (ap (λ (y : Msg). y.line) (some_msg e) ∙ o))
received_1 l s (suc zero) m q e o = absurd (two_one (ap (λ (y : Msg). y.line) (some_msg e) ∙ o))
received_1 l s (suc (suc zero)) m q e o = subst (λ (y : Msg). SettledAt l y.body) (some_msg e) (ap (λ (u : List ℕ). has u 1) s)
received_1 l s (suc (suc (suc k))) m q e o = absurd (omega arith)

arrives_1 : Arrives 1 (deliver 1) (after 11)
unfolding word_of words_of
arrives_1 = record { place = 1; body = sample 1; delivers = refl; that = refl; outward = tt }

round_1 : Round 1 (after 0) (after 18)
unfolding word_of words_of
round_1 =
    record {
      heard = after 3;
      announced = record { meanwhile = heartbeat 2 ∷ []; beside = (tt, tt); place = 1; that = refl; ends = refl };
      before = [];
      beside = tt;
      begun = after 7;
      first = record { meanwhile = deliver 1 ∷ reply 2 ∷ []; beside = (two_one, (tt, tt)); place = 1; that = refl; ends = refl };
      events = deliver 0 ∷ send 1 ∷ send 2 ∷ deliver 0 ∷ deliver 1 ∷ sent_to (number_at 1) ∷ reply 2 ∷ [];
      exchange = (inl two_one, (inl tt, (inl tt, (inl two_one, (inr arrives_1, (inl tt, (inl tt, tt)))))));
      drained = λ l e. subst (λ (y : Line). y.server.unsent ≡ []) (some-line e) refl;
      received = λ l e. received_1 l (subst (λ (y : Line). y.model.settled ≡ 1 ∷ []) (some-line e) refl);
      second = record { meanwhile = deliver 1 ∷ match 3 true 4 ∷ []; beside = (two_one, (tt, tt)); place = 0; that = refl; ends = refl };
    }

-- THE LINE 2, from its heartbeat on: of the messages since its first ACKNACK was taken, the newest is to it
received_2 : (l : Line) → l.model.settled ≡ 1 ∷ [] → Received 2 4 l (after 13)
unfolding word_of words_of
received_2 l s zero m q e o = subst (λ (y : Msg). SettledAt l y.body) (some_msg e) (ap (λ (u : List ℕ). has u 1) s)
received_2 l s (suc zero) m q e o = absurd (one_two (ap (λ (y : Msg). y.line) (some_msg e) ∙ o))
received_2 l s (suc (suc k)) m q e o = absurd (omega arith)

arrives_2 : Arrives 2 (deliver 0) (after 10)
unfolding word_of words_of
arrives_2 = record { place = 0; body = sample 1; delivers = refl; that = refl; outward = tt }

round_2 : Round 2 (after 1) (after 16)
unfolding word_of words_of
round_2 =
    record {
      heard = after 5;
      announced = record { meanwhile = deliver 1 ∷ reply 1 ∷ []; beside = (one_two, (tt, tt)); place = 1; that = refl; ends = refl };
      before = [];
      beside = tt;
      begun = after 8;
      first = record { meanwhile = deliver 1 ∷ []; beside = (one_two, tt); place = 0; that = refl; ends = refl };
      events = send 1 ∷ send 2 ∷ deliver 0 ∷ deliver 1 ∷ sent_to (number_at 1) ∷ [];
      exchange = (inl tt, (inl tt, (inr arrives_2, (inl one_two, (inl tt, tt)))));
      drained = λ l e. subst (λ (y : Line). y.server.unsent ≡ []) (some-line e) refl;
      received = λ l e. received_2 l (subst (λ (y : Line). y.model.settled ≡ 1 ∷ []) (some-line e) refl);
      second = record { meanwhile = reply 1 ∷ []; beside = (tt, tt); place = 1; that = refl; ends = refl };
    }

-- and both are level: of each, the number acknowledged at the writer, and its base
abbrev view : Option Line → List ℕ
view none = []
view (some l) = l.server.acked ∷ base l.model ∷ []

level_1 : view (find 1 (after 18).lines) ≡ 2 ∷ 2 ∷ []
unfolding word_of words_of
level_1 = refl

level_2 : view (find 2 (after 18).lines) ≡ 2 ∷ 2 ∷ []
unfolding word_of words_of
level_2 = refl
