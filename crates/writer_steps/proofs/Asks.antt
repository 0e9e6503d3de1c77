-- A NACK_FRAG taken by reader id: one that is refused changes nothing; one that is done found the reader, and leaves its record as the reader's own call does.
-- Assumes nothing.
use Prim.Native.Nat.{ℕ}
use mathlib.Core.Path.{◌≡◌, refl, ap, subst, ◌∙◌}
use mathlib.Core.Bool.{Bool, true, false, not, cond, ◌&&◌}
use mathlib.Core.List.{List, ◌∷◌}
use borrow.Author.Tests.{eqb-true, eqb-false}
use Rattle.numbers.specs.Number.{rank_of}
use Rattle.numbers.specs.Refusals.{row, answer_of, is_done, Rows}
use Rattle.numbers.specs.Promise.{Left2}
use Rattle.numbers.specs.declared.answer.Answer.{Answer}
use Rattle.numbers.specs.declared.sequence_number.SequenceNumber.{SequenceNumber}
use Rattle.numbers.proofs.Refused.{is_refused}
use Rattle.numbers.proofs.Answered.{unless-answer, right_done}
use Rattle.number_sets.specs.declared.fragment_number_set.FragmentNumberSet.{FragmentNumberSet}
use Rattle.number_sets.specs.Calls.{fragment_set}
use Rattle.rtps_reader_proxy.specs.declared.proxy.ReaderProxy.{ReaderProxy}
use Rattle.rtps_reader_proxy.specs.declared.proxy.Changed.{Changed}
use Rattle.rtps_reader_proxy.specs.Record.{room_for}
use Rattle.rtps_reader_proxy.specs.Fragments.{frags_coherent, by_frags, request_rows, frags_requested_of}
use Rattle.reader_list.specs.declared.heads.ReaderHead.{ReaderHead}
use Rattle.reader_list.specs.Slots.{found_of}
use Rattle.writer_steps.specs.Frags.{not_asked, nack_frag_step}

module _ (n : SequenceNumber) (set : FragmentNumberSet) (h : ReaderProxy) (samples words : List ℕ) where
  -- THE READER'S OWN CALL
  abbrev asked : Left2 Changed (List ℕ) (List ℕ)
  asked = frags_requested_of n set h samples words

  abbrev ask_rows : Rows
  ask_rows = row 1 refl (not (room_for 1 16 h.frag_count samples && frags_coherent h samples words)) ∷ request_rows (rank_of n) (fragment_set set) h.frag_count (by_frags h samples words)

  abbrev as_it_was : Answer → Left2 Changed (List ℕ) (List ℕ)
  as_it_was a = record { result = record { answer = a; proxy = h }; first = samples; second = words }

  own_answer_lem : asked.result.answer ≡ answer_of ask_rows
  own_answer_lem = unless-answer (λ (o : Left2 Changed (List ℕ) (List ℕ)). o.result.answer) ask_rows as_it_was _ (λ x. refl) refl

  -- the record and its rooms are as they were
  abbrev Kept : Left2 Changed (List ℕ) (List ℕ) → Type 0
  Kept o = (o.result.proxy ≡ h) × ((o.first ≡ samples) × (o.second ≡ words))

  own_kept : (asked.result.answer.number ≡ 0 → ⊥) → Kept asked
  own_kept z = subst Kept (is_refused ask_rows (answer_of ask_rows) refl as_it_was _ (λ y. z (ap (λ (x : Answer). x.number) own_answer_lem ∙ y))) (refl, (refl, refl))

-- THE STEP
module _ (hs : List ReaderHead) (i : ℕ) (n : SequenceNumber) (set : FragmentNumberSet) (h : ReaderProxy) (samples words : List ℕ) where
  abbrev step : Left2 Changed (List ℕ) (List ℕ)
  step = nack_frag_step hs i n set h samples words

  abbrev own : Left2 Changed (List ℕ) (List ℕ)
  own = frags_requested_of n set h samples words

  -- by whether the reader was found
  abbrev outcome : Bool → Left2 Changed (List ℕ) (List ℕ)
  outcome t = cond {A = Left2 Changed (List ℕ) (List ℕ)} t own (not_asked n set h samples words (found_of hs i).answer)

  -- a refusal changes nothing
  pub nack_frag_kept : (step.result.answer.number ≡ 0 → ⊥) → Kept n set h samples words step
  nack_frag_kept z = go (is_done (found_of hs i).answer) refl
    where
      go : (t : Bool) → is_done (found_of hs i).answer ≡ t → Kept n set h samples words (outcome t)
      go true e = own_kept n set h samples words (λ y. z (ap (λ (t : Bool). (outcome t).result.answer.number) e ∙ y))
      go false e = (refl, (refl, refl))

  module _ (z : step.result.answer.number ≡ 0) where
    both : ((found_of hs i).answer.number ≡ 0) × (step ≡ own)
    both = go (is_done (found_of hs i).answer) refl z
      where
        go : (t : Bool) → is_done (found_of hs i).answer ≡ t → (outcome t).result.answer.number ≡ 0 → ((found_of hs i).answer.number ≡ 0) × (outcome t ≡ own)
        go true e y = (eqb-true (found_of hs i).answer.number 0 e, refl)
        go false e y = absurd (eqb-false (found_of hs i).answer.number 0 e (right_done own.result.answer (found_of hs i).answer y))

    -- where it is done, the reader is there, and its record is as its own call leaves it
    pub nack_frag_found : (found_of hs i).answer.number ≡ 0
    nack_frag_found = both.0

    pub nack_frag_taken : step ≡ own
    nack_frag_taken = both.1
