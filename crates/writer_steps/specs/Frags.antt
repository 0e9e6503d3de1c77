-- A NACK_FRAG taken by reader id: the list is looked at, and the reader's record takes the request. Assumes nothing.
use Rattle.std.specs.Prelude.{ℕ, List}
use Rattle.numbers.specs.Answers.{earlier, answered}
use Rattle.numbers.specs.Promise.{Left2}
use Rattle.numbers.specs.declared.answer.Answer.{Answer}
use Rattle.numbers.specs.declared.sequence_number.SequenceNumber.{SequenceNumber}
use Rattle.number_sets.specs.declared.fragment_number_set.FragmentNumberSet.{FragmentNumberSet}
use Rattle.rtps_reader_proxy.specs.declared.proxy.ReaderProxy.{ReaderProxy}
use Rattle.rtps_reader_proxy.specs.declared.proxy.Changed.{Changed}
use Rattle.rtps_reader_proxy.specs.Fragments.{frags_requested_of}
use Rattle.reader_list.specs.declared.heads.ReaderHead.{ReaderHead}
use Rattle.reader_list.specs.declared.calls.Found.{Found}
use Rattle.reader_list.specs.Slots.{found_of}

-- the record as it was, where the reader isn't there: what its own call would answer counts beside that
abbrev pub not_asked : SequenceNumber → FragmentNumberSet → ReaderProxy → List ℕ → List ℕ → Answer → Left2 Changed (List ℕ) (List ℕ)
not_asked n set h samples words a =
    record { result = record { answer = earlier (frags_requested_of n set h samples words).result.answer a; proxy = h }; first = samples; second = words }

-- 1, 3, 2, 11, 10 in the table's order
abbrev pub nack_frag_of : Found → SequenceNumber → FragmentNumberSet → ReaderProxy → List ℕ → List ℕ → Left2 Changed (List ℕ) (List ℕ)
nack_frag_of found n set h samples words = answered found.answer (not_asked n set h samples words) (frags_requested_of n set h samples words)

-- the head's acked and the record's need not agree: a request of fragments doesn't look at acked
abbrev pub nack_frag_step : List ReaderHead → ℕ → SequenceNumber → FragmentNumberSet → ReaderProxy → List ℕ → List ℕ → Left2 Changed (List ℕ) (List ℕ)
nack_frag_step hs i n set h samples words = nack_frag_of (found_of hs i) n set h samples words
