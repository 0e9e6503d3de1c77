-- The reader's own calls, again and again: 'next requested fragment from 1, mark it sent'. Assumes nothing.
use Rattle.std.specs.Prelude.{ℕ, zero, suc, cond, List, [], ◌∷◌}
use Rattle.numbers.specs.Number.{rank_of}
use Rattle.numbers.specs.Refusals.{is_done}
use Rattle.numbers.specs.Cursor.{fragment_cursor_at}
use Rattle.numbers.specs.Promise.{Left2}
use Rattle.requested_fragments.specs.Drain.{Piece}
use Rattle.rtps_reader_proxy.specs.declared.proxy.ReaderProxy.{ReaderProxy}
use Rattle.rtps_reader_proxy.specs.declared.proxy.Changed.{Changed}
use Rattle.rtps_reader_proxy.specs.declared.fragments.NextFragRequested.{NextFragRequested}
use Rattle.rtps_reader_proxy.specs.Fragments.{next_frag_of, frag_sent_of}

-- what was offered, and the proxy and the rooms at the end
pub record Played : Type 0 where
  pub offered : List Piece
  pub proxy : ReaderProxy
  pub samples : List ℕ
  pub words : List ℕ

abbrev pub play_ended : ReaderProxy → List ℕ → List ℕ → Played
play_ended h samples words = record { offered = []; proxy = h; samples = samples; words = words }

abbrev pub offers : NextFragRequested → Played → Played
offers o p = record { offered = record { sample = rank_of o.sample; frag = o.fragment.0 } ∷ p.offered; proxy = p.proxy; samples = p.samples; words = p.words }

-- what the turns after this one make of what a call left
abbrev pub onward : (ReaderProxy → List ℕ → List ℕ → Played) → Left2 Changed (List ℕ) (List ℕ) → Played
onward more l = more l.result.proxy l.first l.second

-- one turn with what the question for the next fragment answered, and the turns after it
abbrev pub turn : (ReaderProxy → List ℕ → List ℕ → Played) → ReaderProxy → List ℕ → List ℕ → NextFragRequested → Played
turn more h samples words o = cond (is_done o.answer) (offers o (onward more (frag_sent_of o.sample o.fragment h samples words))) (play_ended h samples words)

abbrev pub play : ℕ → ReaderProxy → List ℕ → List ℕ → Played
play zero h samples words = play_ended h samples words
play (suc k) h samples words = turn (play k) h samples words (next_frag_of (fragment_cursor_at 1) h samples words)
