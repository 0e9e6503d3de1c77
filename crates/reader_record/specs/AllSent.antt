-- What 'next requested fragment from 1, mark it sent', again and again, comes to: the customer's complaint can't happen. Proved of the reader's own calls, from any
-- record that passes the check (proofs/AllSent.antt). Assumes nothing.
use Rattle.std.specs.Prelude.{ℕ, ◌≡◌, true, false, cond, List}
use Rattle.numbers.specs.Refusals.{done}
use Rattle.requested_fragments.specs.Drain.{times, is_asked}
use Rattle.rtps_reader_proxy.specs.declared.proxy.ReaderProxy.{ReaderProxy}
use Rattle.rtps_reader_proxy.specs.Fragments.{frags_coherent, entries_in, repair_of}
use Rattle.reader_record.specs.Play.{Played}

-- of a proxy with the rooms of samples and words S and W: what the turns p offered and left
pub record Drains (h : ReaderProxy) (S W : List ℕ) (p : Played) : Type 0 where
  -- each requested fragment is offered once, and nothing else
  pub offered : (n f : ℕ) → times n f p.offered ≡ cond (is_asked n f (entries_in h S W)) 1 0
  -- the record passes the check, and tells that none is requested
  pub passes : frags_coherent p.proxy p.samples p.words ≡ true
  pub none : repair_of p.proxy p.samples p.words ≡ record { answer = done; yes = false }
