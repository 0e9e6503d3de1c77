-- The room has its length by the law of a repeat: computing so long a list doesn't end.
use Rattle.std.proofs.Common.{ℕ, sym}
use Rattle.std.proofs.lemmas.List.{length-replicate}
use Rattle.oracle_replay.proofs.bytes_room.Goals as goal

pub returns : goal.returns
returns c = sym (length-replicate {A = ℕ} 524288 0)
