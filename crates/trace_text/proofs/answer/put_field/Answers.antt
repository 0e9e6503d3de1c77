-- The key, and then the number.
use Rattle.trace_text.specs.Answers.{decimal}
use Rattle.trace_text.proofs.Puts.{puts}
use Rattle.trace_text.proofs.answer.put_field.Goals as goal

pub returns : goal.returns
returns c = let a = c.args in puts a.at _ _ a.key.now (decimal a.n) a.out.now _ _ c.put_text-k.ensures c.put_number.ensures
