-- `place_of` meets its contract: the first place at which the test passes. Assumes nothing.
use Rattle.std.proofs.Common.{◌∙◌, eqb, rules}
use Rattle.std.proofs.lemmas.Iterator.{YieldsList-from_slice}
use Rattle.std.proofs.lemmas.Iterator.Search.{position_from_yields_List}
use borrow.Author.Tests.{tests}
use Rattle.reader_list.proofs.Gather.{place_is}
use Rattle.reader_list.proofs.looks.place_of.Goals as goal

pub returns-clause-is : goal.returns-clause-is
returns-clause-is c =
    let list = c.args.list.now in
    let i = c.args.id in
    position_from_yields_List (λ h. eqb h.id i) _ _ _ c.position.ensures.ran (YieldsList-from_slice list cc) (λ x b q k. search (rules, tests))
    ∙ place_is i list
