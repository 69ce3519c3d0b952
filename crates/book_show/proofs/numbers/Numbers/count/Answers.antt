-- What is counted is what the filter keeps.
use Rattle.std.proofs.Common.{◌∙◌, rules}
use borrow.Author.Tests.{tests}
use Rattle.std.proofs.lemmas.Iterator.{YieldsList-from_slice}
use Rattle.std.proofs.lemmas.Iterator.Consumers.{YieldsList-from_filter, count_from_yields_List}
use Rattle.book_show.proofs.Telling.{length-raised}
use Rattle.book_show.proofs.numbers.Numbers.count.Goals as goal

pub returns : goal.returns
returns c =
    let flags = c.args.self.0 in
    count_from_yields_List c.filter.result c.count.result c.count.ensures.ran
    (YieldsList-from_filter _ (λ b. b) (YieldsList-from_slice flags cc) c.filter.ensures.closure (λ x r q k. search (rules, tests)))
    ∙ length-raised flags
