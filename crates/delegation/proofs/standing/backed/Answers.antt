-- What is not backed by post is backed by a grant or not at all.
use Rattle.std.proofs.Common.{rules}
use borrow.Author.Tests.{tests}
use Rattle.std.proofs.lemmas.Iterator.{YieldsList-from_slice}
use Rattle.book.specs.Books.{rules as rules_of}
use Rattle.delegation.specs.Passes.{SupportOn}
use Rattle.delegation.proofs.Judged.{or_else, backed_by, backed_cases}
use Rattle.delegation.proofs.Searches.{some_from_any}
use Rattle.delegation.proofs.standing.backed.Goals as goal

pub returns-else-heads : goal.returns-else-heads
returns-else-heads g c =
    let k = g.S.Strength.kind in
    let r = rules_of c.args.book.now in
    let gs = c.args.grants.now in
    or_else c.heads.result c.any.result c.if-heads.false c.heads.ensures
    (some_from_any (SupportOn k r c.args.grant) _ _ c.any.result c.any.ensures.ran (YieldsList-from_slice gs cc) (λ x b q h. search (rules, tests)))
    (backed_by k r gs c.args.grant) (backed_cases k r gs c.args.grant)
