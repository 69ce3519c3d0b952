-- What is not given by post is given by a grant or not at all.
use Rattle.std.proofs.Common.{rules}
use borrow.Author.Tests.{tests}
use Rattle.std.proofs.lemmas.Iterator.{YieldsList-from_slice}
use Rattle.book.specs.Books.{rules as rules_of}
use Rattle.delegation.specs.Passes.{GiveOn}
use Rattle.delegation.proofs.Judged.{or_else, entitled_by, entitled_cases}
use Rattle.delegation.proofs.Searches.{some_from_any}
use Rattle.delegation.proofs.standing.entitled.Goals as goal

pub returns-else-by_post : goal.returns-else-by_post
returns-else-by_post g c =
    let k = g.S.Strength.kind in
    let r = rules_of c.args.book.now in
    let gs = c.args.grants.now in
    let q = c.args.question in
    or_else c.by_post.result c.any.result c.if-by_post.false c.by_post.ensures
    (some_from_any (GiveOn k r q.person q.right q.lot) _ _ c.any.result c.any.ensures.ran (YieldsList-from_slice gs cc) (λ x b t h. search (rules, tests)))
    (entitled_by k r gs q.person q.right q.lot) (entitled_cases k r gs q.person q.right q.lot)
