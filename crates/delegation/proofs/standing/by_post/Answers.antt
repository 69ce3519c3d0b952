-- The test is whether the right gives the one in question.
use Rattle.std.proofs.Common.{rules}
use borrow.Author.Tests.{tests}
use Rattle.book.specs.Books.{rules as rules_of}
use Rattle.delegation.specs.Rights.{Gives}
use Rattle.delegation.specs.declared.grants.Right.{Right}
use Rattle.delegation.proofs.Judged.{decides_found}
use Rattle.delegation.proofs.standing.by_post.Goals as goal

pub returns : goal.returns
returns g c =
    decides_found (λ (p : Right g.row.S.Denot). Gives g.S.Strength.kind (rules_of c.args.book.now) p c.args.question.right) c.holds_some.result
    (λ p h. search (rules, tests)) (λ p h. search (rules, tests)) c.holds_some.ensures
