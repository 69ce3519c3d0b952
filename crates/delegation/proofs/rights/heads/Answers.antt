-- The test is whether the right backs the grant.
use Rattle.std.proofs.Common.{rules}
use borrow.Author.Tests.{tests}
use Rattle.std.proofs.lemmas.Bool.Decides.{Decides-like}
use Rattle.book.specs.Books.{rules as rules_of}
use Rattle.delegation.specs.Rights.{Backs}
use Rattle.delegation.specs.declared.grants.Right.{Right}
use Rattle.delegation.proofs.Judged.{decides_found}
use Rattle.delegation.proofs.rights.heads.Goals as goal

pub returns : goal.returns
returns g c =
    Decides-like c.holds_some.result (λ f. (f.0, (f.1, f.2))) (λ h. (h.0, h.1.0, h.1.1))
    (decides_found (λ (p : Right g.row.S.Denot). Backs g.S.Strength.kind (rules_of c.args.book.now) p c.args.grant) c.holds_some.result
    (λ p h. search (rules, tests)) (λ p h. search (rules, tests)) c.holds_some.ensures)
