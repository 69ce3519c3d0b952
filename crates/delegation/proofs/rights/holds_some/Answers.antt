-- A right that passes the test is found, or all fail.
use Rattle.std.proofs.Common.{true, false, rules, of_calls}
use borrow.Author.Tests.{tests}
use Rattle.std.proofs.lemmas.Iterator.{YieldsList-from_slice}
use Rattle.book.specs.Books.{rules as rules_of}
use Rattle.delegation.specs.Passes.{PlayRow}
use Rattle.delegation.specs.Rights.{right_of}
use Rattle.book.specs.declared.rows.Entry.{Entry}
use Rattle.delegation.specs.declared.grants.Right.{Right}
use Rattle.delegation.proofs.Judged.{held_or_none}
use Rattle.delegation.proofs.Searches.{some_or_none}
use Rattle.delegation.proofs.rights.holds_some.Goals as goal

pub returns : goal.returns
returns g c =
    let k = g.S.Strength.kind in
    let r = rules_of c.args.book.now in
    let Passes = λ (right : Right g.row.S.Denot). goal.F-post g c.args.test right true in
    let Fails = λ (right : Right g.row.S.Denot). goal.F-post g c.args.test right false in
    let Yes = λ (row : Entry g.row.S.Denot). PlayRow k r c.args.person row × Passes (right_of row) in
    let No = λ (row : Entry g.row.S.Denot). PlayRow k r c.args.person row → Fails (right_of row) in
    held_or_none k r c.args.person Passes Fails c.any.result
    (some_or_none Yes No _ _ c.any.result c.any.ensures.ran (YieldsList-from_slice r.holds cc)
    (λ x q h. (search (rules, tests), search (rules, tests, of_calls)))
    (λ x q h. (search (rules, tests), λ p. search (rules, tests, of_calls))))
