-- Each grant on the lot adds one, and no other does.
use Rattle.std.proofs.Common.{◌≡◌, ◌==◌, ◌<◌, ◌^◌, sym, ◌∙◌, arith, rules}
use borrow.Author.Tests.{tests}
use Rattle.std.specs.Int.{from_bool}
use Rattle.std.specs.List.{sum_by}
use Rattle.std.proofs.lemmas.Iterator.{YieldsList-from_slice, YieldsList-from_map}
use Rattle.std.proofs.lemmas.Iterator.Consumers.{fits_by_from_yields_list, sum_by_from_yields_List}
use Rattle.std.proofs.lemmas.List.Sums.{count_by-le-length, length-filter}
use Rattle.delegation.specs.declared.grants.Grant.{Grant}
use Rattle.delegation.proofs.Judged.{same_lots}
use Rattle.delegation.proofs.Searches.{counted_by, summed}
use Rattle.delegation.proofs.standing.count_on.Goals as goal

pub sum-requires-clause-fits : goal.sum-requires-clause-fits
sum-requires-clause-fits g c =
    let n = c.args.lot in
    let gs = c.args.grants.now in
    let one = λ (h : Grant g.row.S.Denot). from_bool (h.lot.0 == n.0) in
    let few : sum_by one gs < 2 ^ 64 = omega (arith, summed (λ (h : Grant g.row.S.Denot). h.lot.0 == n.0) gs, count_by-le-length (λ (h : Grant g.row.S.Denot). h.lot.0 == n.0) gs, c.iter.ensures.bound) in
    fits_by_from_yields_list one gs _ _
    (YieldsList-from_map _ one (YieldsList-from_slice gs cc) c.map.ensures.closure (λ x r q k. (search (rules, tests), search (rules, tests))))
    few

pub returns : goal.returns
returns g c =
    let n = c.args.lot in
    let gs = c.args.grants.now in
    let one = λ (h : Grant g.row.S.Denot). from_bool (h.lot.0 == n.0) in
    let on = λ (h : Grant g.row.S.Denot). h.lot.0 == n.0 in
    counted_by (λ (h : Grant g.row.S.Denot). h.lot ≡ n) on (λ h. same_lots h.lot n) gs c.sum.result
    (sum_by_from_yields_List one gs _ c.sum.result c.sum.ensures.ran
    (YieldsList-from_map _ one (YieldsList-from_slice gs cc) c.map.ensures.closure (λ x r q k. (search (rules, tests), search (rules, tests))))
    ∙ summed on gs ∙ sym (length-filter on gs))
