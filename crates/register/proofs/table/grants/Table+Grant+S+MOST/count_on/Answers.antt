-- What is counted are the rows.
use Rattle.std.proofs.Common.{◌≡◌, subst}
use Rattle.delegation.specs.Found.{Counted}
use Rattle.register.proofs.table.grants.Table+Grant+S+MOST.count_on.Goals as goal

pub returns : goal.returns
returns g c = subst (λ gs. Counted (λ h. h.lot ≡ c.args.lot) gs c.count_on.result) c.rows.ensures c.count_on.ensures
