-- The library's search compares grants, and `==` decides whether two are equal.
use Rattle.delegation.proofs.Judged.{same, decides_same}
use Rattle.delegation.proofs.Searches.{member_from_contains}
use Rattle.delegation.proofs.standing.stands.Goals as goal

pub returns : goal.returns
returns g c =
    let k = g.S.Strength.kind in
    member_from_contains (same k) (decides_same k g.met.S.Strength.reads_back) c.args.grants.now c.args.grant c.contains.ensures.value
