use Rattle.std.proofs.Common.{rules}
use Rattle.std.proofs.lemmas.Iterator.{YieldsList-from_slice, YieldsList-from_zip, YieldsList-from_map}
use Rattle.std.proofs.lemmas.Iterator.Consumers.{YieldsList-at}
use Rattle.book.specs.Causes.{clash_cause}
use Rattle.book.proofs.FirstCauses.{judged}
use Rattle.book.proofs.checks.check_clashes.Goals as goal

pub returns : goal.returns
returns g c =
    judged (clash_cause c.args.steps) c.args.place c.refuse_first.ensures
    (YieldsList-at c.map.ensures.source (YieldsList-from_zip
    (YieldsList-at c.zip-pairs.ensures.first (YieldsList-from_map _ g.V.WordOf.in_row (YieldsList-from_slice c.args.ones.now cc) c.map-ones.ensures.closure (λ x r q h. search rules)))
    (YieldsList-at c.zip-pairs.ensures.second (YieldsList-from_map _ g.W.WordOf.in_row (YieldsList-from_slice c.args.others.now cc) c.map-others.ensures.closure (λ x r q h. search rules))))) c.map.ensures.closure
    (λ x r q h. search rules)
