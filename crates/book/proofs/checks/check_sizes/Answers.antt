use Rattle.std.proofs.Common.{rules}
use Rattle.std.proofs.lemmas.Iterator.{YieldsList-from_slice, YieldsList-from_zip}
use Rattle.std.proofs.lemmas.Iterator.Consumers.{YieldsList-at}
use Rattle.book.specs.Causes.{size_cause}
use Rattle.book.proofs.FirstCauses.{judged}
use Rattle.book.proofs.checks.check_sizes.Goals as goal

pub returns : goal.returns
returns g c =
    judged size_cause 0 c.refuse_first.ensures (YieldsList-at c.map.ensures.source (YieldsList-from_zip (YieldsList-from_slice c.args.limits.now cc) (YieldsList-from_slice c.args.sizes.now cc))) c.map.ensures.closure
    (λ x r q h. search rules)
