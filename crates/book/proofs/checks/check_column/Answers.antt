use Rattle.std.proofs.Common.{rules}
use Rattle.std.proofs.lemmas.Iterator.{YieldsList-from_slice, YieldsList-from_map}
use Rattle.std.proofs.lemmas.Iterator.Consumers.{YieldsList-at}
use Rattle.book.specs.Causes.{cause}
use Rattle.book.proofs.FirstCauses.{judged}
use Rattle.book.proofs.checks.check_column.Goals as goal

pub returns : goal.returns
returns g c =
    judged (cause g.S.Strength.kind c.args.test) c.args.place c.refuse_first.ensures
    (YieldsList-at c.map.ensures.source (YieldsList-from_map _ g.W.WordOf.in_row (YieldsList-from_slice c.args.rows.now cc) c.map-words.ensures.closure (λ x r q h. search rules))) c.map.ensures.closure
    (λ x r q h. search rules)
