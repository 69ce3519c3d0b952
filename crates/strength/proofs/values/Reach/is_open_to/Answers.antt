-- The answer bit by bit is the specification's test.
use Rattle.strength.specs.MaskLaws.{is_within}
use Rattle.strength.proofs.values.Reach.is_open_to.Goals as goal

pub returns : goal.returns
returns c = is_within c.contains.result c.args.self.mask.0 c.args.marks.0 c.contains.ensures
