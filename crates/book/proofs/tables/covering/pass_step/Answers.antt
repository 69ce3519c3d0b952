-- A flag more leaves one fewer to raise.
use Rattle.std.proofs.Common.{◌<◌, sym, subst, arith, rules}
use Rattle.book.specs.Flags.{lowered}
use Rattle.book.proofs.Raised.{lowered_falls}
use Rattle.book.proofs.tables.covering.pass_step.Goals as goal

pub returns-clause-fewer : goal.returns-clause-fewer
returns-clause-fewer c e =
    subst (λ row. lowered row < lowered c.args.covered.now) (sym c.raise.ensures.new) (lowered_falls c.args.covered.now c.args.weaker (omega (arith, c.told-covered, c.requires.1)) (search rules))
