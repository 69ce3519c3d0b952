-- A lot that is among the open ones is open already.
use Rattle.std.proofs.Common.{rules}
use Rattle.register.proofs.Lots.{found_lot}
use Rattle.register.proofs.register.Register.check_opening.Goals as goal

pub returns-then-contains : goal.returns-then-contains
returns-then-contains g c = let tells = found_lot c.args.lot (rw c.as_slice-lots.ensures.value at c.contains.ensures.value) in search rules
