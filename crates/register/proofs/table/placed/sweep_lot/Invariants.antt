-- The rows so far are swept.
use Rattle.std.proofs.Common.{◌≡◌}
use Rattle.register.proofs.Sweeps.{Sweeping}
use Rattle.register.proofs.table.placed.sweep_lot.Given as goal

abbrev pub invariant-loop-i : goal.invariant-loop-i
invariant-loop-i g l = Sweeping (λ x. g.T.Placed.whose x ≡ l.lot → ⊥) l.initial.places l.places l.left l.i
