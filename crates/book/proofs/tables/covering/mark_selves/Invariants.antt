-- The steps before this one cover themselves, and no step covers another.
use Rattle.book.specs.Passing.{OnlySelves, Selves}
use Rattle.book.proofs.tables.covering.mark_selves.Given as goal

abbrev pub invariant-loop-step : goal.invariant-loop-step
invariant-loop-step l = OnlySelves l.table × Selves l.table l.step
