-- The table is sound and has each step itself; each round leaves fewer flags to raise.
use Rattle.book.specs.Flags.{unset}
use Rattle.book.specs.Passing.{Selves, Sound}
use Rattle.book.proofs.tables.covering.close.Given as goal

abbrev pub invariant-loop : goal.invariant-loop
invariant-loop l = Sound l.rows l.table × Selves l.table 64

abbrev pub decreases-loop : goal.decreases-loop
decreases-loop l = unset l.table
