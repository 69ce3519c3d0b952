-- The row is passed for the steps before this one, and nothing else is new.
use Rattle.std.proofs.Common.{◌≡◌, ◌<◌, true, false}
use Rattle.book.specs.Flags.{Grows, unset}
use Rattle.book.specs.Passing.{OnlyPassed, Passed}
use Rattle.book.proofs.tables.covering.pass_row.Given as goal

abbrev pub invariant-loop-covered : goal.invariant-loop-covered
invariant-loop-covered l =
    OnlyPassed l.stronger l.weaker l.initial.table l.table × Grows l.initial.table l.table × Passed l.stronger l.weaker l.table l.covered-index
    × (l.changed ≡ true → unset l.table < unset l.initial.table)
    × (l.changed ≡ false → l.table ≡ l.initial.table)
