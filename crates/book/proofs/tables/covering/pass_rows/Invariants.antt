-- The table is sound, and while nothing changes the rows before this one are passed.
use Rattle.std.proofs.Common.{◌≡◌, ◌<◌, ◌≤◌, true, false}
use Rattle.std.specs.List.{AllWithin}
use Rattle.book.specs.Flags.{Grows, unset}
use Rattle.book.specs.Passing.{RowPassed, Sound}
use Rattle.book.proofs.tables.covering.pass_rows.Given as goal

abbrev pub invariant-loop-row : goal.invariant-loop-row
invariant-loop-row l = Sound l.rows l.table × Grows l.initial.table l.table × (unset l.table ≤ unset l.initial.table) × (l.changed ≡ true → unset l.table < unset l.initial.table) × (l.changed ≡ false → AllWithin (RowPassed l.table) l.rows 0 l.row-index)
