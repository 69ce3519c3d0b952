-- The table tells what the rows before this one say.
use Rattle.std.proofs.Common.{take}
use Rattle.book.specs.Playing.{TellsPlaying}
use Rattle.book.proofs.tables.playing.fill.Given as goal

abbrev pub invariant-loop-row : goal.invariant-loop-row
invariant-loop-row l = TellsPlaying (take l.row-index l.rows) l.table
