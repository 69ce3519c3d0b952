use Rattle.std.proofs.Common.{◌≡◌, ◌+◌, ◌*◌, ◌≤◌, map, length, take}
use Rattle.book.specs.Words.{spelled}
use Rattle.book.specs.Over.{over}
use Rattle.book.proofs.book.writes.put_column.Given as goal

abbrev pub invariant-loop-row : goal.invariant-loop-row
invariant-loop-row g l =
    (l.out ≡ over l.initial.out l.place (spelled (take l.row-index (map g.W.WordOf.in_row l.rows))))
    × (l.end ≡ l.place + 8 * l.row-index)
    × (l.place + 8 * length l.rows ≤ length l.initial.out)
