use Rattle.std.proofs.Common.{◌≡◌, ◌+◌, ◌^◌, ◌<◌, ◌≤◌, map, length, drop}
use Rattle.book.specs.Words.{word_of}
use Rattle.book.specs.Form.{in_columns, total}
use Rattle.book.proofs.checks.check_columns.Given as goal

abbrev pub invariant-loop-column : goal.invariant-loop-column
invariant-loop-column g l =
    (in_columns g.S.Strength.kind (drop l.column-index l.columns) l.place (drop l.place (map word_of l.words)) ≡ in_columns g.S.Strength.kind l.columns l.start (drop l.start (map word_of l.words)))
    × (l.place + total (drop l.column-index l.columns) ≤ length l.words)
    × (length l.words < 2 ^ 64)
