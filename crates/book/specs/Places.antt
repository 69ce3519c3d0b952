-- Where the tables of a book begin.
use Rattle.std.specs.Prelude.{ℕ, ◌+◌, ◌*◌}
use Rattle.book.specs.declared.form.Places.{Places}
use Rattle.book.specs.declared.form.Sizes.{Sizes}

-- each after the two columns of the one before it, and the first after the marks
abbrev pub plays_at : Sizes → ℕ
plays_at s = 8 + s.people

abbrev pub covers_at : Sizes → ℕ
covers_at s = plays_at s + 2 * s.plays

abbrev pub holds_at : Sizes → ℕ
holds_at s = covers_at s + 2 * s.covers

abbrev pub bars_at : Sizes → ℕ
bars_at s = holds_at s + 2 * s.holds

abbrev pub clashes_at : Sizes → ℕ
clashes_at s = bars_at s + 2 * s.bars

abbrev pub places : Sizes → Places
places s = record { plays = plays_at s; covers = covers_at s; holds = holds_at s; bars = bars_at s; clashes = clashes_at s }
