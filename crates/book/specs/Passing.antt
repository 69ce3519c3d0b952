-- How the rounds over the rows fill the table of covering.
use Rattle.std.specs.Prelude.{◌≡◌, ℕ, ◌<◌, Bool, ◌⊎◌, List}
use mathlib.Core.List.{Memᴰ}
use Rattle.book.specs.Covering.{Covers}
use Rattle.book.specs.Flags.{Set}
use Rattle.book.specs.declared.rows.Cover.{Cover}

-- the table says only what is so
abbrev pub Sound : List Cover → List (List Bool) → Type 0
Sound rows table = (a b : ℕ) → a < 64 → b < 64 → Set table a b → Covers rows a b

-- each of the steps below n covers itself in the table
abbrev pub Selves : List (List Bool) → ℕ → Type 0
Selves table n = (a : ℕ) → a < n → Set table a a

-- no step covers another in the table
abbrev pub OnlySelves : List (List Bool) → Type 0
OnlySelves table = (a b : ℕ) → a < 64 → b < 64 → Set table a b → a ≡ b

-- each of the steps below n that covers s in the table covers w there
abbrev pub Passed : ℕ → ℕ → List (List Bool) → ℕ → Type 0
Passed s w table n = (a : ℕ) → a < n → Set table a s → Set table a w

-- new in the table is only that steps which cover s cover w
abbrev pub OnlyPassed : ℕ → ℕ → List (List Bool) → List (List Bool) → Type 0
OnlyPassed s w before after = (a b : ℕ) → a < 64 → b < 64 → Set after a b → Set before a b ⊎ ((b ≡ w) × Set before a s)

-- the row is passed for all steps
abbrev pub RowPassed : List (List Bool) → Cover → Type 0
RowPassed table row = Passed row.stronger.0 row.weaker.0 table 64

-- each row is passed for all steps
abbrev pub AllPassed : List Cover → List (List Bool) → Type 0
AllPassed rows table = (row : Cover) → Memᴰ row rows → RowPassed table row
