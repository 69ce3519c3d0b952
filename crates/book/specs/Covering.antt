-- Which step covers which, by the rows of a book.
use Rattle.std.specs.Prelude.{◌≡◌, ℕ, ◌<◌, Bool, List, length, Decides}
use mathlib.Core.List.{Memᴰ}
use Rattle.book.specs.Flags.{flag_at}
use Rattle.book.specs.declared.rows.Cover.{Cover}

-- a step covers itself, and the weaker step of a row whose stronger step it covers
pub data Covers (rows : List Cover) (a : ℕ) : ℕ → Type 0 where
  itself : Covers rows a a
  onward : (row : Cover) → Memᴰ row rows → Covers rows a row.stronger.0 → Covers rows a row.weaker.0

-- the rows name only steps below 64
abbrev pub StepsInRange : List Cover → Type 0
StepsInRange rows = (row : Cover) → Memᴰ row rows → (row.stronger.0 < 64) × (row.weaker.0 < 64)

-- row a of the table says at column b whether step a covers step b
abbrev pub TellsCovering : List Cover → List (List Bool) → Type 0
TellsCovering rows table = (a b : ℕ) → a < 64 → b < 64 → Decides (flag_at table a b) (Covers rows a b)

-- the table is that of these rows; truncated, since a fact in a ghost field has one proof only
abbrev pub CoveringExact : List Cover → List (List Bool) → Type 0
CoveringExact rows table = StepsInRange rows × (length table ≡ 64) × ∥ TellsCovering rows table ∥₁
