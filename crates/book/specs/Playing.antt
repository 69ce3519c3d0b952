-- Who plays what, by the rows of a book.
use Rattle.std.specs.Prelude.{◌≡◌, ℕ, ◌<◌, Bool, List, length, Decides}
use mathlib.Core.List.{Memᴰ}
use Rattle.book.specs.Flags.{flag_at}
use Rattle.book.specs.declared.rows.Play.{Play}

-- some row says that person u plays post p
abbrev pub Plays : List Play → ℕ → ℕ → Type 0
Plays rows u p = (row : Play) × Memᴰ row rows × (row.person.0 ≡ u) × (row.post.0 ≡ p)

-- the rows name only people below 256 and posts below 64
abbrev pub PlaysInRange : List Play → Type 0
PlaysInRange rows = (row : Play) → Memᴰ row rows → (row.person.0 < 256) × (row.post.0 < 64)

-- row u of the table says at column p whether person u plays post p
abbrev pub TellsPlaying : List Play → List (List Bool) → Type 0
TellsPlaying rows table = (u p : ℕ) → u < 256 → p < 64 → Decides (flag_at table u p) (Plays rows u p)

-- the table is that of these rows; truncated, since a fact in a ghost field has one proof only
abbrev pub PlayingExact : List Play → List (List Bool) → Type 0
PlayingExact rows table = PlaysInRange rows × (length table ≡ 256) × ∥ TellsPlaying rows table ∥₁
