-- Bytes written over others.
use Rattle.std.specs.Prelude.{ℕ, ◌+◌, List, ◌++◌, length, take, drop}

-- these bytes with others over them from a place on
unfoldable pub over : List ℕ → ℕ → List ℕ → List ℕ
over old p new = take p old ++ (new ++ drop (p + length new) old)
