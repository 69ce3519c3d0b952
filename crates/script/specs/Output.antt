-- An output line.
use Rattle.std.specs.Prelude.{ℕ, List, [], ◌∷◌, ◌++◌, codes, decimal}
use Rattle.std.specs.List.{flat_map}

-- a space and a number
abbrev pub spaced : ℕ → List ℕ
spaced n = 32 ∷ decimal n

-- the line's number, a word, and the numbers after it
abbrev pub line_of : ℕ → List ℕ → List ℕ → List ℕ
line_of n word ns = decimal n ++ ((32 ∷ []) ++ (word ++ (flat_map spaced ns ++ (10 ∷ []))))

-- the line of a refusal, which is told by its number and its place
abbrev pub refused : ℕ → ℕ × ℕ → List ℕ
refused n told = line_of n (codes "no") (told.0 ∷ told.1 ∷ [])
