-- Tables of flags that loops raise.
use Rattle.std.specs.Prelude.{◌≡◌, ℕ, suc, ◌+◌, Bool, true, false, List, [], ◌∷◌, slice_index_or}

-- the flag at column b of a row is raised
abbrev pub Raised : List Bool → ℕ → Type 0
Raised row b = slice_index_or row b false ≡ true

-- the flag at row a and column b
abbrev pub flag_at : List (List Bool) → ℕ → ℕ → Bool
flag_at table a b = slice_index_or (slice_index_or table a []) b false

-- it is raised
abbrev pub Set : List (List Bool) → ℕ → ℕ → Type 0
Set table a b = flag_at table a b ≡ true

-- no flag is raised
abbrev pub Clear : List (List Bool) → Type 0
Clear table = (a b : ℕ) → Set table a b → ⊥

-- what was raised before is raised after
abbrev pub Grows : List (List Bool) → List (List Bool) → Type 0
Grows before after = (a b : ℕ) → Set before a b → Set after a b

-- how many of a row are not raised
abbrev pub lowered : List Bool → ℕ
lowered [] = 0
lowered (true ∷ flags) = lowered flags
lowered (false ∷ flags) = suc (lowered flags)

-- how many of a table
abbrev pub unset : List (List Bool) → ℕ
unset [] = 0
unset (row ∷ rows) = lowered row + unset rows
