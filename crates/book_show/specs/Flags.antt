-- Lists of flags that stand for sets of numbers.
use Rattle.std.specs.Prelude.{ℕ, suc, ◌<◌, Bool, true, false, List, [], ◌∷◌, Decides, slice_index_or}

-- the flags below n are raised at the numbers that P holds of
abbrev pub Tells : (ℕ → Type 0) → List Bool → ℕ → Type 0
Tells P flags n = (k : ℕ) → k < n → Decides (slice_index_or flags k false) (P k)

-- how many are raised
abbrev pub raised : List Bool → ℕ
raised [] = 0
raised (true ∷ flags) = suc (raised flags)
raised (false ∷ flags) = raised flags
