-- The grammar of a script, on lists of bytes.
use Rattle.std.specs.Prelude.{ℕ, ◌+◌, ◌-◌, ◌*◌, cond, List, [], ◌∷◌, length, Some, None, Ok, Err, Option, Result, ◌==◌, nat_lt, slice_set}
use Rattle.std.specs.Char.{is_ascii_digit}
use Rattle.std.specs.List.{slice_split}
use Rattle.script.specs.declared.faults.Cause.{Cause}
use Rattle.script.specs.declared.faults.Cause.TheVariants.{NotANumber}

-- what stands before, between and after the marks: always one part more than there are marks
abbrev pub cut : ℕ → List ℕ → List (List ℕ)
cut m bs = slice_split (λ b. b == m) bs

-- without a last part that is empty
abbrev pub ended : List (List ℕ) → List (List ℕ)
ended [] = []
ended ([] ∷ []) = []
ended ((b ∷ bs) ∷ []) = (b ∷ bs) ∷ []
ended (p ∷ q ∷ ps) = p ∷ ended (q ∷ ps)

-- lines end with byte 10; the last may lack it
abbrev pub lines : List ℕ → List (List ℕ)
lines bs = ended (cut 10 bs)

-- the number that digits write after the digits of n, if all are digits
abbrev pub reads : ℕ → List ℕ → Option ℕ
reads n [] = Some n
reads n (c ∷ cs) = cond (is_ascii_digit c) (reads (10 * n + (c - 48)) cs) None

-- the number of a field: 1 to 19 digits
abbrev pub numbered : List ℕ → Option ℕ
numbered [] = None
numbered (c ∷ cs) = cond (nat_lt 19 (length (c ∷ cs))) None (reads 0 (c ∷ cs))

abbrev pub zeros : List ℕ
zeros = 0 ∷ 0 ∷ 0 ∷ 0 ∷ 0 ∷ []

-- what an option gives
abbrev pub by_number : {R : Type 0} → Option ℕ → R → (ℕ → R) → R
by_number None none some = none
by_number (Some v) none some = some v

-- the numbers of fields, from place k on, into five places; the first field that is no number refuses
abbrev pub gathered : ℕ → List ℕ → List (List ℕ) → Result (List ℕ) (Cause × ℕ)
gathered k vs [] = Ok vs
gathered k vs (f ∷ fs) = by_number (numbered f) (Err (NotANumber, k)) (λ v. gathered (k + 1) (slice_set vs k v) fs)
