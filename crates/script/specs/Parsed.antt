-- The call that a line writes.
use Rattle.std.specs.Prelude.{ℕ, ◌+◌, cond, List, [], ◌∷◌, length, Some, None, Ok, Err, Option, Result, ◌==◌, nat_lt, slice_index}
use Rattle.book.specs.declared.rows.Person.{Person}
use Rattle.book.specs.declared.rows.Step.{Step}
use Rattle.book.specs.declared.rows.Lot.{Lot}
use Rattle.script.specs.declared.faults.Cause.{Cause}
use Rattle.script.specs.declared.faults.Cause.TheVariants.{UnknownLetter, FieldCount, NotANumber, LongLine}
use Rattle.script.specs.declared.parsing.Command.{Command}
use Rattle.script.specs.declared.parsing.Command.TheVariants.{Opening, Closing, Asking, Granting}
use Rattle.register.specs.declared.calls.Call.{Call}
use Rattle.register.specs.declared.calls.Call.TheVariants.{Open, Close, Entitled, Grant}
use Rattle.script.specs.Grammar.{cut, numbered, by_number}

-- the letters o, c, m and g
abbrev pub commanded : ℕ → Option Command
commanded b =
    cond (b == 111) (Some Opening)
    (cond (b == 99) (Some Closing)
    (cond (b == 109) (Some Asking)
    (cond (b == 103) (Some Granting) None)))

-- the first field is one of the letters
abbrev pub lettered : List ℕ → Option Command
lettered [] = None
lettered (b ∷ []) = commanded b
lettered (b ∷ c ∷ bs) = None

-- the command that there is, or the refusal
abbrev pub known : Option Command → Result Command (Cause × ℕ)
known None = Err (UnknownLetter, 0)
known (Some k) = Ok k

-- the first field, of which there always is one
abbrev pub first : List (List ℕ) → List ℕ
first [] = []
first (f ∷ fs) = f

-- fields after the letter
abbrev pub arity : Command → ℕ
arity Opening = 1
arity Closing = 1
arity Asking = 4
arity Granting = 5

abbrev person : List ℕ → ℕ → Person
person v k = record { 0 = slice_index v k }

abbrev step : List ℕ → ℕ → Step
step v k = record { 0 = slice_index v k }

abbrev lot : List ℕ → ℕ → Lot
lot v k = record { 0 = slice_index v k }

abbrev pub called : Command → List ℕ → Call
called Opening v = Open (lot v 0)
called Closing v = Close (lot v 0)
called Asking v = Entitled (person v 0) (step v 1) (slice_index v 2) (lot v 3)
called Granting v = Grant (person v 0) (person v 1) (step v 2) (slice_index v 3) (lot v 4)

-- the first field, counted from p, that is no number
abbrev pub first_bad : ℕ → List (List ℕ) → Option ℕ
first_bad p [] = None
first_bad p (f ∷ fs) = by_number (numbered f) (Some p) (λ _. first_bad (p + 1) fs)

abbrev pub values : List (List ℕ) → List ℕ
values [] = []
values (f ∷ fs) = by_number (numbered f) 0 (λ v. v) ∷ values fs

abbrev pub by_fault : {R : Type 0} → Option ℕ → R → Result R (Cause × ℕ)
by_fault None r = Ok r
by_fault (Some p) r = Err (NotANumber, p)

abbrev pub by_letter : Option Command → List (List ℕ) → Result Call (Cause × ℕ)
by_letter None fs = Err (UnknownLetter, 0)
by_letter (Some k) fs = cond (length fs == arity k) (by_fault (first_bad 0 fs) (called k (values fs))) (Err (FieldCount, length fs))

abbrev pub by_fields : List (List ℕ) → Result Call (Cause × ℕ)
by_fields [] = Err (UnknownLetter, 0)
by_fields (f ∷ fs) = by_letter (lettered f) fs

-- refused as a long line, for its letter, for how many fields it has, for a field, in this order, or a call
abbrev pub parsed : List ℕ → Result Call (Cause × ℕ)
parsed line = cond (nat_lt 120 (length line)) (Err (LongLine, 120)) (by_fields (cut 32 line))
