-- Checks in their order, and what they answer.
use Rattle.std.specs.Prelude.{◌≡◌, ℕ, ◌≤◌, ◌⊎◌, List, [], ◌∷◌, Ok, Err, Result}
use Rattle.register.specs.Numbers.{number}
use Rattle.register.specs.declared.faults.Cause.{Cause}
use Rattle.register.specs.declared.faults.RegisterFault.{RegisterFault}

-- a check: the cause that it tells, and the place at which the cause holds, if it does
pub record Check : Type 1 where
  pub cause : Cause
  pub At : ℕ → Type 0

-- a cause with a place of its own
abbrev pub check : Cause → ℕ → Type 0 → Check
check cause place When = record { cause = cause; At = λ p. (p ≡ place) × When }

-- a cause whose place is that of a row
abbrev pub check_at : Cause → (ℕ → Type 0) → Check
check_at cause At = record { cause = cause; At = At }

-- a cause does not hold
abbrev pub Absent : Check → Type 0
Absent c = (p : ℕ) → c.At p → ⊥

-- cause and place are those of the first check whose cause holds
abbrev pub Refused : List Check → Cause → ℕ → Type 0
Refused [] n p = ⊥
Refused (c ∷ cs) n p = ((n ≡ c.cause) × c.At p) ⊎ (Absent c × Refused cs n p)

-- no cause holds
abbrev pub Allowed : List Check → Type 0
Allowed [] = Unit {0}
Allowed (c ∷ cs) = Absent c × Allowed cs

-- what checks answer: the first cause that holds, or that none does, with what P says
abbrev pub Checks : {X : Type 0} → List Check → (X → Type 0) → Result X RegisterFault → Type 0
Checks cs P (Ok x) = Allowed cs × P x
Checks cs P (Err e) = Refused cs e.cause e.place

-- no number is below n, nor below the one before it
abbrev pub RisingFrom : ℕ → List Check → Type 0
RisingFrom n [] = Unit {0}
RisingFrom n (c ∷ cs) = (n ≤ number c.cause) × RisingFrom (number c.cause) cs

-- the numbers rise along the list
abbrev pub Rising : List Check → Type 0
Rising cs = RisingFrom 0 cs
