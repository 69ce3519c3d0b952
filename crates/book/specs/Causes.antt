-- What is wrong with a word, and the first word of some that has a cause.
use Rattle.std.specs.Prelude.{ℕ, ◌+◌, ◌/◌, ◌%◌, Bool, true, cond, ◌&&◌, List, [], ◌∷◌, is_some, is_none, Some, None, Option, ◌==◌, nat_le, nat_lt}
use Rattle.strength.specs.Kind.{Kind}
use Rattle.book.specs.declared.faults.Cause.{Cause}
use Rattle.book.specs.declared.faults.Cause.TheVariants.{ShortBook, SizeOutOfLimits, WrongLength, OutOfRange, UnlawfulWord, SelfClash, ShortBuffer}
use Rattle.book.specs.declared.form.Limit.{Limit}
use Rattle.book.specs.declared.form.Test.{Test}
use Rattle.book.specs.declared.form.Test.TheVariants.{Below, Key, Strength}

-- the number of each cause
abbrev pub number : Cause → ℕ
number ShortBook = 1
number SizeOutOfLimits = 2
number WrongLength = 3
number OutOfRange = 4
number UnlawfulWord = 5
number SelfClash = 6
number ShortBuffer = 8

-- a size has to be within its limits
abbrev pub size_cause : Limit × ℕ → Option Cause
size_cause (l, w) = cond (nat_le l.least w) (cond (nat_le w l.most) None (Some SizeOutOfLimits)) (Some SizeOutOfLimits)

-- a number has to be below a limit
abbrev pub number_cause : ℕ → ℕ → Option Cause
number_cause limit w = cond (nat_lt w limit) None (Some OutOfRange)

-- the post and the step of a key have to be in range
abbrev pub key_cause : ℕ → ℕ → ℕ → Option Cause
key_cause posts steps w = cond (nat_lt (w / 64) posts) (cond (nat_lt (w % 64) steps) None (Some OutOfRange)) (Some OutOfRange)

-- what a test finds wrong with a word
abbrev pub cause : {S : Type 0} → Kind S → Test → ℕ → Option Cause
cause k (Below limit) w = number_cause limit w
cause k (Key posts steps) w = key_cause posts steps w
cause k Strength w = cond (is_some (k.of_word w)) None (Some UnlawfulWord)

-- the second step of a clash has to be in range, and another than the first
abbrev pub clash_cause : ℕ → ℕ × ℕ → Option Cause
clash_cause steps (one, other) = cond (nat_lt other steps) (cond (one == other) (Some SelfClash) None) (Some OutOfRange)

-- the cause at place i, or where there is none what comes after
abbrev pub told : Option Cause → ℕ → Option (Cause × ℕ) → Option (Cause × ℕ)
told None i later = later
told (Some c) i later = Some (c, i)

-- the first of these words that has a cause, with its place; the places count from i
abbrev pub first : {X : Type 0} → (X → Option Cause) → ℕ → List X → Option (Cause × ℕ)
first c i [] = None
first c i (x ∷ xs) = told (c x) i (first c (i + 1) xs)

abbrev pub or_else : Option (Cause × ℕ) → Option (Cause × ℕ) → Option (Cause × ℕ)
or_else (Some f) o = Some f
or_else None o = o

-- none of these words has a cause
abbrev pub clean : {X : Type 0} → (X → Option Cause) → List X → Bool
clean c [] = true
clean c (x ∷ xs) = is_none (c x) && clean c xs
