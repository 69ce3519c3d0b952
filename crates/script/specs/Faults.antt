-- What a fault says, layer by layer.
use Rattle.std.specs.Prelude.{ℕ}
use Rattle.book.specs.Causes.{number as book_number}
use Rattle.register.specs.Numbers.{number as register_number}
use Rattle.script.specs.declared.faults.Cause.{Cause}
use Rattle.script.specs.declared.faults.Cause.TheVariants.{UnknownLetter, FieldCount, NotANumber, LongLine, LongScript, ShortBuffer}
use Rattle.script.specs.declared.faults.Fault.{Fault}
use Rattle.script.specs.declared.faults.Fault.TheVariants.{OfBook, OfRegister, OfScript}

-- the number that is told of each cause
abbrev pub number : Cause → ℕ
number UnknownLetter = 40
number FieldCount = 41
number NotANumber = 42
number LongLine = 43
number LongScript = 44
number ShortBuffer = 45

abbrev pub number_of : Fault → ℕ
number_of (OfBook f) = book_number f.0
number_of (OfRegister f) = register_number f.cause
number_of (OfScript f) = number f.0

abbrev pub place_of : Fault → ℕ
place_of (OfBook f) = f.1
place_of (OfRegister f) = f.place
place_of (OfScript f) = f.1
