-- The number of each cause of refusal.
use Rattle.std.specs.Prelude.{ℕ}
use Rattle.register.specs.declared.faults.Cause.{Cause}
use Rattle.register.specs.declared.faults.Cause.TheVariants.{ShortArrays, UnknownPerson, UnknownStep, UnlawfulWord, LotOutOfRange, LotNotOpen, LotAlreadyOpen, TooManyLots, GiverIsReceiver, NotBacked, Barred, AlreadyStands, TooManyGrants}

abbrev pub number : Cause → ℕ
number ShortArrays = 7
number UnknownPerson = 10
number UnknownStep = 11
number UnlawfulWord = 12
number LotOutOfRange = 13
number LotNotOpen = 14
number LotAlreadyOpen = 15
number TooManyLots = 16
number GiverIsReceiver = 17
number NotBacked = 18
number Barred = 19
number AlreadyStands = 20
number TooManyGrants = 21
