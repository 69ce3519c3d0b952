-- What reading and writing a book answer.
use Rattle.std.specs.Prelude.{◌≡◌, ℕ, ◌<◌, ◌≤◌, ◌⊎◌, List, ◌++◌, length, drop, Some, None, Ok, Err, Option, Result}
use Rattle.strength.specs.Kind.{Kind}
use Rattle.book.specs.declared.book.Book.{Book}
use Rattle.book.specs.declared.faults.BookFault.{BookFault}
use Rattle.book.specs.declared.faults.Cause.{Cause}
use Rattle.book.specs.declared.faults.Cause.TheVariants.{ShortBuffer}
use Rattle.book.specs.declared.faults.BookFault.TheVariants.{Refused, Memory}
use Rattle.book.specs.Form.{due, judged, refusal}
use Rattle.book.specs.Rules.{Rules, said, sizes_in, words_in, written}

-- what a book says
abbrev pub rules : {S : Type 0} → Book S → Rules S
rules b = said b.rows

-- what reading bytes answers: a book only where they are sound, and then the one that is written as they are
abbrev pub Reads : {S : Type 0} → Kind S → List ℕ → Result (Book S) BookFault → Type 0
Reads k bs (Ok b) = (refusal k bs ≡ None) × (written k (rules b) ≡ bs)
Reads k bs (Err (Refused f)) = refusal k bs ≡ Some f
Reads k bs (Err Memory) = refusal k bs ≡ None

-- the refusal of rows: that of the file that they would be written to
abbrev pub rows_refusal : {S : Type 0} → Kind S → Rules S → Option (Cause × ℕ)
rows_refusal k r = judged k (due (sizes_in r)) (sizes_in r) (words_in k r)

-- what making a book of rows answers
abbrev pub Makes : {S : Type 0} → Kind S → Rules S → Result (Book S) BookFault → Type 0
Makes k r (Ok b) = (rows_refusal k r ≡ None) × (rules b ≡ r)
Makes k r (Err (Refused f)) = rows_refusal k r ≡ Some f
Makes k r (Err Memory) = rows_refusal k r ≡ None

-- what writing a book answers, and what it leaves in the buffer
abbrev pub Writes : {S : Type 0} → Kind S → Rules S → List ℕ → List ℕ → Result ℕ (Cause × ℕ) → Type 0
Writes k r old new (Ok n) = (n ≡ length (written k r)) × (n ≤ length old) × (new ≡ written k r ++ drop n old)
Writes k r old new (Err f) = (f ≡ (ShortBuffer, length (written k r))) × (length old < length (written k r)) × (new ≡ old)

-- what is written of a book is sound, and whatever is read from it says the same
pub record Rereads {S : Type 0} (k : Kind S) (b : Book S) : Type 0 where
  pub sound : refusal k (written k (rules b)) ≡ None
  pub same : (again : Book S) → Reads k (written k (rules b)) (Ok again) → rules again ≡ rules b

-- what reading bytes and writing them back answers, and what it leaves in the buffer
abbrev pub Rewrites : {S : Type 0} → Kind S → List ℕ → List ℕ → List ℕ → Result (Book S) BookFault → Type 0
Rewrites k bs old new (Ok b) = Reads k bs (Ok b) × (length bs ≤ length old) × (new ≡ bs ++ drop (length bs) old)
Rewrites k bs old new (Err (Refused f)) = ((refusal k bs ≡ Some f) ⊎ ((refusal k bs ≡ None) × (length old < length bs) × (f ≡ (ShortBuffer, length bs)))) × (new ≡ old)
Rewrites k bs old new (Err Memory) = (refusal k bs ≡ None) × (new ≡ old)
