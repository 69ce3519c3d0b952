-- What the kinds are called.
use Rattle.std.specs.Prelude.{◌≡◌, ℕ, List, Ok, Err, codes, Result}
use Rattle.book_show.specs.declared.failure.Failure.{Failure}
use Rattle.book_show.specs.declared.failure.Failure.TheVariants.{Usage}
use Rattle.book_show.specs.declared.input.Kind.{Kind}
use Rattle.book_show.specs.declared.input.Kind.TheVariants.{Press, Malaxer}

abbrev pub name : Kind → List ℕ
name Press = codes "press"
name Malaxer = codes "malaxer"

-- a text is read as the kind that has this name, and no kind has the name of another text
abbrev pub ReadsKind : List ℕ → Result Kind Failure → Type 0
ReadsKind text (Ok k) = text ≡ name k
ReadsKind text (Err f) = (f ≡ Usage) × ((k : Kind) → text ≡ name k → ⊥)
