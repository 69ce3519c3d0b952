-- What a script does to a register, and what is written of it.
use Rattle.std.specs.Prelude.{◌≡◌, ℕ, ◌+◌, ◌<◌, ◌≤◌, ◌⊎◌, List, [], ◌∷◌, ◌++◌, length, Err, Result}
use Rattle.strength.specs.Kind.{Kind}
use Rattle.book.specs.declared.book.Book.{Book}
use Rattle.delegation.specs.declared.grants.Grant.{Grant}
use Rattle.register.specs.Shape.{state_of}
use Rattle.register.specs.State.{empty}
use Rattle.register.specs.declared.register.Register.{Register}
use Rattle.script.specs.declared.faults.Cause.TheVariants.{LongScript}
use Rattle.script.specs.declared.faults.Fault.{Fault}
use Rattle.script.specs.declared.faults.Fault.TheVariants.{OfScript}
use Rattle.script.specs.Grammar.{lines}
use Rattle.script.specs.Lines.{Asked, spoken}
use Rattle.script.specs.Parsed.{parsed}

-- the lines, counted from n, are asked one after another, and their output lines stand one after another
pub data Ran {S : Type 0} (k : Kind S) : ℕ → Register S → List (List ℕ) → List ℕ → Register S → Type 0 where
  none : {n : ℕ} {d : Register S} → Ran k n d [] [] d
  more : {n : ℕ} {d e f : Register S} {line : List ℕ} {ls : List (List ℕ)} {text : List ℕ} (reply : Result ℕ Fault)
      → Asked k (parsed line) d reply e → Ran k (n + 1) e ls text f → Ran k n d (line ∷ ls) (spoken n reply ++ text) f

-- a script that is too long is refused whole, and is line 0
pub record TooLong {S : Type 0} (script : List ℕ) (before : Register S) (held : List ℕ) (after : Register S) (held' : List ℕ) : Type 0 where
  pub long : 65536 < length script
  pub same : after ≡ before
  pub told : held' ≡ held ++ spoken 0 (Err (OfScript (LongScript, 65536)))

-- every line of any other is obeyed
pub record RanLines {S : Type 0} (k : Kind S) (script : List ℕ) (before : Register S) (held : List ℕ) (after : Register S) (held' : List ℕ) : Type 0 where
  pub short : length script ≤ 65536
  pub text : List ℕ
  pub ran : Ran k 1 before (lines script) text after
  pub told : held' ≡ held ++ text

abbrev pub RanScript : {S : Type 0} → Kind S → List ℕ → Register S → List ℕ → Register S → List ℕ → Type 0
RanScript k script before held after held' = TooLong script before held after held' ⊎ RanLines k script before held after held'

-- one line
pub record RanLine {S : Type 0} (k : Kind S) (n : ℕ) (line : List ℕ) (before : Register S) (held : List ℕ) (after : Register S) (held' : List ℕ) : Type 0 where
  pub reply : Result ℕ Fault
  pub asked : Asked k (parsed line) before reply after
  pub told : held' ≡ held ++ spoken n reply

-- a grant of nobody's, for a place that holds none: person, step and lot 0, at any strength
abbrev pub filled_with : {S : Type 0} → S → Grant S
filled_with strength = record {
  giver = record { 0 = 0 };
  receiver = record { 0 = 0 };
  right = record { step = record { 0 = 0 }; strength = strength };
  lot = record { 0 = 0 };
}

-- what a script is answered under a book, by a register in which nothing stood
pub record Answered {S : Type 0} (k : Kind S) (book : Book S) (script : List ℕ) (text : List ℕ) : Type 0 where
  pub before : Register S
  pub after : Register S
  pub of_book : before.book.now ≡ book
  pub nothing : state_of before ≡ empty S
  pub ran : RanScript k script before [] after text
