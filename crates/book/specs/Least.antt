-- Where a book is refused: the least place that has a cause.
use Rattle.std.specs.Prelude.{◌≡◌, ℕ, ◌+◌, ◌-◌, ◌<◌, ◌≤◌, cond, List, [], ◌∷◌, length, Some, None, Option, nat_lt, slice_index, slice_index_or}
use Rattle.strength.specs.Kind.{Kind}
use Rattle.book.specs.declared.faults.Cause.{Cause}
use Rattle.book.specs.declared.faults.Cause.TheVariants.{SizeOutOfLimits}
use Rattle.book.specs.declared.form.Column.{Column}
use Rattle.book.specs.Words.{words}
use Rattle.book.specs.Causes.{number, size_cause, cause, clash_cause}
use Rattle.book.specs.Form.{limits, sizes_of, columns, last_at, refusal}

-- what is wrong with the size at place i
abbrev pub size_cause_at : List ℕ → ℕ → Option Cause
size_cause_at ws i = size_cause (slice_index_or limits i record { least = 0; most = 0 }, slice_index ws i)

-- what is wrong with the word at place i of columns that begin at this place
abbrev pub column_cause_at : {S : Type 0} → Kind S → List Column → ℕ → List ℕ → ℕ → Option Cause
column_cause_at k [] begin ws i = None
column_cause_at k (c ∷ cs) begin ws i = cond (nat_lt i (begin + c.size)) (cause k c.test (slice_index ws i)) (column_cause_at k cs (begin + c.size) ws i)

-- what is wrong with the second step of a clash at place i; the first lies as many places before it as there are clashes
abbrev pub clash_cause_at : List ℕ → ℕ → Option Cause
clash_cause_at ws i = clash_cause (sizes_of ws).steps (slice_index ws (i - (sizes_of ws).clashes), slice_index ws i)

-- what is wrong with the word at place i of a book
unfoldable pub cause_at : {S : Type 0} → Kind S → List ℕ → ℕ → Option Cause
cause_at k ws i = cond (nat_lt i 8) (size_cause_at ws i) (cond (nat_lt i (last_at (sizes_of ws))) (column_cause_at k (columns (sizes_of ws)) 8 ws i) (clash_cause_at ws i))

-- p is a place from a to below b, its cause is c, and no place before it has one
pub record Least (f : ℕ → Option Cause) (a b : ℕ) (c : Cause) (p : ℕ) : Type 0 where
  pub from : a ≤ p
  pub below : p < b
  pub here : f p ≡ Some c
  pub before : (i : ℕ) → i < p → f i ≡ None

-- a book that is refused for a size or a word is refused for the first that has a cause, and in one that is not refused none has
pub record FirstCause {S : Type 0} (k : Kind S) (bs : List ℕ) : Type 0 where
  pub size : (p : ℕ) → refusal k bs ≡ Some (SizeOutOfLimits, p) → Least (cause_at k (words bs)) 0 8 SizeOutOfLimits p
  pub word : (c : Cause) (p : ℕ) → 3 < number c → refusal k bs ≡ Some (c, p) → Least (cause_at k (words bs)) 8 (length (words bs)) c p
  pub none : refusal k bs ≡ None → (i : ℕ) → i < length (words bs) → cause_at k (words bs) i ≡ None
