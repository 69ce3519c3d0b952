-- The form of a book, and what bytes are refused as a book.
use Rattle.std.specs.Prelude.{ℕ, ◌+◌, ◌-◌, ◌*◌, ◌≤◌, cond, List, [], ◌∷◌, length, take, drop, Some, None, Option, ◌==◌, nat_lt, slice_index}
use Rattle.std.specs.List.{zip}
use Rattle.strength.specs.Kind.{Kind}
use Rattle.book.specs.declared.faults.Cause.{Cause}
use Rattle.book.specs.declared.faults.Cause.TheVariants.{ShortBook, WrongLength}
use Rattle.book.specs.declared.form.Limit.{Limit}
use Rattle.book.specs.declared.form.Sizes.{Sizes}
use Rattle.book.specs.declared.form.Column.{Column}
use Rattle.book.specs.declared.form.Test.TheVariants.{Below, Key, Strength}
use Rattle.book.specs.Words.{words}
use Rattle.book.specs.Causes.{size_cause, cause, clash_cause, first, or_else}

-- the limits of the sizes, in file order
abbrev pub limits : List Limit
limits =
    record { least = 1; most = 256 } ∷ record { least = 1; most = 64 } ∷ record { least = 1; most = 64 } ∷ record { least = 0; most = 1024 }
    ∷ record { least = 0; most = 256 } ∷ record { least = 0; most = 512 } ∷ record { least = 0; most = 256 } ∷ record { least = 0; most = 256 } ∷ []

-- the sizes in file order, and the sizes that words begin with
abbrev pub listed_sizes : Sizes → List ℕ
listed_sizes s = s.people ∷ s.posts ∷ s.steps ∷ s.plays ∷ s.covers ∷ s.holds ∷ s.bars ∷ s.clashes ∷ []

abbrev pub sizes_of : List ℕ → Sizes
sizes_of ws = record {
  people = slice_index ws 0;
  posts = slice_index ws 1;
  steps = slice_index ws 2;
  plays = slice_index ws 3;
  covers = slice_index ws 4;
  holds = slice_index ws 5;
  bars = slice_index ws 6;
  clashes = slice_index ws 7;
}

-- the first size outside its limits
abbrev pub in_sizes : Sizes → Option (Cause × ℕ)
in_sizes s = first size_cause 0 (zip limits (listed_sizes s))

-- no size is above its limit
pub record Small (s : Sizes) : Type 0 where
  pub people : s.people ≤ 256
  pub posts : s.posts ≤ 64
  pub steps : s.steps ≤ 64
  pub plays : s.plays ≤ 1024
  pub covers : s.covers ≤ 256
  pub holds : s.holds ≤ 512
  pub bars : s.bars ≤ 256
  pub clashes : s.clashes ≤ 256

-- all columns but the last, in file order
abbrev pub columns : Sizes → List Column
columns s =
    record { test = Below 16777216; size = s.people }
    ∷ record { test = Below s.people; size = s.plays }
    ∷ record { test = Below s.posts; size = s.plays }
    ∷ record { test = Below s.steps; size = s.covers }
    ∷ record { test = Below s.steps; size = s.covers }
    ∷ record { test = Key s.posts s.steps; size = s.holds }
    ∷ record { test = Strength; size = s.holds }
    ∷ record { test = Key s.posts s.steps; size = s.bars }
    ∷ record { test = Strength; size = s.bars }
    ∷ record { test = Below s.steps; size = s.clashes }
    ∷ []

-- how many words columns have
abbrev pub total : List Column → ℕ
total [] = 0
total (c ∷ cs) = c.size + total cs

-- the first bad word of columns that begin at place i with these words
abbrev pub in_columns : {S : Type 0} → Kind S → List Column → ℕ → List ℕ → Option (Cause × ℕ)
in_columns k [] i ws = None
in_columns k (c ∷ cs) i ws = or_else (first (cause k c.test) i (take c.size ws)) (in_columns k cs (i + c.size) (drop c.size ws))

-- the place of the last column, the second steps of the clashes
abbrev pub last_at : Sizes → ℕ
last_at s = 8 + total (columns s)

-- the first bad word of the last column
abbrev pub in_clashes : Sizes → List ℕ → Option (Cause × ℕ)
in_clashes s ws = first (clash_cause s.steps) (last_at s) (zip (take s.clashes (drop (last_at s - s.clashes) ws)) (take s.clashes (drop (last_at s) ws)))

-- the length in bytes that the sizes say
abbrev pub due : Sizes → ℕ
due s = 8 * (last_at s + s.clashes)

-- the refusal of n bytes with these sizes and words, if they are refused: its cause and place
unfoldable pub judged : {S : Type 0} → Kind S → ℕ → Sizes → List ℕ → Option (Cause × ℕ)
judged k n s ws =
    cond (nat_lt n 64) (Some (ShortBook, n)) (or_else (in_sizes s) (
    cond (n == due s) (or_else (in_columns k (columns s) 8 (drop 8 ws)) (in_clashes s ws)) (Some (WrongLength, due s))))

abbrev pub refusal : {S : Type 0} → Kind S → List ℕ → Option (Cause × ℕ)
refusal k bs = judged k (length bs) (sizes_of (words bs)) (words bs)
