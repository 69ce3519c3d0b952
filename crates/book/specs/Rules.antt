-- What a book says, and how it is written down.
use Rattle.std.specs.Prelude.{ℕ, Bool, true, ◌&&◌, List, [], ◌∷◌, ◌++◌, map, length, None, Option, vec_items}
use Rattle.std.specs.List.{zip, flat_map}
use Rattle.strength.specs.Kind.{Kind}
use Rattle.strength.specs.declared.values.Marks.{Marks}
use Rattle.book.specs.declared.faults.Cause.{Cause}
use Rattle.book.specs.declared.form.Sizes.{Sizes}
use Rattle.book.specs.declared.form.Test.{Test}
use Rattle.book.specs.declared.form.Test.TheVariants.{Below, Key, Strength}
use Rattle.book.specs.declared.rows.Clash.{Clash}
use Rattle.book.specs.declared.rows.Cover.{Cover}
use Rattle.book.specs.declared.rows.Entry.{Entry}
use Rattle.book.specs.declared.rows.Play.{Play}
use Rattle.book.specs.declared.rows.Rows.{Rows}
use Rattle.book.specs.Words.{spelled}
use Rattle.book.specs.Entries.{key_word}
use Rattle.book.specs.Causes.{number_cause, key_cause, clash_cause, size_cause, clean}
use Rattle.book.specs.Form.{limits, listed_sizes}

-- what a book says, whatever memory it lies in
pub record Rules (S : Type 0) : Type 0 where
  pub posts : ℕ
  pub steps : ℕ
  pub marks : List Marks
  pub plays : List Play
  pub covers : List Cover
  pub holds : List (Entry S)
  pub bars : List (Entry S)
  pub clashes : List Clash

-- what rows say
abbrev pub said : {S : Type 0} → Rows S → Rules S
said r = record {
  posts = r.posts;
  steps = r.steps;
  marks = vec_items r.marks;
  plays = vec_items r.plays;
  covers = vec_items r.covers;
  holds = vec_items r.holds;
  bars = vec_items r.bars;
  clashes = vec_items r.clashes;
}

abbrev pub sizes_in : {S : Type 0} → Rules S → Sizes
sizes_in r = record {
  people = length r.marks;
  posts = r.posts;
  steps = r.steps;
  plays = length r.plays;
  covers = length r.covers;
  holds = length r.holds;
  bars = length r.bars;
  clashes = length r.clashes;
}

-- all columns but the last, each with its test and its words, where a strength has this word
abbrev pub filled : {S : Type 0} → (S → ℕ) → Rules S → List (Test × List ℕ)
filled word r =
    (Below 16777216, map (λ m. m.0) r.marks)
    ∷ (Below (length r.marks), map (λ p. p.person.0) r.plays)
    ∷ (Below r.posts, map (λ p. p.post.0) r.plays)
    ∷ (Below r.steps, map (λ p. p.stronger.0) r.covers)
    ∷ (Below r.steps, map (λ p. p.weaker.0) r.covers)
    ∷ (Key r.posts r.steps, map (λ p. key_word p.key) r.holds)
    ∷ (Strength, map (λ p. word p.strength) r.holds)
    ∷ (Key r.posts r.steps, map (λ p. key_word p.key) r.bars)
    ∷ (Strength, map (λ p. word p.strength) r.bars)
    ∷ (Below r.steps, map (λ p. p.one.0) r.clashes)
    ∷ []

-- the last column
abbrev pub others : {S : Type 0} → Rules S → List ℕ
others r = map (λ p. p.other.0) r.clashes

-- the words of a book
abbrev pub words_in : {S : Type 0} → Kind S → Rules S → List ℕ
words_in k r = listed_sizes (sizes_in r) ++ (flat_map (λ c. c.1) (filled k.word r) ++ others r)

-- the bytes of a book
abbrev pub written : {S : Type 0} → Kind S → Rules S → List ℕ
written k r = spelled (words_in k r)

-- what a test of numbers finds wrong; a strength that is there has a word
abbrev pub number_test : Test → ℕ → Option Cause
number_test (Below limit) w = number_cause limit w
number_test (Key posts steps) w = key_cause posts steps w
number_test Strength w = None

-- no word of these columns has a cause
abbrev pub fine : (Test → ℕ → Option Cause) → List (Test × List ℕ) → Bool
fine c [] = true
fine c (x ∷ xs) = clean (c x.0) x.1 && fine c xs

-- sizes within their limits, and numbers in range: what every book keeps
unfoldable pub fits : {S : Type 0} → Rules S → Bool
fits r =
    clean size_cause (zip limits (listed_sizes (sizes_in r)))
    && (fine number_test (filled (λ _. 0) r) && clean (clash_cause r.steps) (zip (map (λ p. p.one.0) r.clashes) (others r)))
