-- What a kind of strength offers, and its laws.
use Rattle.std.specs.Prelude.{◌≡◌, ℕ, ◌^◌, ◌<◌, Bool, true, Some, Option}

pub record Kind (S : Type 0) : Type 0 where
  -- whether the first is at least the second
  pub at_least : S → S → Bool
  -- what a strength becomes when it is passed on to somebody with these marks
  pub passed_on : S → ℕ → Option S
  -- the number that stands for a strength
  pub word : S → ℕ
  -- the strength that has this word, if there is one
  pub of_word : ℕ → Option S

-- a strength is at least itself
abbrev pub Reflexive : {S : Type 0} → Kind S → Type 0
Reflexive {S} k = (a : S) → k.at_least a a ≡ true

-- if a is at least b and b at least c, then a is at least c
abbrev pub Transitive : {S : Type 0} → Kind S → Type 0
Transitive {S} k = (a b c : S) → k.at_least a b ≡ true → k.at_least b c ≡ true → k.at_least a c ≡ true

-- two strengths that are at least each other are equal
abbrev pub Antisymmetric : {S : Type 0} → Kind S → Type 0
Antisymmetric {S} k = (a b : S) → k.at_least a b ≡ true → k.at_least b a ≡ true → a ≡ b

-- a strength is at least what it becomes; marks have 24 bits
abbrev pub Decreasing : {S : Type 0} → Kind S → Type 0
Decreasing {S} k = (a : S) (m : ℕ) → m < 2 ^ 24 → (b : S) → k.passed_on a m ≡ Some b → k.at_least a b ≡ true

-- where b passes, an a that is at least b passes too, and becomes at least what b becomes
abbrev pub Monotone : {S : Type 0} → Kind S → Type 0
Monotone {S} k = (a b : S) (m : ℕ) → m < 2 ^ 24 → (c : S) → k.at_least a b ≡ true → k.passed_on b m ≡ Some c
    → (d : S) × (k.passed_on a m ≡ Some d) × (k.at_least d c ≡ true)

-- a strength is read back from its word
abbrev pub ReadsBack : {S : Type 0} → Kind S → Type 0
ReadsBack {S} k = (a : S) → k.of_word (k.word a) ≡ Some a

-- what is read from a word has that word
abbrev pub KeepsWord : {S : Type 0} → Kind S → Type 0
KeepsWord {S} k = (w : ℕ) (a : S) → k.of_word w ≡ Some a → k.word a ≡ w

-- a word fits into 64 bits
abbrev pub Bounded : {S : Type 0} → Kind S → Type 0
Bounded {S} k = (a : S) → k.word a < 2 ^ 64

-- a word fits into 32 bits
abbrev pub Short : {S : Type 0} → Kind S → Type 0
Short {S} k = (a : S) → k.word a < 2 ^ 32
