-- Worked examples of reach and band.
use Rattle.std.specs.Prelude.{◌≡◌, ℕ, Bool, true, false, Some, None, Option}
use Rattle.strength.specs.declared.values.Reach.{Reach}
use Rattle.strength.specs.Kind.{Kind}
use Rattle.strength.specs.Reaches.{reach_kind}
use Rattle.strength.specs.Bands.{band, band_kind}

-- whether the first is at least the second; None unless both are there
abbrev pub compared : {S : Type 0} → Kind S → Option S → Option S → Option Bool
compared k (Some a) (Some b) = Some (k.at_least a b)
compared k (Some a) None = None
compared k None o = None

-- whether the strength of word v is at least that of word w
abbrev pub words_compared : {S : Type 0} → Kind S → ℕ → ℕ → Option Bool
words_compared k v w = compared k (k.of_word v) (k.of_word w)

abbrev word_of : {S : Type 0} → Kind S → Option S → Option ℕ
word_of k (Some a) = Some (k.word a)
word_of k None = None

abbrev becomes : {S : Type 0} → Kind S → Option S → ℕ → Option (Option ℕ)
becomes k (Some a) m = Some (word_of k (k.passed_on a m))
becomes k None m = None

-- the word of what the strength of word w becomes: None for no strength, Some None for nothing
abbrev pub word_becomes : {S : Type 0} → Kind S → ℕ → ℕ → Option (Option ℕ)
word_becomes k w m = becomes k (k.of_word w) m

pub record WorkedExamples : Type 0 where
  -- count 2 is at least count 1
  pub longer : words_compared reach_kind 33554432 16777216 ≡ Some true
  -- count 1 is not at least count 2
  pub shorter : words_compared reach_kind 16777216 33554432 ≡ Some false
  -- mask 1 is at least mask 3: it asks less of the receiver
  pub freer : words_compared reach_kind 16777217 16777219 ≡ Some true
  -- mask 3 is not at least mask 1
  pub stricter : words_compared reach_kind 16777219 16777217 ≡ Some false
  -- at count 1 with mask 1, marks 1 leave count 0, where the mask empties
  pub spent : word_becomes reach_kind 16777217 1 ≡ Some (Some 0)
  -- marks 0 lack the bit of mask 1
  pub refused : word_becomes reach_kind 16777217 0 ≡ Some None
  -- count 255 with an empty mask passes to any marks, as itself
  pub unlimited : (a : Reach) (m : ℕ) → a.count.0 ≡ 255 → a.mask.0 ≡ 0 → reach_kind.passed_on a m ≡ Some a
  -- at count 0 the mask is empty, so word 5 is no reach
  pub no_mask : reach_kind.of_word 5 ≡ None
  -- counts end at 255, so word 2^32 is no reach
  pub no_count : reach_kind.of_word 4294967296 ≡ None
  -- 25 to 30 degrees lie inside 20 to 30
  pub inside : compared band_kind (band 200 300) (band 250 300) ≡ Some true
  -- 19 to 30 degrees do not
  pub outside : compared band_kind (band 200 300) (band 190 300) ≡ Some false
