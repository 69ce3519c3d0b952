-- Rows and their two words.
use Rattle.std.specs.Prelude.{◌≡◌, ℕ, ◌+◌, List, ◌++◌, map, take, drop, Some, None, Option}
use Rattle.strength.specs.Kind.{Kind}
use Rattle.book.specs.declared.keys.Key.{Key}
use Rattle.book.specs.declared.rows.Play.{Play}
use Rattle.book.specs.declared.rows.Cover.{Cover}
use Rattle.book.specs.declared.rows.Clash.{Clash}
use Rattle.book.specs.declared.rows.Entry.{Entry}
use Rattle.book.specs.Entries.{key_word, key_of_word}

-- the words of a row, and the row of two words, if there is one
pub record Layout (R : Type 0) : Type 0 where
  pub first_word : R → ℕ
  pub second_word : R → ℕ
  pub of_words : ℕ → ℕ → Option R

-- a row is read back from its words
abbrev pub ReadsBackRow : {R : Type 0} → Layout R → Type 0
ReadsBackRow {R} f = (x : R) → f.of_words (f.first_word x) (f.second_word x) ≡ Some x

-- a row that is read has the words that it was read from
abbrev pub KeepsWords : {R : Type 0} → Layout R → Type 0
KeepsWords {R} f = (a b : ℕ) (x : R) → f.of_words a b ≡ Some x → (f.first_word x ≡ a) × (f.second_word x ≡ b)

abbrev pub play_layout : Layout Play
play_layout = record {
  first_word = λ r. r.person.0;
  second_word = λ r. r.post.0;
  of_words = λ a b. Some record { person = record { 0 = a }; post = record { 0 = b } };
}

abbrev pub cover_layout : Layout Cover
cover_layout = record {
  first_word = λ r. r.stronger.0;
  second_word = λ r. r.weaker.0;
  of_words = λ a b. Some record { stronger = record { 0 = a }; weaker = record { 0 = b } };
}

abbrev pub clash_layout : Layout Clash
clash_layout = record {
  first_word = λ r. r.one.0;
  second_word = λ r. r.other.0;
  of_words = λ a b. Some record { one = record { 0 = a }; other = record { 0 = b } };
}

-- a key and a strength, if both are there
abbrev pub entry : {S : Type 0} → Option Key → Option S → Option (Entry S)
entry (Some k) (Some s) = Some record { key = k; strength = s }
entry (Some k) None = None
entry None s = None

abbrev pub entry_layout : {S : Type 0} → Kind S → Layout (Entry S)
entry_layout k = record {
  first_word = λ r. key_word r.key;
  second_word = λ r. k.word r.strength;
  of_words = λ a b. entry (key_of_word a) (k.of_word b);
}

-- the two columns of a table, one after the other
abbrev pub flat : {R : Type 0} → Layout R → List R → List ℕ
flat f rs = map f.first_word rs ++ map f.second_word rs

-- these rows are the table of n rows whose first column begins at place p of the words
abbrev pub TableAt : {R : Type 0} → Layout R → List ℕ → ℕ → ℕ → List R → Type 0
TableAt f ws p n rs = (map f.first_word rs ≡ take n (drop p ws)) × (map f.second_word rs ≡ take n (drop (p + n) ws))
