-- Keys and their words.
use Rattle.std.specs.Prelude.{ℕ, ◌+◌, ◌*◌, ◌/◌, ◌%◌, Option}
use Rattle.strength.specs.Lawful.{when}
use Rattle.book.specs.declared.keys.Key.{Key}
use Rattle.book.specs.Keys.{key_test, key-passes}

-- the key of this post and step, if there is one
abbrev pub key : ℕ → ℕ → Option Key
key p s = when (key_test p s) (λ e. record { post = record { 0 = p }; step = record { 0 = s }; ok = key-passes p s e })

abbrev pub key_word : Key → ℕ
key_word k = k.post.0 * 64 + k.step.0

abbrev pub key_of_word : ℕ → Option Key
key_of_word w = key (w / 64) (w % 64)
