-- Bytes as 64-bit words, least byte first.
use Rattle.std.specs.Prelude.{ℕ, ◌+◌, ◌*◌, ◌/◌, ◌%◌, List, [], ◌∷◌, map, length, slice_index}
use Rattle.std.specs.Simd.{first_chunks}
use Rattle.std.specs.List.{flat_map}

-- the number of eight bytes
unfoldable pub word_of : List ℕ → ℕ
word_of b = slice_index b 0 + slice_index b 1 * 256 + slice_index b 2 * 65536 + slice_index b 3 * 16777216 + slice_index b 4 * 4294967296 + slice_index b 5 * 1099511627776 + slice_index b 6 * 281474976710656 + slice_index b 7 * 72057594037927936

-- the eight bytes of a number
unfoldable pub bytes_of : ℕ → List ℕ
bytes_of w = (w % 256) ∷ (w / 256 % 256) ∷ (w / 65536 % 256) ∷ (w / 16777216 % 256) ∷ (w / 4294967296 % 256) ∷ (w / 1099511627776 % 256) ∷ (w / 281474976710656 % 256) ∷ (w / 72057594037927936 % 256) ∷ []

-- the whole words of these bytes
abbrev pub words : List ℕ → List ℕ
words bs = map word_of (first_chunks 8 (length bs / 8) bs)

-- the bytes of these words
abbrev pub spelled : List ℕ → List ℕ
spelled ws = flat_map bytes_of ws
