-- Sets of 24 bits.
use Rattle.std.specs.Prelude.{◌≡◌, ℕ, zero, suc, ◌/◌, ◌%◌, ◌^◌, ◌<◌, Bool, true, ◌&&◌, nat_le}

-- bit k of m, 0 or 1
abbrev pub bit : ℕ → ℕ → ℕ
bit m k = m / 2 ^ k % 2

-- each of the 24 bits that m has is among those of s
abbrev pub Within : ℕ → ℕ → Type 0
Within m s = (k : ℕ) → k < 24 → bit m k ≡ 1 → bit s k ≡ 1

-- the same as a test, of the n lowest bits
unfoldable pub lowest_within : ℕ → ℕ → ℕ → Bool
lowest_within m s zero = true
lowest_within m s (suc n) = nat_le (bit m n) (bit s n) && lowest_within m s n

unfoldable pub within : ℕ → ℕ → Bool
unfolding lowest_within
within m s = lowest_within m s 24
