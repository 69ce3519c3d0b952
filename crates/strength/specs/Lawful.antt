-- When a count and a mask make a reach, and two temperatures a band.
use Rattle.std.specs.Prelude.{◌≡◌, ℕ, ◌^◌, ◌<◌, ◌≤◌, Bool, true, false, ◌&&◌, ◌||◌, Some, None, Option, ◌==◌, nat_le, nat_lt, refl}
use Rattle.std.proofs.Common.{arith}
use Rattle.std.proofs.lemmas.Bool.Decides.{nat_tests}

-- the mask of a reach has 24 bits, and is empty at count 0
abbrev pub LawfulReach : ℕ → ℕ → Type 0
LawfulReach count mask = (count < 256) × (mask < 2 ^ 24) × (count ≡ 0 → mask ≡ 0)

-- a band has its ends in order and goes up to 60 degrees
abbrev pub LawfulBand : ℕ → ℕ → Type 0
LawfulBand lowest highest = (lowest ≤ highest) × (highest ≤ 600)

-- the same as tests
abbrev pub is_reach : ℕ → ℕ → Bool
is_reach c m = nat_lt c 256 && (nat_lt m (2 ^ 24) && (nat_lt 0 c || m == 0))

abbrev pub is_band : ℕ → ℕ → Bool
is_band l h = nat_le l h && nat_le h 600

pub lawful_reach : (c m : ℕ) → is_reach c m ≡ true → LawfulReach c m
lawful_reach c m e = (grind (arith, nat_tests), grind (arith, nat_tests), λ z. grind (arith, nat_tests))

pub lawful_band : (l h : ℕ) → is_band l h ≡ true → LawfulBand l h
lawful_band l h e = (grind (arith, nat_tests), grind (arith, nat_tests))

-- what a test lets through; it may use that the test was passed
abbrev pub when : {X : Type 0} (b : Bool) → (b ≡ true → X) → Option X
when true f = Some (f refl)
when false f = None
