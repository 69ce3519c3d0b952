-- When a post and a step make a key.
use Rattle.std.specs.Prelude.{◌≡◌, ℕ, ◌<◌, Bool, true, ◌&&◌, nat_lt}
use Rattle.std.proofs.lemmas.Bool.{and_parts, ltb-true}

-- a post and a step of some book
abbrev pub KeyInRange : ℕ → ℕ → Type 0
KeyInRange post step = (post < 64) × (step < 64)

-- the same as a test
abbrev pub key_test : ℕ → ℕ → Bool
key_test post step = nat_lt post 64 && nat_lt step 64

pub key-passes : (post step : ℕ) → key_test post step ≡ true → KeyInRange post step
key-passes post step e = let p = and_parts (nat_lt post 64) (nat_lt step 64) e in (ltb-true post 64 p.0, ltb-true step 64 p.1)
