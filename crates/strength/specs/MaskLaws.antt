-- The test of the 24 bits decides whether a mask is within marks, and orders the masks.
use Rattle.std.specs.Prelude.{◌≡◌, ℕ, zero, suc, ◌+◌, ◌*◌, ◌%◌, ◌^◌, ◌<◌, Bool, true, leb, Decides, nat_le, refl}
use Rattle.std.proofs.Common.{sym, ap, ap₂, ◌∙◌, arith, mod-eq_of_lt, one-add}
use Rattle.std.proofs.Math.Nat.{mod-one}
use Rattle.std.proofs.lemmas.Nat.{mod-pow-add}
use Rattle.std.proofs.lemmas.Nat.Bits.{bit_at-lt, bit_at-zero}
use Rattle.std.proofs.lemmas.Bool.Decides.{Decides-below_and, same_from_decides, nat_tests}
use Rattle.strength.specs.Masks.{bit, Within, within, lowest_within}

one_bit : (m s k : ℕ) → Decides (nat_le (bit m k) (bit s k)) (bit m k ≡ 1 → bit s k ≡ 1)
one_bit m s k =
    let b = bit_at-lt m k in let c = bit_at-lt s k in
    (λ t e. grind (arith, nat_tests), λ f. grind (arith, nat_tests))

decides_within : (m s : ℕ) → Decides (within m s) (Within m s)
unfolding within lowest_within
decides_within m s = Decides-below_and (λ k. leb (bit m k) (bit s k)) (λ k. bit m k ≡ 1 → bit s k ≡ 1) (lowest_within m s) (one_bit m s) refl (λ _. refl) 24

-- a result that decides it is the test
pub is_within : (r : Bool) (m s : ℕ) → Decides r (Within m s) → r ≡ within m s
is_within r m s d = same_from_decides r (within m s) d (decides_within m s)

pub within_refl : (m : ℕ) → within m m ≡ true
within_refl m = (decides_within m m).1 (λ k h e. e)

pub within_trans : (a b c : ℕ) → within a b ≡ true → within b c ≡ true → within a c ≡ true
within_trans a b c p q = (decides_within a c).1 (λ k h e. (decides_within b c).0 q k h ((decides_within a b).0 p k h e))

-- numbers with the same lowest bits are the same up to there, whatever bits they have above
same_low : (a b n : ℕ) → ((k : ℕ) → k < n → bit a k ≡ bit b k) → a % 2 ^ n ≡ b % 2 ^ n
same_low a b zero f = mod-one a ∙ sym (mod-one b)
same_low a b (suc n) f =
    let low : a % 2 ^ n ≡ b % 2 ^ n = same_low a b n (λ k h. f k (omega arith)) in
    let top : bit a n ≡ bit b n = f n (omega arith) in
    let split : (x : ℕ) → x % 2 ^ suc n ≡ bit x n * 2 ^ n + x % 2 ^ n = λ x. ap (λ j. x % 2 ^ j) (sym (one-add n)) ∙ mod-pow-add x 1 n in
    split a ∙ ap₂ (λ x y. x * 2 ^ n + y) top low ∙ sym (split b)

pub within_antisym : (a b : ℕ) → a < 2 ^ 24 → b < 2 ^ 24 → within a b ≡ true → within b a ≡ true → a ≡ b
within_antisym a b ha hb p q = sym (mod-eq_of_lt ha) ∙ same_low a b 24 same_bit ∙ mod-eq_of_lt hb
  where
    same_bit : (k : ℕ) → k < 24 → bit a k ≡ bit b k
    same_bit k h =
        let there = (decides_within a b).0 p k h in let back = (decides_within b a).0 q k h in
        let x = bit_at-lt a k in let y = bit_at-lt b k in
        grind arith

-- the empty mask is within any marks
pub within_none : (s : ℕ) → within 0 s ≡ true
within_none s = (decides_within 0 s).1 (λ k h e. absurd (omega (arith, e, bit_at-zero k)))
