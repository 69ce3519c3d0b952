-- Reach: a count and a mask.
use Rattle.std.specs.Prelude.{ℕ, ◌+◌, ◌-◌, ◌*◌, ◌/◌, ◌%◌, ◌^◌, ◌<◌, Bool, cond, ◌&&◌, ◌||◌, Some, None, Option, ◌==◌, nat_le, nat_lt}
use Rattle.std.proofs.Common.{arith}
use Rattle.std.proofs.lemmas.Bool.{cond_both, cond-true, eq-eqb}
use Rattle.strength.specs.declared.values.Reach.{Reach}
use Rattle.strength.specs.Kind.{Kind}
use Rattle.strength.specs.Lawful.{LawfulReach, is_reach, lawful_reach, when}
use Rattle.strength.specs.Masks.{within}

-- the reach of this count and this mask, if there is one
abbrev pub reach : ℕ → ℕ → Option Reach
reach c m = when (is_reach c m) (λ e. record { count = record { 0 = c }; mask = record { 0 = m }; lawful = lawful_reach c m e })

-- b's count is 0, or a's count is no smaller and all of a's mask is in b's
abbrev pub reach_at_least : Reach → Reach → Bool
reach_at_least a b = b.count.0 == 0 || (nat_le b.count.0 a.count.0 && within a.mask.0 b.mask.0)

-- the count after passing on: one less, but 255 is without limit
abbrev pub next_count : ℕ → ℕ
next_count c = cond (c == 255) 255 (c - 1)

-- the mask after passing on, at the new count: at 0 it empties
abbrev pub next_mask : ℕ → ℕ → ℕ
next_mask n m = cond (n == 0) 0 m

pub lawful_next : (c m : ℕ) → LawfulReach c m → LawfulReach (next_count c) (next_mask (next_count c) m)
lawful_next c m l = (
  cond_both (c == 255) 255 (c - 1) (λ x. x < 256) (λ _. omega arith) (λ _. omega arith),
  cond_both (next_count c == 0) 0 m (λ x. x < 2 ^ 24) (λ _. omega arith) (λ _. l.1),
  λ z. cond-true (next_count c == 0) 0 m (eq-eqb (next_count c) 0 z),
)

-- what is left of a reach after passing on
abbrev pub lowered_reach : Reach → Reach
lowered_reach a = record {
  count = record { 0 = next_count a.count.0 };
  mask = record { 0 = next_mask (next_count a.count.0) a.mask.0 };
  lawful = lawful_next a.count.0 a.mask.0 a.lawful;
}

-- a reach passes above count 0, and if the marks have all of its mask
abbrev pub passes : Reach → ℕ → Bool
passes a m = nat_lt 0 a.count.0 && within a.mask.0 m

abbrev pub reach_passed_on : Reach → ℕ → Option Reach
reach_passed_on a m = cond (passes a m) (Some (lowered_reach a)) None

abbrev pub reach_kind : Kind Reach
reach_kind = record {
  at_least = reach_at_least;
  passed_on = reach_passed_on;
  word = λ a. a.count.0 * 2 ^ 24 + a.mask.0;
  of_word = λ w. reach (w / 2 ^ 24) (w % 2 ^ 24);
}
