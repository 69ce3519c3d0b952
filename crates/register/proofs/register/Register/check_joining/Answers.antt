-- The first bar that forbids the grant is told; where no bar forbids the grant there is no first that does.
use Rattle.std.proofs.Common.{ℕ, rules, inl}
use Rattle.register.proofs.Searches.{no_first}
use Rattle.register.proofs.register.Register.check_joining.Goals as goal

pub returns-in-Some : goal.returns-in-Some
returns-in-Some g c = inl (c.at.ensures.cause, rw (← c.at.ensures.place) at c.in-Some.ensures)

pub returns-then-stands : goal.returns-then-stands
returns-then-stands g c = let free = λ (p : ℕ). no_first _ _ p c.in_default.ensures in search rules

pub returns-then-grants-eq-MOST_GRANTS : goal.returns-then-grants-eq-MOST_GRANTS
returns-then-grants-eq-MOST_GRANTS g c = let free = λ (p : ℕ). no_first _ _ p c.in_default.ensures in search rules

pub returns : goal.returns
returns g c = let free = λ (p : ℕ). no_first _ _ p c.in_default.ensures in search rules
