-- The flag of the step itself is down, and at any other the book decides.
use Rattle.std.proofs.Common.{rules}
use borrow.Author.Tests.{tests}
use Rattle.book_show.proofs.numbers.Numbers.of_steps.Goals as goal

pub returns : goal.returns
returns g c k lt = let h = c.passing.ensures k lt in (λ e. (search (rules, tests), search (rules, tests)), λ p. search (rules, tests))
