-- The test may be called at each number, and was.
use Rattle.std.proofs.Common.{lit<, rules, of_calls}
use borrow.Author.Tests.{tests}
use Rattle.book_show.proofs.Telling.{asked_below, said_at}
use Rattle.book_show.proofs.numbers.Numbers.passing.Goals as goal

pub from_fn-requires : goal.from_fn-requires
from_fn-requires g c = (lit< tt, asked_below 64 (λ k q h. search (rules, tests)) (λ k lt. let may = c.requires k lt in search (rules, tests, of_calls)))

pub returns : goal.returns
returns g c = said_at (goal.F-post g c.args.test) c.from_fn.result 64 c.from_fn.ensures.items (λ k b q h. (search (rules, tests), search (rules, tests, of_calls)))
