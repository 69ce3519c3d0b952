-- The test is what the book says.
use Rattle.std.proofs.Common.{rules}
use borrow.Author.Tests.{tests}
use Rattle.book_show.proofs.numbers.Numbers.of_posts.Goals as goal

pub returns : goal.returns
returns g c k lt = let h = c.passing.ensures k lt in search (rules, tests)
