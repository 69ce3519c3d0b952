-- The test is the bit.
use Rattle.std.proofs.Common.{◌==◌, ◌/◌, ◌%◌, ◌^◌, rules}
use borrow.Author.Tests.{tests}
use Rattle.std.proofs.lemmas.Bool.Decides.{Decides-at, Decides-eqb}
use Rattle.book_show.proofs.numbers.Numbers.of_marks.Goals as goal

pub returns : goal.returns
returns c k lt =
    let h = c.passing.ensures k lt in
    let b = c.args.marks.0 / 2 ^ k % 2 in
    Decides-at _ (b == 1) (search (rules, tests)) (Decides-eqb b 1)
