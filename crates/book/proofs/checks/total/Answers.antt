use Rattle.std.proofs.Common.{rules}
use Rattle.book.proofs.Columns.{total_sum}
use Rattle.book.proofs.checks.total.Goals as goal

pub sum-requires-clause-fits : goal.sum-requires-clause-fits
sum-requires-clause-fits c = let e = total_sum c.args.columns.now in search rules

pub returns : goal.returns
returns c = let e = total_sum c.args.columns.now in search rules
