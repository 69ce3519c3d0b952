use Rattle.std.proofs.Common.{ap, rules, ◌+◌}
use Rattle.std.proofs.lemmas.List.Splits.{length-slice_split}
use Rattle.script.proofs.fields.count.Goals as goal

pub returns : goal.returns
returns c = rw length-slice_split (ap (λ n. n + 1) (search rules))
