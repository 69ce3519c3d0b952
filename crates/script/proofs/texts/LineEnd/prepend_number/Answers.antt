-- A number of 64 bits has at most 20 digits.
use Rattle.std.proofs.Common.{◌≤◌, length, decimal, arith, rules}
use Rattle.std.proofs.lemmas.Fmt.{length-decimal-le}
use Rattle.script.proofs.texts.LineEnd.prepend_number.Goals as goal

pub write_digits-self-requires : goal.write_digits-self-requires
write_digits-self-requires c =
    let few : length (decimal c.args.number) ≤ 20 = search (rules, length-decimal-le 20) in
    search rules

pub returns-clause-start : goal.returns-clause-start
returns-clause-start c =
    let few : length (decimal c.args.number) ≤ 20 = search (rules, length-decimal-le 20) in
    omega (arith, few, c.write_digits-self.ensures.start)
