use Rattle.std.proofs.Common.{◌+◌, ap, ◌∙◌, arith}
use Rattle.book.specs.Form.{total}
use Rattle.book.proofs.SmallSizes.{few}
use Rattle.book.proofs.plan.Plan.last.Goals as goal

pub total-requires : goal.total-requires
total-requires c = let v = ap total c.columns_of.ensures in let b = few c.args.self.sizes c.args.self.small in omega arith

pub overflow_add-result : goal.overflow_add-result
overflow_add-result c = let v = c.total.ensures ∙ ap total c.columns_of.ensures in let b = few c.args.self.sizes c.args.self.small in omega arith

pub returns : goal.returns
returns c =
    let v = c.total.ensures ∙ ap total c.columns_of.ensures in
    let b = few c.args.self.sizes c.args.self.small in
    record { value = ap (λ n. 8 + n) v; bound = omega arith }
