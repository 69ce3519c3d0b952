use Rattle.std.proofs.Common.{Ok, Err, sym, ap, ◌∙◌}
use Rattle.std.proofs.lemmas.Result.{err_from_is_err_and}
use Rattle.script.proofs.Gather.{parsed_steps, by_values}
use Rattle.script.proofs.parsing.parse.Goals as goal

pub returns-in_err-values : goal.returns-in_err-values
returns-in_err-values c =
    let k = c.in_ok-command.command in
    let steps = parsed_steps c.args.line.now k c.if-line-gt-LONGEST_LINE.false c.count-n.result c.count-n.ensures (sym c.in_ok-command.ensures) (c.if-n-fields_due.false ∙ c.fields_due.ensures) in
    let p = err_from_is_err_and c.from_residual-in_err-values.result c.from_residual-in_err-values.ensures.1 in
    p.1 ∙ ap Err p.2 ∙ ap (by_values k) c.in_err-values.ensures ∙ sym steps

pub returns : goal.returns
returns c =
    let k = c.in_ok-command.command in
    let steps = parsed_steps c.args.line.now k c.if-line-gt-LONGEST_LINE.false c.count-n.result c.count-n.ensures (sym c.in_ok-command.ensures) (c.if-n-fields_due.false ∙ c.fields_due.ensures) in
    ap Ok c.call.ensures ∙ ap (by_values k) c.in_ok-values.ensures ∙ sym steps
