use Rattle.std.proofs.Common.{drop, refl, ap, ◌∙◌, arith}
use Rattle.std.proofs.lemmas.Result.{err_from_is_err_and}
use Rattle.book.specs.declared.form.Sizes.{Sizes}
use Rattle.book.specs.Causes.{or_else}
use Rattle.book.specs.Form.{columns, due, in_clashes, in_columns, in_sizes}
use Rattle.book.specs.Rules.{said, sizes_in, words_in}
use Rattle.book.proofs.Judged.{by_size, by-words}
use Rattle.book.proofs.book.rows.check_rows.Goals as goal

pub returns-in_err-plan : goal.returns-in_err-plan
returns-in_err-plan g c =
    let k = g.S.Strength.kind in
    let r = said c.args.rows.now in
    let p = err_from_is_err_and c.from_residual.result c.from_residual.ensures.1 in
    rw (p.1, p.2) (by_size k (due (sizes_in r)) (sizes_in r) (words_in k r) (omega arith) _ (c.in_err-plan.ensures.fault ∙ ap in_sizes c.sizes.ensures))

pub returns : goal.returns
returns g c =
    let k = g.S.Strength.kind in
    let r = said c.args.rows.now in
    c.check_tables.ensures
    ∙ ap (λ (s : Sizes). or_else (in_columns k (columns s) 8 (drop 8 (words_in k r))) (in_clashes s (words_in k r))) (c.in_ok-plan.ensures.sizes ∙ c.sizes.ensures)
    ∙ by-words k (due (sizes_in r)) (sizes_in r) (words_in k r) (omega arith) (c.in_ok-plan.ensures.fault ∙ ap in_sizes c.sizes.ensures) refl
