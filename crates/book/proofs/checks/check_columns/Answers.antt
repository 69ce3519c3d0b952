use Rattle.std.proofs.Common.{map, get_or, drop, sym, ap, ◌∙◌, arith, rules}
use Rattle.std.proofs.lemmas.List.{length-take, length-drop, at_drop_all}
use Rattle.std.proofs.lemmas.Result.{err_from_is_err_and}
use Rattle.book.specs.declared.form.Column.{Column}
use Rattle.book.specs.declared.form.Test.TheVariants.{Below}
use Rattle.book.specs.Words.{word_of}
use Rattle.book.specs.Causes.{cause, first}
use Rattle.book.specs.Form.{in_columns}
use Rattle.book.proofs.Columns.{total_more, part_words, column_fine, column_bad}
use Rattle.book.proofs.checks.check_columns.Goals as goal

abbrev none : Column
none = record { test = Below 0; size = 0 }

pub overflow_add-end : goal.overflow_add-end
overflow_add-end g c = let t = total_more c.args.columns.now c.loop-column.column-index none c.loop-column-test.true in omega arith

pub check_column-requires : goal.check_column-requires
check_column-requires g c =
    let t = total_more c.args.columns.now c.loop-column.column-index none c.loop-column-test.true in
    simp (length-take, length-drop) (omega arith)

pub loop-column-preserved : goal.loop-column-preserved
loop-column-preserved g c =
    let k = g.S.Strength.kind in
    let col = get_or c.args.columns.now c.loop-column.column-index none in
    let t = total_more c.args.columns.now c.loop-column.column-index none c.loop-column-test.true in (
      column_fine k (map word_of c.args.words.now) c.args.columns.now c.loop-column.column-index none c.loop-column.place c.loop-column-test.true
          (c.in_ok-check_column.ensures ∙ ap (first (cause k col.test) c.loop-column.place) (part_words c.loop-column.place _ col.size c.args.words.now (omega arith)))
          ∙ c.loop-column.invariant.0,
      omega arith,
      c.loop-column.invariant.2,
    )

pub returns-in_err-check_column : goal.returns-in_err-check_column
returns-in_err-check_column g c =
    let k = g.S.Strength.kind in
    let col = get_or c.args.columns.now c.loop-column.column-index none in
    let p = err_from_is_err_and c.from_residual.result c.from_residual.ensures.1 in
    rw (p.1, p.2)
    (column_bad k (map word_of c.args.words.now) c.args.columns.now c.loop-column.column-index none c.loop-column.place c.loop-column-test.true _
    (c.in_err-check_column.ensures ∙ ap (first (cause k col.test) c.loop-column.place) (part_words c.loop-column.place _ col.size c.args.words.now (omega arith)))
    ∙ c.loop-column.invariant.0)

pub returns : goal.returns
returns g c =
    sym (at_drop_all (λ cs. in_columns g.S.Strength.kind cs c.loop-column.place (drop c.loop-column.place (map word_of c.args.words.now))) c.args.columns.now c.loop-column.column-index c.loop-column-test.false) ∙ c.loop-column.invariant.0

pub slice_bounds-check_column-end : goal.slice_bounds-check_column-end
slice_bounds-check_column-end g c = let t = total_more c.args.columns.now c.loop-column.column-index none c.loop-column-test.true in search rules
