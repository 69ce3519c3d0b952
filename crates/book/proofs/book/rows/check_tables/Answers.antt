use Rattle.std.proofs.lemmas.Result.{err_from_is_err_and}
use Rattle.book.specs.Rules.{said}
use Rattle.book.proofs.RowChecks.{rows_checked}
use Rattle.book.proofs.book.rows.check_tables.Goals as goal

pub returns-in_err-check_table : goal.returns-in_err-check_table
returns-in_err-check_table g c =
    let all = rows_checked g.S.Strength.kind (said c.args.rows.now) c.requires c.columns_of.ensures c.places-places.ensures c.last-last.ensures.value in
    let p = err_from_is_err_and c.from_residual-in_err-check_table.result c.from_residual-in_err-check_table.ensures.1 in
    rw (p.1, p.2, ← all)
    (rw (← c.deref.ensures.value, ← c.in_ok-check_column.ensures)
    (rw (← c.deref-2.ensures.value, ← c.in_err-check_table.ensures)))

pub returns-in_err-check_table-2 : goal.returns-in_err-check_table-2
returns-in_err-check_table-2 g c =
    let all = rows_checked g.S.Strength.kind (said c.args.rows.now) c.requires c.columns_of.ensures c.places-places.ensures c.last-last.ensures.value in
    let p = err_from_is_err_and c.from_residual-in_err-check_table-2.result c.from_residual-in_err-check_table-2.ensures.1 in
    rw (p.1, p.2, ← all)
    (rw (← c.deref.ensures.value, ← c.in_ok-check_column.ensures)
    (rw (← c.deref-2.ensures.value, ← c.in_ok-check_table.ensures)
    (rw (← c.deref-3.ensures.value, ← c.in_err-check_table-2.ensures))))

pub returns-in_err-check_table-3 : goal.returns-in_err-check_table-3
returns-in_err-check_table-3 g c =
    let all = rows_checked g.S.Strength.kind (said c.args.rows.now) c.requires c.columns_of.ensures c.places-places.ensures c.last-last.ensures.value in
    let p = err_from_is_err_and c.from_residual-in_err-check_table-3.result c.from_residual-in_err-check_table-3.ensures.1 in
    rw (p.1, p.2, ← all)
    (rw (← c.deref.ensures.value, ← c.in_ok-check_column.ensures)
    (rw (← c.deref-2.ensures.value, ← c.in_ok-check_table.ensures)
    (rw (← c.deref-3.ensures.value, ← c.in_ok-check_table-2.ensures)
    (rw (← c.deref-4.ensures.value, ← c.in_err-check_table-3.ensures)))))

pub returns-in_err-check_table-4 : goal.returns-in_err-check_table-4
returns-in_err-check_table-4 g c =
    let all = rows_checked g.S.Strength.kind (said c.args.rows.now) c.requires c.columns_of.ensures c.places-places.ensures c.last-last.ensures.value in
    let p = err_from_is_err_and c.from_residual-in_err-check_table-4.result c.from_residual-in_err-check_table-4.ensures.1 in
    rw (p.1, p.2, ← all)
    (rw (← c.deref.ensures.value, ← c.in_ok-check_column.ensures)
    (rw (← c.deref-2.ensures.value, ← c.in_ok-check_table.ensures)
    (rw (← c.deref-3.ensures.value, ← c.in_ok-check_table-2.ensures)
    (rw (← c.deref-4.ensures.value, ← c.in_ok-check_table-3.ensures)
    (rw (← c.deref-5.ensures.value, ← c.in_err-check_table-4.ensures))))))

pub returns : goal.returns
returns g c =
    let all = rows_checked g.S.Strength.kind (said c.args.rows.now) c.requires c.columns_of.ensures c.places-places.ensures c.last-last.ensures.value in
    rw (← all, ← c.deref.ensures.value, ← c.in_ok-check_column.ensures)
    (rw (← c.deref-2.ensures.value, ← c.in_ok-check_table.ensures)
    (rw (← c.deref-3.ensures.value, ← c.in_ok-check_table-2.ensures)
    (rw (← c.deref-4.ensures.value, ← c.in_ok-check_table-3.ensures)
    (rw (← c.deref-5.ensures.value, ← c.in_ok-check_table-4.ensures)
    (rw (← c.deref-6.ensures.value, ← c.check_clash_table.ensures))))))
