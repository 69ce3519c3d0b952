use Rattle.std.proofs.Common.{map, drop, Some, sym, ap, ◌∙◌, arith}
use Rattle.std.proofs.lemmas.Result.{err_from_is_err_and}
use Rattle.book.specs.declared.faults.Cause.TheVariants.{WrongLength}
use Rattle.book.specs.Words.{word_of}
use Rattle.book.specs.Form.{in_columns, in_sizes, sizes_of, total}
use Rattle.book.proofs.Columns.{clash_parts}
use Rattle.book.proofs.Judged.{by_length, by_size, by-due, by_column, by_clash, refusal_is}
use Rattle.book.proofs.judging.check.Goals as goal

pub returns-then-bytes : goal.returns-then-bytes
returns-then-bytes g c = record { fault = by_length g.S.Strength.kind _ _ _ c.if-bytes.true; plan = tt }

pub returns-in_err-plan-clause-fault : goal.returns-in_err-plan-clause-fault
returns-in_err-plan-clause-fault g c =
    let k = g.S.Strength.kind in
    let ws = map word_of c.as_chunks.result.0.now in
    let p = err_from_is_err_and c.from_residual.result c.from_residual.ensures.1 in
    rw (p.1, p.2)
    (by_size k _ c.read.result ws c.if-bytes.false _ c.in_err-plan.ensures.fault
    ∙ refusal_is k c.args.bytes.now _ ws c.read.ensures (ap (map word_of) c.as_chunks.ensures.front))

pub returns-then-bytes-due : goal.returns-then-bytes-due
returns-then-bytes-due g c =
    let k = g.S.Strength.kind in
    let ws = map word_of c.as_chunks.result.0.now in
    let s = c.in_ok-plan.plan.sizes in
    let v = c.in_ok-plan.ensures.sizes in
    record {
      fault = ap (λ d. Some (WrongLength, d)) c.due-then-bytes-due.ensures
          ∙ by-due k _ s ws c.if-bytes.false (c.in_ok-plan.ensures.fault ∙ ap in_sizes (sym v)) (λ z. c.if-bytes-due.true (z ∙ sym c.due.ensures))
          ∙ refusal_is k c.args.bytes.now s ws (v ∙ c.read.ensures) (ap (map word_of) c.as_chunks.ensures.front);
      plan = tt;
    }

pub check_columns-requires : goal.check_columns-requires
check_columns-requires g c =
    let e = ap total c.columns_of.ensures in
    let n = c.as_chunks.ensures.front_len in
    let d = c.if-bytes-due.false ∙ c.due.ensures in
    record { room = omega arith; fits = omega arith }

pub returns-in_err-check_columns : goal.returns-in_err-check_columns
returns-in_err-check_columns g c =
    let k = g.S.Strength.kind in
    let ws = map word_of c.as_chunks.result.0.now in
    let s = c.in_ok-plan.plan.sizes in
    let v = c.in_ok-plan.ensures.sizes in
    let p = err_from_is_err_and c.from_residual-in_err-check_columns.result c.from_residual-in_err-check_columns.ensures.1 in
    rw (p.1, p.2) record {
      fault = by_column k _ s ws c.if-bytes.false (c.in_ok-plan.ensures.fault ∙ ap in_sizes (sym v)) (c.if-bytes-due.false ∙ c.due.ensures) _
          (c.in_err-check_columns.ensures ∙ ap (λ cs. in_columns k cs 8 (drop 8 ws)) c.columns_of.ensures)
          ∙ refusal_is k c.args.bytes.now s ws (v ∙ c.read.ensures) (ap (map word_of) c.as_chunks.ensures.front);
      plan = tt;
    }

pub returns-in_err-check_clashes : goal.returns-in_err-check_clashes
returns-in_err-check_clashes g c =
    let k = g.S.Strength.kind in
    let w = c.as_chunks.result.0.now in
    let s = c.in_ok-plan.plan.sizes in
    let v = c.in_ok-plan.ensures.sizes in
    let l = c.last-last.ensures.value in
    let p = err_from_is_err_and c.from_residual-in_err-check_clashes.result c.from_residual-in_err-check_clashes.ensures.1 in
    rw (p.1, p.2) record {
      fault = c.in_err-check_clashes.ensures ∙ clash_parts s c.last-last.result w l (omega arith)
          ∙ by_clash k _ s (map word_of w) c.if-bytes.false (c.in_ok-plan.ensures.fault ∙ ap in_sizes (sym v)) (c.if-bytes-due.false ∙ c.due.ensures)
          (c.in_ok-check_columns.ensures ∙ ap (λ cs. in_columns k cs 8 (drop 8 (map word_of w))) c.columns_of.ensures)
          ∙ refusal_is k c.args.bytes.now s (map word_of w) (v ∙ c.read.ensures) (ap (map word_of) c.as_chunks.ensures.front);
      plan = tt;
    }

pub returns : goal.returns
returns g c =
    let k = g.S.Strength.kind in
    let w = c.as_chunks.result.0.now in
    let s = c.in_ok-plan.plan.sizes in
    let v = c.in_ok-plan.ensures.sizes in
    let l = c.last-last.ensures.value in
    let d = c.if-bytes-due.false ∙ c.due.ensures in
    let same = ap (map word_of) c.as_chunks.ensures.front in
    record {
      fault = c.in_ok-check_clashes.ensures ∙ clash_parts s c.last-last.result w l (omega arith)
          ∙ by_clash k _ s (map word_of w) c.if-bytes.false (c.in_ok-plan.ensures.fault ∙ ap in_sizes (sym v)) d
          (c.in_ok-check_columns.ensures ∙ ap (λ cs. in_columns k cs 8 (drop 8 (map word_of w))) c.columns_of.ensures)
          ∙ refusal_is k c.args.bytes.now s (map word_of w) (v ∙ c.read.ensures) same;
      plan = (v ∙ c.read.ensures ∙ ap sizes_of same, d);
    }
