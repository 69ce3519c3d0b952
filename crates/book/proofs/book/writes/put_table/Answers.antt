use Rattle.std.proofs.Common.{map, ap, ◌∙◌, arith}
use Rattle.std.proofs.lemmas.List.{length-map}
use Rattle.book.specs.Over.{over}
use Rattle.book.specs.Words.{spelled}
use Rattle.book.proofs.Overs.{over-words}
use Rattle.book.proofs.book.writes.put_table.Goals as goal

pub returns : goal.returns
returns g c =
    let f = g.R.Row.layout in
    let n = length-map c.args.rows.now f.first_word in
    let middle = c.put_column-middle.ensures.value in
    record {
      after = c.put_column.ensures.after ∙ ap (λ o. over o c.put_column-middle.result (spelled (map f.second_word c.args.rows.now))) c.put_column-middle.ensures.after
          ∙ over-words c.args.out.now c.args.place c.put_column-middle.result (map f.first_word c.args.rows.now) _ (omega (arith, n, middle)) (omega (arith, middle));
      value = omega (arith, middle, c.put_column.ensures.value);
    }

pub put_column-requires : goal.put_column-requires
put_column-requires g c =
    let n = length-map c.args.rows.now g.R.Row.layout.first_word in
    let middle = c.put_column-middle.ensures.value in
    omega arith
