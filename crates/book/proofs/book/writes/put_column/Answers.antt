use Rattle.std.proofs.Common.{◌+◌, ◌*◌, map, take, sym, ap, ◌∙◌, arith}
use Rattle.std.proofs.lemmas.List.{get_or-map, length-map}
use Rattle.book.specs.Over.{over}
use Rattle.book.specs.Words.{bytes_of, spelled}
use Rattle.book.proofs.Overs.{over_none, over_more}
use Rattle.book.proofs.book.writes.put_column.Goals as goal

pub loop-row-init : goal.loop-row-init
loop-row-init g c = (sym (over_none _ _), omega arith, c.requires)

pub loop-row-preserved : goal.loop-row-preserved
loop-row-preserved g c =
    let w = g.W.WordOf.in_row in
    let ws = map w c.args.rows.now in
    let n = length-map c.args.rows.now w in
    let i = c.loop-row.row-index in
    let (before, end, room) = c.loop-row.invariant in
    let e = c.in_row.ensures ∙ ap w c.row-item.is ∙ sym (get_or-map w c.args.rows.now i c.row-item.result 0 c.loop-row-test.true) in (
      c.put_word-end.ensures.after ∙ ap (λ o. over o c.loop-row.end (bytes_of c.in_row.result)) before
          ∙ ap (λ p. over (over c.args.out.now c.args.place (spelled (take i ws))) p (bytes_of c.in_row.result)) end
          ∙ ap (λ x. over (over c.args.out.now c.args.place (spelled (take i ws))) (c.args.place + 8 * i) (bytes_of x)) e
          ∙ over_more c.args.out.now c.args.place i ws (omega (arith, n, c.loop-row-test.true)) (omega (arith, n, room)),
      omega (arith, end, c.put_word-end.ensures.value),
      room,
    )
