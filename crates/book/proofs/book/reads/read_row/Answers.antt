use Rattle.std.proofs.Common.{is_some, sym, ap, ap₂, ◌∙◌}
use Rattle.book.proofs.book.reads.read_row.Goals as goal

pub unwrap-requires : goal.unwrap-requires
unwrap-requires g c =
    ap is_some (c.from_words.ensures ∙ ap₂ g.R.Row.layout.of_words c.in_row.ensures c.in_row-2.ensures) ∙ c.requires

pub returns : goal.returns
returns g c =
    let w = g.met.R.Row.keeps_words c.in_row.result c.in_row-2.result c.unwrap.result (sym c.from_words.ensures ∙ c.unwrap.ensures) in
    (w.0 ∙ c.in_row.ensures, w.1 ∙ c.in_row-2.ensures)
