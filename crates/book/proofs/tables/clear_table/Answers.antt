-- Each row is a copy of one row of lowered flags.
use Rattle.std.proofs.Common.{length, ap, ◌∙◌, sym, subst}
use Rattle.std.proofs.lemmas.List.{length-replicate}
use Rattle.std.proofs.lemmas.Result.{IfOk-weaker}
use Rattle.book.specs.Flags.{Clear}
use Rattle.book.proofs.Raised.{copied, fresh_clear}
use Rattle.book.proofs.tables.clear_table.Goals as goal

pub returns : goal.returns
returns g c =
    IfOk-weaker c.vec.result _ _
    (λ v same. let e = same (λ y of. copied _ y _ (length-replicate _ _) of) in (ap length e ∙ length-replicate c.args.rows _, subst Clear (sym e) (fresh_clear c.args.rows _)))
    c.vec.ensures.items_if_clones_equal
