use Rattle.std.proofs.Common.{Bool, List, vec_items, sym, subst}
use Rattle.book.specs.Covering.{CoveringExact}
use Rattle.book.proofs.book.Book.covers.Goals as goal

pub returns : goal.returns
returns g c =
    let rows = vec_items c.args.self.now.rows.covers in
    c.covers.ensures rows (subst (λ (t : List (List Bool)). CoveringExact rows t) (sym c.deref.ensures.value) c.args.self.now.covered)
