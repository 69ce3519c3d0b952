use Rattle.std.proofs.Common.{Bool, List, vec_items, sym, subst}
use Rattle.book.specs.Playing.{PlayingExact}
use Rattle.book.proofs.book.Book.plays.Goals as goal

pub returns : goal.returns
returns g c =
    let rows = vec_items c.args.self.now.rows.plays in
    c.plays.ensures rows (subst (λ (t : List (List Bool)). PlayingExact rows t) (sym c.deref.ensures.value) c.args.self.now.played)
