use Rattle.std.proofs.Common.{sym, subst}
use Rattle.book.specs.Form.{Small}
use Rattle.book.specs.Books.{rules}
use Rattle.book.proofs.Sound.{fits_small}
use Rattle.book.proofs.book.Book.plan.Goals as goal

pub invariant_of-result : goal.invariant_of-result
invariant_of-result g c = let b = c.args.self.now in record { small = subst Small (sym c.sizes.ensures) (fits_small (rules b) b.fit) }
