-- What one row or one grant has to do with a question, in a pass over all of them.
use Rattle.std.specs.Prelude.{◌≡◌}
use Rattle.strength.specs.Kind.{Kind}
use Rattle.book.specs.Playing.{Plays}
use Rattle.book.specs.Rules.{Rules}
use Rattle.book.specs.declared.rows.Entry.{Entry}
use Rattle.book.specs.declared.rows.Lot.{Lot}
use Rattle.book.specs.declared.rows.Person.{Person}
use Rattle.delegation.specs.Rights.{Gives, Supports}
use Rattle.delegation.specs.declared.grants.Grant.{Grant}
use Rattle.delegation.specs.declared.grants.Right.{Right}

module _ {S : Type 0} (k : Kind S) (r : Rules S) where
  -- the person plays the post of the row
  abbrev pub PlayRow : Person → Entry S → Type 0
  PlayRow u e = Plays r.plays u.0 e.key.post.0

  -- this grant supports g on its lot
  abbrev pub SupportOn : Grant S → Grant S → Type 0
  SupportOn g h = (h.lot ≡ g.lot) × Supports k r h g

  -- by this grant the person has on the lot a right that gives q
  abbrev pub GiveOn : Person → Right S → Lot → Grant S → Type 0
  GiveOn u q n g = (g.lot ≡ n) × (g.receiver ≡ u) × Gives k r g.right q
