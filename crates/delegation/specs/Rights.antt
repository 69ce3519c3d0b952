-- Rights, grants and chains, for a kind of strength and the rules of a book.
use Rattle.std.specs.Prelude.{◌≡◌, ℕ, true, ◌⊎◌, List, [], ◌∷◌, Some, slice_index_or}
use mathlib.Core.List.{Memᴰ}
use Rattle.strength.specs.Kind.{Kind}
use Rattle.book.specs.Covering.{Covers}
use Rattle.book.specs.Playing.{Plays}
use Rattle.book.specs.Rules.{Rules}
use Rattle.book.specs.declared.rows.Entry.{Entry}
use Rattle.book.specs.declared.rows.Lot.{Lot}
use Rattle.book.specs.declared.rows.Person.{Person}
use Rattle.delegation.specs.declared.grants.Grant.{Grant}
use Rattle.delegation.specs.declared.grants.Right.{Right}

-- the right that a row of holds or bars names
abbrev pub right_of : {S : Type 0} → Entry S → Right S
right_of e = record { step = e.key.step; strength = e.strength }

-- of these grants, on this lot
abbrev pub On : {S : Type 0} → List (Grant S) → Lot → Grant S → Type 0
On gs n g = Memᴰ g gs × (g.lot ≡ n)

module _ {S : Type 0} (k : Kind S) (r : Rules S) where
  -- the marks of a person; somebody who is not in the book has none
  abbrev pub marks_of_lem : Person → ℕ
  marks_of_lem u = (slice_index_or r.marks u.0 (record { 0 = 0 })).0

  -- a post that the person plays holds the right
  abbrev pub Holds : Person → Right S → Type 0
  Holds u p = (e : Entry S) × Memᴰ e r.holds × Plays r.plays u.0 e.key.post.0 × (p ≡ right_of e)

  -- the right p gives the right q: its step covers the other, and its strength is at least the other
  abbrev pub Gives : Right S → Right S → Type 0
  Gives p q = Covers r.covers p.step.0 q.step.0 × (k.at_least p.strength q.strength ≡ true)

  -- the right p backs a grant: passed on to the receiver's marks it gives what is granted
  abbrev pub Backs : Right S → Grant S → Type 0
  Backs p g = (s : S) × (k.passed_on p.strength (marks_of_lem g.receiver) ≡ Some s) × Gives (record { step = p.step; strength = s }) g.right

  -- a right that the giver holds by post, and that backs the grant
  abbrev pub Heads : Right S → Grant S → Type 0
  Heads p g = Holds g.giver p × Backs p g

  -- the receiver of h gives g, and h backs it
  abbrev pub Supports : Grant S → Grant S → Type 0
  Supports h g = (h.receiver ≡ g.giver) × Backs h.right g

  -- a row of grants, the newest first, none twice: a right by post heads the oldest, each other is supported by the one before it
  pub data Chain : List (Grant S) → Type 0 where
    first : {g : Grant S} {p : Right S} → Heads p g → Chain (g ∷ [])
    next : {g h : Grant S} {c : List (Grant S)} → Chain (h ∷ c) → Supports h g → (Memᴰ g (h ∷ c) → ⊥) → Chain (g ∷ h ∷ c)

  -- a chain of grants that all meet A ends in g
  abbrev pub Chained : (Grant S → Type 0) → Grant S → Type 0
  Chained A g = (c : List (Grant S)) × Chain (g ∷ c) × ((h : Grant S) → Memᴰ h (g ∷ c) → A h)

  -- a bar forbids a grant: the receiver plays its post, and the granted right gives the barred one
  abbrev pub Forbids : Grant S → Entry S → Type 0
  Forbids g b = Plays r.plays g.receiver.0 b.key.post.0 × Gives g.right (right_of b)

  -- one of the person's rights on the lot, by post or by a grant received there, gives q
  abbrev pub Entitled : List (Grant S) → Person → Right S → Lot → Type 0
  Entitled gs u q n = ((p : Right S) × Holds u p × Gives p q) ⊎ ((g : Grant S) × On gs n g × (g.receiver ≡ u) × Gives g.right q)

  -- one of the giver's rights on the lot backs the grant
  abbrev pub Backed : List (Grant S) → Grant S → Type 0
  Backed gs g = ((p : Right S) × Heads p g) ⊎ ((h : Grant S) × On gs g.lot h × Supports h g)
