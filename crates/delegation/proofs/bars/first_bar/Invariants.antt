-- No bar so far forbids the grant, and no post so far is a barred one that the receiver plays. Such a post would make this bar the first.
use Rattle.std.proofs.Common.{◌≡◌, ◌<◌, take, None}
use Rattle.book.specs.Books.{rules}
use Rattle.book.specs.Playing.{Plays}
use Rattle.delegation.specs.Found.{NoneOf, First}
use Rattle.delegation.specs.Rights.{Forbids}
use Rattle.delegation.proofs.bars.first_bar.Given as goal

abbrev pub invariant-bars : goal.invariant-bars
invariant-bars g l = (l.place ≡ None) × NoneOf (Forbids g.S.Strength.kind (rules l.book) l.fn.grant) (take l.i l.bar-items)

abbrev pub invariant-posts : goal.invariant-posts
invariant-posts g l =
    let r = rules l.book in
    (l.place ≡ None)
    × (l.barred.0 < l.post → Plays r.plays l.receiver.0 l.barred.0 → ⊥)
    × (Plays r.plays l.receiver.0 l.barred.0 → First (Forbids g.S.Strength.kind r l.fn.grant) r.bars l.i)
