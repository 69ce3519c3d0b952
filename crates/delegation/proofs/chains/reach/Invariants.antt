-- Of the grants so far, all that come next are reached and queued.
use Rattle.std.proofs.Common.{length}
use Rattle.book.specs.Books.{rules}
use Rattle.delegation.specs.Walks.{Queued, Longer, Reached}
use Rattle.delegation.proofs.chains.reach.Given as goal

abbrev pub invariant-loop-i : goal.invariant-loop-i
invariant-loop-i g l =
    Reached g.S.Strength.kind (rules l.book) l.earlier l.grants l.gone l.i l.initial.seen l.seen
    × Queued (length l.grants) l.seen l.queue.items
    × Longer l.initial.queue.items l.queue.items
