-- All that is flagged is chained; all that comes first, or after what the walk has served, is flagged.
use Rattle.std.proofs.Common.{◌≡◌, ◌-◌, ◌≤◌, length}
use Rattle.book.specs.Books.{rules}
use Rattle.delegation.specs.Walks.{Queued}
use Rattle.delegation.proofs.Walked.{Sound, Started, Served}
use Rattle.delegation.proofs.chains.chained.Given as goal

abbrev pub invariant-loop-done : goal.invariant-loop-done
invariant-loop-done g l =
    let k = g.S.Strength.kind in
    let r = rules l.book in
    (length l.seen ≡ 512) × (l.done ≤ length l.queue.items)
    × Sound k r l.grants l.gone l.seen × Started k r l.grants l.gone l.seen
    × Queued (length l.grants) l.seen l.queue.items × Served k r l.grants l.gone l.seen l.queue.items l.done

abbrev pub decreases-loop-done : goal.decreases-loop-done
decreases-loop-done g l = 512 - l.done
