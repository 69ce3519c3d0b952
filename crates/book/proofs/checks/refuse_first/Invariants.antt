use Rattle.std.proofs.Common.{◌≡◌, ◌+◌, ◌≤◌, length, drop}
use Rattle.std.specs.Iterator.{AlwaysYields, size}
use Rattle.std.specs.Iterator.Adapters.{enumerate_source, enumerate_count}
use Rattle.book.specs.Causes.{first}
use Rattle.book.proofs.checks.refuse_first.Given as goal

abbrev pub invariant-loop-i : goal.invariant-loop-i
invariant-loop-i g l =
    (goal.iterator-loop-i g).can_next l.i-iterator
    × (goal.iterator-loop-i g).is_finite l.i-iterator
    × (enumerate_count l.i-iterator + size (g.I.Iterator.remaining (enumerate_source l.i-iterator)) ≤ size (g.I.Iterator.remaining l.fn.causes))
    × ((cs : _) → AlwaysYields g.I.Iterator.next_gives (λ c. c) l.fn.causes cs → first (λ c. c) (l.place + length l.yielded) (drop (length l.yielded) cs) ≡ first (λ c. c) l.place cs)
