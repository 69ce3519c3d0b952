-- The flags so far are right.
use Rattle.std.proofs.Common.{◌≡◌, ℕ, ◌<◌, false, length, get_or, Decides}
use Rattle.std.specs.List.{HoldsAt}
use Rattle.delegation.specs.Withdrawals.{Apart}
use Rattle.delegation.proofs.withdrawals.chained_beside.Given as goal

abbrev pub invariant-loop-i : goal.invariant-loop-i
invariant-loop-i g l = (length l.gone ≡ 512) × ((j : ℕ) → j < l.i → Decides (get_or l.gone j false) (HoldsAt (Apart l.named) l.grants j))
