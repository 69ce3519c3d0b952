-- Which lots are among others.
use Rattle.std.proofs.Common.{Bool, Decides, ◌≡◌, ◌==◌, List}
use mathlib.Core.List.{Memᴰ}
use Rattle.std.specs.List.{list_any}
use Rattle.book.specs.declared.rows.Lot.{Lot}
use Rattle.delegation.proofs.Judged.{same_lots}
use Rattle.delegation.proofs.Searches.{member_from_contains}

-- `contains` finds a lot exactly where it is
pub found_lot : (n : Lot) {lots : List Lot} {r : Bool} → r ≡ list_any (λ (l : Lot). l.0 == n.0) lots → Decides r (Memᴰ n lots)
found_lot n {lots} is = member_from_contains (λ (a b : Lot). a.0 == b.0) same_lots lots n is
