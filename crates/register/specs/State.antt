-- What a register holds.
use Rattle.std.specs.Prelude.{List, []}
use Rattle.book.specs.declared.rows.Lot.{Lot}
use Rattle.delegation.specs.declared.grants.Grant.{Grant}
use Rattle.register.specs.declared.records.Record.{Record}

-- the open lots; the grants that stand and the records, in order of acceptance
pub record State (S : Type 0) : Type 0 where
  pub lots : List Lot
  pub grants : List (Grant S)
  pub records : List Record

-- nothing is open, granted or recorded
abbrev pub empty : (S : Type 0) → State S
empty S = record { lots = []; grants = []; records = [] }
