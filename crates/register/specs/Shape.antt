-- What the arrays of a register hold, and what a call does to them.
use Rattle.std.specs.Prelude.{◌≡◌, ℕ, List, ◌++◌, take, drop, ◌≢◌, Result}
use Rattle.strength.specs.Kind.{Kind}
use Rattle.book.specs.Books.{rules}
use Rattle.book.specs.declared.rows.Lot.{Lot}
use Rattle.delegation.specs.Found.{Counted, Filtered}
use Rattle.register.specs.Answers.{Answers}
use Rattle.register.specs.State.{State}
use Rattle.register.specs.declared.calls.Call.{Call}
use Rattle.register.specs.declared.faults.RegisterFault.{RegisterFault}
use Rattle.register.specs.declared.register.Register.{Register}
use Rattle.register.specs.declared.table.Table.{Table}

-- the rows of a table
abbrev pub rows : {X : Type 0} {most : ℕ} → Table X most → List X
rows t = take t.used t.places.now

-- every place of its array: the rows that stand now, then what stood at the later places before
abbrev pub Places : {X : Type 0} {most : ℕ} → Table X most → Table X most → Type 0
Places before after = after.places.now ≡ rows after ++ drop after.used before.places.now

-- the state that a register is in
abbrev pub state_of : {S : Type 0} → Register S → State S
state_of r = record { lots = r.lots.items; grants = rows r.grants; records = rows r.records }

-- the array is the one that was lent, and its places behind the rows are as they were
pub record SameArray {X : Type 0} {most : ℕ} (before after : Table X most) : Type 0 where
  pub places : Places before after
  pub lender : after.places.ghost_name ≡ before.places.ghost_name

-- one call of a register: its reply is due, what it leaves is due, and nothing else is changed
pub record Called {S : Type 0} (k : Kind S) (c : Call) (e : Result ℕ RegisterFault) (before after : Register S) : Type 0 where
  pub answer : Answers k (rules before.book.now) (state_of before) c e (state_of after)
  pub grants : SameArray before.grants after.grants
  pub records : SameArray before.records after.records
  pub book : after.book ≡ before.book

-- what lies on the lot is gone, m grants among it, and nothing else is changed
pub record Cleared {S : Type 0} (n : Lot) (m : ℕ) (before after : Register S) : Type 0 where
  pub lots_left : Filtered (λ l. l ≢ n) (state_of before).lots (state_of after).lots
  pub grants_left : Filtered (λ g. g.lot ≢ n) (state_of before).grants (state_of after).grants
  pub records_left : Filtered (λ d. d.lot ≢ n) (state_of before).records (state_of after).records
  pub count : Counted (λ g. g.lot ≡ n) (state_of before).grants m
  pub grants : SameArray before.grants after.grants
  pub records : SameArray before.records after.records
  pub book : after.book ≡ before.book
