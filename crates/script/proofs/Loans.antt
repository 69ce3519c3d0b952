-- A line keeps the loans of both arrays of a register.
use Rattle.std.proofs.Common.{◌≡◌, ℕ, Ok, Err, Result, ap}
use Rattle.strength.specs.Kind.{Kind}
use Rattle.register.specs.declared.calls.Call.{Call}
use Rattle.register.specs.declared.register.Register.{Register}
use Rattle.script.specs.declared.faults.Cause.{Cause}
use Rattle.script.specs.declared.faults.Fault.{Fault}
use Rattle.script.specs.Lines.{Asked}

module _ {S : Type 0} (k : Kind S) (before : Register S) (r : Result ℕ Fault) (after : Register S) where
  pub lender : (p : Result Call (Cause × ℕ)) → Asked k p before r after → after.grants.places.ghost_name ≡ before.grants.places.ghost_name
  lender (Ok call) a = a.1.grants.lender
  lender (Err f) a = ap (λ (x : Register S). x.grants.places.ghost_name) a.1

  pub recorder : (p : Result Call (Cause × ℕ)) → Asked k p before r after → after.records.places.ghost_name ≡ before.records.places.ghost_name
  recorder (Ok call) a = a.1.records.lender
  recorder (Err f) a = ap (λ (x : Register S). x.records.places.ghost_name) a.1
