use Rattle.std.proofs.Common.{◌≡◌, ℕ, List, length, vec_items}
use Rattle.std.specs.List.{enumerate_from}
use Rattle.std.proofs.lemmas.Iterator.{YieldsList}
use Rattle.script.specs.Grammar.{lines}
use Rattle.script.proofs.Sofar.{Sofar}
use Rattle.script.proofs.runs.run.Given as goal

abbrev pub invariant-loop-i : goal.invariant-loop-i
invariant-loop-i g l = record {
  all : YieldsList {B = ℕ × List ℕ} (goal.iterator-loop-i g).next_gives (λ p. (p.0, p.1.now)) l.initial.i-iterator (enumerate_from 0 (lines l.script));
  ran : Sofar g.S.Strength.kind (lines l.script) l.initial.register (vec_items l.initial.output) (length l.yielded) l.register (vec_items l.output);
  lender : l.register.grants.places.ghost_name ≡ l.initial.register.grants.places.ghost_name;
  recorder : l.register.records.places.ghost_name ≡ l.initial.register.records.places.ghost_name;
}
