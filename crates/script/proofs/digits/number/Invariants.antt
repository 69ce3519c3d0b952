use Rattle.std.proofs.Common.{◌≡◌, ◌^◌, ◌<◌, drop}
use Rattle.script.specs.Grammar.{reads}
use Rattle.script.proofs.digits.number.Given as goal

abbrev pub invariant-loop-b : goal.invariant-loop-b
invariant-loop-b l = (reads l.n (drop l.b-index l.text) ≡ reads 0 l.text) × (l.n < 10 ^ l.b-index)
