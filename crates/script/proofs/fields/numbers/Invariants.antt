use Rattle.std.proofs.Common.{◌≡◌, ℕ, List, length, drop}
use Rattle.std.specs.List.{enumerate_from}
use Rattle.std.proofs.lemmas.Iterator.{YieldsList}
use Rattle.script.specs.Grammar.{cut, gathered, zeros}
use Rattle.script.proofs.fields.numbers.Given as goal

abbrev pub invariant-loop-k : goal.invariant-loop-k
invariant-loop-k l =
    let fields = drop 1 (cut 32 l.line) in
    record {
      can : (goal.iterator-loop-k).can_next l.k-iterator;
      ends : (goal.iterator-loop-k).is_finite l.k-iterator;
      all : YieldsList {B = ℕ × List ℕ} (goal.iterator-loop-k).next_gives (λ p. (p.0, p.1.now)) l.initial.k-iterator (enumerate_from 0 fields);
      so_far : gathered (length l.yielded) l.values (drop (length l.yielded) fields) ≡ gathered 0 zeros fields;
      five : length l.values ≡ 5;
    }
