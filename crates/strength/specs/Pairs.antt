-- Pairs of two kinds.
use Rattle.std.specs.Prelude.{◌+◌, ◌*◌, ◌/◌, ◌%◌, ◌^◌, ◌&&◌, Some, None, Option}
use Rattle.strength.specs.declared.values.Pair.{Pair}
use Rattle.strength.specs.Kind.{Kind}

-- the pair of both, if both are there
abbrev pub both : {P Q : Type 0} → Option P → Option Q → Option (Pair P Q)
both (Some x) (Some y) = Some (record { first = x; second = y })
both (Some x) None = None
both None o = None

-- at least in both parts, and passed on when both parts pass; the second's word stands above the first's
abbrev pub pair_kind : {P Q : Type 0} → Kind P → Kind Q → Kind (Pair P Q)
pair_kind j k = record {
  at_least = λ a b. j.at_least a.first b.first && k.at_least a.second b.second;
  passed_on = λ a m. both (j.passed_on a.first m) (k.passed_on a.second m);
  word = λ a. k.word a.second * 2 ^ 32 + j.word a.first;
  of_word = λ w. both (j.of_word (w % 2 ^ 32)) (k.of_word (w / 2 ^ 32));
}
