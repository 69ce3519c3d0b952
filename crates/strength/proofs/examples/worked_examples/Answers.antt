-- The worked examples hold, by computing them.
use Rattle.std.proofs.Common.{refl}
use Rattle.strength.specs.Masks.{within, lowest_within}
use Rattle.strength.specs.ReachLaws.{unlimited}
use Rattle.strength.proofs.examples.worked_examples.Goals as goal

pub returns : goal.returns
unfolding within lowest_within
returns c = record {
  longer = refl;
  shorter = refl;
  freer = refl;
  stricter = refl;
  spent = refl;
  refused = refl;
  unlimited = unlimited;
  no_mask = refl;
  no_count = refl;
  inside = refl;
  outside = refl;
}
