-- The band that is made is the one that the specification makes.
use Rattle.std.proofs.Common.{sym, refl}
use Rattle.strength.specs.BandLaws.{band_made}
use Rattle.strength.proofs.values.Band.new.Goals as goal

pub returns : goal.returns
returns c = sym (band_made _ _ _ refl refl)
