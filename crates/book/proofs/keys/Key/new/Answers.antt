use Rattle.std.proofs.Common.{sym, refl}
use Rattle.book.specs.KeyLaws.{key_made}
use Rattle.book.proofs.keys.Key.new.Goals as goal

pub returns : goal.returns
returns c = sym (key_made _ _ _ refl refl)
