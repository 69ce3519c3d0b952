use Rattle.std.proofs.Common.{sym}
use Rattle.book.specs.Rules.{said}
use Rattle.book.proofs.Sound.{sound_fits}
use Rattle.book.proofs.book.Book.from_rows.Goals as goal

pub index-requires : goal.index-requires
index-requires g c = sound_fits g.S.Strength.kind (said c.args.rows) g.met.S.Strength.reads_back (sym c.in_ok-check_rows.ensures)
