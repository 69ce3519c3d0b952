use Rattle.std.proofs.Common.{List, vec_items, sym, subst}
use Rattle.book.specs.Covering.{CoveringExact, StepsInRange}
use Rattle.book.specs.Playing.{PlayingExact, PlaysInRange}
use Rattle.book.specs.Rules.{said}
use Rattle.book.specs.declared.rows.Cover.{Cover}
use Rattle.book.specs.declared.rows.Play.{Play}
use Rattle.book.proofs.Ranges.{fit_covers, fit_plays}
use Rattle.book.proofs.book.Book.index.Goals as goal

pub covering_table-requires : goal.covering_table-requires
covering_table-requires g c = subst StepsInRange (sym c.deref.ensures.value) (fit_covers (said c.args.rows) c.requires)

pub playing_table-requires : goal.playing_table-requires
playing_table-requires g c = subst PlaysInRange (sym c.deref-2.ensures.value) (fit_plays (said c.args.rows) c.requires)

pub invariant_of-result : goal.invariant_of-result
invariant_of-result g c = record {
  fit = c.requires;
  covered = subst (λ (rows : List Cover). CoveringExact rows (vec_items c.in_ok-covering.covering)) c.deref.ensures.value c.in_ok-covering.ensures;
  played = subst (λ (rows : List Play). PlayingExact rows (vec_items c.in_ok-playing.playing)) c.deref-2.ensures.value c.in_ok-playing.ensures;
}
