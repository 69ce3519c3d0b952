-- The lot stands behind the others, or the first cause is told.
use Rattle.std.proofs.Common.{List, Ok, refl, sym, subst}
use Rattle.book.specs.Books.{rules}
use Rattle.book.specs.declared.rows.Lot.{Lot}
use Rattle.register.specs.Answers.{Answers}
use Rattle.register.specs.Answers.Answers.{opened}
use Rattle.register.specs.Shape.{rows, state_of}
use Rattle.register.specs.declared.calls.Call.TheVariants.{Open}
use Rattle.register.proofs.Answering.{refuses, same_array}
use Rattle.register.proofs.register.Register.open_lot.Goals as goal

pub returns-in_err-check_opening : goal.returns-in_err-check_opening
returns-in_err-check_opening g c = refuses _ _ _ _ _ c.from_residual.ensures.1 c.in_err-check_opening.ensures

pub returns : goal.returns
returns g c =
    let s = c.args.self.now in
    let allowed = c.in_ok-check_opening.ensures.0 in
    let A = λ (ls : List Lot). Answers g.S.Strength.kind (rules s.book.now) (state_of s) (Open c.args.lot) (Ok 0) (record { lots = ls; grants = rows s.grants; records = rows s.records }) in
    record {
      answer = subst A (sym c.push.ensures.items) (opened allowed);
      grants = same_array s.grants;
      records = same_array s.records;
      book = refl;
    }
