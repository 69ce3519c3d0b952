-- The grant stands behind the others, or the first cause is told.
use Rattle.std.proofs.Common.{refl}
use Rattle.book.specs.Books.{rules}
use Rattle.register.specs.Causes.{granting, grant_of, passing, with_strength}
use Rattle.register.specs.Shape.{rows, state_of}
use Rattle.register.proofs.Answering.{allowed_then, allowed_with, grants_it, refused_first, refused_then, refused_with, refuses, same_array}
use Rattle.register.proofs.register.Register.grant.Goals as goal

pub returns-in_err-strength : goal.returns-in_err-strength
returns-in_err-strength g c =
    let k = g.S.Strength.kind in
    let a = c.args in
    let s = a.self.now in
    let r = rules s.book.now in
    let later = with_strength (k.of_word a.word) (λ (x : g.row.S.Denot). granting k r (rows s.grants) (grant_of a.giver a.receiver a.step a.lot x)) in
    refuses _ _ _ _ _ c.from_residual.ensures.1
    (refused_first (passing k r (state_of s).lots a.giver a.receiver a.step a.word a.lot) later _ _ c.in_err-strength.ensures)

pub returns-in_err-check_granting : goal.returns-in_err-check_granting
returns-in_err-check_granting g c =
    let k = g.S.Strength.kind in
    let a = c.args in
    let s = a.self.now in
    let r = rules s.book.now in
    let is = c.in_ok-strength.ensures in
    let checks = λ (x : g.row.S.Denot). granting k r (rows s.grants) (grant_of a.giver a.receiver a.step a.lot x) in
    refuses _ _ _ _ _ c.from_residual-in_err-check_granting.ensures.1
    (refused_then (passing k r (state_of s).lots a.giver a.receiver a.step a.word a.lot) (with_strength (k.of_word a.word) checks) _ _ is.0
    (refused_with _ _ checks _ _ is.1 c.in_err-check_granting.ensures))

pub returns : goal.returns
returns g c =
    let k = g.S.Strength.kind in
    let a = c.args in
    let s = a.self.now in
    let r = rules s.book.now in
    let was = c.in_ok-strength.ensures in
    let is = c.in_ok-check_granting.ensures in
    let checks = λ (x : g.row.S.Denot). granting k r (rows s.grants) (grant_of a.giver a.receiver a.step a.lot x) in
    record {
      answer = grants_it k s _ _ _ _ _ _ _ _
          (allowed_then (passing k r (state_of s).lots a.giver a.receiver a.step a.word a.lot) (with_strength (k.of_word a.word) checks) was.0 (allowed_with _ _ checks was.1 is.0))
          was.1 is.1.0 c.add.ensures.rows c.add.ensures.count;
      grants = c.add.ensures.array;
      records = same_array s.records;
      book = refl;
    }
