-- Raising one flag of the diagonal leaves only the diagonal raised.
use Rattle.std.proofs.Common.{◌<◌, [], length, get_or, subst, arith}
use Rattle.book.specs.Flags.{Raised}
use Rattle.book.proofs.Passes.{only_selves_row, selves_row}
use Rattle.book.proofs.Raised.{raised_cases}
use Rattle.book.proofs.tables.covering.mark_selves.Goals as goal

pub loop-step-preserved : goal.loop-step-preserved
loop-step-preserved c =
    let t = c.loop-step.table in
    let a = c.loop-step.step in
    let row = c.raise.new.row in
    let lta : a < 64 = omega (arith, c.loop-step-test.true, c.requires.size) in
    let lt : a < length t = omega (arith, c.loop-step-test.true, c.loop-step.auto.table) in (
      only_selves_row t a row lt (λ y h. raised_cases (get_or t a []) a y (subst (λ r. Raised r y) c.raise.ensures.new h)) c.loop-step.invariant.0 lta,
      selves_row t a row lt c.raise.ensures.raised c.loop-step.invariant.1,
    )
