-- The rounds stay sound, and a round that changes nothing leaves the table complete.
use Rattle.book.proofs.Passes.{sound_selves, tells}
use Rattle.book.proofs.tables.covering.close.Goals as goal

pub loop-init : goal.loop-init
loop-init c = (sound_selves c.args.rows.now c.args.table.now c.requires.only, c.requires.selves)

pub loop-preserved : goal.loop-preserved
loop-preserved c = (c.pass_rows.ensures.sound, λ a lt. c.pass_rows.ensures.grows _ _ (c.loop.invariant.1 a lt))

pub returns : goal.returns
returns c =
    let p = c.pass_rows in
    tells c.args.rows.now p.new.table c.requires.range (λ a lt. p.ensures.grows _ _ (c.loop.invariant.1 a lt)) (p.ensures.passed c.loop-test.false) p.ensures.sound
