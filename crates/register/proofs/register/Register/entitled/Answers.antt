-- Yes or no is told, or the first cause.
use Rattle.register.proofs.Answering.{refuses, tells_it, unchanged}
use Rattle.register.proofs.register.Register.entitled.Goals as goal

pub returns-in_err-strength : goal.returns-in_err-strength
returns-in_err-strength g c = refuses _ _ _ _ _ c.from_residual.ensures.1 c.in_err-strength.ensures

pub returns : goal.returns
returns g c =
    let is = c.in_ok-strength.ensures in
    unchanged _ _ _ _ (tells_it _ _ _ _ _ _ _ _ _ is.0 is.1 c.answer.ensures)
