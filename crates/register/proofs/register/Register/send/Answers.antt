-- What the question is told is due.
use Rattle.book.specs.Books.{rules}
use Rattle.register.specs.Shape.{state_of}
use Rattle.register.proofs.Telling.{tells}
use Rattle.register.proofs.register.Register.send.Goals as goal

pub returns-in-Entitled-clause-told : goal.returns-in-Entitled-clause-told
returns-in-Entitled-clause-told g c =
    let before = c.args.self.now in
    tells g.S.Strength.kind (rules before.book.now) (state_of before) (state_of c.entitled.new.self) c.args.call c.entitled.result (rw (← c.in-Entitled.is) at c.entitled.ensures.answer)
