-- The answer is 1 or 0 as the person is entitled or not.
use Rattle.std.proofs.Common.{inl, inr, rules}
use Rattle.std.proofs.lemmas.Bool.{both_ways, cases_Bool}
use Rattle.register.proofs.register.Register.answer.Goals as goal

pub returns : goal.returns
returns g c =
    let tells = rw c.rows.ensures at c.entitled.ensures in
    elim (cases_Bool c.entitled.result) [
      | inl e ↦ inl (search rules, tells.0 e)
      | inr e ↦ inr (search rules, λ p. both_ways c.entitled.result e (tells.1 p))
    ]
