-- The giver is somebody else, and a right of theirs backs the grant or does not.
use Rattle.std.proofs.Common.{ap, sym, ◌∙◌, inl, inr}
use Rattle.std.proofs.lemmas.Bool.{eq-eqb, false≢true}
use Rattle.book.specs.declared.rows.Person.{Person}
use Rattle.register.proofs.register.Register.check_backing.Goals as goal

pub returns-then-not-backed : goal.returns-then-not-backed
returns-then-not-backed g c =
    let q = c.args.grant in
    let tells = rw c.rows.ensures at c.backed.ensures in
    inr ((λ p h. false≢true (sym c.if-eq.false ∙ c.eq.ensures ∙ eq-eqb q.giver.0 q.receiver.0 (ap (λ (u : Person). u.0) h.1))), inl (c.at-then-not-backed.ensures.cause, (c.at-then-not-backed.ensures.place, λ b. false≢true (sym c.if-not-backed.true ∙ tells.1 b))))

pub returns : goal.returns
returns g c =
    let q = c.args.grant in
    let backed = (rw c.rows.ensures at c.backed.ensures).0 c.if-not-backed.false in
    (((λ p h. false≢true (sym c.if-eq.false ∙ c.eq.ensures ∙ eq-eqb q.giver.0 q.receiver.0 (ap (λ (u : Person). u.0) h.1))), ((λ p h. h.1 backed), tt)), backed)
