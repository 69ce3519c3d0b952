use Rattle.std.proofs.Common.{eqb, sym, ◌∙◌, rules, tests}
use Rattle.std.proofs.lemmas.Iterator.{YieldsList-from_slice}
use Rattle.std.proofs.lemmas.Iterator.Search.{position_from_yields_List}
use Rattle.std.proofs.lemmas.List.{take_rest}
use Rattle.script.proofs.Cut.{first_line, last_line}
use Rattle.script.proofs.cuts.LinesIterator.next.Goals as goal

pub returns-in-Some-clause-steps : goal.returns-in-Some-clause-steps
returns-in-Some-clause-steps c =
    let e = position_from_yields_List (λ b. eqb b 10) _ _ _ c.position.ensures.ran (YieldsList-from_slice c.args.self.now.0.now cc) (λ x b q k. search (rules, tests)) in
    simp take_rest (first_line c.args.self.now.0.now c.in-Some.end (sym e ∙ c.in-Some.is))

pub returns-in-None-clause-steps : goal.returns-in-None-clause-steps
returns-in-None-clause-steps c =
    let e = position_from_yields_List (λ b. eqb b 10) _ _ _ c.position.ensures.ran (YieldsList-from_slice c.args.self.now.0.now cc) (λ x b q k. search (rules, tests)) in
    last_line c.args.self.now.0.now (sym c.if-is_empty.ensures) (sym e ∙ c.in-None.is)
