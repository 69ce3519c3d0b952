-- In range the table tells it, and out of range a step covers only itself.
use Rattle.std.proofs.Common.{inl, inr, ⊎_elim, rules}
use Rattle.std.proofs.lemmas.Bool.Decides.{Decides-eqb}
use Rattle.book.proofs.TablesTell.{covering_told, covers_outside}
use Rattle.book.proofs.tables.covering.covers.Goals as goal

pub returns-then-b-lt-MOST_STEPS : goal.returns-then-b-lt-MOST_STEPS
returns-then-b-lt-MOST_STEPS c rows exact =
    let t = covering_told rows c.args.table.now exact.2 c.args.stronger.0 c.args.weaker.0 c.if-a-lt-MOST_STEPS.true c.if-b-lt-MOST_STEPS.true in search rules

pub returns-else-a-lt-MOST_STEPS : goal.returns-else-a-lt-MOST_STEPS
returns-else-a-lt-MOST_STEPS c rows exact =
    covers_outside rows exact.0 c.args.stronger.0 c.args.weaker.0 (⊎_elim (λ w. inr w.1) inl c.else-a-lt-MOST_STEPS.either) _ (Decides-eqb c.args.stronger.0 c.args.weaker.0)
