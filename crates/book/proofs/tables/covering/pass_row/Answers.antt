-- One step more for a row: the flag is raised, or nothing changes.
use Rattle.std.proofs.Common.{◌≡◌, ◌<◌, Bool, true, false, List, [], length, set, refl, sym, ap, ◌∙◌, subst, arith}
use Rattle.std.proofs.lemmas.Bool.{both_ways}
use Rattle.std.proofs.lemmas.List.{set-get_or}
use Rattle.book.specs.Flags.{unset}
use Rattle.book.proofs.Passes.{only_passed_row, passed_all, passed_row}
use Rattle.book.proofs.Raised.{no_more, row_grows, unset_falls}
use Rattle.book.proofs.tables.covering.pass_row.Goals as goal
use Rattle.book.proofs.tables.covering.pass_row.Goals.{then-pass_step, else-pass_step}

pub loop-covered-preserved : goal.loop-covered-preserved
loop-covered-preserved c =
    let l = c.loop-covered in
    let old = c.args.table.now in
    let s = c.args.row.stronger.0 in
    let w = c.args.row.weaker.0 in
    let p = c.pass_step in
    let row = p.new.covered in
    let i = l.covered-index in
    let lt : i < length l.table = omega (arith, c.loop-covered-test.true, l.auto.table) in
    let t : List (List Bool) = set l.table i row in
    let goal : Bool → Type 0 = λ b. (b ≡ true → unset t < unset old) × (b ≡ false → t ≡ old) in
    let rest : goal c.if-pass_step.changed = elim c.if-pass_step.branch [
      | then-pass_step v ↦ subst goal (sym v.changed-is) (
        (λ _. omega (arith, unset_falls l.table i row lt (p.ensures.fewer v.if-pass_step.true), no_more l.table old l.changed l.invariant.3 l.invariant.4)),
        (λ e. absurd (both_ways true e refl)),
      )
      | else-pass_step v ↦
          (let same : t ≡ l.table = ap (set l.table i) (p.ensures.same v.if-pass_step.false) ∙ set-get_or l.table i [] in
          subst goal (sym v.changed-is) ((λ e. subst (λ x. unset x < unset old) (sym same) (l.invariant.3 e)), (λ e. same ∙ l.invariant.4 e)))
    ] in (
      only_passed_row l.table i row lt s w c.requires.0 old p.ensures.only l.invariant.0,
      (λ x y h. row_grows l.table i row lt p.ensures.grows x y (l.invariant.1 x y h)),
      passed_row l.table i row lt s w c.requires.0 p.ensures.passed l.invariant.2,
      rest.0,
      rest.1,
    )

pub returns-clause-passed : goal.returns-clause-passed
returns-clause-passed c =
    let l = c.loop-covered in
    passed_all l.table c.args.row.stronger.0 c.args.row.weaker.0 l.covered-index (omega (arith, c.loop-covered-test.false, l.auto.table)) l.invariant.2
