-- One row more: it is passed, and if it changes nothing the rows before it still are.
use Rattle.std.proofs.Common.{◌≡◌, ◌+◌, ◌<◌, ◌≤◌, Bool, true, false, List, length, get_or, sym, refl, subst, arith}
use Rattle.std.specs.List.{AllWithin}
use Rattle.std.proofs.lemmas.List.Elements.{AllWithin-more, AllWithin-none, AllWithin-upto}
use Rattle.std.proofs.lemmas.Bool.{both_ways}
use Rattle.book.specs.Flags.{unset}
use Rattle.book.specs.Passing.{RowPassed}
use Rattle.book.specs.declared.rows.Cover.{Cover}
use Rattle.book.proofs.Members.{at_any, member, of_every}
use Rattle.book.proofs.Passes.{sound_passed}
use Rattle.book.proofs.Raised.{no_more}
use Rattle.book.proofs.tables.covering.pass_rows.Goals as goal
use Rattle.book.proofs.tables.covering.pass_rows.Goals.{then-pass_row, else-pass_row}

abbrev none : Cover
none = record { stronger = record { 0 = 0 }; weaker = record { 0 = 0 } }

pub pass_row-requires : goal.pass_row-requires
pass_row-requires c =
    c.requires.range _ (member c.args.rows.now c.loop-row.row-index none c.loop-row-test.true)

pub loop-row-init : goal.loop-row-init
loop-row-init c =
    (c.requires.sound, (λ i j h. h), omega arith, (λ e. absurd (both_ways false refl e)), (λ _. AllWithin-none (RowPassed c.args.table.now) c.args.rows.now 0))

pub loop-row-preserved : goal.loop-row-preserved
loop-row-preserved c =
    let l = c.loop-row in
    let i = l.row-index in
    let lt = c.loop-row-test.true in
    let rows = c.args.rows.now in
    let old = c.args.table.now in
    let p = c.pass_row in
    let t = p.new.table in
    let less : unset t ≤ unset l.table = no_more t l.table p.result p.ensures.fewer p.ensures.same in
    let goal : Bool → Type 0 = λ b. (b ≡ true → unset t < unset old) × (b ≡ false → AllWithin (RowPassed t) rows 0 (i + 1)) in
    let rest : goal c.if-pass_row.changed = elim c.if-pass_row.branch [
      | then-pass_row w ↦ subst goal (sym w.changed-is) ((λ _. omega (arith, p.ensures.fewer w.if-pass_row.true, l.invariant.2)), (λ e. absurd (both_ways true e refl)))
      | else-pass_row w ↦ subst goal (sym w.changed-is) (
        (λ e. omega (arith, less, l.invariant.3 e)),
        (λ e.
            let before : AllWithin (RowPassed t) rows 0 i = subst (λ (x : List (List Bool)). AllWithin (RowPassed x) rows 0 i) (sym (p.ensures.same w.if-pass_row.false)) (l.invariant.4 e) in
            AllWithin-more (RowPassed t) rows 0 i before (at_any (RowPassed t) rows i none lt p.ensures.passed)),
      )
    ] in (
      sound_passed rows (get_or rows i none) l.table t c.requires.range (member rows i none lt) l.invariant.0 p.ensures.only,
      (λ a b h. p.ensures.grows a b (l.invariant.1 a b h)),
      omega (arith, less, l.invariant.2),
      rest.0,
      rest.1,
    )

pub returns : goal.returns
returns c =
    let l = c.loop-row in
    let rows = c.args.rows.now in
    record {
      sound = l.invariant.0;
      grows = l.invariant.1;
      fewer = l.invariant.3;
      passed = λ e row m. of_every (RowPassed l.table) rows row m (AllWithin-upto (RowPassed l.table) rows 0 l.row-index (length rows) c.loop-row-test.false (l.invariant.4 e));
    }
