-- One row more raises the flag of its person and its post.
use Rattle.std.proofs.Common.{[], List, get_or, set, sym, subst, arith, lit<}
use mathlib.Core.List.Memᴰ
use Rattle.std.proofs.lemmas.List.{take_all, take_more}
use Rattle.book.specs.Flags.{Raised}
use Rattle.book.specs.Playing.{TellsPlaying}
use Rattle.book.specs.declared.rows.Play.{Play}
use Rattle.book.proofs.Filled.{filled_more}
use Rattle.book.proofs.Members.{member}
use Rattle.book.proofs.Raised.{raised_cases}
use Rattle.book.proofs.tables.playing.fill.Goals as goal

abbrev none : Play
none = record { person = record { 0 = 0 }; post = record { 0 = 0 } }

pub loop-row-init : goal.loop-row-init
loop-row-init c = λ u p ltu ltp. ((λ s. absurd (c.requires.clear _ _ s)), (λ w. absurd (Memᴰ.not-nil w.1)))

pub offset_bounds-table-row : goal.offset_bounds-table-row
offset_bounds-table-row c = let r = c.requires.range _ (member c.args.rows.now c.loop-row.row-index none c.loop-row-test.true) in omega arith

pub bounds-table-row : goal.bounds-table-row
bounds-table-row c = let r = c.requires.range _ (member c.args.rows.now c.loop-row.row-index none c.loop-row-test.true) in omega arith

pub raise-requires : goal.raise-requires
raise-requires c = (lit< tt, (c.requires.range _ (member c.args.rows.now c.loop-row.row-index none c.loop-row-test.true)).1)

pub loop-row-preserved : goal.loop-row-preserved
loop-row-preserved c =
    let rows = c.args.rows.now in
    let i = c.loop-row.row-index in
    let t = c.loop-row.table in
    let row = get_or rows i none in
    let lt = c.loop-row-test.true in
    let r = c.requires.range row (member rows i none lt) in
    let u = row.person.0 in
    let flags = c.raise.new.row in
    subst (λ (xs : List Play). TellsPlaying xs (set t u flags)) (sym (take_more rows i none lt))
    (filled_more _ row t flags (omega (arith, r.0, c.loop-row.auto.table, c.requires.size)) r.0 (λ y h. raised_cases (get_or t u []) row.post.0 y (subst (λ f. Raised f y) c.raise.ensures.new h)) c.raise.ensures.grows c.raise.ensures.raised c.loop-row.invariant)

pub returns : goal.returns
returns c =
    subst (λ (xs : List Play). TellsPlaying xs c.loop-row.table) (take_all c.loop-row.row-index c.args.rows.now c.loop-row-test.false) c.loop-row.invariant
