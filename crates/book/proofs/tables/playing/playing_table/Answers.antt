-- The new table is clear, and what fills it is all that it holds.
use Rattle.std.proofs.Common.{◌≡◌, Bool, List, length, sym, ap, ◌∙◌, subst, arith}
use Rattle.std.specs.Vec.{with_items}
use Rattle.std.proofs.lemmas.List.{with_items_is}
use Rattle.book.specs.Playing.{TellsPlaying}
use Rattle.book.specs.Flags.{Clear}
use Rattle.book.proofs.tables.playing.playing_table.Goals as goal

pub fill-requires : goal.fill-requires
fill-requires c =
    let e = c.deref_mut.ensures.value in
    record { size = ap length e ∙ c.in_ok-table.ensures.0; clear = subst Clear (sym e) c.in_ok-table.ensures.1; range = c.requires }

pub returns : goal.returns
returns c =
    let t = c.in_ok-table.table in
    let size : length c.fill.new.table ≡ 256 = omega (arith, ap length c.deref_mut.ensures.value, c.in_ok-table.ensures.0, c.fill.auto.table) in
    let same : (with_items t c.fill.new.table).items ≡ c.fill.new.table = with_items_is t c.fill.new.table (c.fill.auto.table ∙ c.deref_mut.ensures.len) in
    (c.requires, ap length same ∙ size, ∣ subst (λ (t : List (List Bool)). TellsPlaying c.args.rows.now t) (sym same) c.fill.ensures ∣₁)
