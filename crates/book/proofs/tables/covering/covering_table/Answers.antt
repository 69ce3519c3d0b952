-- The new table is clear, and what fills it is all that it holds.
use Rattle.std.proofs.Common.{◌≡◌, Bool, List, length, sym, ap, ◌∙◌, subst, arith}
use Rattle.std.specs.Vec.{with_items}
use Rattle.std.proofs.lemmas.List.{with_items_is}
use Rattle.book.specs.Covering.{TellsCovering}
use Rattle.book.specs.Flags.{Clear}
use Rattle.book.specs.Passing.{OnlySelves, Selves}
use Rattle.book.proofs.tables.covering.covering_table.Goals as goal

pub mark_selves-requires : goal.mark_selves-requires
mark_selves-requires c =
    let e = c.deref_mut.ensures.value in
    record { size = ap length e ∙ c.in_ok-table.ensures.0; clear = subst Clear (sym e) c.in_ok-table.ensures.1 }

pub close-requires : goal.close-requires
close-requires c =
    let t = c.in_ok-table.table in
    let marked = c.mark_selves.new.table in
    let e : c.deref_mut-2.result.now ≡ marked = c.deref_mut-2.ensures.value ∙ with_items_is t marked (c.mark_selves.auto.table ∙ c.deref_mut.ensures.len) in
    record {
      range = c.requires;
      only = subst OnlySelves (sym e) c.mark_selves.ensures.only;
      selves = subst (λ (x : List (List Bool)). Selves x 64) (sym e) c.mark_selves.ensures.selves;
    }

pub returns : goal.returns
returns c =
    let t = c.in_ok-table.table in
    let closed = c.close.new.table in
    let size : length closed ≡ 64 = omega (arith, c.in_ok-table.ensures.0, c.deref_mut.ensures.len, c.deref_mut-2.ensures.len, ap length c.deref_mut.ensures.value, c.close.auto.table) in
    let same : (with_items (with_items t c.mark_selves.new.table) closed).items ≡ closed = with_items_is (with_items t c.mark_selves.new.table) closed (c.close.auto.table ∙ c.deref_mut-2.ensures.len) in
    (c.requires, ap length same ∙ size, ∣ subst (λ (x : List (List Bool)). TellsCovering c.args.rows.now x) (sym same) c.close.ensures ∣₁)
