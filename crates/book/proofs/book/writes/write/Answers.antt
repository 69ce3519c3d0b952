use Rattle.std.proofs.Common.{◌≡◌, ℕ, ◌+◌, ◌*◌, ◌<◌, ◌≤◌, List, ◌++◌, map, length, drop, sym, refl, ap, ◌∙◌, subst, arith}
use Rattle.strength.specs.declared.values.Marks.{Marks}
use Rattle.book.specs.declared.faults.Cause.TheVariants.{ShortBuffer}
use Rattle.book.specs.Over.{over}
use Rattle.book.specs.Words.{spelled}
use Rattle.book.specs.Layouts.{flat, play_layout, cover_layout, entry_layout, clash_layout}
use Rattle.book.specs.Form.{due, listed_sizes}
use Rattle.book.specs.Rules.{written}
use Rattle.book.specs.Books.{rules}
use Rattle.book.proofs.Rereading.{rereads}
use Rattle.book.proofs.Sound.{written_long}
use Rattle.book.proofs.Writing.{written_over}
use Rattle.book.proofs.book.writes.write.Goals as goal

pub returns-then-out-due : goal.returns-then-out-due
returns-then-out-due g c =
    let d = c.due-due.ensures ∙ ap due c.plan-plan.ensures ∙ sym (written_long g.S.Strength.kind (rules c.args.book.now)) in
    record {
      writes = (ap (λ n. (ShortBuffer, n)) d, subst (λ n. length c.args.out.now < n) d c.if-out-due.true, refl);
      rereads = rereads g.S.Strength.kind g.met.S.Strength.reads_back g.met.S.Strength.bounded c.args.book.now;
    }

pub returns : goal.returns
returns g c =
    let k = g.S.Strength.kind in
    let r = rules c.args.book.now in
    let s = c.plan-plan.result.sizes in
    let v = c.plan-plan.ensures in
    let d = c.due-due.ensures ∙ ap due v in
    let sizes : length c.listed.result ≡ 8 = ap length c.listed.ensures in
    let at : c.put_column-place.result ≡ 64 = omega (arith, sizes, c.put_column-place.ensures.value) in
    record {
      rereads = rereads k g.met.S.Strength.reads_back g.met.S.Strength.bounded c.args.book.now;
      writes = (
        d ∙ sym (written_long k r),
        c.if-out-due.false,
        written_over k r c.args.out.now (subst (λ n. n ≤ length c.args.out.now) d c.if-out-due.false)
            (c.put_column-place.ensures.after ∙ ap (λ (ws : List ℕ). over c.args.out.now 0 (spelled (map (λ w. w) ws))) (c.listed.ensures ∙ ap listed_sizes v))
            (c.put_column-place-2.ensures.after ∙ ap (λ (ms : List Marks). over c.put_column-place.new.out c.put_column-place.result (spelled (map (λ m. m.0) ms))) c.deref.ensures.value
            ∙ ap (λ p. over c.put_column-place.new.out p (spelled (map (λ m. m.0) r.marks))) at)
            (c.put_column-place-2.ensures.value ∙ ap (λ (ms : List Marks). c.put_column-place.result + 8 * length ms) c.deref.ensures.value ∙ ap (λ p. p + 8 * length r.marks) at)
            (c.put_table-place.ensures.after ∙ ap (λ rs. over c.put_column-place-2.new.out c.put_column-place-2.result (spelled (flat play_layout rs))) c.deref-2.ensures.value)
            (c.put_table-place.ensures.value ∙ ap (λ rs. c.put_column-place-2.result + 16 * length rs) c.deref-2.ensures.value)
            (c.put_table-place-2.ensures.after ∙ ap (λ rs. over c.put_table-place.new.out c.put_table-place.result (spelled (flat cover_layout rs))) c.deref-3.ensures.value)
            (c.put_table-place-2.ensures.value ∙ ap (λ rs. c.put_table-place.result + 16 * length rs) c.deref-3.ensures.value)
            (c.put_table-place-3.ensures.after ∙ ap (λ rs. over c.put_table-place-2.new.out c.put_table-place-2.result (spelled (flat (entry_layout k) rs))) c.deref-4.ensures.value)
            (c.put_table-place-3.ensures.value ∙ ap (λ rs. c.put_table-place-2.result + 16 * length rs) c.deref-4.ensures.value)
            (c.put_table-place-4.ensures.after ∙ ap (λ rs. over c.put_table-place-3.new.out c.put_table-place-3.result (spelled (flat (entry_layout k) rs))) c.deref-5.ensures.value)
            (c.put_table-place-4.ensures.value ∙ ap (λ rs. c.put_table-place-3.result + 16 * length rs) c.deref-5.ensures.value)
            (c.put_table-end.ensures.after ∙ ap (λ rs. over c.put_table-place-4.new.out c.put_table-place-4.result (spelled (flat clash_layout rs))) c.deref-6.ensures.value)
            ∙ ap (λ n. written k r ++ drop n c.args.out.now) (sym d),
      );
    }
