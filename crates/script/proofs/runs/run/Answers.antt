use Rattle.std.proofs.Common.{inr, refl, vec_items, ◌∙◌}
use Rattle.std.proofs.lemmas.Iterator.Consumers.{YieldsList-at, YieldsList-from_enumerate, YieldsList-from_first}
use Rattle.std.proofs.lemmas.List.{length_push}
use Rattle.script.specs.Grammar.{lines}
use Rattle.script.proofs.Places.{turn, end}
use Rattle.script.proofs.Sofar.{start, step, finish}
use Rattle.script.proofs.runs.run.Goals as goal

pub loop-i-init : goal.loop-i-init
loop-i-init g c = record {
  all =
      YieldsList-at c.into_iter-i-iterator.ensures.into_iter_gives (YieldsList-from_enumerate
      (YieldsList-at c.enumerate-i-items.ensures.source (YieldsList-from_first (λ x. x.now) (λ s. lines s.0.now) (lines c.args.script.now) refl))
      c.enumerate-i-items.ensures.count);
  ran = start g.S.Strength.kind (lines c.args.script.now) c.args.register.now (vec_items c.args.output.now);
  lender = refl;
  recorder = refl;
}

pub loop-i-preserved : goal.loop-i-preserved
loop-i-preserved g c =
    let l = c.loop-i in
    let w = c.in_ok-run_line.ensures.ran in
    let t = turn _ _ l.invariant.all l.yielded _ l.yielded_by _ c.next.new.self _ c.in-Some.is c.next.ensures.steps in
    let s = step g.S.Strength.kind (lines c.args.script.now) c.args.register.now (vec_items c.args.output.now) _ l.register (vec_items l.output) c.in-Some.line.now c.in-Some.i
    w.reply c.run_line.new.register (vec_items c.run_line.new.output) l.invariant.ran t w.asked w.told in
    record {
      all = l.invariant.all;
      ran = rw length_push s;
      lender = c.run_line.ensures.lender ∙ l.invariant.lender;
      recorder = c.run_line.ensures.recorder ∙ l.invariant.recorder;
    }

pub returns-clause-ran : goal.returns-clause-ran
returns-clause-ran g c =
    let l = c.loop-i in
    let e = end _ _ l.invariant.all l.yielded _ l.yielded_by _ c.next.new.self c.in-None.is c.next.ensures.steps in
    let f = finish g.S.Strength.kind (lines c.args.script.now) c.args.register.now (vec_items c.args.output.now) _ l.register (vec_items l.output) l.invariant.ran e in
    inr (record { short = c.if-script-gt-LONGEST_SCRIPT.false; text = f.text; ran = f.ran; told = f.told })
