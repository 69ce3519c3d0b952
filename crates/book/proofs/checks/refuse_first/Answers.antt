use Rattle.std.proofs.Common.{rules}
use Rattle.std.proofs.lemmas.Iterator.Consumers.{YieldsList-turn, YieldsList-end}
use Rattle.std.proofs.lemmas.List.{length_push}
use Rattle.book.proofs.FirstCauses.{numbered, turn_bad, turn_fine, turn_end}
use Rattle.book.proofs.checks.refuse_first.Goals as goal

pub returns-in-Some-cause : goal.returns-in-Some-cause
returns-in-Some-cause g c cs h =
    let y = numbered g.I.Iterator.next_gives cs h c.enumerate-i-items.ensures.source c.enumerate-i-items.ensures.count c.into_iter-i-iterator.ensures.into_iter_gives in
    let t = YieldsList-turn y c.loop-i.yielded _ c.loop-i.yielded_by _ c.next.new.self (c.in-Some.i, c.in-Some.cause) c.in-Some.is c.next.ensures.steps in
    turn_bad (λ o. o) c.args.place cs _ _ _ t c.in-Some-cause.is (c.loop-i.invariant.3 cs h)

pub loop-i-preserved : goal.loop-i-preserved
loop-i-preserved g c = (
  search rules,
  search rules,
  search rules,
  λ cs h.
      let y = numbered g.I.Iterator.next_gives cs h c.enumerate-i-items.ensures.source c.enumerate-i-items.ensures.count c.into_iter-i-iterator.ensures.into_iter_gives in
      let t = YieldsList-turn y c.loop-i.yielded _ c.loop-i.yielded_by _ c.next.new.self (c.in-Some.i, c.in-Some.cause) c.in-Some.is c.next.ensures.steps in
      turn_fine (λ o. o) c.args.place cs _ _ _ t c.in_default.is (c.loop-i.invariant.3 cs h) (length_push c.loop-i.yielded _),
)

pub returns : goal.returns
returns g c cs h =
    let y = numbered g.I.Iterator.next_gives cs h c.enumerate-i-items.ensures.source c.enumerate-i-items.ensures.count c.into_iter-i-iterator.ensures.into_iter_gives in
    let t = YieldsList-end y c.loop-i.yielded _ c.loop-i.yielded_by _ c.next.new.self c.in-None.is c.next.ensures.steps in
    turn_end (λ o. o) c.args.place cs _ t.1 (c.loop-i.invariant.3 cs h)
