-- The walk starts from the posts, and goes on from each grant in the queue until all are served.
use Rattle.std.proofs.Common.{ℕ, ◌<◌, false, List, length, get_or, replicate, sym, ap, ◌∙◌, subst, arith, rules}
use Rattle.book.specs.Books.{rules as rules_of}
use Rattle.delegation.specs.Walks.{Queued}
use Rattle.delegation.proofs.Flags.{none-set, queued_none}
use Rattle.delegation.proofs.Walked.{sound_first, sound_next, started_after, served_more, all_reached}
use Rattle.delegation.proofs.chains.chained.Goals as goal

pub reach-requires-clause-queued : goal.reach-requires-clause-queued
reach-requires-clause-queued g c =
    let n = length c.args.grants.now in
    subst (Queued n (replicate 512 false)) (sym c.new-queue.ensures) (queued_none n 512)

pub loop-done-init : goal.loop-done-init
loop-done-init g c =
    let k = g.S.Strength.kind in
    let r = rules_of c.args.book.now in
    let gs = c.args.grants.now in
    let gone = c.args.gone.now in
    let w = c.reach in (
      search rules,
      omega arith,
      sound_first k r gs gone g.met.S.Strength.reads_back _ w.new.seen (λ i h. absurd (none-set 512 i h)) w.ensures.reached,
      (λ i left here. w.ensures.reached.every i left.0 left here),
      w.ensures.queued,
      (λ p lt. absurd (omega arith)),
    )

pub loop-done-preserved : goal.loop-done-preserved
loop-done-preserved g c =
    let k = g.S.Strength.kind in
    let r = rules_of c.args.book.now in
    let gs = c.args.grants.now in
    let gone = c.args.gone.now in
    let l = c.loop-done in
    let w = c.reach-in-loop-done in
    let x = c.index-grants-deref in
    let lt : l.done < length l.queue.items = omega (arith, c.len.ensures.value) in
    let here = l.invariant.4.flagged l.done lt in
    let is = x.is ∙ ap (λ (q : List ℕ). get_or gs (get_or q l.done 0) x.result) c.deref.ensures.0 in (
      search rules,
      omega (arith, w.ensures.longer.no_fewer),
      sound_next k r gs gone g.met.S.Strength.reads_back l.seen w.new.seen (get_or l.queue.items l.done 0) x.result is here.1 l.invariant.2 w.ensures.reached,
      started_after k r gs gone l.seen w.new.seen w.ensures.reached.stays l.invariant.3,
      w.ensures.queued,
      served_more k r gs gone l.seen w.new.seen l.queue.items w.new.queue.items l.done x.result lt here.0 is w.ensures.longer w.ensures.reached l.invariant.5,
    )

pub returns : goal.returns
returns g c =
    let l = c.loop-done in
    all_reached g.S.Strength.kind (rules_of c.args.book.now) c.args.grants.now c.args.gone.now l.seen l.queue.items l.done l.invariant.3 l.invariant.4 l.invariant.5 (omega (arith, c.len.ensures.value)) l.invariant.2
