-- A grant that comes next is flagged and queued.
use Rattle.std.proofs.Common.{◌<◌, ◌≤◌, length, sym, subst, arith, lit<}
use Rattle.book.specs.Books.{rules}
use Rattle.delegation.specs.Walks.{Queued, Longer}
use Rattle.delegation.proofs.Flags.{queue_room, queued_more, longer_more}
use Rattle.delegation.proofs.Walked.{reached_more}
use Rattle.delegation.proofs.chains.reach.Goals as goal

pub push-requires : goal.push-requires
push-requires g c =
    let l = c.loop-i in
    let gs = c.args.grants.now in
    let room : length gs ≤ length l.seen = omega arith in
    let free = queue_room (length gs) l.seen l.queue.items l.invariant.1 l.i c.loop-i-test.true room c.if-seen-i.false in
    (lit< tt, omega (arith, free))

pub loop-i-preserved : goal.loop-i-preserved
loop-i-preserved g c =
    let l = c.loop-i in
    let x = c.index-grants-i in
    let gs = c.args.grants.now in
    let lt = c.loop-i-test.true in
    let room : length gs ≤ length l.seen = omega arith in
    let inside : l.i < length l.seen = omega arith in
    let clear = c.if-seen-i.false in
    let pushed = sym c.push.ensures.items in (
      reached_more g.S.Strength.kind (rules c.args.book.now) gs c.args.gone.now c.args.earlier c.args.seen.now l.seen l.i x.result x.is l.invariant.0
          lt inside c.if-gone-i.false (c.leads.ensures.0 c.if-not-leads.false),
      subst (Queued (length gs) _) pushed (queued_more (length gs) l.seen l.queue.items l.invariant.1 l.i lt room clear),
      subst (Longer c.args.queue.now.items) pushed (longer_more (length gs) l.seen l.queue.items l.invariant.1 l.i c.args.queue.now.items l.invariant.2),
    )
