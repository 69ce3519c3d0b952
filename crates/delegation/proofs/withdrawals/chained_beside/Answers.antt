-- What is left by the flags is what lies beside the named grant.
use Rattle.std.proofs.Common.{◌<◌, length, ◌∙◌, sym, subst, arith}
use Rattle.std.specs.List.{HoldsAt}
use Rattle.std.proofs.lemmas.Bool.Decides.{Decides-like}
use Rattle.std.proofs.lemmas.List.{length-set}
use Rattle.std.proofs.lemmas.List.Elements.{at_read}
use Rattle.book.specs.Books.{rules}
use Rattle.delegation.specs.Withdrawals.{Apart, FlagsOf}
use Rattle.delegation.proofs.Leaving.{chained_beside, flags_more}
use Rattle.delegation.proofs.withdrawals.chained_beside.Goals as goal

pub loop-i-preserved : goal.loop-i-preserved
loop-i-preserved g c =
    let l = c.loop-i in
    let x = c.index-grants-i in
    let gs = c.args.grants.now in
    let P = Apart c.args.named in
    let inside : l.i < length l.gone = omega (arith, c.requires, l.invariant.0) in
    let here = Decides-like {P = P x.result} {Q = HoldsAt P gs l.i} c.is_apart.result (at_read gs P l.i x.result c.loop-i-test.true x.is) (λ h. subst P (sym x.is) (h x.result)) c.is_apart.ensures in
    (length-set l.gone l.i c.is_apart.result ∙ l.invariant.0, flags_more P gs l.gone l.i c.is_apart.result inside l.invariant.1 here)

pub returns : goal.returns
returns g c =
    let gs = c.args.grants.now in
    let gone : FlagsOf (Apart c.args.named) gs c.loop-i.gone = λ i lt. c.loop-i.invariant.1 i (omega (arith, c.loop-i-test.false)) in
    chained_beside gs c.args.named c.loop-i.gone gone g.S.Strength.kind (rules c.args.book.now) c.chained.result c.chained.ensures
