-- The first bar that forbids the grant is found, or none does.
use Rattle.std.proofs.Common.{ℕ, ◌<◌, sym, subst, ap, arith}
use Rattle.std.proofs.lemmas.Bool.Decides.{not_from_Decides}
use Rattle.book.specs.Books.{rules}
use Rattle.book.specs.Playing.{Plays}
use Rattle.delegation.specs.Rights.{Gives}
use Rattle.delegation.proofs.Ranges.{played_below}
use Rattle.delegation.proofs.Searches.{none_more}
use Rattle.delegation.proofs.bars.first_bar.Goals as goal

pub bars-preserved-then-not-gives : goal.bars-preserved-then-not-gives
bars-preserved-then-not-gives g c =
    let x = c.bar-item in
    let r = rules c.args.book.now in (
      c.bars.invariant.0,
      none_more _ c.deref-bar-items.result.now c.bars.i x.result c.bars-test.true x.is c.bars.invariant.1
          (λ f. not_from_Decides c.gives.result c.gives.ensures c.if-not-gives.true (subst (Gives g.S.Strength.kind r c.args.grant.right) (sym c.from.ensures) f.1)),
    )

pub bars-preserved : goal.bars-preserved
bars-preserved g c =
    let x = c.bar-item in
    let b = c.args.book.now in
    let barred = x.result.key.post.0 in (
      c.posts.invariant.0,
      none_more _ c.deref-bar-items.result.now c.bars.i x.result c.bars-test.true x.is c.bars.invariant.1
          (λ f.
          let below = played_below (rules b) b.fit c.args.grant.receiver.0 barred f.0 in
          let same = ap (λ rows. rows.posts) c.rows-rows.ensures in
          let lt : barred < c.posts.post = omega arith in
          let P : ℕ → Type 0 = λ n. n < c.posts.post → Plays (rules b).plays c.args.grant.receiver.0 n → ⊥ in
          subst P (ap (λ q. q.0) c.post-barred.ensures) c.posts.invariant.1 lt f.0),
    )
