-- A row that stays moves to the front, and one on the lot is passed over.
use Rattle.std.proofs.Common.{◌≡◌, ℕ, ◌+◌, ◌<◌, List, ◌++◌, length, take, set, sym, refl, ap, ◌∙◌, subst, arith, take-append-drop}
use Rattle.std.proofs.lemmas.Bool.Decides.{not_from_Decides}
use Rattle.delegation.specs.Found.{Filtered}
use Rattle.delegation.specs.Found.Filtered.{none}
use Rattle.register.proofs.Sweeps.{Sweeping, sweeping_goes, sweeping_stays}
use Rattle.register.proofs.table.placed.sweep_lot.Goals as goal
use Rattle.register.proofs.table.placed.sweep_lot.Goals.{then-not-lies_on, else-not-lies_on}

pub loop-i-init : goal.loop-i-init
loop-i-init g c = (omega arith, none, refl)

pub loop-i-preserved : goal.loop-i-preserved
loop-i-preserved g c =
    let l = c.loop-i in
    let xs = c.args.places.now in
    let P = λ (x : g.row.T.Denot). g.T.Placed.whose x ≡ c.args.lot → ⊥ in
    let x = c.index-places-i in
    let lt : l.i < length xs = omega arith in
    let long : length l.places ≡ length xs = l.auto.places in
    let Goal = λ (ys : List g.row.T.Denot) (k : ℕ). Sweeping P xs ys k (l.i + 1) in
    elim c.if-not-lies_on.branch [
      | then-not-lies_on w ↦ subst (λ ys. Goal ys c.if-not-lies_on.left) (sym w.places-is) (subst (λ k. Goal (set l.places l.left x.result) k) (sym w.left-is)
          (sweeping_stays P xs l.places l.left l.i x.result lt long x.is l.invariant (not_from_Decides c.lies_on.result c.lies_on.ensures w.if-not-lies_on.true)))
      | else-not-lies_on w ↦ subst (λ ys. Goal ys c.if-not-lies_on.left) (sym w.places-is) (subst (λ k. Goal l.places k) (sym w.left-is)
          (sweeping_goes P xs l.places l.left l.i x.result lt long x.is l.invariant (λ n. n (c.lies_on.ensures.0 w.if-not-lies_on.false))))
    ]

pub returns : goal.returns
returns g c =
    let l = c.loop-i in
    let xs = c.args.places.now in
    let P = λ (x : g.row.T.Denot). g.T.Placed.whose x ≡ c.args.lot → ⊥ in
    let ends : l.i ≡ c.args.used = omega arith in
    record {
      few = omega (arith, l.invariant.0);
      rows = subst (λ n. Filtered P (take n xs) (take l.left l.places)) ends l.invariant.1;
      places = sym (take-append-drop l.left l.places) ∙ ap (λ r. take l.left l.places ++ r) l.invariant.2;
    }
