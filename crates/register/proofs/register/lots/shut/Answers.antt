-- What stays is not the lot.
use Rattle.std.proofs.Common.{◌≡◌, filter, not, ◌==◌, rules, sym, subst}
use Rattle.std.proofs.lemmas.Bool.Decides.{Decides-not}
use Rattle.arrayvec.proofs.ArrayVecLemmas.{filter-from_retain}
use Rattle.delegation.specs.Found.{Filtered}
use Rattle.book.specs.declared.rows.Lot.{Lot}
use Rattle.delegation.proofs.Judged.{same_lots}
use Rattle.delegation.proofs.Searches.{Filtered-filter}
use Rattle.register.proofs.register.lots.shut.Goals as goal

pub returns : goal.returns
returns c =
    let n = c.args.lot in
    let lots = c.args.lots.now.items in
    let P = λ (l : Lot). l ≡ n → ⊥ in
    let test = λ (l : Lot). not (l.0 == n.0) in
    let kept : c.retain.new.self.items ≡ filter test lots = filter-from_retain _ _ _ (λ x b f' y called. search rules) _ _ c.retain.ensures.filtered in
    subst (λ ls. Filtered P lots ls) (sym kept) (Filtered-filter P test (λ l. Decides-not (l.0 == n.0) (same_lots l n)) lots)
