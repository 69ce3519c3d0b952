use Rattle.std.proofs.Common.{◌≡◌, ℕ, List, Option, refl, ◌∙◌, ap₂}
use Rattle.std.specs.List.{zip}
use Rattle.std.proofs.lemmas.Result.{err_from_is_err_and}
use Rattle.book.specs.declared.faults.Cause.{Cause}
use Rattle.book.specs.declared.form.Limit.{Limit}
use Rattle.book.specs.declared.form.Sizes.{Sizes}
use Rattle.book.specs.Causes.{first, size_cause}
use Rattle.book.specs.Form.{in_sizes, limits, listed_sizes}
use Rattle.book.proofs.form.Sizes.plan.Goals as goal

-- what the check of the sizes says
checked : (s : Sizes) (ls : List Limit) (ns : List ℕ) {o : Option (Cause × ℕ)} → ls ≡ limits → ns ≡ listed_sizes s → o ≡ first size_cause 0 (zip ls ns) → o ≡ in_sizes s
checked s ls ns p q e = e ∙ ap₂ (λ l n. first size_cause 0 (zip l n)) p q

pub returns-in_err-check_sizes : goal.returns-in_err-check_sizes
returns-in_err-check_sizes c =
    let p = err_from_is_err_and c.from_residual.result c.from_residual.ensures.1 in
    rw (p.1, p.2) record { fault = checked c.args.self _ _ c.size_limits.ensures c.listed.ensures c.in_err-check_sizes.ensures; sizes = tt }

pub returns : goal.returns
returns c = record { fault = checked c.args.self _ _ c.size_limits.ensures c.listed.ensures c.in_ok-check_sizes.ensures; sizes = refl }
