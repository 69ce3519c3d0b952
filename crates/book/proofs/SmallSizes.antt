-- Sizes within their limits.
use Rattle.std.proofs.Common.{◌≡◌, ℕ, ◌<◌, ◌≤◌, Bool, true, false, cond, leb, get_or, Some, None, sym, refl, arith, lit<}
use Rattle.std.specs.List.{zip}
use Rattle.std.proofs.lemmas.Bool.{leb-true}
use Rattle.std.proofs.lemmas.Option.{none-some}
use Rattle.book.specs.declared.faults.Cause.TheVariants.{SizeOutOfLimits}
use Rattle.book.specs.declared.form.Limit.{Limit}
use Rattle.book.specs.declared.form.Sizes.{Sizes}
use Rattle.book.specs.Causes.{size_cause}
use Rattle.book.specs.Form.{Small, columns, in_sizes, limits, listed_sizes, total}
use Rattle.book.proofs.FirstCauses.{none_at}

under : (a b : Bool) → cond a (cond b None (Some SizeOutOfLimits)) (Some SizeOutOfLimits) ≡ None → b ≡ true
under true true e = refl
under true false e = absurd (none-some _ (sym e))
under false b e = absurd (none-some _ (sym e))

within : (l : Limit) (w : ℕ) → size_cause (l, w) ≡ None → w ≤ l.most
within l w e = leb-true w l.most (under (leb l.least w) (leb w l.most) e)

abbrev none : Limit × ℕ
none = (record { least = 0; most = 0 }, 0)

pub small : (s : Sizes) → in_sizes s ≡ None → Small s
small s e =
    let at : (j : ℕ) → j < 8 → size_cause (get_or (zip limits (listed_sizes s)) j none) ≡ None = λ j h. none_at size_cause 0 (zip limits (listed_sizes s)) j none e h in
    record {
      people = within _ _ (at 0 (lit< tt));
      posts = within _ _ (at 1 (lit< tt));
      steps = within _ _ (at 2 (lit< tt));
      plays = within _ _ (at 3 (lit< tt));
      covers = within _ _ (at 4 (lit< tt));
      holds = within _ _ (at 5 (lit< tt));
      bars = within _ _ (at 6 (lit< tt));
      clashes = within _ _ (at 7 (lit< tt));
    }

pub few : (s : Sizes) → Small s → total (columns s) ≤ 4864
few s z = omega arith
