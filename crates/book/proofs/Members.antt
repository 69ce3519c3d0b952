-- The rows of a list, by their places.
use Rattle.std.proofs.Common.{ℕ, zero, suc, ◌<◌, List, [], ◌∷◌, length, get_or, sym, refl, subst, inl, inr, arith}
use mathlib.Core.List.Memᴰ
use mathlib.Core.List.{Memᴰ}
use Rattle.std.specs.List.{HoldsAt, AllWithin, AllByRecursion as All}
use Rattle.std.proofs.ByRecursion.{all_from_every}
use Rattle.std.proofs.lemmas.List.{get_or_default}

pub member : {X : Type 0} (xs : List X) (i : ℕ) (d : X) → i < length xs → Memᴰ (get_or xs i d) xs
member [] i d lt = absurd (omega arith)
member (x ∷ xs) zero d lt = Memᴰ.head refl
member (x ∷ xs) (suc i) d lt = Memᴰ.tail (member xs i d (omega arith))

pub of_member : {X : Type 0} (P : X → Type 0) (xs : List X) (x : X) → Memᴰ x xs → All P xs → P x
of_member P [] x m all = absurd (Memᴰ.not-nil m)
of_member P (y ∷ xs) x m all =
    elim (Memᴰ.cases_cons m) [ inl e ↦ subst P (sym e) all.0 | inr r ↦ of_member P xs x r all.1 ]

pub of_every : {X : Type 0} (P : X → Type 0) (xs : List X) (x : X) → Memᴰ x xs → AllWithin P xs 0 (length xs) → P x
of_every P xs x m every = of_member P xs x m (all_from_every P xs every)

pub at_any : {X : Type 0} (P : X → Type 0) (xs : List X) (i : ℕ) (d : X) → i < length xs → P (get_or xs i d) → HoldsAt P xs i
at_any P xs i d lt p e = subst P (get_or_default xs i d e lt) p
