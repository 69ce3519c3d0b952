-- Passes over a list that look for an element.
use Rattle.std.proofs.Common.{ℕ, List, [], ◌∷◌, get_or, arith}
use Rattle.delegation.specs.Found.{NoneOf, First}
use Rattle.book.proofs.Members.{member}

-- where no element has P there is no first that has
pub no_first : {X : Type 0} (P : X → Type 0) (xs : List X) (i : ℕ) → NoneOf P xs → First P xs i → ⊥
no_first P [] i nil f = absurd (omega (arith, f.0))
no_first P (x ∷ xs) i nil f = nil (get_or (x ∷ xs) i x) (member (x ∷ xs) i x f.0) (f.1 x)
