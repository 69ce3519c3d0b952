-- What a withdrawal leaves.
use Rattle.std.specs.Prelude.{◌≡◌, ℕ, ◌<◌, Bool, false, ◌⊎◌, List, length, Decides, ◌≢◌, slice_index_or}
use Rattle.std.specs.List.{HoldsAt}
use Rattle.strength.specs.Kind.{Kind}
use Rattle.book.specs.Rules.{Rules}
use Rattle.delegation.specs.Rights.{Chained, On}
use Rattle.delegation.specs.declared.grants.Grant.{Grant}

-- the flags say of each of the grants whether it has P
abbrev pub FlagsOf : {X : Type 0} → (X → Type 0) → List X → List Bool → Type 0
FlagsOf P xs flags = (i : ℕ) → i < length xs → Decides (slice_index_or flags i false) (HoldsAt P xs i)

-- no chain may use it: it lies on another lot, or it is the one that is named
abbrev pub Apart : {S : Type 0} → Grant S → Grant S → Type 0
Apart named g = (g.lot ≢ named.lot) ⊎ (g ≡ named)

-- one of the grants on the lot of the one that is named, but not that one
abbrev pub Beside : {S : Type 0} → List (Grant S) → Grant S → Grant S → Type 0
Beside gs named g = On gs named.lot g × (g ≢ named)

module _ {S : Type 0} (k : Kind S) (r : Rules S) where
  -- what stays when one is withdrawn: all on other lots, and what has a chain among the others on its lot
  abbrev pub Stays : List (Grant S) → Grant S → Grant S → Type 0
  Stays gs named g = (g.lot ≢ named.lot) ⊎ Chained k r (Beside gs named) g
