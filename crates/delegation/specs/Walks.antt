-- A walk along chains: which grants it has reached, and which of them wait in its queue.
use Rattle.std.specs.Prelude.{◌≡◌, ℕ, suc, ◌+◌, ◌<◌, ◌≤◌, Bool, true, false, ◌⊎◌, List, [], ◌∷◌, length, Some, None, Option, Decides, slice_index, slice_index_or}
use Rattle.std.specs.List.{HoldsAt}
use Rattle.strength.specs.Kind.{Kind}
use Rattle.book.specs.Rules.{Rules}
use Rattle.delegation.specs.Rights.{Chained, Heads, Supports}
use Rattle.delegation.specs.declared.grants.Grant.{Grant}
use Rattle.delegation.specs.declared.grants.Right.{Right}

abbrev pub Set : List Bool → ℕ → Type 0
Set flags i = slice_index_or flags i false ≡ true

-- how many flags are not set
abbrev pub unset : List Bool → ℕ
unset [] = 0
unset (true ∷ flags) = unset flags
unset (false ∷ flags) = suc (unset flags)

-- a grant is at place i, and it is not gone
abbrev pub LeftAt : {S : Type 0} → List (Grant S) → List Bool → ℕ → Type 0
LeftAt gs gone i = (i < length gs) × (slice_index_or gone i false ≡ false)

-- one of the grants that are not gone
abbrev pub Left : {S : Type 0} → List (Grant S) → List Bool → Grant S → Type 0
Left gs gone g = (i : ℕ) × LeftAt gs gone i × HoldsAt (λ h. h ≡ g) gs i

-- the queue has the flagged places below n, each once
pub record Queued (n : ℕ) (flags : List Bool) (queue : List ℕ) : Type 0 where
  pub each_once : length queue + unset flags ≡ length flags
  pub flagged : (p : ℕ) → p < length queue → (slice_index queue p < n) × Set flags (slice_index queue p)
  pub queued : (i : ℕ) → i < n → Set flags i → (p : ℕ) × (p < length queue) × (slice_index queue p ≡ i)

-- the queue only got longer
pub record Longer (queue after : List ℕ) : Type 0 where
  pub no_fewer : length queue ≤ length after
  pub same : (p : ℕ) → p < length queue → slice_index after p ≡ slice_index queue p

module _ {S : Type 0} (k : Kind S) (r : Rules S) where
  -- a grant that comes next in a chain: at its start, or after another
  abbrev pub Leads : Option (Grant S) → Grant S → Type 0
  Leads None g = (p : Right S) × Heads k r p g
  Leads (Some h) g = Supports k r h g

  -- of the first n grants, all that are left and come next are flagged, beside those that were before
  pub record Reached (earlier : Option (Grant S)) (gs : List (Grant S)) (gone : List Bool) (n : ℕ) (before after : List Bool) : Type 0 where
    pub stays : (i : ℕ) → Set before i → Set after i
    pub only : (i : ℕ) → Set after i → Set before i ⊎ (LeftAt gs gone i × HoldsAt (Leads earlier) gs i)
    pub every : (i : ℕ) → i < n → LeftAt gs gone i → HoldsAt (Leads earlier) gs i → Set after i

  -- flagged are exactly the grants that a chain of those that are left ends in
  abbrev pub ChainsFlagged : List (Grant S) → List Bool → List Bool → Type 0
  ChainsFlagged gs gone flags = (i : ℕ) → Decides (slice_index_or flags i false) (LeftAt gs gone i × HoldsAt (Chained k r (Left gs gone)) gs i)
