-- What searches over lists answer.
use Rattle.std.specs.Prelude.{◌≡◌, ℕ, ◌<◌, List, [], ◌∷◌, length, take, slice_index_or}
use mathlib.Core.List.{Memᴰ}

-- some element has P
abbrev pub SomeOf : {X : Type 0} → (X → Type 0) → List X → Type 0
SomeOf {X} P xs = (x : X) × Memᴰ x xs × P x

-- no element has P
abbrev pub NoneOf : {X : Type 0} → (X → Type 0) → List X → Type 0
NoneOf {X} P xs = (x : X) → Memᴰ x xs → P x → ⊥

-- the element at place i is the first that has P
abbrev pub First : {X : Type 0} → (X → Type 0) → List X → ℕ → Type 0
First {X} P xs i = (i < length xs) × ((d : X) → P (slice_index_or xs i d)) × NoneOf P (take i xs)

-- ys are those of xs that have P, in their order
pub data Filtered {X : Type 0} (P : X → Type 0) : List X → List X → Type 0 where
  none : Filtered P [] []
  stays : {x : X} {xs ys : List X} → P x → Filtered P xs ys → Filtered P (x ∷ xs) (x ∷ ys)
  goes : {x : X} {xs ys : List X} → (P x → ⊥) → Filtered P xs ys → Filtered P (x ∷ xs) ys

-- n elements have P
abbrev pub Counted : {X : Type 0} → (X → Type 0) → List X → ℕ → Type 0
Counted {X} P xs n = (ys : List X) × Filtered P xs ys × (n ≡ length ys)
