-- Adding a row to a table, and sweeping rows out of one.
use Rattle.std.proofs.Common.{not, ◌≡◌, ℕ, ◌+◌, ◌-◌, ◌<◌, ◌≤◌, List, [], ◌∷◌, ◌++◌, length, get_or, take, drop, set, sym, ap, ◌∙◌, subst, arith, take-append-drop}
use Rattle.std.proofs.lemmas.List.{take_more, take_more_set, drop-drop, drop-set-lt, get_or-drop}
use Rattle.delegation.specs.Found.{Filtered}
use Rattle.delegation.specs.Found.Filtered.{none, stays, goes}

-- a write at the end of the first n elements leaves the later ones
pub pushed : {X : Type 0} (xs : List X) (n : ℕ) (x : X) → set xs n x ≡ take (n + 1) (set xs n x) ++ drop (n + 1) xs
pushed xs n x =
    let lt : n < n + 1 = omega arith in
    sym (take-append-drop (n + 1) (set xs n x)) ∙ ap (λ r. take (n + 1) (set xs n x) ++ r) (drop-set-lt (n + 1) xs n x lt)

-- a filter, one element more
filtered_stays : {X : Type 0} {P : X → Type 0} {xs ys : List X} (x : X) → P x → Filtered P xs ys → Filtered P (xs ++ (x ∷ [])) (ys ++ (x ∷ []))
filtered_stays x p none = stays p none
filtered_stays x p (stays q f) = stays q (filtered_stays x p f)
filtered_stays x p (goes q f) = goes q (filtered_stays x p f)

filtered_goes : {X : Type 0} {P : X → Type 0} {xs ys : List X} (x : X) → (P x → ⊥) → Filtered P xs ys → Filtered P (xs ++ (x ∷ [])) ys
filtered_goes x p none = goes p none
filtered_goes x p (stays q f) = stays q (filtered_goes x p f)
filtered_goes x p (goes q f) = goes q (filtered_goes x p f)

-- of the first i rows, those with P are the first n of ys; later places are as they were
abbrev pub Sweeping : {X : Type 0} → (X → Type 0) → List X → List X → ℕ → ℕ → Type 0
Sweeping P xs ys n i = (n ≤ i) × Filtered P (take i xs) (take n ys) × (drop n ys ≡ drop n xs)

module _ {X : Type 0} (P : X → Type 0) (xs ys : List X) (n i : ℕ) (x : X) (lt : i < length xs) (long : length ys ≡ length xs) (read : x ≡ get_or ys i x) (m : Sweeping P xs ys n i) where
  read_there : take (i + 1) xs ≡ take i xs ++ (x ∷ [])
  read_there =
      let le : n ≤ i = m.0 in
      let at : n + (i - n) ≡ i = omega arith in
      let same : get_or ys i x ≡ get_or xs i x = ap (λ (j : ℕ). get_or ys j x) (sym at) ∙ sym (get_or-drop n ys (i - n) x) ∙ ap (λ l. get_or l (i - n) x) m.2 ∙ get_or-drop n xs (i - n) x ∙ ap (λ (j : ℕ). get_or xs j x) at in
      take_more xs i x lt ∙ ap (λ y. take i xs ++ (y ∷ [])) (sym (read ∙ same))

  pub sweeping_goes : (P x → ⊥) → Sweeping P xs ys n (i + 1)
  sweeping_goes not =
      let le : n ≤ i = m.0 in
      (omega arith, subst (λ l. Filtered P l (take n ys)) (sym read_there) (filtered_goes x not m.1), m.2)

  pub sweeping_stays : P x → Sweeping P xs (set ys n x) (n + 1) (i + 1)
  sweeping_stays p =
      let le : n ≤ i = m.0 in
      let inside : n < length ys = omega arith in
      let past : n < n + 1 = omega arith in (
        omega arith,
        subst (λ l. Filtered P l (take (n + 1) (set ys n x))) (sym read_there) (subst (λ l. Filtered P (take i xs ++ (x ∷ [])) l) (sym (take_more_set ys n x inside)) (filtered_stays x p m.1)),
        drop-set-lt (n + 1) ys n x past ∙ sym (drop-drop 1 n ys) ∙ ap (drop 1) m.2 ∙ drop-drop 1 n xs,
      )
