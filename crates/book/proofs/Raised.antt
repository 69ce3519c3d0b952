-- What a changed row changes of a table of flags.
use Rattle.std.proofs.Common.{◌≡◌, ℕ, zero, suc, ◌<◌, ◌≤◌, Bool, true, false, ◌⊎◌, List, [], ◌∷◌, length, get_or, set, replicate, sym, refl, ap, ◌∙◌, subst, inl, inr, arith}
use Rattle.std.proofs.lemmas.List.{ext_get_or, get_or-replicate, get_or_past, get_or-set_other, get_or-set_same, length-replicate}
use Rattle.std.specs.Array.{AllZipBelow}
use Rattle.std.proofs.lemmas.Bool.{both_ways, cases_Bool, cases_eq, cases_lt}
use Rattle.book.specs.Flags.{Raised, Set, Clear, Grows, lowered, unset}

-- what is raised after the flag i was raised
pub raised_cases : (row : List Bool) (i x : ℕ) → Raised (set row i true) x → (x ≡ i) ⊎ Raised row x
raised_cases row i x h =
    elim (cases_eq x i) [ inl e ↦ inl e | inr ne ↦ inr (sym (get_or-set_other row i x true false ne) ∙ h) ]

pub raised_still : (row : List Bool) (i x : ℕ) → i < length row → Raised row x → Raised (set row i true) x
raised_still row i x lt h =
    elim (cases_eq x i) [
      | inl e ↦ subst (Raised (set row i true)) (sym e) (get_or-set_same row i true false lt)
      | inr ne ↦ get_or-set_other row i x true false ne ∙ h
    ]

-- a raised flag is in one of the rows
pub row_within : (t : List (List Bool)) (a b : ℕ) → Set t a b → a < length t
row_within t a b h =
    elim (cases_lt a (length t)) [
      | inl lt ↦ lt
      | inr ge ↦ absurd (both_ways _ (ap (λ r. get_or r b false) (get_or_past t a [] ge)) h)
    ]

-- one flag more leaves one fewer to raise
pub lowered_falls : (row : List Bool) (i : ℕ) → i < length row → get_or row i false ≡ false → lowered (set row i true) < lowered row
lowered_falls [] i lt e = omega arith
lowered_falls (true ∷ row) zero lt e = absurd (both_ways true e refl)
lowered_falls (false ∷ row) zero lt e = omega arith
lowered_falls (true ∷ row) (suc i) lt e = lowered_falls row i (omega arith) e
lowered_falls (false ∷ row) (suc i) lt e = let h : lowered (set row i true) < lowered row = lowered_falls row i (omega arith) e in omega arith

-- row a of the table is changed
module _ (t : List (List Bool)) (a : ℕ) (row : List Bool) (lt : a < length t) where
  pub row_here : (y : ℕ) → Raised row y → Set (set t a row) a y
  row_here y h = ap (λ r. get_or r y false) (get_or-set_same t a row [] lt) ∙ h

  pub row_there : (x y : ℕ) → (x ≡ a → ⊥) → Set t x y → Set (set t a row) x y
  row_there x y ne h = ap (λ r. get_or r y false) (get_or-set_other t a x row [] ne) ∙ h

  -- in that row or in another
  pub row_cases : (x y : ℕ) → Set (set t a row) x y → ((x ≡ a) × Raised row y) ⊎ ((x ≡ a → ⊥) × Set t x y)
  row_cases x y h =
      elim (cases_eq x a) [
        | inl e ↦ inl (e, sym (ap (λ r. get_or r y false) (get_or-set_same t a row [] lt)) ∙ subst (λ (z : ℕ). Set (set t a row) z y) e h)
        | inr ne ↦ inr (ne, sym (ap (λ r. get_or r y false) (get_or-set_other t a x row [] ne)) ∙ h)
      ]

  pub row_grows : ((y : ℕ) → Raised (get_or t a []) y → Raised row y) → Grows t (set t a row)
  row_grows h x y s =
      elim (cases_eq x a) [
        | inl e ↦ subst (λ (z : ℕ). Set (set t a row) z y) (sym e) (row_here y (h y (subst (λ (z : ℕ). Set t z y) e s)))
        | inr ne ↦ row_there x y ne s
      ]

pub unset_falls : (t : List (List Bool)) (a : ℕ) (row : List Bool) → a < length t → lowered row < lowered (get_or t a []) → unset (set t a row) < unset t
unset_falls [] a row lt h = absurd (omega arith)
unset_falls (r ∷ t) zero row lt h = omega arith
unset_falls (r ∷ t) (suc a) row lt h = let l : unset (set t a row) < unset t = unset_falls t a row (omega arith) h in omega arith

pub no_more : (after before : List (List Bool)) (changed : Bool) → (changed ≡ true → unset after < unset before) → (changed ≡ false → after ≡ before) → unset after ≤ unset before
no_more after before changed fewer same =
    elim (cases_Bool changed) [
      | inl e ↦ omega (arith, fewer e)
      | inr e ↦ omega (arith, ap unset (same e))
    ]

-- a copy of a row is that row
pub copied : (row copy : List Bool) (n : ℕ) → length row ≡ n → AllZipBelow (λ x y. y ≡ x) row copy n → copy ≡ row
copied row copy n long of = ext_get_or false copy row (of.long ∙ sym long) (λ i lt. of.at i false false (omega (arith, lt, of.long)))

pub fresh_clear : (n m : ℕ) → Clear (replicate n (replicate m false))
fresh_clear n m a b h =
    elim (cases_lt a n) [
      | inl lt ↦
          (let e = ap (λ r. get_or r b false) (get_or-replicate n a (replicate m false) [] lt) in
          elim (cases_lt b m) [
            | inl ltb ↦ both_ways _ (e ∙ get_or-replicate m b false false ltb) h
            | inr ge ↦ both_ways _ (e ∙ get_or_past (replicate m false) b false (let l = length-replicate m false in omega arith)) h
          ])
      | inr ge ↦ both_ways _ (ap (λ r. get_or r b false) (get_or_past (replicate n (replicate m false)) a [] (let l = length-replicate n (replicate m false) in omega arith))) h
    ]
