-- A step covers another just if some number of moves leads there, and so covering comes out of a truncation.
use Rattle.std.proofs.Common.{◌≡◌, ℕ, zero, suc, Bool, true, false, ◌&&◌, ◌||◌, eqb, List, [], ◌∷◌, refl, subst, inl, inr}
use mathlib.Core.List.Memᴰ
use mathlib.Core.List.{Memᴰ}
use mathlib.Core.Logic.{∥∥₁_map}
use Rattle.std.proofs.lemmas.Bool.{and_from, and_parts, eq-eqb, eqb-true, false≢true, or_cases, or_left, or_right}
use Rattle.book.specs.Covering.{Covers, itself, onward}
use Rattle.book.specs.declared.rows.Cover.{Cover}
use Rattle.book.proofs.LeastWitness.{one_out}

-- one of the rows leads from a step that passes to b
abbrev leads : (ℕ → Bool) → ℕ → List Cover → Bool
leads from b [] = false
leads from b (row ∷ rows) = (from row.stronger.0 && eqb row.weaker.0 b) || leads from b rows

leads-by : (from : ℕ → Bool) (rows : List Cover) (row : Cover) → Memᴰ row rows → from row.stronger.0 ≡ true → leads from row.weaker.0 rows ≡ true
leads-by from [] row m e = absurd (Memᴰ.not-nil m)
leads-by from (r ∷ rows) row m e =
    elim (Memᴰ.cases_cons m) [
      | inl same ↦
          or_left _ _ (subst (λ (x : Cover). (from x.stronger.0 && eqb x.weaker.0 row.weaker.0) ≡ true) same
          (and_from _ _ e (eq-eqb row.weaker.0 row.weaker.0 refl)))
      | inr later ↦ or_right (from r.stronger.0 && eqb r.weaker.0 row.weaker.0) _ (leads-by from rows row later e)
    ]

-- the row that leads there
led : (from : ℕ → Bool) (b : ℕ) (rows : List Cover) → leads from b rows ≡ true → (row : Cover) × Memᴰ row rows × (from row.stronger.0 ≡ true) × (row.weaker.0 ≡ b)
led from b [] e = absurd (false≢true e)
led from b (r ∷ rows) e =
    elim (or_cases (from r.stronger.0 && eqb r.weaker.0 b) (leads from b rows) e) [
      | inl here ↦ (let p = and_parts (from r.stronger.0) (eqb r.weaker.0 b) here in
          (r, Memᴰ.head refl, p.0, eqb-true r.weaker.0 b p.1))
      | inr later ↦ (let w = led from b rows later in (w.0, Memᴰ.tail w.1, w.2, w.3))
    ]

module _ (rows : List Cover) (a : ℕ) where
  -- n moves lead from a to b
  abbrev walks : ℕ → ℕ → Bool
  walks zero b = eqb a b
  walks (suc n) b = leads (walks n) b rows

  walk : (b : ℕ) → Covers rows a b → (n : ℕ) × (walks n b ≡ true)
  walk b itself = (0, eq-eqb a a refl)
  walk b (onward row m c) =
      let w = walk row.stronger.0 c in
      (suc w.0, leads-by (walks w.0) rows row m w.1)

  walked : (n b : ℕ) → walks n b ≡ true → Covers rows a b
  walked zero b e = subst (λ (x : ℕ). Covers rows a x) (eqb-true a b e) itself
  walked (suc n) b e =
      let w = led (walks n) b rows e in
      subst (λ (x : ℕ). Covers rows a x) w.3 (onward w.0 w.1 (walked n w.0.stronger.0 w.2))

  pub covers_out : (b : ℕ) → ∥ Covers rows a b ∥₁ → Covers rows a b
  covers_out b some =
      let w = one_out (λ n. walks n b) (∥∥₁_map some (walk b)) in walked w.0 b w.1
