-- What one more row says of the table of playing.
use Rattle.std.proofs.Common.{◌≡◌, ℕ, ◌<◌, Bool, ◌⊎◌, List, [], ◌∷◌, ◌++◌, length, get_or, set, refl, sym, subst, inl, inr}
use mathlib.Core.List.Memᴰ
use Rattle.book.specs.Flags.{Raised, Set}
use Rattle.book.specs.Playing.{Plays, TellsPlaying}
use Rattle.book.specs.declared.rows.Play.{Play}
use Rattle.book.proofs.Raised.{row_cases, row_grows, row_here}

-- what the rows and one more say
plays_cases : (rows : List Play) (row : Play) (u p : ℕ) → Plays (rows ++ (row ∷ [])) u p → Plays rows u p ⊎ ((row.person.0 ≡ u) × (row.post.0 ≡ p))
plays_cases rows row u p w =
    elim (Memᴰ.append_cases rows w.1) [
      | inl m ↦ inl (w.0, m, w.2, w.3)
      | inr m ↦ inr (subst (λ (x : Play). (x.person.0 ≡ u) × (x.post.0 ≡ p)) (Memᴰ.eq_of_singleton m) (w.2, w.3))
    ]

module _ (rows : List Play) (row : Play) (t : List (List Bool)) (flags : List Bool) where
  abbrev u : ℕ
  u = row.person.0

  pub filled_more : u < length t → u < 256 → ((y : ℕ) → Raised flags y → (y ≡ row.post.0) ⊎ Raised (get_or t u []) y) → ((y : ℕ) → Raised (get_or t u []) y → Raised flags y) → Raised flags row.post.0
      → TellsPlaying rows t → TellsPlaying (rows ++ (row ∷ [])) (set t u flags)
  filled_more lt ltu new still here told x p hx hp = (
    (λ s. elim (row_cases t u flags lt x p s) [
      | inl e ↦ elim (new p e.1) [
        | inl f ↦ (row, Memᴰ.append_right rows (Memᴰ.head refl), sym e.0, sym f)
        | inr r ↦ (let w = (told u p ltu hp).0 r in (w.0, Memᴰ.append_left (row ∷ []) w.1, subst (λ (z : ℕ). w.0.person.0 ≡ z) (sym e.0) w.2, w.3))
      ]
      | inr r ↦ (let w = (told x p hx hp).0 r.1 in (w.0, Memᴰ.append_left (row ∷ []) w.1, w.2, w.3))
    ]),
    (λ w. elim (plays_cases rows row x p w) [
      | inl v ↦ row_grows t u flags lt still x p ((told x p hx hp).1 v)
      | inr e ↦ subst (λ (z : ℕ). Set (set t u flags) z p) e.0 (subst (λ (z : ℕ). Set (set t u flags) u z) e.1 (row_here t u flags lt row.post.0 here))
    ]),
  )
