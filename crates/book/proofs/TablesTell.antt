-- What a table that tells the rows tells of any two numbers.
use Rattle.std.proofs.Common.{◌≡◌, ℕ, ◌<◌, ◌≤◌, Bool, true, ◌⊎◌, List, [], ◌∷◌, Decides, refl, subst, inl, inr, ⊎_elim, arith}
use mathlib.Core.Bool.{Bool-set}
use mathlib.Core.HLevel.{⊥_prop}
use mathlib.Core.List.Memᴰ
use mathlib.Core.Logic.{∥∥₁_elim, ∥∥₁_map}
use Rattle.std.proofs.lemmas.Bool.{cases_eq}
use Rattle.book.specs.Covering.{Covers, itself, onward, StepsInRange, TellsCovering}
use Rattle.book.specs.Flags.{flag_at}
use Rattle.book.specs.Playing.{Plays, TellsPlaying}
use Rattle.book.specs.declared.rows.Cover.{Cover}
use Rattle.book.specs.declared.rows.Play.{Play}
use Rattle.book.proofs.Walks.{covers_out}

-- a decision comes out of a truncation if what it decides does
decides_out : {P : Type 0} (r : Bool) → (∥ P ∥₁ → P) → ∥ Decides r P ∥₁ → Decides r P
decides_out r out d = ((λ e. out (∥∥₁_map d (λ s. s.0 e))), (λ p. ∥∥₁_elim d (Bool-set r true) (λ s. s.1 p)))

pub covering_told : (rows : List Cover) (table : List (List Bool)) → ∥ TellsCovering rows table ∥₁ → (a b : ℕ) → a < 64 → b < 64 → Decides (flag_at table a b) (Covers rows a b)
covering_told rows table tells a b lta ltb =
    decides_out _ (covers_out rows a b) (∥∥₁_map tells (λ told. told a b lta ltb))

-- a step and what it covers are the same or both in range
covers_range : (rows : List Cover) → StepsInRange rows → (a b : ℕ) → Covers rows a b → (a ≡ b) ⊎ ((a < 64) × (b < 64))
covers_range rows range a b itself = inl refl
covers_range rows range a b (onward row m c) =
    let r = range row m in
    elim (covers_range rows range a row.stronger.0 c) [
      | inl e ↦ inr (omega (arith, r.0), r.1)
      | inr w ↦ inr (w.0, r.1)
    ]

-- out of range a step covers only itself
pub covers_outside : (rows : List Cover) → StepsInRange rows → (a b : ℕ) → (64 ≤ a) ⊎ (64 ≤ b) → (r : Bool) → Decides r (a ≡ b) → Decides r (Covers rows a b)
covers_outside rows range a b far r d = (
  (λ e. subst (λ (x : ℕ). Covers rows a x) (d.0 e) itself),
  (λ c. elim (covers_range rows range a b c) [
    | inl e ↦ d.1 e
    | inr w ↦ absurd (elim far [ inl h ↦ omega (arith, w.0) | inr h ↦ omega (arith, w.1) ])
  ]),
)

-- the first row has them, or the rest says
first_or_later : (row : Play) (rows : List Play) (u p : ℕ) → Plays (row ∷ rows) u p → ((row.person.0 ≡ u) × (row.post.0 ≡ p)) ⊎ Plays rows u p
first_or_later row rows u p w =
    elim (Memᴰ.cases_cons w.1) [
      | inl e ↦ inl (subst (λ (x : Play). (x.person.0 ≡ u) × (x.post.0 ≡ p)) e (w.2, w.3))
      | inr m ↦ inr (w.0, m, w.2, w.3)
    ]

-- the rows say that u plays p or they do not
plays_or_not : (u p : ℕ) (rows : List Play) → Plays rows u p ⊎ (Plays rows u p → ⊥)
plays_or_not u p [] = inr (λ w. Memᴰ.not-nil w.1)
plays_or_not u p (row ∷ rows) =
    let rest : ((row.person.0 ≡ u) × (row.post.0 ≡ p) → ⊥) → Plays (row ∷ rows) u p ⊎ (Plays (row ∷ rows) u p → ⊥) = λ not.
    elim (plays_or_not u p rows) [
      | inl w ↦ inl (w.0, Memᴰ.tail w.1, w.2, w.3)
      | inr none ↦ inr (λ w. ⊎_elim not none (first_or_later row rows u p w))
    ] in
    elim (cases_eq row.person.0 u) [
      | inl eu ↦ elim (cases_eq row.post.0 p) [
        | inl ep ↦ inl (row, Memᴰ.head refl, eu, ep)
        | inr ne ↦ rest (λ w. ne w.1)
      ]
      | inr ne ↦ rest (λ w. ne w.0)
    ]

plays_out : (rows : List Play) (u p : ℕ) → ∥ Plays rows u p ∥₁ → Plays rows u p
plays_out rows u p some = elim (plays_or_not u p rows) [ inl w ↦ w | inr none ↦ absurd (∥∥₁_elim some ⊥_prop none) ]

pub playing_told : (rows : List Play) (table : List (List Bool)) → ∥ TellsPlaying rows table ∥₁ → (u p : ℕ) → u < 256 → p < 64 → Decides (flag_at table u p) (Plays rows u p)
playing_told rows table tells u p ltu ltp =
    decides_out _ (plays_out rows u p) (∥∥₁_map tells (λ told. told u p ltu ltp))
