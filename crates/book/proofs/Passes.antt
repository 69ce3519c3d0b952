-- What one more passed row, and a round that changes nothing, say of the table of covering.
use Rattle.std.proofs.Common.{◌≡◌, ℕ, ◌+◌, ◌<◌, ◌≤◌, Bool, ◌⊎◌, List, [], length, get_or, set, refl, sym, subst, inl, inr, arith, below_more}
use mathlib.Core.List.{Memᴰ}
use Rattle.book.specs.Covering.{Covers, itself, onward, StepsInRange, TellsCovering}
use Rattle.book.specs.Flags.{Raised, Set}
use Rattle.book.specs.Passing.{AllPassed, OnlyPassed, OnlySelves, Passed, Selves, Sound}
use Rattle.book.specs.declared.rows.Cover.{Cover}
use Rattle.book.proofs.Raised.{row_cases, row_here, row_there, row_within}

-- row a of the table is changed
module _ (t : List (List Bool)) (a : ℕ) (row : List Bool) (lt : a < length t) where
  pub only_selves_row : ((y : ℕ) → Raised row y → (y ≡ a) ⊎ Raised (get_or t a []) y) → OnlySelves t → a < 64 → OnlySelves (set t a row)
  only_selves_row new only lta x y ltx lty h =
      elim (row_cases t a row lt x y h) [
        | inl e ↦ elim (new y e.1) [
          | inl f ↦ omega (arith, e.0, f)
          | inr s ↦ omega (arith, e.0, only a y lta lty s)
        ]
        | inr s ↦ only x y ltx lty s.1
      ]

  pub selves_row : Raised row a → Selves t a → Selves (set t a row) (a + 1)
  selves_row h selves = below_more _ _ (λ x l. row_there t a row lt x x (λ e. omega (arith, e, l)) (selves x l)) (row_here t a row lt a h)

  module _ (s w : ℕ) (lts : s < 64) where
    pub only_passed_row : (before : List (List Bool)) → ((y : ℕ) → Raised row y → Raised (get_or t a []) y ⊎ ((y ≡ w) × Raised (get_or t a []) s)) → OnlyPassed s w before t → OnlyPassed s w before (set t a row)
    only_passed_row before new only x y ltx lty h =
        elim (row_cases t a row lt x y h) [
          | inl e ↦ elim (new y e.1) [
            | inl r ↦ only x y ltx lty (subst (λ (z : ℕ). Set t z y) (sym e.0) r)
            | inr r ↦
                (let was : Set before a s = elim (only a s (omega (arith, e.0, ltx)) lts r.1) [ inl k ↦ k | inr k ↦ k.1 ] in
                inr (r.0, subst (λ (z : ℕ). Set before z s) (sym e.0) was))
          ]
          | inr r ↦ only x y ltx lty r.1
        ]

    pub passed_row : (Raised row s → Raised row w) → Passed s w t a → Passed s w (set t a row) (a + 1)
    passed_row h passed =
        below_more _ _
        (λ x l k. elim (row_cases t a row lt x s k) [
          | inl e ↦ absurd (omega (arith, e.0, l))
          | inr r ↦ row_there t a row lt x w r.0 (passed x l r.1)
        ])
        (λ k. elim (row_cases t a row lt a s k) [
          | inl e ↦ row_here t a row lt w (h e.1)
          | inr r ↦ absurd (r.0 refl)
        ])

-- past the end of the table no flag is raised
pub passed_all : (t : List (List Bool)) (s w n : ℕ) → length t ≤ n → Passed s w t n → Passed s w t 64
passed_all t s w n le passed a lta h = passed a (omega (arith, le, row_within t a s h)) h

pub sound_passed : (rows : List Cover) (row : Cover) (before after : List (List Bool)) → StepsInRange rows → Memᴰ row rows → Sound rows before → OnlyPassed row.stronger.0 row.weaker.0 before after → Sound rows after
sound_passed rows row before after range m sound only a b lta ltb h =
    elim (only a b lta ltb h) [
      | inl s ↦ sound a b lta ltb s
      | inr s ↦ subst (λ (x : ℕ). Covers rows a x) (sym s.0) (onward row m (sound a row.stronger.0 lta (range row m).0 s.1))
    ]

pub sound_selves : (rows : List Cover) (t : List (List Bool)) → OnlySelves t → Sound rows t
sound_selves rows t only a b lta ltb h = subst (λ (x : ℕ). Covers rows a x) (only a b lta ltb h) itself

module _ (rows : List Cover) (t : List (List Bool)) (range : StepsInRange rows) (selves : Selves t 64) (passed : AllPassed rows t) where
  covered : (a b : ℕ) → a < 64 → Covers rows a b → Set t a b
  covered a b lt itself = selves a lt
  covered a b lt (onward row m c) = passed row m a lt (covered a row.stronger.0 lt c)

  pub tells : Sound rows t → TellsCovering rows t
  tells sound a b lta ltb = (sound a b lta ltb, covered a b lta)
