-- A number that passes a test comes out of a truncation, since the least such number is one only.
use Rattle.std.proofs.Common.{◌≡◌, ℕ, zero, suc, ◌<◌, Bool, true, false, ◌⊎◌, subst, inl, inr, arith}
use mathlib.Core.HLevel.{Σ_prop_path}
use mathlib.Core.Logic.{∥∥₁_elim}
use denote.Struct.Props.{props}
use Rattle.std.proofs.lemmas.Bool.{both_ways, cases_Bool, cases_eq, cases_order}

module _ (test : ℕ → Bool) where
  -- n passes, and none before it
  abbrev FirstAt : ℕ → Type 0
  FirstAt n = (test n ≡ true) × ((k : ℕ) → k < n → test k ≡ false)

  abbrev Least : Type 0
  Least = (n : ℕ) × FirstAt n

  first_prop : (n : ℕ) → IsProp (FirstAt n)
  first_prop n = hlevel props

  same_first : (m n : ℕ) → FirstAt m → FirstAt n → m ≡ n
  same_first m n p q =
      elim (cases_order m n) [
        | inl e ↦ e
        | inr (inl lt) ↦ absurd (both_ways (test m) (q.1 m lt) p.0)
        | inr (inr lt) ↦ absurd (both_ways (test n) (p.1 n lt) q.0)
      ]

  least_prop : IsProp Least
  least_prop p q = Σ_prop_path first_prop (same_first p.0 q.0 p.1 q.1)

  upto : (n : ℕ) → ((k : ℕ) → k < n → test k ≡ false) ⊎ Least
  upto zero = inl (λ k lt. absurd (omega arith))
  upto (suc n) =
      elim (upto n) [
        | inl none ↦ elim (cases_Bool (test n)) [
          | inl e ↦ inr (n, (e, none))
          | inr e ↦ inl (λ k lt. elim (cases_eq n k) [
            | inl here ↦ subst (λ (j : ℕ). test j ≡ false) here e
            | inr ne ↦ none k (omega arith)
          ])
        ]
        | inr least ↦ inr least
      ]

  least : (n : ℕ) → test n ≡ true → Least
  least n e = elim (upto (suc n)) [ inl none ↦ absurd (both_ways (test n) (none n (omega arith)) e) | inr l ↦ l ]

  pub one_out : ∥ ((n : ℕ) × (test n ≡ true)) ∥₁ → (n : ℕ) × (test n ≡ true)
  one_out some = let l : Least = ∥∥₁_elim some least_prop (λ w. least w.0 w.1) in (l.0, l.1.0)
