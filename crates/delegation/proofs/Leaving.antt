-- Flags of the grants that a withdrawal leaves, place by place.
use Rattle.std.proofs.Common.{◌≡◌, ℕ, ◌+◌, ◌<◌, Bool, false, ◌==◌, ◌≢◌, List, length, get_or, set, Decides, sym, subst, inl, inr, arith, below_more}
use mathlib.Core.List.{Memᴰ}
use Rattle.std.specs.List.{HoldsAt}
use Rattle.std.proofs.lemmas.List.{get_or-set_same, get_or-set_other}
use Rattle.std.proofs.lemmas.Bool.{both_ways, cases_Bool}
use Rattle.std.proofs.lemmas.Bool.Decides.{not_from_Decides, Decides-like}
use Rattle.delegation.proofs.Judged.{same_lots}
use Rattle.strength.specs.Kind.{Kind}
use Rattle.book.specs.Rules.{Rules}
use Rattle.delegation.specs.Rights.{Chained}
use Rattle.delegation.specs.Walks.{LeftAt, Left, ChainsFlagged}
use Rattle.delegation.specs.Withdrawals.{FlagsOf, Apart, Beside}
use Rattle.delegation.specs.declared.grants.Grant.{Grant}
use Rattle.delegation.proofs.Links.{wider, ends_in}
use Rattle.book.proofs.Members.{member}
use Rattle.delegation.proofs.Searches.{mem_place}

-- one place more
pub flags_more : {X : Type 0} (P : X → Type 0) (xs : List X) (flags : List Bool) (i : ℕ) (b : Bool) → i < length flags → ((j : ℕ) → j < i → Decides (get_or flags j false) (HoldsAt P xs j)) →
    Decides b (HoldsAt P xs i) → (j : ℕ) → j < i + 1 → Decides (get_or (set flags i b) j false) (HoldsAt P xs j)
flags_more P xs flags i b inside before here =
    below_more _ _
    (λ j l. let ne : j ≢ i = omega arith in subst (λ c. Decides c (HoldsAt P xs j)) (sym (get_or-set_other flags i j b false ne)) (before j l))
    (subst (λ c. Decides c (HoldsAt P xs i)) (sym (get_or-set_same flags i b false inside)) here)

module _ {S : Type 0} (gs : List (Grant S)) (named : Grant S) (gone : List Bool) (flags : FlagsOf (Apart named) gs gone) where
  not_apart : (h : Grant S) → Beside gs named h → Apart named h → ⊥
  not_apart h b (inl n) = n b.0.1
  not_apart h b (inr e) = b.1 e

  -- where a grant beside the named one lies, the flag is not set
  pub beside_at : (i : ℕ) → i < length gs → HoldsAt (Beside gs named) gs i → LeftAt gs gone i
  beside_at i lt b =
      (lt, elim (cases_Bool (get_or gone i false)) [ inl e ↦ absurd (not_apart _ (b named) ((flags i lt).0 e named)) | inr f ↦ f ])

  pub beside_left : (h : Grant S) → Beside gs named h → Left gs gone h
  beside_left h b =
      let p = mem_place gs b.0.0 in
      (p.0, beside_at p.0 p.1 (λ d. subst (Beside gs named) (sym (p.2 d)) b), p.2)

  on_lot : (h : Grant S) → (Apart named h → ⊥) → h.lot ≡ named.lot
  on_lot h n = let d = same_lots h.lot named.lot in elim (cases_Bool (h.lot.0 == named.lot.0)) [ inl e ↦ d.0 e | inr e ↦ absurd (n (inl (not_from_Decides _ d e))) ]

  pub left_beside : (h : Grant S) → Left gs gone h → Beside gs named h
  left_beside h (i, left, is) =
      let n : Apart named h → ⊥ = λ a. both_ways (get_or gone i false) left.1 ((flags i left.0).1 (λ d. subst (Apart named) (sym (is d)) a)) in
      ((subst (λ x. Memᴰ x gs) (is h) (member gs i h left.0), on_lot h n), λ e. n (inr e))

  pub chained_beside : (k : Kind S) (r : Rules S) (seen : List Bool) → ChainsFlagged k r gs gone seen → FlagsOf (Chained k r (Beside gs named)) gs seen
  chained_beside k r seen exact i lt =
      Decides-like {P = LeftAt gs gone i × HoldsAt (Chained k r (Left gs gone)) gs i} {Q = HoldsAt (Chained k r (Beside gs named)) gs i} (get_or seen i false)
      (λ h d. wider k r (Left gs gone) (Beside gs named) (get_or gs i d) left_beside (h.1 d))
      (λ c. (beside_at i lt (λ d. ends_in k r (Beside gs named) (get_or gs i d) (c d)), λ d. wider k r (Beside gs named) (Left gs gone) (get_or gs i d) beside_left (c d)))
      (exact i)
