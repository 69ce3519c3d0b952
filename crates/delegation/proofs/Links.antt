-- Chains: each grant of one has a chain, and one grant more.
use Rattle.std.proofs.Common.{◌≡◌, ◌⊎◌, Bool, Decides, List, [], ◌∷◌, sym, refl, subst, inl, inr}
use mathlib.Core.List.Memᴰ
use mathlib.Core.List.{Memᴰ}
use Rattle.std.proofs.lemmas.Bool.{cases_Bool}
use Rattle.std.proofs.lemmas.Bool.Decides.{not_from_Decides}
use Rattle.strength.specs.Kind.{Kind, ReadsBack}
use Rattle.book.specs.Rules.{Rules}
use Rattle.delegation.specs.Rights.{Heads, Supports, Chain, Chained}
use Rattle.delegation.specs.Rights.Chain.{first, next}
use Rattle.delegation.specs.declared.grants.Grant.{Grant}
use Rattle.delegation.specs.declared.grants.Right.{Right}
use Rattle.delegation.proofs.Judged.{same, decides_same}

-- yes or no
abbrev Settled : Type 0 → Type 0
Settled P = P ⊎ (P → ⊥)

settled_by : {P Q : Type 0} → (P → Q) → (Q → P) → Settled P → Settled Q
settled_by f b (inl p) = inl (f p)
settled_by f b (inr n) = inr (λ q. n (b q))

-- what a test decides is settled
settled_by_test : {P : Type 0} (b : Bool) → Decides b P → Settled P
settled_by_test {P} b d = elim (cases_Bool b) [ inl e ↦ inl (d.0 e) | inr e ↦ inr (not_from_Decides b d e) ]

-- grants are equal or not
same_or_not : {S : Type 0} (k : Kind S) → ReadsBack k → (a b : Grant S) → Settled (a ≡ b)
same_or_not k law a b = settled_by_test (same k a b) (decides_same k law a b)

member_or_not : {S : Type 0} (k : Kind S) → ReadsBack k → (g : Grant S) (c : List (Grant S)) → Settled (Memᴰ g c)
member_or_not k law g [] = inr (λ m. Memᴰ.not-nil m)
member_or_not k law g (h ∷ c) =
    elim (same_or_not k law g h) [
      | inl e ↦ inl (Memᴰ.head e)
      | inr n ↦ settled_by (λ m. Memᴰ.tail m) (λ m. elim (Memᴰ.cases_cons m) [ inl e ↦ absurd (n e) | inr i ↦ i ]) (member_or_not k law g c)
    ]

module _ {S : Type 0} (k : Kind S) (r : Rules S) where
  -- more grants, more chains
  pub wider : (A B : Grant S → Type 0) (g : Grant S) → ((h : Grant S) → A h → B h) → Chained k r A g → Chained k r B g
  wider A B g f (c, n, m) = (c, n, λ h i. f h (m h i))

  -- a chain has one for each grant of it
  part : {c : List (Grant S)} → Chain k r c → (h : Grant S) → Memᴰ h c → Chained k r (λ x. Memᴰ x c) h
  part (first {g = g} {p = p} e) h m =
      subst (λ x. Chained k r (λ y. Memᴰ y (g ∷ [])) x) (sym (Memᴰ.eq_of_singleton m)) ([], first e, λ x n. n)
  part (next {g = g} {h = b} {c = c} n s f) h m = step (part n) (Memᴰ.cases_cons m)
    where
      step : ((h : Grant S) → Memᴰ h (b ∷ c) → Chained k r (λ x. Memᴰ x (b ∷ c)) h) → (h ≡ g) ⊎ Memᴰ h (b ∷ c) → Chained k r (λ x. Memᴰ x (g ∷ b ∷ c)) h
      step rec (inl q) = subst (λ x. Chained k r (λ y. Memᴰ y (g ∷ b ∷ c)) x) (sym q) (b ∷ c, next n s f, λ x i. i)
      step rec (inr i) = wider (λ x. Memᴰ x (b ∷ c)) (λ x. Memᴰ x (g ∷ b ∷ c)) h (λ x d. Memᴰ.tail d) (rec h i)

  -- each grant of a chain is chained
  pub inside : (A : Grant S → Type 0) (g : Grant S) (c : Chained k r A g) (h : Grant S) → Memᴰ h (g ∷ c.0) → Chained k r A h
  inside A g c h m = wider (λ x. Memᴰ x (g ∷ c.0)) A h c.2 (part c.1 h m)

  -- and one of those that may be used
  pub ends_in : (A : Grant S → Type 0) (g : Grant S) → Chained k r A g → A g
  ends_in A g c = c.2 g (Memᴰ.head refl)

  pub chained_first : (A : Grant S → Type 0) (g : Grant S) (p : Right S) → Heads k r p g → A g → Chained k r A g
  chained_first A g p e a = ([], first e, λ h m. subst A (sym (Memᴰ.eq_of_singleton m)) a)

  -- a chain that has the grant already is cut there
  pub chained_next : ReadsBack k → (A : Grant S → Type 0) (h g : Grant S) → Chained k r A h → Supports k r h g → A g → Chained k r A g
  chained_next law A h g c s a =
      elim (member_or_not k law g (h ∷ c.0)) [
        | inl m ↦ inside A h c g m
        | inr n ↦ (h ∷ c.0, next c.1 s n, λ x m. elim (Memᴰ.cases_cons m) [ inl e ↦ subst A (sym e) a | inr i ↦ c.2 x i ])
      ]

  -- what holds of all that comes first, and of all that comes after what it holds of, holds of a chain's end
  pub at_end : (A F : Grant S → Type 0) → ((g : Grant S) (p : Right S) → A g → Heads k r p g → F g) → ((h g : Grant S) → A h → F h → A g → Supports k r h g → F g) →
      {g : Grant S} {c : List (Grant S)} → Chain k r (g ∷ c) → ((h : Grant S) → Memᴰ h (g ∷ c) → A h) → F g
  at_end A F start onward (first {g = g} {p = p} e) all = start g p (all g (Memᴰ.head refl)) e
  at_end A F start onward (next {g = g} {h = h} {c = c} n s f) all =
      onward h g (all h (Memᴰ.tail (Memᴰ.head refl))) (at_end A F start onward n (λ x m. all x (Memᴰ.tail m))) (all g (Memᴰ.head refl)) s
