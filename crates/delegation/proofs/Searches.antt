-- Passes over a list that look for an element, for the first one, or count.
use Rattle.std.proofs.Common.{◌≡◌, ℕ, zero, suc, ◌+◌, ◌<◌, Bool, true, false, cond, List, [], ◌∷◌, ◌++◌, length, get_or, take, Option, Decides, sym, refl, ap, ◌∙◌, subst, inl, inr, ⊎_elim, arith}
use mathlib.Core.List.Memᴰ
use mathlib.Core.List.{Memᴰ}
use denote.Param.Members.{Mut, Called}
use Rattle.std.specs.Bool.{MatchBool}
use Rattle.std.specs.Int.{from_bool}
use Rattle.std.specs.Iterator.{ChecksAny}
use Rattle.std.specs.List.{filter, AllWithin, HoldsAt, count_by, list_any, sum_by}
use Rattle.std.proofs.lemmas.Bool.{false≢true, cases_Bool, or_cases}
use Rattle.std.proofs.lemmas.Bool.Decides.{not_from_Decides}
use Rattle.std.proofs.lemmas.Iterator.{YieldsList, cases_from_any}
use Rattle.std.proofs.lemmas.List.Folds.{list_any_at}
use Rattle.std.proofs.lemmas.List.{take_more}
use Rattle.book.proofs.Members.{member}
use Rattle.delegation.specs.Found.{SomeOf, NoneOf, Filtered, Counted}
use Rattle.delegation.specs.Found.Filtered.{none, stays, goes}

-- the element at a place of the list
pub some_read : {X : Type 0} (xs : List X) (i : ℕ) → i < length xs → (x : X) × ((d : X) → get_or xs i d ≡ x)
some_read [] i lt = absurd (omega arith)
some_read (x ∷ xs) zero lt = (x, λ d. refl)
some_read (x ∷ xs) (suc i) lt = some_read xs i (omega arith)

-- where a member is
pub mem_place : {X : Type 0} {x : X} (xs : List X) → Memᴰ x xs → (i : ℕ) × (i < length xs) × ((d : X) → get_or xs i d ≡ x)
mem_place [] m = absurd (Memᴰ.not-nil m)
mem_place {x = x} (y ∷ ys) m =
    elim (Memᴰ.cases_cons m) [
      | inl e ↦ (0, omega arith, λ d. sym e)
      | inr n ↦ (let r = mem_place ys n in (suc r.0, omega (arith, r.1), r.2))
    ]

-- what holds at a place holds of some element
some_at : {X : Type 0} (P : X → Type 0) (xs : List X) → (k : ℕ) × (k < length xs) × HoldsAt P xs k → SomeOf P xs
some_at P xs (k, lt, here) = let x = some_read xs k lt in (x.0, subst (λ y. Memᴰ y xs) (x.1 x.0) (member xs k x.0 lt), subst P (x.1 x.0) (here x.0))

-- `any` found an element that has Yes, or each has No
pub some_or_none : {S A B F : Type 0} {steps : S → Option A → S → Type 0} {v : A → B} {g : Mut F (A × Unit {0}) Bool} {s : S} {xs : List B} (Yes No : B → Type 0) (u : S) (f : F) (r : Bool) →
    ChecksAny steps g s f r u → YieldsList steps v s xs → ((x : A) (q : F) → Called g f (x, tt) true q → Yes (v x)) → ((x : A) (q : F) → Called g f (x, tt) false q → (q ≡ f) × No (v x)) →
    MatchBool r (SomeOf Yes xs) ((x : B) → Memᴰ x xs → No x)
some_or_none {xs = xs} Yes No u f r ran gives found not =
    elim r as (λ b. MatchBool b ((k : ℕ) × (k < length xs) × HoldsAt Yes xs k) (AllWithin No xs 0 (length xs)) → MatchBool b (SomeOf Yes xs) ((x : _) → Memᴰ x xs → No x)) [
      | true ↦ λ h. some_at Yes xs h
      | false ↦ λ h x m. let p = mem_place xs m in subst No (p.2 x) (h p.0 x (omega arith) p.1)
    ]
    (cases_from_any u f r Yes No ran gives found not)

decides_some : {X : Type 0} (P : X → Type 0) (xs : List X) (b : Bool) → MatchBool b (SomeOf P xs) ((x : X) → Memᴰ x xs → P x → ⊥) → Decides b (SomeOf P xs)
decides_some P xs true f = ((λ _. f), (λ _. refl))
decides_some P xs false f = ((λ e. absurd (false≢true e)), (λ h. absurd (f h.0 h.1 h.2)))

-- `any` says whether some element has what its closure decides
pub some_from_any : {S A B F : Type 0} {steps : S → Option A → S → Type 0} {v : A → B} {g : Mut F (A × Unit {0}) Bool} {s : S} {xs : List B} (P : B → Type 0) (u : S) (f : F) (r : Bool) →
    ChecksAny steps g s f r u → YieldsList steps v s xs → ((x : A) (b : Bool) (q : F) → Called g f (x, tt) b q → (q ≡ f) × Decides b (P (v x))) → Decides r (SomeOf P xs)
some_from_any {xs = xs} P u f r ran gives says =
    decides_some P xs r
    (some_or_none P (λ x. P x → ⊥) u f r ran gives (λ x q k. (says x true q k).1.0 refl) (λ x q k. let w = says x false q k in (w.0, not_from_Decides false w.1 refl)))

-- `contains` says whether a value is a member, where `==` decides equality
pub member_from_contains : {X : Type 0} (E : X → X → Bool) → ((a b : X) → Decides (E a b) (a ≡ b)) → (xs : List X) (x : X) {r : Bool} → r ≡ list_any (λ y. E y x) xs → Decides r (Memᴰ x xs)
member_from_contains {X} E decides xs x is = ((λ e. found xs (sym is ∙ e)), (λ m. is ∙ has m))
  where
    found : (ys : List X) → list_any (λ y. E y x) ys ≡ true → Memᴰ x ys
    found [] e = absurd (cc)
    found (y ∷ ys) e = ⊎_elim (λ t. Memᴰ.head (sym ((decides y x).0 t))) (λ r. Memᴰ.tail (found ys r)) (or_cases (E y x) (list_any (λ z. E z x) ys) e)

    has : Memᴰ x xs → list_any (λ y. E y x) xs ≡ true
    has m = let p = mem_place xs m in list_any_at (λ y. E y x) xs p.0 x p.1 ((decides (get_or xs p.0 x) x).1 (p.2 x))

-- a filter by a test that decides P keeps those that have P
pub Filtered-filter : {X : Type 0} (P : X → Type 0) (test : X → Bool) → ((x : X) → Decides (test x) (P x)) → (xs : List X) → Filtered P xs (filter test xs)
Filtered-filter P test decides [] = none
Filtered-filter P test decides (x ∷ xs) =
    elim (cases_Bool (test x)) [
      | inl e ↦ subst (λ b. Filtered P (x ∷ xs) (cond b (x ∷ filter test xs) (filter test xs))) (sym e) (stays ((decides x).0 e) (Filtered-filter P test decides xs))
      | inr e ↦ subst (λ b. Filtered P (x ∷ xs) (cond b (x ∷ filter test xs) (filter test xs))) (sym e) (goes (not_from_Decides (test x) (decides x) e) (Filtered-filter P test decides xs))
    ]

-- so its count is how many have it
pub counted_by : {X : Type 0} (P : X → Type 0) (test : X → Bool) → ((x : X) → Decides (test x) (P x)) → (xs : List X) (n : ℕ) → n ≡ length (filter test xs) → Counted P xs n
counted_by P test decides xs n e = (filter test xs, Filtered-filter P test decides xs, e)

-- how many pass a test is the sum of one for each that does
pub summed : {X : Type 0} (test : X → Bool) (xs : List X) → sum_by (λ x. from_bool (test x)) xs ≡ count_by test xs
summed test [] = refl
summed test (x ∷ xs) = let rest = summed test xs in elim (cases_Bool (test x)) [ inl e ↦ grind arith | inr e ↦ grind arith ]

-- no element up to the one at a place has P, if no earlier one has it and this one has not
pub none_more : {X : Type 0} (P : X → Type 0) (xs : List X) (i : ℕ) (x : X) → i < length xs → x ≡ get_or xs i x → NoneOf P (take i xs) → (P x → ⊥) → NoneOf P (take (i + 1) xs)
none_more P xs i x h is before not y m p =
    let here : take (i + 1) xs ≡ take i xs ++ (x ∷ []) = take_more xs i x h ∙ ap (λ z. take i xs ++ (z ∷ [])) (sym is) in
    ⊎_elim (λ (b : Memᴰ y (take i xs)). before y b p) (λ (b : Memᴰ y (x ∷ [])). not (subst P (Memᴰ.eq_of_singleton b) p))
    (Memᴰ.append_cases (take i xs) (subst (λ l. Memᴰ y l) here m))
