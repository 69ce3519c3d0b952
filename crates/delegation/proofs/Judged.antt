-- What a pass over rows or grants finds is what the rules speak of.
use Rattle.std.proofs.Common.{◌≡◌, ◌⊎◌, Bool, true, false, ◌&&◌, ◌==◌, List, Decides, sym, refl, ap, subst, inl, inr, ⊎_elim}
use mathlib.Core.List.{Memᴰ}
use Rattle.std.specs.Bool.{MatchBool}
use Rattle.std.proofs.lemmas.Bool.{false≢true}
use Rattle.std.proofs.lemmas.Bool.Decides.{not_from_Decides, Decides-eqb, Decides-and, Decides-like}
use Rattle.strength.specs.Kind.{Kind, ReadsBack}
use Rattle.book.specs.Rules.{Rules}
use Rattle.book.specs.declared.rows.Entry.{Entry}
use Rattle.book.specs.declared.rows.Lot.{Lot}
use Rattle.book.specs.declared.rows.Person.{Person}
use Rattle.delegation.specs.Found.{SomeOf}
use Rattle.delegation.specs.Passes.{PlayRow, SupportOn, GiveOn}
use Rattle.delegation.specs.Rights.{right_of, Holds, Gives, Heads, Entitled, Backed}
use Rattle.delegation.specs.declared.grants.Grant.{Grant}
use Rattle.delegation.specs.declared.grants.Right.{Right}

-- where the first of two tests fails, the second decides what holds by either
pub or_else : {P Q R : Type 0} (b c : Bool) → b ≡ false → Decides b P → Decides c Q → (P ⊎ Q → R) → (R → P ⊎ Q) → Decides c R
or_else b c failed first second either cases =
    Decides-like c (λ q. either (inr q)) (λ h. ⊎_elim (λ p. absurd (not_from_Decides b first failed p)) (λ q. q) (cases h)) second

-- a search by a test that decides P decides whether something has it
pub decides_found : {X : Type 0} {A Yes No : X → Type 0} (P : X → Type 0) (b : Bool) → ((x : X) → Yes x → Decides true (P x)) → ((x : X) → No x → Decides false (P x)) →
    MatchBool b ((x : X) × A x × Yes x) ((x : X) → A x → No x) → Decides b ((x : X) × A x × P x)
decides_found P true there not f = ((λ _. (f.0, f.1, (there f.0 f.2).0 refl)), (λ _. refl))
decides_found P false there not f = ((λ e. absurd (false≢true e)), (λ h. absurd (not_from_Decides false (not h.0 (f h.0 h.1)) refl h.2)))

module _ {S : Type 0} (k : Kind S) (r : Rules S) where
  -- what is found among the rows is found among the rights that they are
  pub held_or_none : (u : Person) (Yes No : Right S → Type 0) (b : Bool) →
      MatchBool b (SomeOf (λ e. PlayRow k r u e × Yes (right_of e)) r.holds) ((e : Entry S) → Memᴰ e r.holds → PlayRow k r u e → No (right_of e)) →
      MatchBool b ((p : Right S) × Holds k r u p × Yes p) ((p : Right S) → Holds k r u p → No p)
  held_or_none u Yes No true f = (right_of f.0, (f.0, f.1, f.2.0, refl), f.2.1)
  held_or_none u Yes No false f = λ p h. subst No (sym h.3) (f h.0 h.1 h.2)

  module _ (gs : List (Grant S)) where
    pub entitled_by : (u : Person) (q : Right S) (n : Lot) → ((p : Right S) × Holds k r u p × Gives k r p q) ⊎ SomeOf (GiveOn k r u q n) gs → Entitled k r gs u q n
    entitled_by u q n (inl h) = inl h
    entitled_by u q n (inr f) = inr (f.0, (f.1, f.2.0), f.2.1, f.2.2)

    pub entitled_cases : (u : Person) (q : Right S) (n : Lot) → Entitled k r gs u q n → ((p : Right S) × Holds k r u p × Gives k r p q) ⊎ SomeOf (GiveOn k r u q n) gs
    entitled_cases u q n (inl h) = inl h
    entitled_cases u q n (inr f) = inr (f.0, f.1.0, (f.1.1, f.2, f.3))

    pub backed_by : (g : Grant S) → ((p : Right S) × Heads k r p g) ⊎ SomeOf (SupportOn k r g) gs → Backed k r gs g
    backed_by g (inl h) = inl h
    backed_by g (inr f) = inr (f.0, (f.1, f.2.0), f.2.1)

    pub backed_cases : (g : Grant S) → Backed k r gs g → ((p : Right S) × Heads k r p g) ⊎ SomeOf (SupportOn k r g) gs
    backed_cases g (inl h) = inl h
    backed_cases g (inr f) = inr (f.0, f.1.0, (f.1.1, f.2))

-- `==` decides whether two lots are equal
pub same_lots : (a b : Lot) → Decides (a.0 == b.0) (a ≡ b)
same_lots a b = Decides-like (a.0 == b.0) (λ e i. record { 0 = e i }) (λ e. ap (λ (l : Lot). l.0) e) (Decides-eqb a.0 b.0)

-- what `==` answers of two grants
abbrev pub same : {S : Type 0} → Kind S → Grant S → Grant S → Bool
same k a b =
    a.giver.0 == b.giver.0
    && (a.receiver.0 == b.receiver.0 && ((a.right.step.0 == b.right.step.0 && k.word a.right.strength == k.word b.right.strength) && a.lot.0 == b.lot.0))

-- strengths are told apart by their words
same_strengths : {S : Type 0} (k : Kind S) → ReadsBack k → (a b : S) → k.word a ≡ k.word b → a ≡ b
same_strengths k law a b e = let p = law a in let q = law b in let w = ap k.of_word e in cc

-- so `==` decides whether two grants are equal
pub decides_same : {S : Type 0} (k : Kind S) → ReadsBack k → (a b : Grant S) → Decides (same k a b) (a ≡ b)
decides_same k law a b =
    Decides-like (same k a b)
    (λ e. let s = same_strengths k law a.right.strength b.right.strength e.1.1.0.1 in
    λ i. record {
      giver = record { 0 = e.0 i };
      receiver = record { 0 = e.1.0 i };
      right = record { step = record { 0 = e.1.1.0.0 i }; strength = s i };
      lot = record { 0 = e.1.1.1 i };
    })
    (λ e. (ap (λ x. x.giver.0) e, (ap (λ x. x.receiver.0) e, ((ap (λ x. x.right.step.0) e, ap (λ x. k.word x.right.strength) e), ap (λ x. x.lot.0) e))))
    (Decides-and _ _ (Decides-eqb a.giver.0 b.giver.0)
    (Decides-and _ _ (Decides-eqb a.receiver.0 b.receiver.0)
    (Decides-and _ _ (Decides-and _ _ (Decides-eqb a.right.step.0 b.right.step.0) (Decides-eqb (k.word a.right.strength) (k.word b.right.strength)))
    (Decides-eqb a.lot.0 b.lot.0))))
