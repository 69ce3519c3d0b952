-- From the checks of a call to its reply and to what it leaves.
use Rattle.std.proofs.Common.{IsErrAnd, ◌≡◌, ℕ, List, [], ◌∷◌, ◌++◌, Some, Ok, Err, Option, Result, sym, refl, subst, inl, inr, take-append-drop}
use Rattle.strength.specs.Kind.{Kind}
use Rattle.book.specs.Books.{rules}
use Rattle.book.specs.Rules.{Rules}
use Rattle.book.specs.declared.rows.Lot.{Lot}
use Rattle.book.specs.declared.rows.Person.{Person}
use Rattle.book.specs.declared.rows.Step.{Step}
use Rattle.delegation.specs.Found.{Counted}
use Rattle.delegation.specs.Rights.{Backed, Entitled}
use Rattle.delegation.specs.declared.grants.Grant.{Grant}
use Rattle.register.specs.Answers.{Answers}
use Rattle.register.specs.Answers.Answers.{refused, granted, told_yes, told_no}
use Rattle.register.specs.Causes.{causes, grant_of, right_to, with_strength}
use Rattle.register.specs.Refusals.{Allowed, Check, Refused}
use Rattle.register.specs.Replies.{Says}
use Rattle.register.specs.Shape.{Called, SameArray, rows, state_of}
use Rattle.register.specs.State.{State}
use Rattle.register.specs.declared.calls.Call.{Call}
use Rattle.register.specs.declared.calls.Call.TheVariants.{Entitled as Asks, Grant as Grants}
use Rattle.register.specs.declared.faults.Cause.{Cause}
use Rattle.register.specs.declared.faults.RegisterFault.{RegisterFault}
use Rattle.register.specs.declared.register.Register.{Register}
use Rattle.register.specs.declared.table.Table.{Table}

pub same_array : {X : Type 0} {most : ℕ} (t : Table X most) → SameArray t t
same_array t = record { places = sym (take-append-drop t.used t.places.now); lender = refl }

-- a call that leaves all as it was
pub unchanged : {S : Type 0} (k : Kind S) (c : Call) (e : Result ℕ RegisterFault) (b : Register S) →
    Answers k (rules b.book.now) (state_of b) c e (state_of b) → Called k c e b b
unchanged k c e b a = record { answer = a; grants = same_array b.grants; records = same_array b.records; book = refl }

-- a refusal leaves all as it was
pub refuses : {S : Type 0} (k : Kind S) (c : Call) (r : Result ℕ RegisterFault) (b : Register S) (e : RegisterFault) →
    IsErrAnd r (λ f. f ≡ e) → Refused (causes k (rules b.book.now) (state_of b) c) e.cause e.place → Called k c r b b
refuses k c (Ok n) b e is h = absurd is
refuses k c (Err f) b e is h = subst (λ (x : RegisterFault). Called k c (Err x) b b) (sym is) (unchanged k c (Err e) b (refused h))

-- checks after checks
pub refused_first : (xs ys : List Check) (n : Cause) (p : ℕ) → Refused xs n p → Refused (xs ++ ys) n p
refused_first [] ys n p h = absurd h
refused_first (x ∷ xs) ys n p (inl h) = inl h
refused_first (x ∷ xs) ys n p (inr h) = inr (h.0, refused_first xs ys n p h.1)

pub refused_then : (xs ys : List Check) (n : Cause) (p : ℕ) → Allowed xs → Refused ys n p → Refused (xs ++ ys) n p
refused_then [] ys n p a h = h
refused_then (x ∷ xs) ys n p a h = inr (a.0, refused_then xs ys n p a.1 h)

pub allowed_then : (xs ys : List Check) → Allowed xs → Allowed ys → Allowed (xs ++ ys)
allowed_then [] ys a b = b
allowed_then (x ∷ xs) ys a b = (a.0, allowed_then xs ys a.1 b)

-- a grant is accepted
pub grants_it : {S : Type 0} (k : Kind S) (b : Register S) (gs : List (Grant S)) (g u : Person) (t : Step) (w : ℕ) (n : Lot) (s : S) (m : ℕ) →
    Allowed (causes k (rules b.book.now) (state_of b) (Grants g u t w n)) → k.of_word w ≡ Some s →
    Backed k (rules b.book.now) (rows b.grants) (grant_of g u t n s) →
    gs ≡ rows b.grants ++ (grant_of g u t n s ∷ []) → Counted (λ h. h.lot ≡ n) gs m →
    Answers k (rules b.book.now) (state_of b) (Grants g u t w n) (Ok m) (record { lots = (state_of b).lots; grants = gs; records = rows b.records })
grants_it {S} k b gs g u t w n s m a reads backed is c =
    let A = λ (hs : List (Grant S)). Answers k (rules b.book.now) (state_of b) (Grants g u t w n) (Ok m) (record { lots = (state_of b).lots; grants = hs; records = rows b.records }) in
    subst A (sym is) (granted a reads backed (subst (λ hs. Counted (λ h. h.lot ≡ n) hs m) is c))

-- a question is answered
pub tells_it : {S : Type 0} (k : Kind S) (r : Rules S) (st : State S) (u : Person) (t : Step) (w : ℕ) (n : Lot) (s : S) (m : ℕ) →
    Allowed (causes k r st (Asks u t w n)) → k.of_word w ≡ Some s → Says (Entitled k r st.grants u (right_to t s) n) m →
    Answers k r st (Asks u t w n) (Ok m) st
tells_it k r st u t w n s m a reads (inl y) = subst (λ (v : ℕ). Answers k r st (Asks u t w n) (Ok v) st) (sym y.0) (told_yes a reads y.1)
tells_it k r st u t w n s m a reads (inr y) = subst (λ (v : ℕ). Answers k r st (Asks u t w n) (Ok v) st) (sym y.0) (told_no a reads y.1)

-- the causes that concern the strength of a word
pub refused_with : {S : Type 0} (o : Option S) (s : S) (f : S → List Check) (n : Cause) (p : ℕ) → o ≡ Some s → Refused (f s) n p → Refused (with_strength o f) n p
refused_with o s f n p e h = subst (λ v. Refused (with_strength v f) n p) (sym e) h

pub allowed_with : {S : Type 0} (o : Option S) (s : S) (f : S → List Check) → o ≡ Some s → Allowed (f s) → Allowed (with_strength o f)
allowed_with o s f e h = subst (λ v. Allowed (with_strength v f)) (sym e) h
