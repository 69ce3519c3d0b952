-- What each call answers, and what it leaves.
use Rattle.std.specs.Prelude.{◌≡◌, ℕ, List, [], ◌∷◌, ◌++◌, Some, Ok, Err, Result, ◌≢◌}
use Rattle.strength.specs.Kind.{Kind}
use Rattle.book.specs.Rules.{Rules}
use Rattle.book.specs.declared.rows.Lot.{Lot}
use Rattle.book.specs.declared.rows.Person.{Person}
use Rattle.book.specs.declared.rows.Step.{Step}
use Rattle.delegation.specs.Found.{Counted, Filtered}
use Rattle.delegation.specs.Rights.{Backed, Entitled}
use Rattle.delegation.specs.declared.grants.Grant.{Grant}
use Rattle.register.specs.Causes.{causes, grant_of, right_to}
use Rattle.register.specs.Refusals.{Allowed, Refused}
use Rattle.register.specs.State.{State}
use Rattle.register.specs.declared.calls.Call.{Call}
use Rattle.register.specs.declared.calls.Call.TheVariants.{Open, Close, Entitled as Asks, Grant as Grants}
use Rattle.register.specs.declared.faults.RegisterFault.{RegisterFault}
use Rattle.register.specs.declared.records.Record.{Record}

module _ {S : Type 0} (k : Kind S) (r : Rules S) where
  pub data Answers (st : State S) : Call → Result ℕ RegisterFault → State S → Type 0 where
    -- a refused call leaves all as it was
    refused : {c : Call} {f : RegisterFault} → Refused (causes k r st c) f.cause f.place → Answers st c (Err f) st
    -- an open lot more
    opened : {n : Lot} → Allowed (causes k r st (Open n)) →
        Answers st (Open n) (Ok 0) (record { lots = st.lots ++ (n ∷ []); grants = st.grants; records = st.records })
    -- what lies on the lot goes; the answer is how many grants did
    closed : {n : Lot} {m : ℕ} {ls : List Lot} {gs : List (Grant S)} {ds : List Record} → Allowed (causes k r st (Close n)) →
        Filtered (λ l. l ≢ n) st.lots ls →
        Filtered (λ g. g.lot ≢ n) st.grants gs →
        Filtered (λ d. d.lot ≢ n) st.records ds →
        Counted (λ g. g.lot ≡ n) st.grants m →
        Answers st (Close n) (Ok m) (record { lots = ls; grants = gs; records = ds })
    -- a grant more, which a right of the giver backs; the answer is how many are on its lot
    granted : {g u : Person} {t : Step} {w : ℕ} {n : Lot} {s : S} {m : ℕ} → Allowed (causes k r st (Grants g u t w n)) → k.of_word w ≡ Some s →
        Backed k r st.grants (grant_of g u t n s) →
        Counted (λ h. h.lot ≡ n) (st.grants ++ (grant_of g u t n s ∷ [])) m →
        Answers st (Grants g u t w n) (Ok m) (record { lots = st.lots; grants = st.grants ++ (grant_of g u t n s ∷ []); records = st.records })
    -- the person is entitled
    told_yes : {u : Person} {t : Step} {w : ℕ} {n : Lot} {s : S} → Allowed (causes k r st (Asks u t w n)) → k.of_word w ≡ Some s →
        Entitled k r st.grants u (right_to t s) n → Answers st (Asks u t w n) (Ok 1) st
    -- the person is not
    told_no : {u : Person} {t : Step} {w : ℕ} {n : Lot} {s : S} → Allowed (causes k r st (Asks u t w n)) → k.of_word w ≡ Some s →
        (Entitled k r st.grants u (right_to t s) n → ⊥) → Answers st (Asks u t w n) (Ok 0) st

  -- yes is due to a question: nothing is against it, and the person is entitled
  abbrev pub DueYes : State S → Call → Type 0
  DueYes st (Open n) = ⊥
  DueYes st (Close n) = ⊥
  DueYes st (Asks u t w n) = Allowed (causes k r st (Asks u t w n)) × ((s : S) × (k.of_word w ≡ Some s) × Entitled k r st.grants u (right_to t s) n)
  DueYes st (Grants g u t w n) = ⊥
