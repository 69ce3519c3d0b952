-- When calls are refused: the checks of each call, in their order.
use Rattle.std.specs.Prelude.{◌≡◌, ℕ, ◌+◌, ◌<◌, ◌≤◌, ◌⊎◌, List, [], ◌∷◌, ◌++◌, length, Some, None, Option}
use mathlib.Core.List.{Memᴰ}
use Rattle.strength.specs.Kind.{Kind}
use Rattle.book.specs.Rules.{Rules}
use Rattle.book.specs.declared.rows.Lot.{Lot}
use Rattle.book.specs.declared.rows.Person.{Person}
use Rattle.book.specs.declared.rows.Step.{Step}
use Rattle.delegation.specs.Found.{First}
use Rattle.delegation.specs.Rights.{On, Backed, Forbids}
use Rattle.delegation.specs.declared.grants.Grant.{Grant}
use Rattle.delegation.specs.declared.grants.Right.{Right}
use Rattle.register.specs.Refusals.{Check, check, check_at}
use Rattle.register.specs.State.{State}
use Rattle.register.specs.declared.faults.Cause.TheVariants.{ShortArrays, UnknownPerson, UnknownStep, UnlawfulWord, LotOutOfRange, LotNotOpen, LotAlreadyOpen, TooManyLots, GiverIsReceiver, NotBacked, Barred, AlreadyStands, TooManyGrants}
use Rattle.register.specs.declared.calls.Call.{Call}
use Rattle.register.specs.declared.calls.Call.TheVariants.{Open, Close, Entitled as Asks, Grant as Grants}

-- the arrays have no room for 512 grants and 1,024 records
abbrev pub short_arrays : ℕ → ℕ → List Check
short_arrays grants records = check ShortArrays 0 ((grants < 512) ⊎ (records < 1024)) ∷ []

-- there is no such lot; it is open; 32 lots are open
abbrev pub opening : List Lot → Lot → List Check
opening lots n =
    check LotOutOfRange 0 (65535 < n.0)
    ∷ check LotAlreadyOpen 0 (Memᴰ n lots)
    ∷ check TooManyLots 0 (length lots ≡ 32)
    ∷ []

-- there is no such lot; it is not open; both at place i
abbrev pub on_open_lot : List Lot → Lot → ℕ → List Check
on_open_lot lots n i =
    check LotOutOfRange i (65535 < n.0)
    ∷ check LotNotOpen i (Memᴰ n lots → ⊥)
    ∷ []

abbrev pub closing : List Lot → Lot → List Check
closing lots n = on_open_lot lots n 0

abbrev pub right_to : {S : Type 0} → Step → S → Right S
right_to t s = record { step = t; strength = s }

abbrev pub grant_of : {S : Type 0} → Person → Person → Step → Lot → S → Grant S
grant_of g u t n s = record { giver = g; receiver = u; right = right_to t s; lot = n }

-- causes that concern the strength that a word stands for
abbrev pub with_strength : {S : Type 0} → Option S → (S → List Check) → List Check
with_strength (Some s) causes = causes s
with_strength None causes = []

module _ {S : Type 0} (k : Kind S) (r : Rules S) where
  -- there is no such person, which is named at place i
  abbrev pub nobody : ℕ → Person → Check
  nobody i u = check UnknownPerson i (length r.marks ≤ u.0)

  -- there is no such step; no strength has the word; there is no such lot, or it is not open; all from place i on
  abbrev pub naming : List Lot → ℕ → Step → ℕ → Lot → List Check
  naming lots i t w n =
      check UnknownStep i (r.steps ≤ t.0)
      ∷ check UnlawfulWord (i + 1) (k.of_word w ≡ None)
      ∷ on_open_lot lots n (i + 2)

  abbrev pub asking : List Lot → Person → Step → ℕ → Lot → List Check
  asking lots u t w n = nobody 0 u ∷ naming lots 1 t w n

  abbrev pub passing : List Lot → Person → Person → Step → ℕ → Lot → List Check
  passing lots g u t w n = nobody 0 g ∷ nobody 1 u ∷ naming lots 2 t w n

  -- giver and receiver are one; no right of the giver on the lot backs the grant
  abbrev pub backing : List (Grant S) → Grant S → List Check
  backing gs g = check GiverIsReceiver 0 (g.giver ≡ g.receiver) ∷ check NotBacked 0 (Backed k r gs g → ⊥) ∷ []

  -- a bar forbids the grant, the first that does at this place; an equal one stands on the lot; 512 stand
  abbrev pub joining : List (Grant S) → Grant S → List Check
  joining gs g =
      check_at Barred (First (Forbids k r g) r.bars)
      ∷ check AlreadyStands 0 (On gs g.lot g)
      ∷ check TooManyGrants 0 (length gs ≡ 512)
      ∷ []

  abbrev pub granting : List (Grant S) → Grant S → List Check
  granting gs g = backing gs g ++ joining gs g

  abbrev pub causes : State S → Call → List Check
  causes st (Open n) = opening st.lots n
  causes st (Close n) = closing st.lots n
  causes st (Asks u t w n) = asking st.lots u t w n
  causes st (Grants g u t w n) =
      passing st.lots g u t w n ++ with_strength (k.of_word w) (λ s. granting st.grants (grant_of g u t n s))
