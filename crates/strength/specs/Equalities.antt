-- Reaches of equal count and mask are equal, and so bands of equal ends: what a ghost field states has one proof.
use Rattle.std.specs.Prelude.{◌≡◌, ℕ, Bool, true, false, Some, refl}
use Rattle.std.proofs.Math.Bool.{Bool-set}
use Rattle.std.proofs.Common.{ap}
use mathlib.Core.HLevel.{is_prop→PathP}
use denote.Struct.Props.{props}
use Rattle.strength.specs.declared.values.Reach.{Reach}
use Rattle.strength.specs.declared.values.Band.{Band}
use Rattle.strength.specs.Lawful.{LawfulReach, LawfulBand, when}

one_lawful_reach : (c m : ℕ) → IsProp (LawfulReach c m)
one_lawful_reach c m = hlevel props

pub same_reach : (a b : Reach) → a.count.0 ≡ b.count.0 → a.mask.0 ≡ b.mask.0 → a ≡ b
same_reach a b p q = λ i. record {
  count = record { 0 = p i };
  mask = record { 0 = q i };
  lawful = is_prop→PathP (λ i. LawfulReach (p i) (q i)) (λ i. one_lawful_reach (p i) (q i)) a.lawful b.lawful i;
}

one_lawful_band : (l h : ℕ) → IsProp (LawfulBand l h)
one_lawful_band l h = hlevel props

pub same_band : (a b : Band) → a.lowest.0 ≡ b.lowest.0 → a.highest.0 ≡ b.highest.0 → a ≡ b
same_band a b p q = λ i. record {
  lowest = record { 0 = p i };
  highest = record { 0 = q i };
  lawful = is_prop→PathP (λ i. LawfulBand (p i) (q i)) (λ i. one_lawful_band (p i) (q i)) a.lawful b.lawful i;
}

-- a test that is passed lets the same through, however that is known
pub when_true : {X : Type 0} (b : Bool) (f : b ≡ true → X) (e : b ≡ true) → when b f ≡ Some (f e)
when_true true f e = ap (λ t. Some (f t)) (Bool-set true true refl e)
when_true false f e = absurd (cc)

-- what came through passed the test
pub when_some : {X : Type 0} (b : Bool) (f : b ≡ true → X) (x : X) → when b f ≡ Some x → (e : b ≡ true) × (f e ≡ x)
when_some true f x e = (refl, cc)
when_some false f x e = absurd (cc)
