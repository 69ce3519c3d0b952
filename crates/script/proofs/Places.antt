-- A `for` over `enumerate`: which item a turn has, and where it stands.
use Rattle.std.proofs.Common.{◌≡◌, ℕ, ◌<◌, ◌≤◌, List, length, get_or, Option, Some, None, sym, ap, ◌∙◌, zero-add, arith}
use Rattle.std.specs.Iterator.{Yields}
use Rattle.std.specs.List.{enumerate_from}
use Rattle.std.proofs.lemmas.Iterator.{YieldsList}
use Rattle.std.proofs.lemmas.Iterator.Consumers.{YieldsList-turn, YieldsList-end}
use Rattle.std.proofs.lemmas.List.FromFn.{get_or-enumerate_from, length-enumerate_from}

-- the item of turn n stands at place n of all that the loop goes over
pub record Turn {B : Type 0} (all : List B) (n : ℕ) (place : ℕ) (item : B) : Type 0 where
  pub within : n < length all
  pub place_is : place ≡ n
  pub item_is : get_or all n item ≡ item

module _ {S A B : Type 0} {steps : S → Option (ℕ × A) → S → Type 0} (v : A → B) {s : S} (all : List B) (e : YieldsList {B = ℕ × B} steps (λ p. (p.0, v p.1)) s (enumerate_from 0 all)) (xs : List (ℕ × A)) (t : S) (y : Yields steps s xs t) (r : Option (ℕ × A)) (u : S) where
  pub turn : (x : ℕ × A) → r ≡ Some x → steps t r u → Turn all (length xs) x.0 (v x.1)
  turn x is step =
      let w = YieldsList-turn e xs t y r u x is step in
      let l = length-enumerate_from 0 all in
      let lt : length xs < length all = omega arith in
      let at = w.1 ∙ get_or-enumerate_from 0 all (length xs) (x.0, v x.1) lt in
      record { within = lt; place_is = ap (λ p. p.0) at ∙ zero-add (length xs); item_is = sym (ap (λ p. p.1) at) }

  pub end : r ≡ None → steps t r u → length all ≤ length xs
  end is step =
      let w = YieldsList-end e xs t y r u is step in
      let l = length-enumerate_from 0 all in
      omega arith
