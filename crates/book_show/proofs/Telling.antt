-- Flags that calls of a test made, place by place, and how many are raised.
use Rattle.std.proofs.Common.{◌≡◌, ℕ, zero, suc, ◌+◌, ◌<◌, ◌≤◌, Bool, true, false, List, [], ◌∷◌, length, get_or, sym, refl, ap, subst, inl, inr, arith}
use denote.Param.Members.{Mut, Called}
use Rattle.std.specs.Array.{index_steps, IsFromFnResult, IsFromFnResultFrom}
use Rattle.std.specs.Iterator.{CallableAtEachTurn}
use Rattle.std.specs.List.{FoldsTo, filter}
use Rattle.std.proofs.lemmas.Bool.{cases_eq}
use Rattle.book_show.specs.Flags.{raised}

-- calls that each leave the closure as it is may go on where each number below n may be asked
folds_stay : {F : Type 0} (R : F → ℕ → F → Type 0) (f : F) → ((k : ℕ) (q : F) → R f k q → q ≡ f) → (ks : List ℕ) (q : F) → FoldsTo R f ks q → q ≡ f
folds_stay R f keeps [] q done = sym done
folds_stay R f keeps (k ∷ ks) q (j, call, rest) = folds_stay R f keeps ks q (subst (λ p. FoldsTo R p ks q) (keeps k j call) rest)

pub asked_below : {F : Type 0} {R : F → ℕ → F → Type 0} {Q : F → ℕ → Type 0} {f : F} (n : ℕ) → ((k : ℕ) (q : F) → R f k q → q ≡ f) → ((k : ℕ) → k < n → Q f k) → CallableAtEachTurn (index_steps n) R Q 0 f
asked_below {R = R} {Q = Q} {f = f} n keeps may = record {
  at = λ ks t q k u went folds turn. subst (λ p. Q p k) (sym (folds_stay R f keeps ks q folds)) (may k (omega (arith, turn.0, turn.1)));
}

-- the call that made the flag at a place, where each call leaves the closure as it is
made_at : {F : Type 0} (g : Mut F (ℕ × Unit {0}) Bool) (f : F) (flags : List Bool) → ((k : ℕ) (b : Bool) (q : F) → Called g f (k, tt) b q → q ≡ f) →
    (from n i : ℕ) → IsFromFnResultFrom g f flags from n → from ≤ i → i < from + n → (q : F) × Called g f (i, tt) (get_or flags i false) q
made_at g f flags keeps from zero i made low high = absurd (omega arith)
made_at g f flags keeps from (suc n) i (q, b, here, call, rest) low high =
    elim (cases_eq from i) [
      | inl e ↦ subst (λ j. (p : _) × Called g f (j, tt) (get_or flags j false) p) e (q, subst (λ c. Called g f (from, tt) c q) (sym (here.1 false)) call)
      | inr ne ↦ made_at g f flags keeps (from + 1) n i (subst (λ p. IsFromFnResultFrom g p flags (from + 1) n) (keeps from b q call) rest) (omega arith) (omega arith)
    ]

-- what each call says of its number and its answer, each place says of its number and its flag
pub said_at : {F : Type 0} {g : Mut F (ℕ × Unit {0}) Bool} {f : F} (Says : ℕ → Bool → Type 0) (flags : List Bool) (n : ℕ) → IsFromFnResult g f flags n →
    ((k : ℕ) (b : Bool) (q : F) → Called g f (k, tt) b q → (q ≡ f) × Says k b) → (k : ℕ) → k < n → Says k (get_or flags k false)
said_at {g = g} {f = f} Says flags n made says k lt =
    let m = made_at g f flags (λ j b q h. (says j b q h).0) 0 n k made.each (omega arith) (omega arith) in
    (says k (get_or flags k false) m.0 m.1).1

-- the raised flags are those that a filter keeps
pub length-raised : (flags : List Bool) → length (filter (λ b. b) flags) ≡ raised flags
length-raised [] = refl
length-raised (true ∷ flags) = ap suc (length-raised flags)
length-raised (false ∷ flags) = length-raised flags
