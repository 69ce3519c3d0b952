-- The bits are looked at one by one.
use Rattle.std.proofs.Common.{◌≡◌, ℕ, ◌<◌, Bool, true, false, length, Decides, MatchBool, get_or, refl, subst, sym, ◌∙◌, zero-add, arith, rules, tests}
use Rattle.std.specs.List.{HoldsAt, AllWithin, range_with_len}
use Rattle.std.proofs.lemmas.Bool.{false≢true}
use Rattle.std.proofs.lemmas.Iterator.{cases_from_all, YieldsList-from_range}
use Rattle.std.proofs.lemmas.List.FromFn.{get_or-range_with_len, length-range_with_len}
use Rattle.strength.specs.Masks.{bit}
use Rattle.strength.proofs.values.Marks.contains.Goals as goal

number_at : (n k : ℕ) → k < n → get_or (range_with_len 0 n) k 0 ≡ k
number_at n k lt = get_or-range_with_len 0 n k 0 lt ∙ zero-add k

-- an answer for the numbers below n decides whether each of them has P
Decides-below : (P : ℕ → Type 0) (n : ℕ) (r : Bool)
    → MatchBool r (AllWithin P (range_with_len 0 n) 0 (length (range_with_len 0 n))) ((k : ℕ) × (k < length (range_with_len 0 n)) × HoldsAt (λ k. P k → ⊥) (range_with_len 0 n) k)
    → Decides r ((k : ℕ) → k < n → P k)
Decides-below P n true h = ((λ _ k lt. subst P (number_at n k lt) (h k 0 (omega arith) (omega (arith, length-range_with_len 0 n)))), (λ _. refl))
Decides-below P n false h =
    let lt : h.0 < n = omega (arith, h.1, length-range_with_len 0 n) in
    ((λ e. absurd (false≢true e)), (λ all. absurd (h.2 0 (subst P (sym (number_at n h.0 lt)) (all h.0 lt)))))

pub returns : goal.returns
returns c =
    let m = c.args.mask.0 in
    let s = c.args.self.0 in
    let P = λ (k : ℕ). bit m k ≡ 1 → bit s k ≡ 1 in
    Decides-below P 24 c.all.result (cases_from_all _ _ _ P (λ k. P k → ⊥) c.all.ensures.ran (YieldsList-from_range 0 24 24 refl (omega arith)) (λ x q k. search (rules, tests)) (λ x q k. search (rules, tests)))
