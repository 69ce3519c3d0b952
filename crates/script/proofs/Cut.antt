-- A script is cut at the first byte that ends a line.
use Rattle.std.proofs.Common.{◌≡◌, ℕ, ◌+◌, ◌<◌, false, eqb, ltb, List, [], ◌∷◌, length, take, drop, Some, None, position, ap, ◌∙◌, ⊎_elim, arith}
use Rattle.std.specs.List.{All, before_first, after_first, position_or_len}
use Rattle.std.proofs.lemmas.Bool.{cases_lt, cond-true, lt-ltb}
use Rattle.std.proofs.lemmas.List.Quantifiers.{position-Some}
use Rattle.std.proofs.lemmas.List.Splits.{slice_split_none, slice_split_first, length-slice_split}
use Rattle.std.proofs.lemmas.List.Sums.{position_or_len_is, fails_before_first}
use Rattle.script.specs.Grammar.{cut, ended, lines}

ended_more : (p : List ℕ) (ps : List (List ℕ)) → 0 < length ps → ended (p ∷ ps) ≡ p ∷ ended ps
ended_more p [] h = absurd (omega arith)
ended_more [] (q ∷ ps) h = λ i. [] ∷ ended (q ∷ ps)
ended_more (b ∷ bs) (q ∷ ps) h = λ i. (b ∷ bs) ∷ ended (q ∷ ps)

-- a line that has its end, and the script after it
pub first_line : (bs : List ℕ) (i : ℕ) → position (λ b. eqb b 10) bs ≡ Some i → lines bs ≡ take i bs ∷ lines (drop (i + 1) bs)
first_line bs i e =
    let p = λ (b : ℕ). eqb b 10 in
    let w = position-Some p bs i 0 e in
    let at = position_or_len_is p bs i 0 (omega (arith, w.0)) w.2 (λ _. w.1) in
    let l = length-slice_split p (after_first p bs) in
    ap ended (slice_split_first p bs 0 (omega (arith, w.0)))
    ∙ ended_more (before_first p bs) (cut 10 (after_first p bs)) (omega arith)
    ∙ ap (λ (j : ℕ). take j bs ∷ lines (drop (j + 1) bs)) at

-- the last line, which lacks it
pub last_line : (bs : List ℕ) → eqb (length bs) 0 ≡ false → position (λ b. eqb b 10) bs ≡ None → lines bs ≡ bs ∷ []
last_line [] some e = cc
last_line (b ∷ bs) some e =
    let p = λ (c : ℕ). eqb c 10 in
    let all : All (λ c. p c ≡ false) (b ∷ bs) = λ k d l. ⊎_elim
    (λ lt. let f = cond-true (ltb (position_or_len p (b ∷ bs)) (length (b ∷ bs))) (Some (position_or_len p (b ∷ bs))) None (lt-ltb _ _ lt) in cc)
    (λ le. fails_before_first p (b ∷ bs) k d (omega arith))
    (cases_lt (position_or_len p (b ∷ bs)) (length (b ∷ bs))) in
    ap ended (slice_split_none p (b ∷ bs) all)
