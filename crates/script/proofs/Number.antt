-- Reading digits one by one.
use Rattle.std.proofs.Common.{◌≡◌, ℕ, ◌+◌, ◌-◌, ◌*◌, ◌^◌, ◌<◌, ◌≤◌, true, false, eqb, List, [], ◌∷◌, length, Some, decimal, refl, ap, ◌∙◌, arith, lit<, rules}
use native.Mathlib.Nat.{pow-le-pow_right}
use Rattle.std.proofs.lemmas.Bool.{cond-true, cond-false, le-ltb, and_parts, ne_eqb}
use Rattle.std.specs.Char.{is_ascii_digit}
use Rattle.std.specs.Str.{all_ascii_digits}
use Rattle.std.proofs.lemmas.Str.Parse.{IsNumeralModel, numerals_by_fold}
use Rattle.std.proofs.lemmas.Fmt.{decimal_nonempty, length-decimal-le, digits_decimal, digits_value-decimal}
use Rattle.script.specs.Grammar.{reads, numbered}

numbered_is : (t : List ℕ) → eqb (length t) 0 ≡ false → length t ≤ 19 → numbered t ≡ reads 0 t
numbered_is [] some short = cc
numbered_is (c ∷ cs) some short = cond-false _ _ _ (le-ltb 19 (length (c ∷ cs)) short)

pub pow_small : (n i : ℕ) → n < 10 ^ i → i < 19 → n < 10 ^ 18
pow_small n i lt small = let h : i ≤ 18 = omega arith in let p : 10 ^ i ≤ 10 ^ 18 = pow-le-pow_right {n = 10} (lit< tt) h in omega arith

pub digit_small : (c : ℕ) → is_ascii_digit c ≡ true → c - 48 < 10
digit_small c d = search rules

-- what is written in decimal reads back
abbrev read_on : ℕ → List ℕ → ℕ
read_on n [] = n
read_on n (c ∷ cs) = read_on (10 * n + (c - 48)) cs

own : IsNumeralModel (λ ds. all_ascii_digits ds ≡ true) (read_on 0)
own = numerals_by_fold _ (search rules) read_on (search rules)

reads_digits : (n : ℕ) (t : List ℕ) → all_ascii_digits t ≡ true → reads n t ≡ Some (read_on n t)
reads_digits n [] h = refl
reads_digits n (c ∷ cs) h =
    let p = and_parts (is_ascii_digit c) (all_ascii_digits cs) h in
    cond-true (is_ascii_digit c) _ _ p.0 ∙ reads_digits (10 * n + (c - 48)) cs p.1

pub read_back : (t : List ℕ) (n : ℕ) → n < 10 ^ 19 → t ≡ decimal n → numbered t ≡ Some n
read_back t n small e =
    let fits : n < 2 ^ 64 = omega arith in
    let l : length t ≡ length (decimal n) = ap length e in
    let some = decimal_nonempty n fits in
    let short = length-decimal-le 19 n (lit< tt) small fits in
    numbered_is t (ne_eqb (length t) 0 (λ z. omega arith)) (omega arith)
    ∙ ap (reads 0) e
    ∙ reads_digits 0 (decimal n) (digits_decimal own n fits)
    ∙ ap Some (digits_value-decimal own n fits)
