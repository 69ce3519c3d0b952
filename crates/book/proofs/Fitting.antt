-- Columns that are fine have no bad word, and the other way round.
use Rattle.std.proofs.Common.{◌≡◌, ℕ, zero, suc, ◌+◌, true, List, [], ◌∷◌, ◌++◌, length, take, drop, is_none, Some, None, Option, sym, refl, ap, ◌∙◌, append_assoc}
use Rattle.std.specs.List.{flat_map}
use Rattle.std.proofs.lemmas.List.{take_at, drop_at, length-append}
use Rattle.std.proofs.lemmas.Bool.{and_from, and_parts, false≢true}
use Rattle.std.proofs.lemmas.Option.{none-some}
use Rattle.strength.specs.Kind.{Kind}
use Rattle.book.specs.declared.faults.Cause.{Cause}
use Rattle.book.specs.declared.form.Column.{Column}
use Rattle.book.specs.declared.form.Test.{Test}
use Rattle.book.specs.Causes.{cause, told, first, clean, or_else}
use Rattle.book.specs.Form.{in_columns, total}
use Rattle.book.specs.Rules.{fine}
use Rattle.book.proofs.Judged.{or_parts}

none-told : (c : Option Cause) (i : ℕ) (o : Option (Cause × ℕ)) → is_none c ≡ true → told c i o ≡ o
none-told None i o e = refl
none-told (Some c) i o e = absurd (false≢true e)

told-none : (c : Option Cause) (i : ℕ) (o : Option (Cause × ℕ)) → told c i o ≡ None → (is_none c ≡ true) × (o ≡ None)
told-none None i o e = (refl, e)
told-none (Some c) i o e = absurd (none-some _ (sym e))

pub clean-none : {X : Type 0} (c : X → Option Cause) (i : ℕ) (xs : List X) → clean c xs ≡ true → first c i xs ≡ None
clean-none c i [] e = refl
clean-none c i (x ∷ xs) e = let p = and_parts (is_none (c x)) (clean c xs) e in none-told (c x) i _ p.0 ∙ clean-none c (i + 1) xs p.1

pub none-clean : {X : Type 0} (c : X → Option Cause) (i : ℕ) (xs : List X) → first c i xs ≡ None → clean c xs ≡ true
none-clean c i [] e = refl
none-clean c i (x ∷ xs) e = let p = told-none (c x) i _ e in and_from (is_none (c x)) (clean c xs) p.0 (none-clean c (i + 1) xs p.1)

pub or_both : (o q : Option (Cause × ℕ)) → o ≡ None → q ≡ None → or_else o q ≡ None
or_both o q e f = ap (λ x. or_else x q) e ∙ f

-- the columns of filled ones
abbrev pub headed : List (Test × List ℕ) → List Column
headed [] = []
headed (x ∷ xs) = record { test = x.0; size = length x.1 } ∷ headed xs

abbrev pub poured : List (Test × List ℕ) → List ℕ
poured xs = flat_map (λ c. c.1) xs

module _ {S : Type 0} (k : Kind S) where
  -- the first bad word of filled columns
  abbrev pub bad : ℕ → List (Test × List ℕ) → Option (Cause × ℕ)
  bad p [] = None
  bad p (x ∷ xs) = or_else (first (cause k x.0) p x.1) (bad (p + length x.1) xs)

  pub in_headed : (p : ℕ) (xs : List (Test × List ℕ)) (rest : List ℕ) → in_columns k (headed xs) p (poured xs ++ rest) ≡ bad p xs
  in_headed p [] rest = refl
  in_headed p (x ∷ xs) rest =
      let e = append_assoc x.1 (poured xs) rest in
      ap (λ ws. or_else (first (cause k x.0) p (take (length x.1) ws)) (in_columns k (headed xs) (p + length x.1) (drop (length x.1) ws))) e
      ∙ ap (λ ws. or_else (first (cause k x.0) p ws) (in_columns k (headed xs) (p + length x.1) (drop (length x.1) (x.1 ++ (poured xs ++ rest))))) (take_at x.1 (poured xs ++ rest) (length x.1) refl)
      ∙ ap (λ ws. or_else (first (cause k x.0) p x.1) (in_columns k (headed xs) (p + length x.1) ws)) (drop_at x.1 (poured xs ++ rest) (length x.1) refl)
      ∙ ap (or_else (first (cause k x.0) p x.1)) (in_headed (p + length x.1) xs rest)

  pub fine_good : (p : ℕ) (xs : List (Test × List ℕ)) → fine (cause k) xs ≡ true → bad p xs ≡ None
  fine_good p [] e = refl
  fine_good p (x ∷ xs) e =
      let q = and_parts (clean (cause k x.0) x.1) (fine (cause k) xs) e in
      or_both _ _ (clean-none (cause k x.0) p x.1 q.0) (fine_good (p + length x.1) xs q.1)

  pub good_fine : (p : ℕ) (xs : List (Test × List ℕ)) → bad p xs ≡ None → fine (cause k) xs ≡ true
  good_fine p [] e = refl
  good_fine p (x ∷ xs) e =
      let q = or_parts _ _ e in
      and_from (clean (cause k x.0) x.1) (fine (cause k) xs) (none-clean (cause k x.0) p x.1 q.0) (good_fine (p + length x.1) xs q.1)

pub total-headed : (xs : List (Test × List ℕ)) → total (headed xs) ≡ length (poured xs)
total-headed [] = refl
total-headed (x ∷ xs) = ap (λ n. length x.1 + n) (total-headed xs) ∙ sym (length-append x.1 (poured xs))

pub fine-drop : (c : Test → ℕ → Option Cause) (xs : List (Test × List ℕ)) (n : ℕ) → fine c xs ≡ true → fine c (drop n xs) ≡ true
fine-drop c xs zero e = e
fine-drop c [] (suc n) e = e
fine-drop c (x ∷ xs) (suc n) e = fine-drop c xs n (and_parts (clean (c x.0) x.1) (fine c xs) e).1
