-- The numbers of a book's rows are in range, row by row.
use Rattle.std.proofs.Common.{◌≡◌, ℕ, true, List, [], ◌∷◌, map, length, drop, is_none, Some, None, Option, refl, ap, ◌∙◌, inl, inr, arith}
use mathlib.Core.List.Memᴰ
use mathlib.Core.List.{Memᴰ}
use Rattle.std.specs.List.{zip}
use Rattle.std.proofs.lemmas.Bool.{and_parts, false≢true}
use Rattle.book.specs.declared.faults.Cause.{Cause}
use Rattle.book.specs.Causes.{clean, number_cause, size_cause}
use Rattle.book.specs.Covering.{StepsInRange}
use Rattle.book.specs.Playing.{PlaysInRange}
use Rattle.book.specs.Form.{limits, listed_sizes}
use Rattle.book.specs.Rules.{Rules, filled, fine, fits, number_test, sizes_in}
use Rattle.book.proofs.Cutting.{in_range}
use Rattle.book.proofs.Fitting.{fine-drop}
use Rattle.book.proofs.Sound.{fits_small}

is_none-none : (o : Option Cause) → is_none o ≡ true → o ≡ None
is_none-none None e = refl
is_none-none (Some c) e = absurd (false≢true e)

-- no word of a clean column has a cause
clean_member : {X : Type 0} (c : ℕ → Option Cause) (f : X → ℕ) (xs : List X) (x : X) → clean c (map f xs) ≡ true → Memᴰ x xs → c (f x) ≡ None
clean_member c f [] x e m = absurd (Memᴰ.not-nil m)
clean_member c f (y ∷ xs) x e m =
    let p = and_parts (is_none (c (f y))) (clean c (map f xs)) e in
    elim (Memᴰ.cases_cons m) [ inl q ↦ ap (λ z. c (f z)) q ∙ is_none-none (c (f y)) p.0 | inr r ↦ clean_member c f xs x p.1 r ]

module _ {S : Type 0} (r : Rules S) (e : fits r ≡ true) where
  columns-fine : (n : ℕ) → fine number_test (drop n (filled (λ _. 0) r)) ≡ true
  unfolding fits
  columns-fine n =
      let p = and_parts (clean size_cause (zip limits (listed_sizes (sizes_in r)))) _ e in
      let q = and_parts (fine number_test (filled (λ _. 0) r)) _ p.1 in
      fine-drop number_test (filled (λ _. 0) r) n q.0

  pub fit_covers : StepsInRange r.covers
  fit_covers row m =
      let small = (fits_small r e).steps in
      let strong = clean_member (number_cause r.steps) (λ p. p.stronger.0) r.covers row (and_parts _ (fine number_test (drop 4 (filled (λ _. 0) r))) (columns-fine 3)).0 m in
      let weak = clean_member (number_cause r.steps) (λ p. p.weaker.0) r.covers row (and_parts _ (fine number_test (drop 5 (filled (λ _. 0) r))) (columns-fine 4)).0 m in
      let a = in_range r.steps row.stronger.0 strong in
      let b = in_range r.steps row.weaker.0 weak in
      (omega arith, omega arith)

  pub fit_plays : PlaysInRange r.plays
  fit_plays row m =
      let small = fits_small r e in
      let person = clean_member (number_cause (length r.marks)) (λ p. p.person.0) r.plays row (and_parts _ (fine number_test (drop 2 (filled (λ _. 0) r))) (columns-fine 1)).0 m in
      let post = clean_member (number_cause r.posts) (λ p. p.post.0) r.plays row (and_parts _ (fine number_test (drop 3 (filled (λ _. 0) r))) (columns-fine 2)).0 m in
      let a = in_range (length r.marks) row.person.0 person in
      let b = in_range r.posts row.post.0 post in
      (omega arith, omega arith)
