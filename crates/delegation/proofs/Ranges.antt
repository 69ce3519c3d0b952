-- The posts that people play in a book are numbers below its count of posts.
use Rattle.std.proofs.Common.{◌≡◌, ℕ, ◌<◌, true, false, cond, ltb, List, [], ◌∷◌, map, drop, is_none, Some, None, sym, refl, ap, subst, inl, inr}
use mathlib.Core.List.Memᴰ
use mathlib.Core.List.{Memᴰ}
use Rattle.std.specs.List.{zip}
use Rattle.std.proofs.lemmas.Bool.{and_parts, ltb-true}
use Rattle.book.specs.declared.faults.Cause.TheVariants.{OutOfRange}
use Rattle.book.specs.Causes.{clean, number_cause, size_cause}
use Rattle.book.specs.Form.{limits, listed_sizes}
use Rattle.book.specs.Playing.{Plays}
use Rattle.book.specs.Rules.{Rules, filled, fine, fits, number_test, sizes_in}

-- a word without a cause is in range
in_range : (limit w : ℕ) → is_none (number_cause limit w) ≡ true → w < limit
in_range limit w e =
    ltb-true w limit
    (elim (ltb w limit) as (λ b. is_none (cond b None (Some OutOfRange)) ≡ true → b ≡ true) [ true ↦ λ _. refl | false ↦ λ f. f ] e)

-- and so is each word of a column without one
all_in_range : {X : Type 0} (limit : ℕ) (f : X → ℕ) (xs : List X) (x : X) → clean (number_cause limit) (map f xs) ≡ true → Memᴰ x xs → f x < limit
all_in_range limit f [] x e m = absurd (Memᴰ.not-nil m)
all_in_range limit f (y ∷ xs) x e m =
    let p = and_parts (is_none (number_cause limit (f y))) (clean (number_cause limit) (map f xs)) e in
    elim (Memᴰ.cases_cons m) [ inl q ↦ subst (λ w. w < limit) (ap f (sym q)) (in_range limit (f y) p.0) | inr r ↦ all_in_range limit f xs x p.1 r ]

-- the third column has the posts
pub played_below : {S : Type 0} (r : Rules S) → fits r ≡ true → (u p : ℕ) → Plays r.plays u p → p < r.posts
unfolding fits
played_below r e u p played =
    let cs = filled (λ _. 0) r in
    let all = (and_parts (clean size_cause (zip limits (listed_sizes (sizes_in r)))) _ e).1 in
    let first = (and_parts (fine number_test cs) _ all).0 in
    let second = (and_parts _ (fine number_test (drop 1 cs)) first).1 in
    let third = (and_parts _ (fine number_test (drop 2 cs)) second).1 in
    let column = (and_parts _ (fine number_test (drop 3 cs)) third).0 in
    subst (λ n. n < r.posts) played.3 (all_in_range r.posts (λ row. row.post.0) r.plays played.0 column played.1)
