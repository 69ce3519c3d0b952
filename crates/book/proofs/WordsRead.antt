-- The words of a book that fits are read back from its bytes.
use Rattle.std.proofs.Common.{◌≡◌, ℕ, ◌/◌, ◌%◌, ◌<◌, ◌≤◌, Bool, true, false, cond, eqb, ltb, List, [], ◌∷◌, ◌++◌, map, length, drop, is_none, Some, None, sym, refl, ap, ◌∙◌, arith}
use Rattle.std.specs.List.{zip}
use Rattle.std.specs.Simd.{first_chunks}
use Rattle.std.proofs.lemmas.List.{take_at, drop_at, length-map}
use Rattle.std.proofs.lemmas.Bool.{and_parts, ltb-true}
use Rattle.strength.specs.Kind.{Kind, Bounded, ReadsBack}
use Rattle.book.specs.declared.faults.Cause.TheVariants.{OutOfRange, SelfClash}
use Rattle.book.specs.Words.{word_of, bytes_of, words, spelled}
use Rattle.book.specs.Causes.{number_cause, key_cause, clash_cause, size_cause, clean}
use Rattle.book.specs.Form.{refusal, judged, sizes_of, listed_sizes, limits}
use Rattle.book.specs.Entries.{key_word}
use Rattle.book.specs.Rules.{Rules, sizes_in, filled, others, words_in, written, fine, number_test, fits}
use Rattle.book.proofs.Overs.{length_bytes, length-spelled}
use Rattle.book.proofs.Spelled.{word_bytes}
use Rattle.book.proofs.Sound.{fits_sound, fits_small, written_long}
use Rattle.book.proofs.Fitting.{fine-drop, poured}

abbrev Under : List ℕ → Type 0
Under [] = Unit {0}
Under (w ∷ ws) = (w < 18446744073709551616) × Under ws

chunks_spelled : (ws : List ℕ) → Under ws → map word_of (first_chunks 8 (length ws) (spelled ws)) ≡ ws
chunks_spelled [] u = refl
chunks_spelled (w ∷ ws) u =
    ap (λ t. word_of t ∷ map word_of (first_chunks 8 (length ws) (drop 8 (bytes_of w ++ spelled ws)))) (take_at (bytes_of w) (spelled ws) 8 (length_bytes w))
    ∙ ap (λ t. word_of (bytes_of w) ∷ map word_of (first_chunks 8 (length ws) t)) (drop_at (bytes_of w) (spelled ws) 8 (length_bytes w))
    ∙ ap (λ t. t ∷ map word_of (first_chunks 8 (length ws) (spelled ws))) (word_bytes w u.0)
    ∙ ap (λ t. w ∷ t) (chunks_spelled ws u.1)

pub words-spelled : (ws : List ℕ) → Under ws → words (spelled ws) ≡ ws
words-spelled ws u =
    let n = length-spelled ws in
    let e : length (spelled ws) / 8 ≡ length ws = omega arith in
    ap (λ m. map word_of (first_chunks 8 m (spelled ws))) e ∙ chunks_spelled ws u

pub sound_written : {S : Type 0} (k : Kind S) (r : Rules S) → ReadsBack k → Under (words_in k r) → fits r ≡ true → refusal k (written k r) ≡ None
sound_written k r law u f =
    let e = words-spelled (words_in k r) u in
    ap (λ ws. judged k (length (written k r)) (sizes_of ws) ws) e ∙ ap (λ n. judged k n (sizes_in r) (words_in k r)) (written_long k r) ∙ fits_sound k r law f

under_append : (xs ys : List ℕ) → Under xs → Under ys → Under (xs ++ ys)
under_append [] ys u v = v
under_append (x ∷ xs) ys u v = (u.0, under_append xs ys u.1 v)

under_map : {X : Type 0} (f : X → ℕ) → ((x : X) → f x < 18446744073709551616) → (xs : List X) → Under (map f xs)
under_map f b [] = tt
under_map f b (x ∷ xs) = (b x, under_map f b xs)

passed : (b : Bool) → is_none (cond b None (Some OutOfRange)) ≡ true → b ≡ true
passed true e = refl
passed false e = e

passed_two : (a b : Bool) → is_none (cond a (cond b None (Some OutOfRange)) (Some OutOfRange)) ≡ true → a ≡ true
passed_two true b e = refl
passed_two false b e = e

under_number : (l : ℕ) → l ≤ 18446744073709551616 → (xs : List ℕ) → clean (number_cause l) xs ≡ true → Under xs
under_number l h [] e = tt
under_number l h (x ∷ xs) e =
    let p = and_parts (is_none (number_cause l x)) (clean (number_cause l) xs) e in
    let q = ltb-true x l (passed (ltb x l) p.0) in
    (omega arith, under_number l h xs p.1)

under_key : (p s : ℕ) → p ≤ 64 → (xs : List ℕ) → clean (key_cause p s) xs ≡ true → Under xs
under_key p s h [] e = tt
under_key p s h (x ∷ xs) e =
    let q = and_parts (is_none (key_cause p s x)) (clean (key_cause p s) xs) e in
    let t = ltb-true (x / 64) p (passed_two (ltb (x / 64) p) (ltb (x % 64) s) q.0) in
    (omega arith, under_key p s h xs q.1)

clash_passed : (a b : Bool) → is_none (cond a (cond b (Some SelfClash) None) (Some OutOfRange)) ≡ true → a ≡ true
clash_passed true b e = refl
clash_passed false b e = e

under_clash : (s : ℕ) → s ≤ 64 → (xs ys : List ℕ) → length xs ≡ length ys → clean (clash_cause s) (zip xs ys) ≡ true → Under ys
under_clash s h xs [] l e = tt
under_clash s h [] (y ∷ ys) l e = absurd (omega arith)
under_clash s h (x ∷ xs) (y ∷ ys) l e =
    let q = and_parts (is_none (clash_cause s (x, y))) (clean (clash_cause s) (zip xs ys)) e in
    let t = ltb-true y s (clash_passed (ltb y s) (eqb x y) q.0) in
    (omega arith, under_clash s h xs ys (omega arith) q.1)

module _ {S : Type 0} (k : Kind S) (bound : Bounded k) (r : Rules S) where
  pub under_words : fits r ≡ true → Under (words_in k r)
  unfolding fits
  under_words e =
      let z = fits_small r e in
      let p = and_parts (clean size_cause (zip limits (listed_sizes (sizes_in r)))) _ e in
      let q = and_parts (fine number_test (filled (λ _. 0) r)) _ p.1 in
      let cols = filled (λ _. 0) r in
      let col : (n : ℕ) → fine number_test (drop n cols) ≡ true = λ n. fine-drop number_test cols n q.0 in
      let m = under_number 16777216 (omega arith) (map (λ m. m.0) r.marks) (and_parts _ (fine number_test (drop 1 cols)) (col 0)).0 in
      let a = under_number (length r.marks) (omega arith) (map (λ p. p.person.0) r.plays) (and_parts _ (fine number_test (drop 2 cols)) (col 1)).0 in
      let b = under_number r.posts (omega arith) (map (λ p. p.post.0) r.plays) (and_parts _ (fine number_test (drop 3 cols)) (col 2)).0 in
      let c = under_number r.steps (omega arith) (map (λ p. p.stronger.0) r.covers) (and_parts _ (fine number_test (drop 4 cols)) (col 3)).0 in
      let d = under_number r.steps (omega arith) (map (λ p. p.weaker.0) r.covers) (and_parts _ (fine number_test (drop 5 cols)) (col 4)).0 in
      let f = under_key r.posts r.steps z.posts (map (λ p. key_word p.key) r.holds) (and_parts _ (fine number_test (drop 6 cols)) (col 5)).0 in
      let g = under_key r.posts r.steps z.posts (map (λ p. key_word p.key) r.bars) (and_parts _ (fine number_test (drop 8 cols)) (col 7)).0 in
      let x = under_number r.steps (omega arith) (map (λ p. p.one.0) r.clashes) (and_parts _ (fine number_test (drop 10 cols)) (col 9)).0 in
      let y = under_clash r.steps z.steps (map (λ p. p.one.0) r.clashes) (others r) (length-map r.clashes _ ∙ sym (length-map r.clashes _)) q.1 in
      let h = under_map (λ p. k.word p.strength) (λ p. bound p.strength) r.holds in
      let i = under_map (λ p. k.word p.strength) (λ p. bound p.strength) r.bars in
      under_append (listed_sizes (sizes_in r)) _ (omega arith, (omega arith, (omega arith, (omega arith, (omega arith, (omega arith, (omega arith, (omega arith, tt))))))))
      (under_append (poured (filled k.word r)) (others r)
      (under_append _ _ m (under_append _ _ a (under_append _ _ b (under_append _ _ c (under_append _ _ d (under_append _ _ f (under_append _ _ h (under_append _ _ g (under_append _ _ i (under_append _ _ x tt)))))))))) y)
