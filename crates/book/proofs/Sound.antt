-- A sound book's rows fit, and rows that fit make a sound book.
use Rattle.std.proofs.Common.{◌≡◌, ℕ, ◌+◌, ◌-◌, Bool, true, cond, ◌&&◌, List, [], ◌∷◌, ◌++◌, map, length, take, drop, is_some, is_none, Some, None, Option, sym, refl, ap, ◌∙◌, append_assoc, append-nil, arith}
use Rattle.std.specs.List.{zip}
use Rattle.std.proofs.lemmas.List.{take_at, drop_at, take_all, length-append, length-map}
use Rattle.std.proofs.lemmas.Bool.{and_from, and_parts}
use Rattle.strength.specs.Kind.{Kind, ReadsBack}
use Rattle.book.specs.declared.faults.Cause.{Cause}
use Rattle.book.specs.declared.faults.Cause.TheVariants.{UnlawfulWord}
use Rattle.book.specs.declared.form.Test.{Test}
use Rattle.book.specs.declared.form.Test.TheVariants.{Below, Key, Strength}
use Rattle.book.specs.declared.rows.Entry.{Entry}
use Rattle.book.specs.Causes.{cause, first, clean, clash_cause, size_cause}
use Rattle.book.specs.Form.{columns, in_columns, in_clashes, judged, total, due, last_at, listed_sizes, limits, Small}
use Rattle.book.specs.Entries.{key_word}
use Rattle.book.specs.Rules.{Rules, sizes_in, filled, others, words_in, written, number_test, fine, fits}
use Rattle.book.proofs.SmallSizes.{small}
use Rattle.book.proofs.Overs.{length-spelled}
use Rattle.book.proofs.Fitting.{clean-none, none-clean, or_both, headed, poured, bad, in_headed, fine_good, good_fine, total-headed}
use Rattle.book.proofs.Judged.{by-words, judged-parts}

clash_cut : (c : ℕ × ℕ → Option Cause) (l n : ℕ) (front us bs ws : List ℕ) → ws ≡ front ++ (us ++ bs) → length front + n ≡ l → length us ≡ n → length bs ≡ n
    → first c l (zip (take n (drop (l - n) ws)) (take n (drop l ws))) ≡ first c l (zip us bs)
clash_cut c l n front us bs ws e h p q =
    let a : take n (drop (l - n) ws) ≡ us = ap (λ t. take n (drop (l - n) t)) e ∙ ap (take n) (drop_at front (us ++ bs) (l - n) (omega arith)) ∙ take_at us bs n p in
    let b : take n (drop l ws) ≡ bs = ap (λ t. take n (drop l t)) (e ∙ sym (append_assoc front us bs)) ∙ ap (take n) (drop_at (front ++ us) bs l (length-append front us ∙ omega arith)) ∙ take_all n bs (omega arith) in
    ap (λ t. first c l (zip t (take n (drop l ws)))) a ∙ ap (λ t. first c l (zip us t)) b

lawful_clean : {S : Type 0} (k : Kind S) → ReadsBack k → (es : List (Entry S)) → clean (cause k Strength) (map (λ p. k.word p.strength) es) ≡ true
lawful_clean k law [] = refl
lawful_clean k law (e ∷ es) = ap (λ o. is_none (cond (is_some o) None (Some UnlawfulWord)) && clean (cause k Strength) (map (λ p. k.word p.strength) es)) (law e.strength) ∙ lawful_clean k law es

zero_clean : {S : Type 0} (es : List (Entry S)) → clean (number_test Strength) (map (λ p. 0) es) ≡ true
zero_clean [] = refl
zero_clean (e ∷ es) = zero_clean es

module _ {S : Type 0} (k : Kind S) (r : Rules S) where
  abbrev cols : List (Test × List ℕ)
  cols = filled k.word r

  heads : headed cols ≡ columns (sizes_in r)
  heads = simp length-map

  pub columns-bad : in_columns k (columns (sizes_in r)) 8 (drop 8 (words_in k r)) ≡ bad k 8 cols
  columns-bad = ap (λ cs. in_columns k cs 8 (poured cols ++ others r)) (sym heads) ∙ in_headed k 8 cols (others r)

  poured-length : length (poured cols) ≡ total (columns (sizes_in r))
  poured-length = sym (ap total (sym heads) ∙ total-headed cols)

  abbrev ones : List ℕ
  ones = map (λ p. p.one.0) r.clashes

  pub written_long : length (written k r) ≡ due (sizes_in r)
  written_long =
      let a = length-append (poured cols) (others r) in
      let b = length-map r.clashes (λ p. p.other.0) in
      let p = poured-length in
      length-spelled (words_in k r) ∙ omega arith

  abbrev nine : List (Test × List ℕ)
  nine =
      (Below 16777216, map (λ m. m.0) r.marks)
      ∷ (Below (length r.marks), map (λ p. p.person.0) r.plays)
      ∷ (Below r.posts, map (λ p. p.post.0) r.plays)
      ∷ (Below r.steps, map (λ p. p.stronger.0) r.covers)
      ∷ (Below r.steps, map (λ p. p.weaker.0) r.covers)
      ∷ (Key r.posts r.steps, map (λ p. key_word p.key) r.holds)
      ∷ (Strength, map (λ p. k.word p.strength) r.holds)
      ∷ (Key r.posts r.steps, map (λ p. key_word p.key) r.bars)
      ∷ (Strength, map (λ p. k.word p.strength) r.bars)
      ∷ []

  pub clashes_bad : in_clashes (sizes_in r) (words_in k r) ≡ first (clash_cause r.steps) (last_at (sizes_in r)) (zip ones (others r))
  clashes_bad =
      let t = simp length-map at (total-headed nine) in
      clash_cut (clash_cause r.steps) (last_at (sizes_in r)) (length r.clashes) (listed_sizes (sizes_in r) ++ poured nine) ones (others r) (words_in k r)
      (simp (append_assoc, append-nil))
      (omega (arith, t))
      (length-map r.clashes _) (length-map r.clashes _)

  -- with the words of the strengths, and without
  abbrev around : Bool → Bool → Bool
  around h b =
      clean (number_test (Below 16777216)) (map (λ m. m.0) r.marks)
      && (clean (number_test (Below (length r.marks))) (map (λ p. p.person.0) r.plays)
      && (clean (number_test (Below r.posts)) (map (λ p. p.post.0) r.plays)
      && (clean (number_test (Below r.steps)) (map (λ p. p.stronger.0) r.covers)
      && (clean (number_test (Below r.steps)) (map (λ p. p.weaker.0) r.covers)
      && (clean (number_test (Key r.posts r.steps)) (map (λ p. key_word p.key) r.holds)
      && (h && (clean (number_test (Key r.posts r.steps)) (map (λ p. key_word p.key) r.bars)
      && (b && (clean (number_test (Below r.steps)) (map (λ p. p.one.0) r.clashes) && true)))))))))

  fine_same : ReadsBack k → fine (cause k) cols ≡ fine number_test (filled (λ _. 0) r)
  fine_same law =
      let h : clean (cause k Strength) (map (λ p. k.word p.strength) r.holds) ≡ clean (number_test Strength) (map (λ p. 0) r.holds) = lawful_clean k law r.holds ∙ sym (zero_clean r.holds) in
      let b : clean (cause k Strength) (map (λ p. k.word p.strength) r.bars) ≡ clean (number_test Strength) (map (λ p. 0) r.bars) = lawful_clean k law r.bars ∙ sym (zero_clean r.bars) in
      ap (λ x. around x (clean (cause k Strength) (map (λ p. k.word p.strength) r.bars))) h ∙ ap (λ x. around (clean (number_test Strength) (map (λ p. 0) r.holds)) x) b

  -- a sound book's rows fit
  pub sound_fits : ReadsBack k → judged k (due (sizes_in r)) (sizes_in r) (words_in k r) ≡ None → fits r ≡ true
  unfolding fits
  sound_fits law e =
      let p = judged-parts k (due (sizes_in r)) (sizes_in r) (words_in k r) (omega arith) refl e in
      and_from _ _ (none-clean size_cause 0 (zip limits (listed_sizes (sizes_in r))) p.0)
      (and_from _ _ (sym (fine_same law) ∙ good_fine k 8 cols (sym columns-bad ∙ p.1)) (none-clean (clash_cause r.steps) (last_at (sizes_in r)) (zip ones (others r)) (sym clashes_bad ∙ p.2)))

  -- rows that fit make a sound book
  pub fits_sound : ReadsBack k → fits r ≡ true → judged k (due (sizes_in r)) (sizes_in r) (words_in k r) ≡ None
  unfolding fits
  fits_sound law e =
      let p = and_parts (clean size_cause (zip limits (listed_sizes (sizes_in r)))) _ e in
      let q = and_parts (fine number_test (filled (λ _. 0) r)) _ p.1 in
      sym (by-words k (due (sizes_in r)) (sizes_in r) (words_in k r) (omega arith) (sym (clean-none size_cause 0 (zip limits (listed_sizes (sizes_in r))) p.0)) refl)
      ∙ or_both _ _ (columns-bad ∙ fine_good k 8 cols (fine_same law ∙ q.0)) (clashes_bad ∙ clean-none (clash_cause r.steps) (last_at (sizes_in r)) (zip ones (others r)) q.1)

pub fits_small : {S : Type 0} (r : Rules S) → fits r ≡ true → Small (sizes_in r)
unfolding fits
fits_small r e = small (sizes_in r) (clean-none size_cause 0 (zip limits (listed_sizes (sizes_in r))) (and_parts (clean size_cause (zip limits (listed_sizes (sizes_in r)))) _ e).0)
