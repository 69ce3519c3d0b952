-- The checks of rows, one after another, are those of the file that they would be written to.
use Rattle.std.proofs.Common.{◌≡◌, ℕ, ◌+◌, List, map, length, get_or, drop, Some, None, Option, refl}
use Rattle.std.specs.List.{zip}
use Rattle.std.proofs.Math.Nat.{add_assoc, two-mul}
use Rattle.std.proofs.lemmas.List.{length-map}
use Rattle.strength.specs.Kind.{Kind}
use Rattle.book.specs.declared.faults.Cause.{Cause}
use Rattle.book.specs.declared.form.Column.{Column}
use Rattle.book.specs.declared.form.Places.{Places}
use Rattle.book.specs.declared.form.Sizes.{Sizes}
use Rattle.book.specs.declared.form.Test.{Test}
use Rattle.book.specs.declared.form.Test.TheVariants.{Below}
use Rattle.book.specs.Causes.{cause, clash_cause, first, or_else}
use Rattle.book.specs.Layouts.{Layout, play_layout, cover_layout, entry_layout}
use Rattle.book.specs.Form.{columns, in_clashes, in_columns, last_at}
use Rattle.book.specs.Places.{places}
use Rattle.book.specs.Rules.{Rules, others, sizes_in, words_in}
use Rattle.book.proofs.Sound.{clashes_bad, columns-bad}

or_assoc : (a b c : Option (Cause × ℕ)) → or_else (or_else a b) c ≡ or_else a (or_else b c)
or_assoc (Some f) b c = refl
or_assoc None b c = refl

abbrev test_at : List Column → ℕ → Test
test_at cs i = (get_or cs i (record { test = Below 0; size = 0 })).test

module _ {S : Type 0} (k : Kind S) where
  -- the first bad word of the table at this place, whose columns have the tests i and i + 1
  abbrev in_table : {R : Type 0} → Layout R → List R → ℕ → List Column → ℕ → Option (Cause × ℕ)
  in_table f rs p cs i = or_else (first (cause k (test_at cs i)) p (map f.first_word rs)) (first (cause k (test_at cs (i + 1))) (p + length rs) (map f.second_word rs))

  -- what six checks find, one after another
  pub rows_checked : (r : Rules S) {s : Sizes} {cs : List Column} {at : Places} {last : ℕ} → s ≡ sizes_in r → cs ≡ columns s → at ≡ places s → last ≡ last_at s
      → or_else (first (cause k (test_at cs 0)) 8 (map (λ m. m.0) r.marks))
      (or_else (in_table play_layout r.plays at.plays cs 1)
      (or_else (in_table cover_layout r.covers at.covers cs 3)
      (or_else (in_table (entry_layout k) r.holds at.holds cs 5)
      (or_else (in_table (entry_layout k) r.bars at.bars cs 7)
      (or_else (first (cause k (test_at cs 9)) at.clashes (map (λ p. p.one.0) r.clashes)) (first (clash_cause s.steps) last (zip (map (λ p. p.one.0) r.clashes) (others r))))))))
      ≡ or_else (in_columns k (columns s) 8 (drop 8 (words_in k r))) (in_clashes s (words_in k r))
  rows_checked r v t p l = rw (l, p, t, v, columns-bad k r, clashes_bad k r) (simp (or_assoc, length-map, two-mul, ← add_assoc))
