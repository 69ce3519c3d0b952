-- Columns, one after another.
use Rattle.std.proofs.Common.{◌≡◌, ℕ, ◌+◌, ◌-◌, ◌<◌, ◌≤◌, List, [], ◌∷◌, map, length, get_or, take, drop, sum_by, Some, None, sym, refl, ap, ◌∙◌, arith}
use Rattle.std.specs.List.{zip}
use Rattle.std.proofs.lemmas.List.{at_drop_more, take-map, drop-map, drop-drop, length-map, length-take, length-drop, get_or-take, get_or-drop}
use Rattle.std.proofs.lemmas.List.Sums.{sum_by-cons}
use Rattle.strength.specs.Kind.{Kind}
use Rattle.book.specs.declared.faults.Cause.{Cause}
use Rattle.book.specs.declared.form.Column.{Column}
use Rattle.book.specs.declared.form.Sizes.{Sizes}
use Rattle.book.specs.Words.{word_of}
use Rattle.book.specs.Causes.{cause, clash_cause, first, or_else}
use Rattle.book.specs.Form.{in_clashes, in_columns, last_at, total}

pub total_sum : (cs : List Column) → sum_by (λ (c : Column). c.size) cs ≡ total cs
total_sum [] = refl
total_sum (c ∷ cs) = sum_by-cons (λ (c : Column). c.size) c cs ∙ ap (λ n. c.size + n) (total_sum cs)

pub total_more : (cs : List Column) (i : ℕ) (d : Column) → i < length cs → total (drop i cs) ≡ (get_or cs i d).size + total (drop (i + 1) cs)
total_more cs i d h = at_drop_more total cs i d h

-- the words of a part
pub part_words : (p m n : ℕ) (w : List (List ℕ)) → m ≡ n → map word_of (take m (drop p w)) ≡ take n (drop p (map word_of w))
part_words p m n w e = ap (λ n. map word_of (take n (drop p w))) e ∙ sym (take-map word_of n (drop p w)) ∙ ap (take n) (sym (drop-map word_of p w))

pub part_at : (p m n j : ℕ) (w : List (List ℕ)) → m ≡ n → j < n → get_or (map word_of (take m (drop p w))) j 0 ≡ get_or (map word_of w) (p + j) 0
part_at p m n j w e h = ap (λ t. get_or t j 0) (part_words p m n w e) ∙ get_or-take n (drop p (map word_of w)) j 0 h ∙ get_or-drop p (map word_of w) j 0

pub part_length : (p m n : ℕ) (w : List (List ℕ)) → m ≡ n → p + n ≤ length w → length (map word_of (take m (drop p w))) ≡ n
part_length p m n w e h = simp (length-map, length-take, length-drop) (omega arith)

pub clash_parts : (s : Sizes) (l : ℕ) (w : List (List ℕ)) → l ≡ last_at s → s.clashes ≤ l
    → first (clash_cause s.steps) l (zip (map word_of (take (l - (l - s.clashes)) (drop (l - s.clashes) w))) (map word_of (take (l + s.clashes - l) (drop l w)))) ≡ in_clashes s (map word_of w)
clash_parts s l w e h =
    let n = s.clashes in
    ap (λ xs. first (clash_cause s.steps) l (zip xs (map word_of (take (l + n - l) (drop l w))))) (part_words (l - n) (l - (l - n)) n w (omega arith))
    ∙ ap (λ xs. first (clash_cause s.steps) l (zip (take n (drop (l - n) (map word_of w))) xs)) (part_words l (l + n - l) n w (omega arith))
    ∙ ap (λ m. first (clash_cause s.steps) m (zip (take n (drop (m - n) (map word_of w))) (take n (drop m (map word_of w))))) e

module _ {S : Type 0} (k : Kind S) (ws : List ℕ) (cs : List Column) (i : ℕ) (d : Column) (p : ℕ) (h : i < length cs) where
  in_more : in_columns k (drop i cs) p (drop p ws)
      ≡ or_else (first (cause k (get_or cs i d).test) p (take (get_or cs i d).size (drop p ws))) (in_columns k (drop (i + 1) cs) (p + (get_or cs i d).size) (drop (p + (get_or cs i d).size) ws))
  in_more =
      let c = get_or cs i d in
      let e : in_columns k (drop i cs) p (drop p ws) ≡ or_else (first (cause k c.test) p (take c.size (drop p ws))) (in_columns k (drop (i + 1) cs) (p + c.size) (drop c.size (drop p ws)))
      = at_drop_more (λ xs. in_columns k xs p (drop p ws)) cs i d h in
      e ∙ ap (λ xs. or_else (first (cause k c.test) p (take c.size (drop p ws))) (in_columns k (drop (i + 1) cs) (p + c.size) xs)) (drop-drop c.size p ws)

  pub column_fine : None ≡ first (cause k (get_or cs i d).test) p (take (get_or cs i d).size (drop p ws))
      → in_columns k (drop (i + 1) cs) (p + (get_or cs i d).size) (drop (p + (get_or cs i d).size) ws) ≡ in_columns k (drop i cs) p (drop p ws)
  column_fine e = sym (in_more ∙ ap (λ o. or_else o (in_columns k (drop (i + 1) cs) (p + (get_or cs i d).size) (drop (p + (get_or cs i d).size) ws))) (sym e))

  pub column_bad : (f : Cause × ℕ) → Some f ≡ first (cause k (get_or cs i d).test) p (take (get_or cs i d).size (drop p ws)) → Some f ≡ in_columns k (drop i cs) p (drop p ws)
  column_bad f e = sym (in_more ∙ ap (λ o. or_else o (in_columns k (drop (i + 1) cs) (p + (get_or cs i d).size) (drop (p + (get_or cs i d).size) ws))) (sym e))
