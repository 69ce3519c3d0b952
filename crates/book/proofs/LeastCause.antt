-- A refusal for a size or a word is at the least place that has a cause.
use Rattle.std.proofs.Common.{◌≡◌, ℕ, zero, suc, ◌+◌, ◌-◌, ◌*◌, ◌/◌, ◌%◌, ◌<◌, ◌≤◌, Bool, true, false, cond, eqb, ltb, leb, ◌⊎◌, List, [], ◌∷◌, length, get_or, take, drop, is_some, Some, None, Option, sym, refl, ap, ◌∙◌, subst, ap₂, inl, inr, arith}
use Rattle.std.specs.List.{zip}
use Rattle.std.specs.Simd.{first_chunks}
use Rattle.std.proofs.lemmas.List.{drop-drop, get_or-take, get_or-drop, length-map, length-drop, length-take-le}
use Rattle.std.proofs.lemmas.Slice.Zip.{get_or-zip, length-zip}
use Rattle.std.proofs.lemmas.Bool.{cases_eq, cond_both, cond-true, cond-false, lt-ltb, le-ltb, eqb-true}
use Rattle.strength.specs.Kind.{Kind}
use Rattle.book.specs.declared.faults.Cause.{Cause}
use Rattle.book.specs.declared.faults.Cause.TheVariants.{ShortBook, WrongLength, OutOfRange, UnlawfulWord, SelfClash}
use Rattle.book.specs.declared.form.Column.{Column}
use Rattle.book.specs.declared.form.Limit.{Limit}
use Rattle.book.specs.declared.form.Sizes.{Sizes}
use Rattle.book.specs.declared.form.Test.{Test}
use Rattle.book.specs.declared.form.Test.TheVariants.{Below, Key, Strength}
use Rattle.book.specs.Words.{word_of, words}
use Rattle.book.specs.Causes.{number, size_cause, cause, clash_cause, told, first, or_else}
use Rattle.book.specs.Form.{limits, listed_sizes, sizes_of, in_sizes, columns, total, in_columns, last_at, in_clashes, due, judged, refusal}
use Rattle.book.specs.Least.{size_cause_at, column_cause_at, clash_cause_at, cause_at, Least, FirstCause}

module _ (f : ℕ → Option Cause) where
  -- no place before p has a cause
  abbrev Clear : ℕ → Type 0
  Clear p = (i : ℕ) → i < p → f i ≡ None

  -- what a search of the places from a to below b finds
  abbrev Finds : ℕ → ℕ → Option (Cause × ℕ) → Type 0
  Finds a b (Some r) = Least f a b r.0 r.1
  Finds a b None = Clear b

  clear_more : (p : ℕ) → Clear p → f p ≡ None → Clear (p + 1)
  clear_more p h e i l = elim (cases_eq p i) [ inl here ↦ subst (λ (j : ℕ). f j ≡ None) here e | inr ne ↦ h i (omega arith) ]

  wider : (a m l b : ℕ) (c : Cause) (p : ℕ) → a ≤ m → l ≤ b → Least f m l c p → Least f a b c p
  wider a m l b c p h j t = record { from = omega (arith, t.from); below = omega (arith, t.below); here = t.here; before = t.before }

  later : (a m b : ℕ) (o : Option (Cause × ℕ)) → a ≤ m → Finds m b o → Finds a b o
  later a m b (Some r) h t = wider a m b b r.0 r.1 h (omega arith) t
  later a m b None h t = t

  -- one search after another
  join : (a m b : ℕ) (o q : Option (Cause × ℕ)) → a ≤ m → m ≤ b → Finds a m o → (Clear m → Finds m b q) → Finds a b (or_else o q)
  join a m b (Some r) q h l t u = wider a a m b r.0 r.1 (omega arith) l t
  join a m b None q h l t u = later a m b q h (u t)

  step : (a b : ℕ) (c : Option Cause) (o : Option (Cause × ℕ)) → a < b → f a ≡ c → Clear a → (Clear (a + 1) → Finds (a + 1) b o) → Finds a b (told c a o)
  step a b None o h e t u = later a (a + 1) b o (omega arith) (u (clear_more a t e))
  step a b (Some c) o h e t u = record { from = omega arith; below = h; here = e; before = t }

  -- the search of a list whose causes f tells
  found : {X : Type 0} (c : X → Option Cause) (d : X) (xs : List X) (a b : ℕ) → b ≡ a + length xs → ((j : ℕ) → j < length xs → f (a + j) ≡ c (get_or xs j d)) → Clear a → Finds a b (first c a xs)
  found c d [] a b e g t = λ i l. t i (omega arith)
  found c d (x ∷ xs) a b e g t =
      step a b (c x) (first c (a + 1) xs) (omega arith) (ap f (omega arith) ∙ g 0 (omega arith)) t
      (found c d xs (a + 1) b (omega arith) (λ j l. ap f (omega arith) ∙ g (suc j) (omega arith)))

abbrev no_limit : Limit
no_limit = record { least = 0; most = 0 }

-- the number of a cause, 0 for none
abbrev code : Option Cause → ℕ
code None = 0
code (Some c) = number c

-- the causes of sizes
size-causes : (r : Limit × ℕ) → code (size_cause r) ≤ 2
size-causes (l, w) = cond_both (leb l.least w) _ _ (λ o. code o ≤ 2) (λ _. cond_both (leb w l.most) _ _ (λ o. code o ≤ 2) (λ _. omega arith) (λ _. omega arith)) (λ _. omega arith)

-- the causes of words are others
abbrev OfWord : Option Cause → Type 0
OfWord o = code o ≡ 2 → ⊥

either_word : (b : Bool) (m n : Option Cause) → OfWord m → OfWord n → OfWord (cond b m n)
either_word true m n p q = p
either_word false m n p q = q

causes : {S : Type 0} (k : Kind S) (t : Test) (w : ℕ) → OfWord (cause k t w)
causes k (Below limit) w = either_word (ltb w limit) None (Some OutOfRange) (λ e. omega arith) (λ e. omega arith)
causes k (Key posts steps) w = either_word (ltb (w / 64) posts) _ (Some OutOfRange) (either_word (ltb (w % 64) steps) None (Some OutOfRange) (λ e. omega arith) (λ e. omega arith)) (λ e. omega arith)
causes k Strength w = either_word (is_some (k.of_word w)) None (Some UnlawfulWord) (λ e. omega arith) (λ e. omega arith)

clash_causes : (steps : ℕ) (r : ℕ × ℕ) → OfWord (clash_cause steps r)
clash_causes steps (one, other) = either_word (ltb other steps) _ (Some OutOfRange) (either_word (eqb one other) (Some SelfClash) None (λ e. omega arith) (λ e. omega arith)) (λ e. omega arith)

column_causes : {S : Type 0} (k : Kind S) (cs : List Column) (a : ℕ) (ws : List ℕ) (i : ℕ) → OfWord (column_cause_at k cs a ws i)
column_causes k [] a ws i = λ e. omega arith
column_causes k (c ∷ cs) a ws i = either_word (ltb i (a + c.size)) _ _ (causes k c.test (get_or ws i 0)) (column_causes k cs (a + c.size) ws i)

-- the sizes are the first words
size_at : (ws : List ℕ) (i : ℕ) → i < 8 → get_or (listed_sizes (sizes_of ws)) i 0 ≡ get_or ws i 0
size_at ws zero h = refl
size_at ws (suc zero) h = refl
size_at ws (suc (suc zero)) h = refl
size_at ws (suc (suc (suc zero))) h = refl
size_at ws (suc (suc (suc (suc zero)))) h = refl
size_at ws (suc (suc (suc (suc (suc zero))))) h = refl
size_at ws (suc (suc (suc (suc (suc (suc zero)))))) h = refl
size_at ws (suc (suc (suc (suc (suc (suc (suc zero))))))) h = refl
size_at ws (suc (suc (suc (suc (suc (suc (suc (suc i)))))))) h = absurd (omega arith)

-- n words from place p on
part_long : (ws : List ℕ) (n p : ℕ) → p + n ≤ length ws → length (take n (drop p ws)) ≡ n
part_long ws n p h = length-take-le n (drop p ws) (simp length-drop (omega arith))

part_at : (ws : List ℕ) (n p j : ℕ) → j < n → get_or (take n (drop p ws)) j 0 ≡ get_or ws (p + j) 0
part_at ws n p j h = get_or-take n (drop p ws) j 0 h ∙ get_or-drop p ws j 0

-- beside n words from place q on
pairs_long : (ws : List ℕ) (n p q : ℕ) → p + n ≤ length ws → q + n ≤ length ws → length (zip (take n (drop p ws)) (take n (drop q ws))) ≡ n
pairs_long ws n p q h l = let a = part_long ws n p h in let b = part_long ws n q l in simp length-zip (omega arith)

pair_at : (ws : List ℕ) (n p q j : ℕ) → p + n ≤ length ws → q + n ≤ length ws → j < n → get_or (zip (take n (drop p ws)) (take n (drop q ws))) j (0, 0) ≡ (get_or ws (p + j) 0, get_or ws (q + j) 0)
pair_at ws n p q j h l i =
    let a = part_long ws n p h in
    let b = part_long ws n q l in
    get_or-zip (take n (drop p ws)) (take n (drop q ws)) j (0, 0) (omega arith) (omega arith) ∙ ap₂ (λ x y. (x, y)) (part_at ws n p j i) (part_at ws n q j i)

-- the search of columns that f tells
module _ {S : Type 0} (k : Kind S) (ws : List ℕ) (f : ℕ → Option Cause) where
  in_part : (c : Column) (a : ℕ) → a + c.size ≤ length ws → ((i : ℕ) → a ≤ i → i < a + c.size → f i ≡ cause k c.test (get_or ws i 0)) → Clear f a
      → Finds f a (a + c.size) (first (cause k c.test) a (take c.size (drop a ws)))
  in_part c a h g =
      let n = part_long ws c.size a h in
      found f (cause k c.test) 0 (take c.size (drop a ws)) a (a + c.size) (omega arith)
      (λ j l. g (a + j) (omega arith) (omega arith) ∙ ap (cause k c.test) (sym (part_at ws c.size a j (omega arith))))

  in_all : (cs : List Column) (a b : ℕ) → b ≡ a + total cs → b ≤ length ws → ((i : ℕ) → a ≤ i → i < b → f i ≡ column_cause_at k cs a ws i) → Clear f a → Finds f a b (in_columns k cs a (drop a ws))
  in_all [] a b e h g t = λ i l. t i (omega arith)
  in_all (c ∷ cs) a b e h g t =
      let m = a + c.size in
      let here : (i : ℕ) → a ≤ i → i < m → f i ≡ cause k c.test (get_or ws i 0) = λ i l u. g i l (omega arith) ∙ cond-true (ltb i m) _ _ (lt-ltb i m u) in
      let there : (i : ℕ) → m ≤ i → i < b → f i ≡ column_cause_at k cs m ws i = λ i l u. g i (omega arith) u ∙ cond-false (ltb i m) _ _ (le-ltb i m l) in
      let rest : Clear f m → Finds f m b (in_columns k cs m (drop m ws)) = in_all cs m b (omega arith) h there in
      join f a m b _ _ (omega arith) (omega arith) (in_part c a (omega arith) here t)
      (λ u. subst (λ (xs : List ℕ). Finds f m b (in_columns k cs m xs)) (sym (drop-drop c.size a ws)) (rest u))

module _ {S : Type 0} (k : Kind S) (ws : List ℕ) where
  abbrev s : Sizes
  s = sizes_of ws

  at_size : (i : ℕ) → i < 8 → cause_at k ws i ≡ size_cause_at ws i
  unfolding cause_at
  at_size i h = cond-true (ltb i 8) _ _ (lt-ltb i 8 h)

  at_word : (i : ℕ) → 8 ≤ i → cause_at k ws i ≡ cond (ltb i (last_at s)) (column_cause_at k (columns s) 8 ws i) (clash_cause_at ws i)
  unfolding cause_at
  at_word i h = cond-false (ltb i 8) _ _ (le-ltb i 8 h)

  at_column : (i : ℕ) → 8 ≤ i → i < last_at s → cause_at k ws i ≡ column_cause_at k (columns s) 8 ws i
  at_column i h l = at_word i h ∙ cond-true (ltb i (last_at s)) _ _ (lt-ltb i (last_at s) l)

  at_clash : (i : ℕ) → last_at s ≤ i → cause_at k ws i ≡ clash_cause_at ws i
  at_clash i h = at_word i (omega arith) ∙ cond-false (ltb i (last_at s)) _ _ (le-ltb i (last_at s) h)

  -- which numbers are of sizes, and which of words
  of_size : (c : Cause) (p : ℕ) → p < 8 → cause_at k ws p ≡ Some c → 3 < number c → ⊥
  of_size c p h e l = let v = size-causes (get_or limits p no_limit, get_or ws p 0) in let q : code (size_cause_at ws p) ≡ number c = ap code (sym (at_size p h) ∙ e) in omega arith

  of_word : (p : ℕ) → 8 ≤ p → OfWord (cause_at k ws p)
  of_word p h e = either_word (ltb p (last_at s)) _ _ (column_causes k (columns s) 8 ws p) (clash_causes s.steps (get_or ws (p - s.clashes) 0, get_or ws p 0)) (sym (ap code (at_word p h)) ∙ e)

  finds_size : Finds (cause_at k ws) 0 8 (in_sizes s)
  finds_size =
      found (cause_at k ws) size_cause (no_limit, 0) (zip limits (listed_sizes s)) 0 8 refl
      (λ j l. ap (cause_at k ws) (omega arith) ∙ at_size j l
      ∙ ap size_cause (ap (λ w. (get_or limits j no_limit, w)) (sym (size_at ws j l)) ∙ sym (get_or-zip limits (listed_sizes s) j (no_limit, 0) l l)))
      (λ i l. absurd (omega arith))

  module _ (whole : length ws ≡ last_at s + s.clashes) where
    finds_column : Clear (cause_at k ws) 8 → Finds (cause_at k ws) 8 (last_at s) (in_columns k (columns s) 8 (drop 8 ws))
    finds_column = in_all k ws (cause_at k ws) (columns s) 8 (last_at s) refl (omega arith) at_column

    finds_clash : Clear (cause_at k ws) (last_at s) → Finds (cause_at k ws) (last_at s) (length ws) (in_clashes s ws)
    finds_clash =
        let n = s.clashes in
        let l = last_at s in
        let m = pairs_long ws n (l - n) l (omega arith) (omega arith) in
        found (cause_at k ws) (clash_cause s.steps) (0, 0) _ l (length ws) (omega arith) (λ j h.
        (let e : l + j - n ≡ l - n + j = omega arith in
        at_clash (l + j) (omega arith) ∙ ap (λ p. clash_cause s.steps (get_or ws p 0, get_or ws (l + j) 0)) e
        ∙ ap (clash_cause s.steps) (sym (pair_at ws n (l - n) l j (omega arith) (omega arith) (omega arith)))))

    finds_word : Clear (cause_at k ws) 8 → Finds (cause_at k ws) 8 (length ws) (or_else (in_columns k (columns s) 8 (drop 8 ws)) (in_clashes s ws))
    finds_word t = join (cause_at k ws) 8 (last_at s) (length ws) _ _ (omega arith) (omega arith) (finds_column t) finds_clash

length_chunked : {X : Type 0} (n : ℕ) (xs : List X) → length (first_chunks 8 n xs) ≡ n
length_chunked zero xs = refl
length_chunked (suc n) xs = ap suc (length_chunked n (drop 8 xs))

length-words : (bs : List ℕ) (n : ℕ) → length bs ≡ 8 * n → length (words bs) ≡ n
length-words bs n e = length-map (first_chunks 8 (length bs / 8) bs) word_of ∙ length_chunked (length bs / 8) bs ∙ omega arith

module _ {S : Type 0} (k : Kind S) (bs : List ℕ) where
  abbrev ws : List ℕ
  ws = words bs

  abbrev f : ℕ → Option Cause
  f = cause_at k ws

  -- what a refusal tells
  abbrev Tells : Option (Cause × ℕ) → Type 0
  Tells (Some r) = ((number r.0 ≡ 1) ⊎ (number r.0 ≡ 3)) ⊎ (Least f 0 8 r.0 r.1 ⊎ Least f 8 (length ws) r.0 r.1)
  Tells None = Clear f (length ws)

  word_tells : (w : Option (Cause × ℕ)) → Finds f 8 (length ws) w → Tells w
  word_tells (Some r) t = inr (inr t)
  word_tells None t = t

  tells : (m d : ℕ) (short : Bool) (o : Option (Cause × ℕ)) (whole : Bool) (w : Option (Cause × ℕ)) → Finds f 0 8 o → (whole ≡ true → Clear f 8 → Finds f 8 (length ws) w)
      → Tells (cond short (Some (ShortBook, m)) (or_else o (cond whole w (Some (WrongLength, d)))))
  tells m d true o whole w s t = inl (inl refl)
  tells m d false (Some r) whole w s t = inr (inl s)
  tells m d false None true w s t = word_tells w (t refl s)
  tells m d false None false w s t = inl (inr refl)

  refusal_tells : Tells (refusal k bs)
  unfolding judged
  refusal_tells =
      let z = sizes_of ws in
      tells (length bs) (due z) (ltb (length bs) 64) (in_sizes z) (eqb (length bs) (due z)) _ (finds_size k ws)
      (λ e. finds_word k ws (length-words bs (last_at z + z.clashes) (eqb-true (length bs) (due z) e)))

  pub first-cause : FirstCause k bs
  first-cause = record {
    size = λ p e. elim (subst Tells e refusal_tells) [
      | inl (inl q) ↦ absurd (omega arith)
      | inl (inr q) ↦ absurd (omega arith)
      | inr (inl t) ↦ t
      | inr (inr t) ↦ absurd (of_word k ws p t.from (ap code t.here))
    ];
    word = λ c p h e. elim (subst Tells e refusal_tells) [
      | inl (inl q) ↦ absurd (omega arith)
      | inl (inr q) ↦ absurd (omega arith)
      | inr (inl t) ↦ absurd (of_size k ws c p t.below t.here h)
      | inr (inr t) ↦ t
    ];
    none = λ e. subst Tells e refusal_tells;
  }
