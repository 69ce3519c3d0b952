-- Sound words, cut into columns, are the words of the rows that they say.
use Rattle.std.proofs.Common.{◌≡◌, ℕ, ◌+◌, ◌*◌, ◌/◌, ◌%◌, ◌<◌, ◌≤◌, Bool, true, false, cond, ltb, List, [], ◌∷◌, ◌++◌, map, length, get_or, take, drop, is_some, Some, None, Option, sym, refl, ap, ◌∙◌, subst, ap₂, append_assoc, append-nil, arith}
use Rattle.std.proofs.lemmas.List.{take-append-drop, drop-drop, get_or-take, get_or-drop, length-map, length-take, length-drop, length-take-le, nil_from_length}
use Rattle.std.proofs.lemmas.Bool.{ltb-true, lt-ltb, and_from}
use Rattle.std.proofs.lemmas.Option.{none-some}
use Rattle.strength.specs.Kind.{Kind, ReadsBack}
use Rattle.strength.specs.Lawful.{when}
use Rattle.book.specs.declared.keys.Key.{Key as TheKey}
use Rattle.book.specs.declared.faults.Cause.TheVariants.{OutOfRange, UnlawfulWord}
use Rattle.book.specs.declared.form.Column.{Column}
use Rattle.book.specs.declared.form.Sizes.{Sizes}
use Rattle.book.specs.declared.form.Test.TheVariants.{Key, Strength}
use Rattle.book.specs.Causes.{cause, number_cause, key_cause, first}
use Rattle.book.specs.Entries.{key_of_word, key_word}
use Rattle.book.specs.Keys.{key_test}
use Rattle.book.specs.Layouts.{Layout, TableAt, entry, play_layout, cover_layout, entry_layout, clash_layout}
use Rattle.book.specs.Form.{due, in_columns, judged, last_at, listed_sizes, sizes_of}
use Rattle.book.specs.Places.{plays_at, covers_at, holds_at, bars_at, clashes_at}
use Rattle.book.specs.Rules.{Rules, fits, sizes_in, words_in}
use Rattle.book.proofs.FirstCauses.{none_at}
use Rattle.book.proofs.Judged.{or_parts}
use Rattle.book.proofs.Sound.{sound_fits}

-- a word that passes
pub in_range : (l w : ℕ) → number_cause l w ≡ None → w < l
in_range l w e = at (ltb w l) refl e
  where
    at : (b : Bool) → ltb w l ≡ b → cond b None (Some OutOfRange) ≡ None → w < l
    at true p z = ltb-true w l p
    at false p z = absurd (none-some _ (sym z))

strength_lawful : {S : Type 0} (o : Option S) → cond (is_some o) None (Some UnlawfulWord) ≡ None → is_some o ≡ true
strength_lawful (Some x) e = refl
strength_lawful None e = absurd (none-some _ (sym e))

is_some_when : {X : Type 0} (b : Bool) (f : b ≡ true → X) → is_some (when b f) ≡ b
is_some_when true f = refl
is_some_when false f = refl

post_in_range : (p s w : ℕ) → key_cause p s w ≡ None → w / 64 < p
post_in_range p s w e = at (ltb (w / 64) p) refl e
  where
    at : (b : Bool) → ltb (w / 64) p ≡ b → cond b (cond (ltb (w % 64) s) None (Some OutOfRange)) (Some OutOfRange) ≡ None → w / 64 < p
    at true q z = ltb-true (w / 64) p q
    at false q z = absurd (none-some _ (sym z))

key_lawful : (p s w : ℕ) → p ≤ 64 → key_cause p s w ≡ None → is_some (key_of_word w) ≡ true
key_lawful p s w h e =
    let q = post_in_range p s w e in
    is_some_when {X = TheKey} (key_test (w / 64) (w % 64)) _ ∙ and_from (ltb (w / 64) 64) (ltb (w % 64) 64) (lt-ltb (w / 64) 64 (omega arith)) (lt-ltb (w % 64) 64 (omega arith))

entry_lawful : {S : Type 0} (o : Option TheKey) (p : Option S) → is_some o ≡ true → is_some p ≡ true → is_some (entry o p) ≡ true
entry_lawful (Some a) (Some b) e f = refl
entry_lawful (Some a) None e f = f
entry_lawful None p e f = e

module _ {S : Type 0} (k : Kind S) (ws : List ℕ) where
  -- no word of these columns has a cause; the first begins at place p
  abbrev pub Clean : List Column → ℕ → Type 0
  Clean cs p = in_columns k cs p (drop p ws) ≡ None

  pub column_at : (c : Column) (cs : List Column) (p : ℕ) → Clean (c ∷ cs) p → p + c.size ≤ length ws → (j : ℕ) → j < c.size → cause k c.test (get_or ws (p + j) 0) ≡ None
  column_at c cs p e h j l =
      let part = take c.size (drop p ws) in
      let q = or_parts (first (cause k c.test) p part) _ e in
      let n : j < length part = simp (length-take, length-drop) (omega arith) in
      sym (ap (cause k c.test) (get_or-take c.size (drop p ws) j 0 l ∙ get_or-drop p ws j 0)) ∙ none_at (cause k c.test) p part j 0 q.0 n

  pub next_column : (c : Column) (cs : List Column) (p q : ℕ) → q ≡ p + c.size → Clean (c ∷ cs) p → Clean cs q
  next_column c cs p q f e =
      subst (Clean cs) (sym f) (ap (in_columns k cs (p + c.size)) (sym (drop-drop c.size p ws)) ∙ (or_parts (first (cause k c.test) p (take c.size (drop p ws))) _ e).1)

  pub next_table : (c d : Column) (cs : List Column) (p q : ℕ) → q ≡ p + c.size + d.size → Clean (c ∷ d ∷ cs) p → Clean cs q
  next_table c d cs p q f e = next_column d cs (p + c.size) q f (next_column c (d ∷ cs) p (p + c.size) refl e)

  -- keys and words of strengths that pass make entries
  pub entries_lawful : (posts steps n : ℕ) (cs : List Column) (p : ℕ) → posts ≤ 64 → p + 2 * n ≤ length ws
      → Clean (record { test = Key posts steps; size = n } ∷ record { test = Strength; size = n } ∷ cs) p
      → (j : ℕ) → j < n → is_some ((entry_layout k).of_words (get_or ws (p + j) 0) (get_or ws (p + n + j) 0)) ≡ true
  entries_lawful posts steps n cs p l h e j i =
      let a : Column = record { test = Key posts steps; size = n } in
      let b : Column = record { test = Strength; size = n } in
      entry_lawful _ _ (key_lawful posts steps (get_or ws (p + j) 0) l (column_at a (b ∷ cs) p e (omega arith) j i))
      (strength_lawful (k.of_word (get_or ws (p + n + j) 0)) (column_at b cs (p + n) (next_column a (b ∷ cs) p (p + n) refl e) (omega arith) j i))

module _ (ws : List ℕ) where
  cut : (p n q : ℕ) (us : List ℕ) → us ≡ take n (drop p ws) → q ≡ p + n → drop p ws ≡ us ++ drop q ws
  cut p n q us e f = sym (take-append-drop n (drop p ws)) ∙ ap₂ (λ u v. u ++ v) (sym e) (drop-drop n p ws ∙ ap (λ m. drop m ws) (sym f))

  cut_table : {R : Type 0} (f : Layout R) (rs : List R) (p n q : ℕ) → TableAt f ws p n rs → q ≡ p + 2 * n → drop p ws ≡ map f.first_word rs ++ (map f.second_word rs ++ drop q ws)
  cut_table f rs p n q t e = cut p n (p + n) _ t.0 refl ∙ ap (λ u. map f.first_word rs ++ u) (cut (p + n) n q _ t.1 (omega arith))

-- the rows that lie at these places
pub record RowsAt {S : Type 0} (k : Kind S) (s : Sizes) (ws : List ℕ) (r : Rules S) : Type 0 where
  pub posts : r.posts ≡ s.posts
  pub steps : r.steps ≡ s.steps
  pub marks : map (λ m. m.0) r.marks ≡ take s.people (drop 8 ws)
  pub plays : TableAt play_layout ws (plays_at s) s.plays r.plays
  pub covers : TableAt cover_layout ws (covers_at s) s.covers r.covers
  pub holds : TableAt (entry_layout k) ws (holds_at s) s.holds r.holds
  pub bars : TableAt (entry_layout k) ws (bars_at s) s.bars r.bars
  pub clashes : TableAt clash_layout ws (clashes_at s) s.clashes r.clashes

-- the sizes and the rest are the whole
front : (ws : List ℕ) → 8 ≤ length ws → listed_sizes (sizes_of ws) ++ drop 8 ws ≡ ws
front (a ∷ b ∷ c ∷ d ∷ e ∷ f ∷ g ∷ h ∷ ws) l = refl
front [] l = absurd (omega arith)
front (a ∷ []) l = absurd (omega arith)
front (a ∷ b ∷ []) l = absurd (omega arith)
front (a ∷ b ∷ c ∷ []) l = absurd (omega arith)
front (a ∷ b ∷ c ∷ d ∷ []) l = absurd (omega arith)
front (a ∷ b ∷ c ∷ d ∷ e ∷ []) l = absurd (omega arith)
front (a ∷ b ∷ c ∷ d ∷ e ∷ f ∷ []) l = absurd (omega arith)
front (a ∷ b ∷ c ∷ d ∷ e ∷ f ∷ g ∷ []) l = absurd (omega arith)

pub regroup : (m a b c d e f g h x y : List ℕ) → (m ++ (a ++ (b ++ (c ++ (d ++ (e ++ (f ++ (g ++ (h ++ (x ++ [])))))))))) ++ y ≡ m ++ (a ++ (b ++ (c ++ (d ++ (e ++ (f ++ (g ++ (h ++ (x ++ y)))))))))
regroup m a b c d e f g h x y = simp (append_assoc, append-nil)

size_from : {X : Type 0} (f : X → ℕ) (xs : List X) (ws : List ℕ) (p n : ℕ) → map f xs ≡ take n (drop p ws) → p + n ≤ length ws → length xs ≡ n
size_from f xs ws p n e h = sym (length-map xs f) ∙ ap length e ∙ length-take-le n (drop p ws) (simp length-drop (omega arith))

module _ {S : Type 0} (k : Kind S) (s : Sizes) (ws : List ℕ) (r : Rules S) (t : RowsAt k s ws r) (whole : length ws ≡ last_at s + s.clashes) (sizes : s ≡ sizes_of ws) where
  sizes_same : sizes_in r ≡ s
  sizes_same =
      let n1 = size_from _ r.marks ws 8 s.people t.marks (omega arith) in
      let n2 = size_from _ r.plays ws (plays_at s) s.plays t.plays.0 (omega arith) in
      let n3 = size_from _ r.covers ws (covers_at s) s.covers t.covers.0 (omega arith) in
      let n4 = size_from _ r.holds ws (holds_at s) s.holds t.holds.0 (omega arith) in
      let n5 = size_from _ r.bars ws (bars_at s) s.bars t.bars.0 (omega arith) in
      let n6 = size_from _ r.clashes ws (clashes_at s) s.clashes t.clashes.0 (omega arith) in
      λ j. record { people = n1 j; posts = t.posts j; steps = t.steps j; plays = n2 j; covers = n3 j; holds = n4 j; bars = n5 j; clashes = n6 j }

  end : drop (last_at s + s.clashes) ws ≡ []
  end = nil_from_length (drop (last_at s + s.clashes) ws) (simp length-drop (omega arith))

  columns_same : drop 8 (words_in k r) ≡ drop 8 ws
  columns_same =
      regroup (map (λ m. m.0) r.marks) (map (λ p. p.person.0) r.plays) (map (λ p. p.post.0) r.plays) (map (λ p. p.stronger.0) r.covers) (map (λ p. p.weaker.0) r.covers)
      (map (λ p. key_word p.key) r.holds) (map (λ p. k.word p.strength) r.holds) (map (λ p. key_word p.key) r.bars) (map (λ p. k.word p.strength) r.bars) (map (λ p. p.one.0) r.clashes) (map (λ p. p.other.0) r.clashes)
      ∙ sym (cut ws 8 s.people (plays_at s) _ t.marks refl
      ∙ ap (λ u. map (λ m. m.0) r.marks ++ u) (cut_table ws play_layout r.plays (plays_at s) s.plays (covers_at s) t.plays refl
      ∙ ap (λ u. map (λ p. p.person.0) r.plays ++ (map (λ p. p.post.0) r.plays ++ u)) (cut_table ws cover_layout r.covers (covers_at s) s.covers (holds_at s) t.covers refl
      ∙ ap (λ u. map (λ p. p.stronger.0) r.covers ++ (map (λ p. p.weaker.0) r.covers ++ u)) (cut_table ws (entry_layout k) r.holds (holds_at s) s.holds (bars_at s) t.holds refl
      ∙ ap (λ u. map (λ p. key_word p.key) r.holds ++ (map (λ p. k.word p.strength) r.holds ++ u)) (cut_table ws (entry_layout k) r.bars (bars_at s) s.bars (clashes_at s) t.bars refl
      ∙ ap (λ u. map (λ p. key_word p.key) r.bars ++ (map (λ p. k.word p.strength) r.bars ++ u)) (cut_table ws clash_layout r.clashes (clashes_at s) s.clashes (last_at s + s.clashes) t.clashes (omega arith)
      ∙ ap (λ u. map (λ p. p.one.0) r.clashes ++ (map (λ p. p.other.0) r.clashes ++ u)) end
      ∙ ap (λ u. map (λ p. p.one.0) r.clashes ++ u) (append-nil (map (λ p. p.other.0) r.clashes))))))))

  pub words_same : words_in k r ≡ ws
  words_same = ap₂ (λ u v. listed_sizes u ++ v) (sizes_same ∙ sizes) columns_same ∙ front ws (omega arith)

  pub rows_fit : ReadsBack k → judged k (due s) s ws ≡ None → fits r ≡ true
  rows_fit law z = sound_fits k r law (ap (λ u. judged k (due u) u (words_in k r)) sizes_same ∙ ap (judged k (due s) s) words_same ∙ z)
