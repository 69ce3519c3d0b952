use Rattle.std.proofs.Common.{◌≡◌, ℕ, ◌+◌, ◌-◌, ◌<◌, ◌≤◌, true, List, map, length, get_or, take, drop, is_some, None, sym, refl, ap, ◌∙◌, subst, arith}
use Rattle.std.proofs.lemmas.List.{length-map}
use Rattle.strength.specs.Kind.{Kind}
use Rattle.book.specs.declared.form.Column.{Column}
use Rattle.book.specs.declared.form.Places.{Places}
use Rattle.book.specs.declared.form.Sizes.{Sizes}
use Rattle.book.specs.declared.form.Test.TheVariants.{Below, Key, Strength}
use Rattle.book.specs.Words.{word_of}
use Rattle.book.specs.Layouts.{Layout, TableAt, play_layout, cover_layout, entry_layout, clash_layout}
use Rattle.book.specs.Form.{columns, due, judged}
use Rattle.book.specs.Places.{plays_at, covers_at, holds_at, bars_at}
use Rattle.book.specs.Rules.{Rules}
use Rattle.book.proofs.Columns.{part_at, part_length, part_words}
use Rattle.book.proofs.Cutting.{Clean, RowsAt, column_at, entries_lawful, in_range, next_column, next_table, rows_fit, words_same}
use Rattle.book.proofs.Judged.{judged-parts}
use Rattle.book.proofs.book.reads.read_all.Goals as goal

abbrev below : ℕ → ℕ → Column
below limit n = record { test = Below limit; size = n }

abbrev keys : ℕ → ℕ → ℕ → Column
keys posts steps n = record { test = Key posts steps; size = n }

abbrev strengths : ℕ → Column
strengths n = record { test = Strength; size = n }

module _ {S : Type 0} (k : Kind S) (s : Sizes) (ws : List ℕ) (sound : judged k (due s) s ws ≡ None) where
  from_marks : Clean k ws (columns s) 8
  from_marks = (judged-parts k (due s) s ws (omega arith) refl sound).1

  from_plays : Clean k ws (drop 1 (columns s)) (plays_at s)
  from_plays = next_column k ws (below 16777216 s.people) (drop 1 (columns s)) 8 (plays_at s) refl from_marks

  from_covers : Clean k ws (drop 3 (columns s)) (covers_at s)
  from_covers = next_table k ws (below s.people s.plays) (below s.posts s.plays) (drop 3 (columns s)) (plays_at s) (covers_at s) (omega arith) from_plays

  from_holds : Clean k ws (drop 5 (columns s)) (holds_at s)
  from_holds = next_table k ws (below s.steps s.covers) (below s.steps s.covers) (drop 5 (columns s)) (covers_at s) (holds_at s) (omega arith) from_covers

  from_bars : Clean k ws (drop 7 (columns s)) (bars_at s)
  from_bars = next_table k ws (keys s.posts s.steps s.holds) (strengths s.holds) (drop 7 (columns s)) (holds_at s) (bars_at s) (omega arith) from_holds

pub read_marks-requires : goal.read_marks-requires
read_marks-requires g c =
    let k = g.S.Strength.kind in
    let s = c.args.plan.sizes in
    let w = c.args.words.now in
    let ws = map word_of w in
    let e : c.places-places.result.plays - 8 ≡ s.people = omega (arith, ap (λ (q : Places). q.plays) c.places-places.ensures) in
    let long : 8 + s.people ≤ length ws = omega (arith, length-map w word_of) in
    let n = part_length 8 _ s.people w e (omega arith) in
    λ j h.
    (let l : j < s.people = omega (arith, n, length-map (take (c.places-places.result.plays - 8) (drop 8 w)) word_of, h) in
    subst (λ x. x < 16777216) (sym (part_at 8 _ s.people j w e l))
    (in_range 16777216 _ (column_at k ws (below 16777216 s.people) (drop 1 (columns s)) 8 (from_marks k s ws c.requires.sound) long j l)))

-- rows of keys and strengths at a place that is told as another
entries_at : {S : Type 0} (k : Kind S) (ws : List ℕ) (n : ℕ) {p q : ℕ} → p ≡ q → ((j : ℕ) → j < n → is_some ((entry_layout k).of_words (get_or ws (q + j) 0) (get_or ws (q + n + j) 0)) ≡ true)
    → (j : ℕ) → j < n → is_some ((entry_layout k).of_words (get_or ws (p + j) 0) (get_or ws (p + n + j) 0)) ≡ true
entries_at k ws n e h = subst (λ p. (j : ℕ) → j < n → is_some ((entry_layout k).of_words (get_or ws (p + j) 0) (get_or ws (p + n + j) 0)) ≡ true) (sym e) h

pub read_table-requires-3 : goal.read_table-requires-3
read_table-requires-3 g c =
    let s = c.args.plan.sizes in
    let ws = map word_of c.args.words.now in
    let n = length-map c.args.words.now word_of in
    let at = ap (λ (q : Places). q.holds) c.places-places.ensures in
    record {
      room = omega arith;
      lawful = entries_at g.S.Strength.kind ws s.holds at
          (entries_lawful g.S.Strength.kind ws s.posts s.steps s.holds (drop 7 (columns s)) (holds_at s) c.args.plan.small.posts (omega arith) (from_holds g.S.Strength.kind s ws c.requires.sound));
    }

pub read_table-requires-4 : goal.read_table-requires-4
read_table-requires-4 g c =
    let s = c.args.plan.sizes in
    let ws = map word_of c.args.words.now in
    let n = length-map c.args.words.now word_of in
    let at = ap (λ (q : Places). q.bars) c.places-places.ensures in
    record {
      room = omega arith;
      lawful = entries_at g.S.Strength.kind ws s.bars at
          (entries_lawful g.S.Strength.kind ws s.posts s.steps s.bars (drop 9 (columns s)) (bars_at s) c.args.plan.small.posts (omega arith) (from_bars g.S.Strength.kind s ws c.requires.sound));
    }

-- a table at a place that is told as another
table_at : {R : Type 0} (f : Layout R) (ws : List ℕ) (n : ℕ) (rs : List R) {p q : ℕ} → p ≡ q → TableAt f ws p n rs → TableAt f ws q n rs
table_at f ws n rs e t = subst (λ p. TableAt f ws p n rs) e t

pub returns : goal.returns
returns g c =
    let k = g.S.Strength.kind in
    let s = c.args.plan.sizes in
    let w = c.args.words.now in
    let ws = map word_of w in
    let at = c.places-places.ensures in
    let r : Rules g.row.S.Denot = record {
      posts = s.posts;
      steps = s.steps;
      marks = c.in_ok-marks.marks.items;
      plays = c.in_ok-plays.plays.items;
      covers = c.in_ok-covers.covers.items;
      holds = c.in_ok-holds.holds.items;
      bars = c.in_ok-bars.bars.items;
      clashes = c.in_ok-clashes.clashes.items;
    } in
    let t : RowsAt k s ws r = record {
      posts = refl;
      steps = refl;
      marks = c.in_ok-marks.ensures ∙ part_words 8 _ s.people w (omega (arith, ap (λ (q : Places). q.plays) at));
      plays = table_at play_layout ws s.plays r.plays (ap (λ (q : Places). q.plays) at) c.in_ok-plays.ensures;
      covers = table_at cover_layout ws s.covers r.covers (ap (λ (q : Places). q.covers) at) c.in_ok-covers.ensures;
      holds = table_at (entry_layout k) ws s.holds r.holds (ap (λ (q : Places). q.holds) at) c.in_ok-holds.ensures;
      bars = table_at (entry_layout k) ws s.bars r.bars (ap (λ (q : Places). q.bars) at) c.in_ok-bars.ensures;
      clashes = table_at clash_layout ws s.clashes r.clashes (ap (λ (q : Places). q.clashes) at) c.in_ok-clashes.ensures;
    } in
    let long = length-map w word_of ∙ c.requires.long in (
      rows_fit k s ws r t long c.requires.sizes g.met.S.Strength.reads_back c.requires.sound,
      words_same k s ws r t long c.requires.sizes,
    )
