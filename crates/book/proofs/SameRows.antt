-- Books with the same words have the same rows.
use Rattle.std.proofs.Common.{◌≡◌, ℕ, true, List, [], ◌∷◌, ◌++◌, map, length, get_or, take, drop, Some, sym, refl, ap, ◌∙◌, arith}
use Rattle.std.proofs.lemmas.List.{take_at, drop_at, length-map}
use Rattle.strength.specs.Kind.{Kind, Bounded, ReadsBack}
use Rattle.strength.specs.declared.values.Marks.{Marks}
use Rattle.book.specs.Words.{words}
use Rattle.book.specs.Layouts.{Layout, ReadsBackRow, play_layout, cover_layout, entry_layout, clash_layout}
use Rattle.book.specs.Entries.{key_word}
use Rattle.book.specs.Rules.{Rules, words_in, written, fits}
use Rattle.book.proofs.Cutting.{regroup}
use Rattle.book.specs.KeyLaws.{entry_reads_back}
use Rattle.book.proofs.WordsRead.{words-spelled, under_words}

same_part : (a b x y : List ℕ) → length a ≡ length b → a ++ x ≡ b ++ y → (a ≡ b) × (x ≡ y)
same_part a b x y l e = (
  sym (take_at a x (length a) refl) ∙ ap (take (length a)) e ∙ take_at b y (length a) (sym l),
  sym (drop_at a x (length a) refl) ∙ ap (drop (length a)) e ∙ drop_at b y (length a) (sym l),
)

some_same : {X : Type 0} (x y : X) → Some x ≡ Some y → x ≡ y
some_same x y e = cc

head_same : (x y : ℕ) (xs ys : List ℕ) → x ∷ xs ≡ y ∷ ys → (x ≡ y) × (xs ≡ ys)
head_same x y xs ys e = (cc, cc)

rows_same : {R : Type 0} (f : Layout R) → ReadsBackRow f → (xs ys : List R) → map f.first_word xs ≡ map f.first_word ys → map f.second_word xs ≡ map f.second_word ys → xs ≡ ys
rows_same f law [] [] p q = refl
rows_same f law [] (y ∷ ys) p q = let n = ap length p in absurd (omega arith)
rows_same f law (x ∷ xs) [] p q = let n = ap length p in absurd (omega arith)
rows_same f law (x ∷ xs) (y ∷ ys) p q =
    let a = head_same (f.first_word x) (f.first_word y) (map f.first_word xs) (map f.first_word ys) p in
    let b = head_same (f.second_word x) (f.second_word y) (map f.second_word xs) (map f.second_word ys) q in
    let e : x ≡ y = some_same x y (sym (law x) ∙ ap (λ u. f.of_words u (f.second_word x)) a.0 ∙ ap (f.of_words (f.first_word y)) b.0 ∙ law y) in
    ap (λ u. u ∷ xs) e ∙ ap (λ u. y ∷ u) (rows_same f law xs ys a.1 b.1)

marks_same : (xs ys : List Marks) → map (λ m. m.0) xs ≡ map (λ m. m.0) ys → xs ≡ ys
marks_same [] [] p = refl
marks_same [] (y ∷ ys) p = let n = ap length p in absurd (omega arith)
marks_same (x ∷ xs) [] p = let n = ap length p in absurd (omega arith)
marks_same (x ∷ xs) (y ∷ ys) p =
    let a = head_same x.0 y.0 (map (λ m. m.0) xs) (map (λ m. m.0) ys) p in
    let e : x ≡ y = λ i. record { 0 = a.0 i } in
    ap (λ u. u ∷ xs) e ∙ ap (λ u. y ∷ u) (marks_same xs ys a.1)

maps_long : {X : Type 0} (f : X → ℕ) (xs ys : List X) → length xs ≡ length ys → length (map f xs) ≡ length (map f ys)
maps_long f xs ys e = length-map xs f ∙ e ∙ sym (length-map ys f)

module _ {S : Type 0} (k : Kind S) (law : ReadsBack k) (r q : Rules S) where
  flat_out : (t : Rules S) → drop 8 (words_in k t) ≡ map (λ m. m.0) t.marks ++ (map (λ p. p.person.0) t.plays ++ (map (λ p. p.post.0) t.plays ++ (map (λ p. p.stronger.0) t.covers
      ++ (map (λ p. p.weaker.0) t.covers ++ (map (λ p. key_word p.key) t.holds ++ (map (λ p. k.word p.strength) t.holds ++ (map (λ p. key_word p.key) t.bars ++ (map (λ p. k.word p.strength) t.bars
      ++ (map (λ p. p.one.0) t.clashes ++ map (λ p. p.other.0) t.clashes)))))))))
  flat_out t = regroup (map (λ m. m.0) t.marks) (map (λ p. p.person.0) t.plays) (map (λ p. p.post.0) t.plays) (map (λ p. p.stronger.0) t.covers)
      (map (λ p. p.weaker.0) t.covers) (map (λ p. key_word p.key) t.holds) (map (λ p. k.word p.strength) t.holds) (map (λ p. key_word p.key) t.bars) (map (λ p. k.word p.strength) t.bars)
      (map (λ p. p.one.0) t.clashes) (map (λ p. p.other.0) t.clashes)

  pub words-rows : words_in k r ≡ words_in k q → r ≡ q
  words-rows e =
      let n0 : length r.marks ≡ length q.marks = ap (λ w. get_or w 0 0) e in
      let n1 : r.posts ≡ q.posts = ap (λ w. get_or w 1 0) e in
      let n2 : r.steps ≡ q.steps = ap (λ w. get_or w 2 0) e in
      let n3 : length r.plays ≡ length q.plays = ap (λ w. get_or w 3 0) e in
      let n4 : length r.covers ≡ length q.covers = ap (λ w. get_or w 4 0) e in
      let n5 : length r.holds ≡ length q.holds = ap (λ w. get_or w 5 0) e in
      let n6 : length r.bars ≡ length q.bars = ap (λ w. get_or w 6 0) e in
      let n7 : length r.clashes ≡ length q.clashes = ap (λ w. get_or w 7 0) e in
      let s0 = sym (flat_out r) ∙ ap (drop 8) e ∙ flat_out q in
      let p0 = same_part _ _ _ _ (maps_long (λ m. m.0) r.marks q.marks n0) s0 in
      let p1 = same_part _ _ _ _ (maps_long (λ p. p.person.0) r.plays q.plays n3) p0.1 in
      let p2 = same_part _ _ _ _ (maps_long (λ p. p.post.0) r.plays q.plays n3) p1.1 in
      let p3 = same_part _ _ _ _ (maps_long (λ p. p.stronger.0) r.covers q.covers n4) p2.1 in
      let p4 = same_part _ _ _ _ (maps_long (λ p. p.weaker.0) r.covers q.covers n4) p3.1 in
      let p5 = same_part _ _ _ _ (maps_long (λ p. key_word p.key) r.holds q.holds n5) p4.1 in
      let p6 = same_part _ _ _ _ (maps_long (λ p. k.word p.strength) r.holds q.holds n5) p5.1 in
      let p7 = same_part _ _ _ _ (maps_long (λ p. key_word p.key) r.bars q.bars n6) p6.1 in
      let p8 = same_part _ _ _ _ (maps_long (λ p. k.word p.strength) r.bars q.bars n6) p7.1 in
      let p9 = same_part _ _ _ _ (maps_long (λ p. p.one.0) r.clashes q.clashes n7) p8.1 in
      let m = marks_same r.marks q.marks p0.0 in
      let a = rows_same play_layout (λ x. refl) r.plays q.plays p1.0 p2.0 in
      let b = rows_same cover_layout (λ x. refl) r.covers q.covers p3.0 p4.0 in
      let c = rows_same (entry_layout k) (entry_reads_back k law) r.holds q.holds p5.0 p6.0 in
      let d = rows_same (entry_layout k) (entry_reads_back k law) r.bars q.bars p7.0 p8.0 in
      let f = rows_same clash_layout (λ x. refl) r.clashes q.clashes p9.0 p9.1 in
      λ j. record { posts = n1 j; steps = n2 j; marks = m j; plays = a j; covers = b j; holds = c j; bars = d j; clashes = f j }

  pub written-rows : Bounded k → fits r ≡ true → fits q ≡ true → written k r ≡ written k q → r ≡ q
  written-rows bound u v e =
      words-rows (sym (words-spelled (words_in k r) (under_words k bound r u)) ∙ ap words e ∙ words-spelled (words_in k q) (under_words k bound q v))
