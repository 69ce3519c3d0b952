-- A book written part by part.
use Rattle.std.proofs.Common.{◌≡◌, ℕ, ◌+◌, ◌*◌, ◌≤◌, List, [], ◌++◌, map, length, drop, refl, ap, ◌∙◌, append_assoc, append-nil, zero-add, arith}
use Rattle.std.proofs.lemmas.List.{length-append, length-map}
use Rattle.strength.specs.Kind.{Kind}
use Rattle.book.specs.Words.{spelled}
use Rattle.book.specs.Over.{over}
use Rattle.book.specs.Layouts.{Layout, flat, play_layout, cover_layout, entry_layout, clash_layout}
use Rattle.book.specs.Form.{listed_sizes, due}
use Rattle.book.specs.Entries.{key_word}
use Rattle.book.specs.Rules.{Rules, sizes_in, words_in, written}
use Rattle.book.proofs.Overs.{over-words}
use Rattle.book.proofs.Sound.{written_long}

step : (old : List ℕ) {o o2 : List ℕ} {q : ℕ} (ws xs : List ℕ) {n : ℕ} → o ≡ over old 0 (spelled ws) → length ws ≡ n → q ≡ 8 * n → q ≤ length old → o2 ≡ over o q (spelled xs) → o2 ≡ over old 0 (spelled (ws ++ xs))
step old {o} {o2} {q} ws xs e l p h f = f ∙ ap (λ t. over t q (spelled xs)) e ∙ over-words old 0 q ws xs (omega arith) h

grow : (ws xs : List ℕ) {n m : ℕ} → length ws ≡ n → length xs ≡ m → length (ws ++ xs) ≡ n + m
grow ws xs p q = let e = length-append ws xs in omega arith

flat_long : {R : Type 0} (f : Layout R) (rs : List R) → length (flat f rs) ≡ length rs + length rs
flat_long f rs = length-append (map f.first_word rs) (map f.second_word rs) ∙ (let a = length-map rs f.first_word in let b = length-map rs f.second_word in omega arith)

whole : (old ws : List ℕ) → over old 0 (spelled ws) ≡ spelled ws ++ drop (length (spelled ws)) old
unfolding over
whole old ws = ap (λ n. spelled ws ++ drop n old) (zero-add (length (spelled ws)))

regroup : (z m a b c d e f g h x y : List ℕ) → (((((z ++ m) ++ (a ++ b)) ++ (c ++ d)) ++ (e ++ f)) ++ (g ++ h)) ++ (x ++ y) ≡ z ++ ((m ++ (a ++ (b ++ (c ++ (d ++ (e ++ (f ++ (g ++ (h ++ (x ++ [])))))))))) ++ y)
regroup z m a b c d e f g h x y = simp (append_assoc, append-nil)

module _ {S : Type 0} (k : Kind S) (r : Rules S) where
  pub written_over : (old : List ℕ) {o1 o2 o3 o4 o5 o6 o7 : List ℕ} {p1 p2 p3 p4 p5 : ℕ} → due (sizes_in r) ≤ length old
      → o1 ≡ over old 0 (spelled (listed_sizes (sizes_in r))) → o2 ≡ over o1 64 (spelled (map (λ m. m.0) r.marks))
      → p1 ≡ 64 + 8 * length r.marks → o3 ≡ over o2 p1 (spelled (flat play_layout r.plays))
      → p2 ≡ p1 + 16 * length r.plays → o4 ≡ over o3 p2 (spelled (flat cover_layout r.covers))
      → p3 ≡ p2 + 16 * length r.covers → o5 ≡ over o4 p3 (spelled (flat (entry_layout k) r.holds))
      → p4 ≡ p3 + 16 * length r.holds → o6 ≡ over o5 p4 (spelled (flat (entry_layout k) r.bars))
      → p5 ≡ p4 + 16 * length r.bars → o7 ≡ over o6 p5 (spelled (flat clash_layout r.clashes))
      → o7 ≡ written k r ++ drop (due (sizes_in r)) old
  written_over old h e1 e2 q1 e3 q2 e4 q3 e5 q4 e6 q5 e7 =
      let w1 = listed_sizes (sizes_in r) in
      let w2 = w1 ++ map (λ m. m.0) r.marks in
      let w3 = w2 ++ flat play_layout r.plays in
      let w4 = w3 ++ flat cover_layout r.covers in
      let w5 = w4 ++ flat (entry_layout k) r.holds in
      let w6 = w5 ++ flat (entry_layout k) r.bars in
      let l1 : length w1 ≡ 8 = refl in
      let l2 = grow w1 (map (λ m. m.0) r.marks) l1 (length-map r.marks _) in
      let l3 = grow w2 (flat play_layout r.plays) l2 (flat_long play_layout r.plays) in
      let l4 = grow w3 (flat cover_layout r.covers) l3 (flat_long cover_layout r.covers) in
      let l5 = grow w4 (flat (entry_layout k) r.holds) l4 (flat_long (entry_layout k) r.holds) in
      let l6 = grow w5 (flat (entry_layout k) r.bars) l5 (flat_long (entry_layout k) r.bars) in
      let f2 = step old w1 (map (λ m. m.0) r.marks) e1 l1 refl (omega arith) e2 in
      let f3 = step old w2 (flat play_layout r.plays) f2 l2 (omega arith) (omega arith) e3 in
      let f4 = step old w3 (flat cover_layout r.covers) f3 l3 (omega arith) (omega arith) e4 in
      let f5 = step old w4 (flat (entry_layout k) r.holds) f4 l4 (omega arith) (omega arith) e5 in
      let f6 = step old w5 (flat (entry_layout k) r.bars) f5 l5 (omega arith) (omega arith) e6 in
      let f7 = step old w6 (flat clash_layout r.clashes) f6 l6 (omega arith) (omega arith) e7 in
      let z : w6 ++ flat clash_layout r.clashes ≡ words_in k r =
      regroup (listed_sizes (sizes_in r)) (map (λ m. m.0) r.marks) (map (λ p. p.person.0) r.plays) (map (λ p. p.post.0) r.plays) (map (λ p. p.stronger.0) r.covers) (map (λ p. p.weaker.0) r.covers)
      (map (λ p. key_word p.key) r.holds) (map (λ p. k.word p.strength) r.holds) (map (λ p. key_word p.key) r.bars) (map (λ p. k.word p.strength) r.bars) (map (λ p. p.one.0) r.clashes) (map (λ p. p.other.0) r.clashes) in
      f7 ∙ ap (λ ws. over old 0 (spelled ws)) z ∙ whole old (words_in k r) ∙ ap (λ n. written k r ++ drop n old) (written_long k r)
