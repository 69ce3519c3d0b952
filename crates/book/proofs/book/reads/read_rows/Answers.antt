use Rattle.std.proofs.Common.{◌≡◌, ℕ, ◌<◌, List, [], ◌∷◌, map, length, is_some, refl, sym, ap, ap₂, ◌∙◌, arith, rules}
use Rattle.std.specs.List.{zip}
use Rattle.std.proofs.lemmas.Iterator.{YieldsList-from_slice, YieldsList-from_zip, YieldsList-from_map_by}
use Rattle.std.proofs.lemmas.Iterator.Adapters.{serves_from_places}
use Rattle.std.proofs.lemmas.Iterator.Consumers.{YieldsList-at, map_from_collect}
use Rattle.std.proofs.lemmas.List.{get_or-map}
use Rattle.std.proofs.lemmas.Result.{IfOk-weaker}
use Rattle.std.proofs.lemmas.Slice.Zip.{get_or-zip, length-zip, firsts-zip, seconds-zip}
use Rattle.book.specs.Words.{word_of}
use Rattle.book.proofs.book.reads.read_rows.Goals as goal

fused : {A B C : Type 0} (g : B → C) (f : A → B) (xs : List A) → map g (map f xs) ≡ map (λ x. g (f x)) xs
fused g f [] = refl
fused g f (x ∷ xs) = ap (λ l. g (f x) ∷ l) (fused g f xs)

-- rows whose pairs of words are those of two columns have the words of each
columns : {X C : Type 0} (f s : X → ℕ) (g : C → ℕ) (rs : List X) (us vs : List C) → length vs ≡ length us → map {B = ℕ × ℕ} (λ r. (f r, s r)) rs ≡ map {B = ℕ × ℕ} (λ p. (g p.0, g p.1)) (zip us vs) → (map f rs ≡ map g us) × (map s rs ≡ map g vs)
columns {X} {C} f s g rs us vs same q =
    let w : X → ℕ × ℕ = λ r. (f r, s r) in
    let h : C × C → ℕ × ℕ = λ p. (g p.0, g p.1) in
    let zs = zip us vs in (
      sym (fused (λ p. p.0) w rs) ∙ ap (map (λ p. p.0)) q ∙ fused (λ p. p.0) h zs ∙ sym (fused g (λ p. p.0) zs) ∙ ap (map g) (firsts-zip us vs same),
      sym (fused (λ p. p.1) w rs) ∙ ap (map (λ p. p.1)) q ∙ fused (λ p. p.1) h zs ∙ sym (fused g (λ p. p.1) zs) ∙ ap (map g) (seconds-zip us vs same),
    )

pub collect-requires-clause-can : goal.collect-requires-clause-can
collect-requires-clause-can g c =
    let us = c.args.firsts.now in
    let vs = c.args.seconds.now in (
      (tt, tt),
      serves_from_places
          (YieldsList-from_zip (YieldsList-from_slice us cc) (YieldsList-from_slice vs cc))
          (λ x q h. search rules) (λ x k lt e.
          let l : k < length us = omega (arith, lt, length-zip us vs) in
          let m : k < length vs = omega (arith, lt, length-zip us vs) in
          let p = e ∙ get_or-zip us vs k (x.0.now, x.1.now) l m in
          let a = ap word_of (ap (λ q. q.0) p) ∙ sym (get_or-map word_of us k x.0.now 0 l) in
          let b = ap word_of (ap (λ q. q.1) p) ∙ sym (get_or-map word_of vs k x.1.now 0 m) in
          λ _ _ _ _ _ _ _ _ _. ap is_some (ap₂ g.R.Row.layout.of_words a b) ∙ c.requires.lawful k l),
    )

pub returns : goal.returns
returns g c =
    let us = c.args.firsts.now in
    let vs = c.args.seconds.now in
    let f = g.R.Row.layout in
    let r = map_from_collect {B = ℕ × ℕ} c.collect.result c.collect.ensures.ran
    (YieldsList-from_map_by _ (λ m. (f.first_word m, f.second_word m)) (λ p. (word_of p.0, word_of p.1))
    (YieldsList-at c.map.ensures.source (YieldsList-from_zip (YieldsList-at c.zip.ensures.first (YieldsList-from_slice us cc)) (YieldsList-from_slice vs cc)))
    c.map.ensures.closure (λ x r q h. search rules)) in
    IfOk-weaker c.collect.result _ _ (λ v q. columns f.first_word f.second_word word_of v.items us vs (sym c.requires.same) q) r
