-- What bytes are refused with, by cases.
use Rattle.std.proofs.Common.{◌≡◌, ℕ, ◌<◌, ◌≤◌, Bool, false, cond, eqb, ltb, List, length, drop, Some, None, Option, sym, refl, ap, ◌∙◌}
use Rattle.std.proofs.lemmas.Bool.{lt-ltb, le-ltb, eq-eqb, ne_eqb}
use Rattle.std.proofs.lemmas.Option.{none-some}
use Rattle.strength.specs.Kind.{Kind}
use Rattle.book.specs.declared.faults.Cause.{Cause}
use Rattle.book.specs.declared.faults.Cause.TheVariants.{ShortBook, WrongLength}
use Rattle.book.specs.declared.form.Sizes.{Sizes}
use Rattle.book.specs.Causes.{or_else}
use Rattle.book.specs.Form.{judged, in_sizes, in_columns, in_clashes, columns, due, sizes_of, refusal}
use Rattle.book.specs.Words.{words}

pub or_parts : (o q : Option (Cause × ℕ)) → or_else o q ≡ None → (o ≡ None) × (q ≡ None)
or_parts (Some f) q e = absurd (none-some _ (sym e))
or_parts None q e = (refl, e)

module _ {S : Type 0} (k : Kind S) (n : ℕ) (s : Sizes) (ws : List ℕ) where
  abbrev of_words : Option (Cause × ℕ)
  of_words = or_else (in_columns k (columns s) 8 (drop 8 ws)) (in_clashes s ws)

  abbrev by : Bool → Option (Cause × ℕ) → Bool → Option (Cause × ℕ)
  by a o b = cond a (Some (ShortBook, n)) (or_else o (cond b of_words (Some (WrongLength, due s))))

  shown : judged k n s ws ≡ by (ltb n 64) (in_sizes s) (eqb n (due s))
  unfolding judged
  shown = refl

  pub by_length : n < 64 → Some (ShortBook, n) ≡ judged k n s ws
  by_length h = sym (shown ∙ ap (λ a. by a (in_sizes s) (eqb n (due s))) (lt-ltb n 64 h))

  long : 64 ≤ n → judged k n s ws ≡ by false (in_sizes s) (eqb n (due s))
  long h = shown ∙ ap (λ a. by a (in_sizes s) (eqb n (due s))) (le-ltb n 64 h)

  pub by_size : 64 ≤ n → (f : Cause × ℕ) → Some f ≡ in_sizes s → Some f ≡ judged k n s ws
  by_size h f e = sym (long h ∙ ap (λ o. by false o (eqb n (due s))) (sym e))

  pub by-due : 64 ≤ n → None ≡ in_sizes s → (n ≡ due s → ⊥) → Some (WrongLength, due s) ≡ judged k n s ws
  by-due h e d = sym (long h ∙ ap (λ o. by false o (eqb n (due s))) (sym e) ∙ ap (λ b. by false None b) (ne_eqb n (due s) d))

  pub by-words : 64 ≤ n → None ≡ in_sizes s → n ≡ due s → of_words ≡ judged k n s ws
  by-words h e d = sym (long h ∙ ap (λ o. by false o (eqb n (due s))) (sym e) ∙ ap (λ b. by false None b) (eq-eqb n (due s) d))

  pub by_column : 64 ≤ n → None ≡ in_sizes s → n ≡ due s → (f : Cause × ℕ) → Some f ≡ in_columns k (columns s) 8 (drop 8 ws) → Some f ≡ judged k n s ws
  by_column h e d f c = ap (λ o. or_else o (in_clashes s ws)) c ∙ by-words h e d

  pub by_clash : 64 ≤ n → None ≡ in_sizes s → n ≡ due s → None ≡ in_columns k (columns s) 8 (drop 8 ws) → in_clashes s ws ≡ judged k n s ws
  by_clash h e d c = ap (λ o. or_else o (in_clashes s ws)) c ∙ by-words h e d

  pub judged-parts : 64 ≤ n → n ≡ due s → judged k n s ws ≡ None → (in_sizes s ≡ None) × (in_columns k (columns s) 8 (drop 8 ws) ≡ None) × (in_clashes s ws ≡ None)
  judged-parts h d e =
      let p = or_parts (in_sizes s) _ (sym (long h) ∙ e) in
      let q = or_parts (in_columns k (columns s) 8 (drop 8 ws)) (in_clashes s ws) (sym (ap (λ b. by false None b) (eq-eqb n (due s) d)) ∙ p.1) in
      (p.0, q.0, q.1)

pub refusal_is : {S : Type 0} (k : Kind S) (bs : List ℕ) (s : Sizes) (ws : List ℕ) → s ≡ sizes_of ws → ws ≡ words bs → judged k (length bs) s ws ≡ refusal k bs
refusal_is k bs s ws e f = ap (λ t. judged k (length bs) t ws) e ∙ ap (λ u. judged k (length bs) (sizes_of u) u) f
