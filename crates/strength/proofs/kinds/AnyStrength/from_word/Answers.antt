-- No half has a word of more than 32 bits.
use Rattle.std.proofs.Common.{◌≡◌, ℕ, ◌<◌, ◌^◌, Some, None, Option, sym, ◌∙◌, ap, subst, refl}
use Rattle.std.proofs.lemmas.Option.{none-some}
use Rattle.std.proofs.lemmas.Result.{Ok-from_Ok_iff}
use Rattle.std.specs.Result.{result_ok}
use Rattle.strength.specs.Kind.{Kind, KeepsWord, Short}
use Rattle.strength.proofs.kinds.AnyStrength.from_word.Goals as goal

none_long : {S : Type 0} (k : Kind S) → KeepsWord k → Short k → (w : ℕ) → (w < 2 ^ 32 → ⊥) → (o : Option S) → k.of_word w ≡ o → None ≡ o
none_long k keeps short w long None e = refl
none_long k keeps short w long (Some a) e = absurd (long (subst (λ v. v < 2 ^ 32) (keeps w a e) (short a)))

pub returns-in_err-word : goal.returns-in_err-word
returns-in_err-word g c =
    let k = g.H.Half.half in
    let w = c.args.word in
    let was : c.ok.result ≡ None = c.in_err-word.was in
    let long : w < 2 ^ 32 → ⊥ = λ short. none-some w (sym was ∙ c.ok.ensures.value ∙ ap result_ok (Ok-from_Ok_iff c.try_from.result (w < 2 ^ 32) w c.try_from.ensures short)) in
    c.from_residual.ensures ∙ none_long k g.met.H.Half.keeps_word g.met.H.Half.short w long (k.of_word w) refl
