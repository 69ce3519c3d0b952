-- The lines of a script that are obeyed so far.
use Rattle.std.proofs.Common.{◌≡◌, ℕ, ◌+◌, ◌≤◌, List, [], ◌∷◌, ◌++◌, length, drop, Result, sym, ap, ◌∙◌, subst, append_assoc, append-nil}
use Rattle.std.proofs.lemmas.List.{at_drop_more, at_drop_all}
use Rattle.strength.specs.Kind.{Kind}
use Rattle.register.specs.declared.register.Register.{Register}
use Rattle.script.specs.declared.faults.Fault.{Fault}
use Rattle.script.specs.Lines.{Asked, spoken}
use Rattle.script.specs.Parsed.{parsed}
use Rattle.script.specs.Runs.{Ran, more, none}
use Rattle.script.proofs.Places.{Turn}

-- n lines of all are obeyed, whatever the others go on to do
pub record Sofar {S : Type 0} (k : Kind S) (all : List (List ℕ)) (before : Register S) (held : List ℕ) (n : ℕ) (current : Register S) (holds : List ℕ) : Type 0 where
  pub text : List ℕ
  pub told : holds ≡ held ++ text
  pub on : (further : List ℕ) (after : Register S) → Ran k (n + 1) current (drop n all) further after → Ran k 1 before all (text ++ further) after

module _ {S : Type 0} (k : Kind S) (all : List (List ℕ)) (before : Register S) (held : List ℕ) where
  pub start : Sofar k all before held 0 before held
  start = record { text = []; told = sym (append-nil held); on = λ further after r. r }

  pub step : (n : ℕ) (current : Register S) (holds line : List ℕ) (place : ℕ) (reply : Result ℕ Fault) (next : Register S) (holds' : List ℕ)
      → Sofar k all before held n current holds → Turn all n place line → Asked k (parsed line) current reply next → holds' ≡ holds ++ spoken (place + 1) reply
      → Sofar k all before held (n + 1) next holds'
  step n current holds line place reply next holds' s t a h =
      let said = spoken (n + 1) reply in
      let e = at_drop_more (λ (ls : List (List ℕ)). ls) all n line t.within ∙ ap (λ (l : List ℕ). l ∷ drop (n + 1) all) t.item_is in
      record {
        text = s.text ++ said;
        told = h ∙ ap (λ (p : ℕ). holds ++ spoken (p + 1) reply) t.place_is ∙ ap (λ (x : List ℕ). x ++ said) s.told ∙ append_assoc held s.text said;
        on = λ further d r.
            subst (λ (x : List ℕ). Ran k 1 before all x d) (sym (append_assoc s.text said further))
            (s.on (said ++ further) d (subst (λ (ls : List (List ℕ)). Ran k (n + 1) current ls (said ++ further) d) (sym e) (more reply a r)));
      }

  pub finish : (n : ℕ) (current : Register S) (holds : List ℕ) → Sofar k all before held n current holds → length all ≤ n → record { text : List ℕ; told : holds ≡ held ++ text; ran : Ran k 1 before all text current }
  finish n current holds s e =
      let d : drop n all ≡ [] = at_drop_all (λ (ls : List (List ℕ)). ls) all n e in
      record {
        text = s.text;
        told = s.told;
        ran = subst (λ (x : List ℕ). Ran k 1 before all x current) (append-nil s.text) (s.on [] current (subst (λ (ls : List (List ℕ)). Ran k (n + 1) current ls [] current) (sym d) none));
      }
