-- A question is told yes exactly when that is due.
use Rattle.std.proofs.Common.{◌≡◌, ℕ, ◌↔◌, List, [], ◌∷◌, Some, Err, Result, refl, subst, inl, inr}
use Rattle.strength.specs.Kind.{Kind}
use Rattle.book.specs.Rules.{Rules}
use Rattle.delegation.specs.Rights.{Entitled}
use Rattle.register.specs.Answers.{Answers, DueYes}
use Rattle.register.specs.Answers.Answers.{refused, opened, closed, granted, told_yes, told_no}
use Rattle.register.specs.Causes.{causes, right_to}
use Rattle.register.specs.Refusals.{Allowed, Check, Refused}
use Rattle.register.specs.Replies.{ToldYes}
use Rattle.register.specs.State.{State}
use Rattle.register.specs.declared.calls.Call.{Call}
use Rattle.register.specs.declared.calls.Call.TheVariants.{Open, Close, Entitled as Asks, Grant as Grants}
use Rattle.register.specs.declared.faults.Cause.{Cause}
use Rattle.register.specs.declared.faults.RegisterFault.{RegisterFault}

-- a call is not both refused and allowed
not_both : (cs : List Check) (n : Cause) (p : ℕ) → Refused cs n p → Allowed cs → ⊥
not_both [] n p h a = h
not_both (c ∷ cs) n p (inl h) a = a.0 p h.1
not_both (c ∷ cs) n p (inr h) a = not_both cs n p h.1 a.1

module _ {S : Type 0} (k : Kind S) (r : Rules S) where
  -- a word stands for one strength
  at_strength : (w : ℕ) (s : S) (P : S → Type 0) → k.of_word w ≡ Some s → (x : S) × (k.of_word w ≡ Some x) × P x → P s
  at_strength w s P e x = let f = x.1 in let q : x.0 ≡ s = cc in subst P q x.2

  refused_tells : (st : State S) (c : Call) (f : RegisterFault) → Refused (causes k r st c) f.cause f.place → ToldYes c (Err f) ↔ DueYes k r st c
  refused_tells st (Open n) f h = ((λ e. e), (λ e. e))
  refused_tells st (Close n) f h = ((λ e. e), (λ e. e))
  refused_tells st (Asks u t w n) f h = ((λ e. absurd (cc)), (λ d. absurd (not_both (causes k r st (Asks u t w n)) f.cause f.place h d.0)))
  refused_tells st (Grants g u t w n) f h = ((λ e. e), (λ e. e))

  pub tells : (st su : State S) (c : Call) (e : Result ℕ RegisterFault) → Answers k r st c e su → ToldYes c e ↔ DueYes k r st c
  tells st su c e (refused {f = f} h) = refused_tells st c f h
  tells st su c e (opened a) = ((λ x. x), (λ x. x))
  tells st su c e (closed a ls gs ds m) = ((λ x. x), (λ x. x))
  tells st su c e (granted a w b m) = ((λ x. x), (λ x. x))
  tells st su c e (told_yes {s = s} a w y) = ((λ _. (a, (s, w, y))), (λ _. refl))
  tells st su c e (told_no {u = u} {t = t} {w = w} {n = n} {s = s} a is not) =
      ((λ x. absurd (cc)), (λ d. absurd (not (at_strength w s (λ x. Entitled k r st.grants u (right_to t x) n) is d.1))))
