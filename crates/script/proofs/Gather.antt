-- Gathering numbers one by one gives them all, or the first field that is none.
use Rattle.std.proofs.Common.{◌≡◌, ℕ, suc, ◌+◌, ◌<◌, ◌≤◌, eqb, ltb, List, [], ◌∷◌, length, get_or, drop, set, Some, None, Ok, Err, Option, Result, sym, refl, ap, ◌∙◌, add-one, arith, lit<, lit≤}
use Rattle.std.proofs.lemmas.Bool.{cond-true, cond-false, eq-eqb, le-ltb}
use Rattle.std.proofs.lemmas.List.{get_or_append_left}
use Rattle.std.proofs.lemmas.List.Edits.{sets, sets-eq}
use Rattle.script.specs.declared.faults.Cause.{Cause}
use Rattle.script.specs.declared.faults.Cause.TheVariants.{NotANumber}
use Rattle.script.specs.declared.parsing.Command.{Command}
use Rattle.script.specs.declared.parsing.Command.TheVariants.{Opening, Closing, Asking, Granting}
use Rattle.register.specs.declared.calls.Call.{Call}
use Rattle.register.specs.declared.calls.Call.TheVariants.{Open, Close, Entitled, Grant}
use Rattle.script.specs.Grammar.{cut, numbered, by_number, gathered, zeros}
use Rattle.script.specs.Parsed.{arity, called, first, known, lettered, first_bad, values, by_fault, by_letter, by_fields, parsed}

one : (o : Option ℕ) (k : ℕ) (vs : List ℕ) (fs : List (List ℕ)) → ((v : ℕ) → gathered (k + 1) (set vs k v) fs ≡ by_fault (first_bad (k + 1) fs) (sets (set vs k v) (k + 1) (values fs))) → by_number o (Err (NotANumber, k)) (λ v. gathered (k + 1) (set vs k v) fs) ≡ by_fault (by_number o (Some k) (λ _. first_bad (k + 1) fs)) (sets (set vs k (by_number o 0 (λ v. v))) (suc k) (values fs))
one None k vs fs h = refl
one (Some v) k vs fs h = h v ∙ ap (λ (j : ℕ). by_fault (first_bad (k + 1) fs) (sets (set vs k v) j (values fs))) (add-one k)

pub gathered_is : (k : ℕ) (vs : List ℕ) (fs : List (List ℕ)) → gathered k vs fs ≡ by_fault (first_bad k fs) (sets vs k (values fs))
gathered_is k vs [] = refl
gathered_is k vs (f ∷ fs) = one (numbered f) k vs fs (λ v. gathered_is (k + 1) (set vs k v) fs)

-- a call reads as many places as it has fields
called_same : (k : Command) (v w : List ℕ) → ((j : ℕ) → j < arity k → get_or v j 0 ≡ get_or w j 0) → called k v ≡ called k w
called_same Opening v w h = λ i. Open (record { 0 = h 0 (lit< tt) i })
called_same Closing v w h = λ i. Close (record { 0 = h 0 (lit< tt) i })
called_same Granting v w h = λ i. Grant (record { 0 = h 0 (lit< tt) i }) (record { 0 = h 1 (lit< tt) i }) (record { 0 = h 2 (lit< tt) i }) (h 3 (lit< tt) i) (record { 0 = h 4 (lit< tt) i })
called_same Asking v w h = λ i. Entitled (record { 0 = h 0 (lit< tt) i }) (record { 0 = h 1 (lit< tt) i }) (h 2 (lit< tt) i) (record { 0 = h 3 (lit< tt) i })

arity_le : (k : Command) → arity k ≤ 5
arity_le Opening = lit≤ tt
arity_le Closing = lit≤ tt
arity_le Granting = lit≤ tt
arity_le Asking = lit≤ tt

length-values : (fs : List (List ℕ)) → length (values fs) ≡ length fs
length-values [] = refl
length-values (f ∷ fs) = ap suc (length-values fs)

-- the call read from five places is the one of the values
called-values : (k : Command) (fs : List (List ℕ)) → length fs ≡ arity k → called k (sets zeros 0 (values fs)) ≡ called k (values fs)
called-values k fs e =
    let l = length-values fs in
    let a = arity_le k in
    called_same k _ _ (λ j lt. ap (λ (x : List ℕ). get_or x j 0) (sets-eq (values fs) zeros 0 (omega arith)) ∙ get_or_append_left (values fs) _ 0 j (omega arith))

-- what the code does after it has counted the fields
abbrev pub by_values : Command → Result (List ℕ) (Cause × ℕ) → Result Call (Cause × ℕ)
by_values k (Ok vs) = Ok (called k vs)
by_values k (Err e) = Err e

by_values_fault : (k : Command) (o : Option ℕ) (vs : List ℕ) → by_values k (by_fault o vs) ≡ by_fault o (called k vs)
by_values_fault k None vs = refl
by_values_fault k (Some p) vs = refl

pub by_steps : (k : Command) (fs : List (List ℕ)) → length fs ≡ arity k → by_values k (gathered 0 zeros fs) ≡ by_fault (first_bad 0 fs) (called k (values fs))
by_steps k fs e =
    ap (by_values k) (gathered_is 0 zeros fs)
    ∙ by_values_fault k (first_bad 0 fs) (sets zeros 0 (values fs))
    ∙ ap (λ (c : Call). by_fault (first_bad 0 fs) c) (called-values k fs e)

-- a line of the right length and letter, with the right number of fields
module _ (line : List ℕ) (k : Command) (short : length line ≤ 120) where
  fields_steps : (o : Option Command) (fs : List (List ℕ)) → known o ≡ Ok k → length fs ≡ arity k → by_letter o fs ≡ by_values k (gathered 0 zeros fs)
  fields_steps None fs l n = cc
  fields_steps (Some j) fs l n =
      let e : j ≡ k = cc in
      ap (λ (i : Command). by_letter (Some i) fs) e ∙ cond-true (eqb (length fs) (arity k)) _ _ (eq-eqb (length fs) (arity k) n) ∙ sym (by_steps k fs n)

  parts_steps : (ps : List (List ℕ)) (n : ℕ) → n + 1 ≡ length ps → known (lettered (first ps)) ≡ Ok k → n ≡ arity k → by_fields ps ≡ by_values k (gathered 0 zeros (drop 1 ps))
  parts_steps [] n m l e = absurd (omega arith)
  parts_steps (f ∷ fs) n m l e = fields_steps (lettered f) fs l (omega arith)

  pub parsed_steps : (n : ℕ) → n + 1 ≡ length (cut 32 line) → known (lettered (first (cut 32 line))) ≡ Ok k → n ≡ arity k → parsed line ≡ by_values k (gathered 0 zeros (drop 1 (cut 32 line)))
  parsed_steps n m l e = cond-false (ltb 120 (length line)) _ _ (le-ltb 120 (length line) short) ∙ parts_steps (cut 32 line) n m l e
