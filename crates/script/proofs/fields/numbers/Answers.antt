use Rattle.std.proofs.Common.{◌≡◌, ◌+◌, ℕ, ◌<◌, List, length, drop, set, Some, None, Err, Option, refl, sym, ap, ◌∙◌, Bor, arith, rules, tests, of_calls}
use Rattle.std.proofs.lemmas.List.{at_drop_more, at_drop_all, length_push, length-drop}
use Rattle.std.proofs.lemmas.Iterator.Adapters.{YieldsList-from_skip}
use Rattle.std.proofs.lemmas.Iterator.Consumers.{YieldsList-at, YieldsList-from_enumerate}
use Rattle.std.proofs.lemmas.Iterator.Splits.{YieldsList-from_slice_split}
use Rattle.script.specs.Fields.{field_by}
use Rattle.script.specs.Grammar.{cut, by_number, numbered, gathered}
use Rattle.script.specs.declared.faults.Cause.TheVariants.{NotANumber}
use Rattle.script.specs.declared.fields.Field.TheVariants.{Number, Word}
use Rattle.script.proofs.Places.{Turn, turn, end}
use Rattle.script.proofs.fields.numbers.Goals as goal

-- what a field is told apart as says whether it is a number
number_is : (o : Option ℕ) (s t : Bor (List ℕ)) (k p v : ℕ) → Number t p v ≡ field_by o s k → o ≡ Some v
number_is None s t k p v e = cc
number_is (Some w) s t k p v e = cc

word_is : (o : Option ℕ) (s t : Bor (List ℕ)) (k p : ℕ) → Word t p ≡ field_by o s k → (o ≡ None) × (p ≡ k)
word_is None s t k p e = (refl, cc)
word_is (Some w) s t k p e = cc

-- one field more is gathered
more : (vs : List ℕ) (all : List (List ℕ)) (n k : ℕ) (f : List ℕ) (o : Option ℕ) → Turn all n k f → numbered f ≡ o → gathered n vs (drop n all) ≡ by_number o (Err (NotANumber, k)) (λ v. gathered (n + 1) (set vs k v) (drop (n + 1) all))
more vs all n k f o t e =
    let step = λ (p : Option ℕ) (j : ℕ). by_number p (Err (NotANumber, j)) (λ v. gathered (n + 1) (set vs j v) (drop (n + 1) all)) in
    at_drop_more (gathered n vs) all n f t.within ∙ ap (λ (g : List ℕ). step (numbered g) n) t.item_is ∙ ap (step (numbered f)) (sym t.place_is) ∙ ap (λ (p : Option ℕ). step p k) e

pub loop-k-init : goal.loop-k-init
loop-k-init c = record {
  can = search of_calls;
  ends = search of_calls;
  all =
      YieldsList-at c.into_iter-k-iterator.ensures.into_iter_gives (YieldsList-from_enumerate
      (YieldsList-at c.enumerate-k-items.ensures.source (YieldsList-from_skip 1
      (YieldsList-at c.skip.ensures.source (YieldsList-from_slice_split _ _ c.args.line.now c.split.ensures.rest c.split.ensures.done c.split.ensures.closure (λ x b q k. search (rules, tests))))
      c.skip.ensures.count)) c.enumerate-k-items.ensures.count);
  so_far = refl;
  five = search rules;
}

pub bounds-values-k : goal.bounds-values-k
bounds-values-k c =
    let t = turn _ _ c.loop-k.invariant.all c.loop-k.yielded _ c.loop-k.yielded_by _ _ _ c.in-Some.is c.next.ensures.steps in
    let l = length-drop 1 (cut 32 c.args.line.now) in
    omega arith

pub offset_bounds-values-k : goal.offset_bounds-values-k
offset_bounds-values-k c =
    let t = turn _ _ c.loop-k.invariant.all c.loop-k.yielded _ c.loop-k.yielded_by _ _ _ c.in-Some.is c.next.ensures.steps in
    let l = length-drop 1 (cut 32 c.args.line.now) in
    let k : c.in-Some.k < 5 = omega arith in
    search rules

pub loop-k-preserved : goal.loop-k-preserved
loop-k-preserved c =
    let fields = drop 1 (cut 32 c.args.line.now) in
    let t = turn _ _ c.loop-k.invariant.all c.loop-k.yielded _ c.loop-k.yielded_by _ _ _ c.in-Some.is c.next.ensures.steps in
    let o = number_is (numbered c.in-Some.text.now) c.in-Some.text c.in-Number.text c.in-Some.k c.in-Number.place c.in-Number.value (sym c.in-Number.is ∙ c.told_apart.ensures) in
    record {
      can = search of_calls;
      ends = search of_calls;
      all = c.loop-k.invariant.all;
      so_far =
          ap (λ (j : ℕ). gathered j (set c.loop-k.values c.in-Some.k c.in-Number.value) (drop j fields)) (length_push c.loop-k.yielded (c.in-Some.k, c.in-Some.text))
          ∙ sym (more c.loop-k.values fields _ _ _ _ t o)
          ∙ c.loop-k.invariant.so_far;
      five = search rules;
    }

pub returns-in-Word : goal.returns-in-Word
returns-in-Word c =
    let t = turn _ _ c.loop-k.invariant.all c.loop-k.yielded _ c.loop-k.yielded_by _ _ _ c.in-Some.is c.next.ensures.steps in
    let o = word_is (numbered c.in-Some.text.now) c.in-Some.text c.in-Word.text c.in-Some.k c.in-Word.place (sym c.in-Word.is ∙ c.told_apart.ensures) in
    ap (λ (p : ℕ). Err (NotANumber, p)) o.1 ∙ sym (more c.loop-k.values (drop 1 (cut 32 c.args.line.now)) _ _ _ _ t o.0) ∙ c.loop-k.invariant.so_far

pub returns : goal.returns
returns c =
    let e = end _ _ c.loop-k.invariant.all c.loop-k.yielded _ c.loop-k.yielded_by _ _ c.in-None.is c.next.ensures.steps in
    sym (at_drop_all (gathered (length c.loop-k.yielded) c.loop-k.values) (drop 1 (cut 32 c.args.line.now)) (length c.loop-k.yielded) e) ∙ c.loop-k.invariant.so_far
