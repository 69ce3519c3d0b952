-- A pair keeps the laws of a kind, since its halves do.
use Rattle.std.specs.Prelude.{◌≡◌, ◌+◌, ◌*◌, ◌/◌, ◌%◌, ◌^◌, true, Some, None, Option}
use Rattle.std.proofs.Common.{ap, ap₂, ◌∙◌}
use Rattle.std.proofs.lemmas.Nat.{shr_high, mod_low, shr_split}
use Rattle.std.proofs.lemmas.Bool.{and_parts, and_from}
use Rattle.strength.specs.declared.values.Pair.{Pair}
use Rattle.strength.specs.Kind.{Kind, Reflexive, Transitive, Antisymmetric, Decreasing, Monotone, ReadsBack, KeepsWord, Short}
use Rattle.strength.specs.Pairs.{both, pair_kind}

-- a pair that is there has both its parts there
both_some : {P Q : Type 0} (o : Option P) (p : Option Q) (x : Pair P Q) → both o p ≡ Some x → (o ≡ Some x.first) × (p ≡ Some x.second)
both_some {P} {Q} (Some a) (Some b) x e =
    let y : Pair P Q = record { first = a; second = b } in
    let s : y ≡ x = cc in
    (ap (λ (z : Pair P Q). Some z.first) s, ap (λ (z : Pair P Q). Some z.second) s)
both_some (Some a) None x e = absurd (cc)
both_some None p x e = absurd (cc)

module _ {P Q : Type 0} (j : Kind P) (k : Kind Q) where
  parts : (a b : Pair P Q) → (pair_kind j k).at_least a b ≡ true → (j.at_least a.first b.first ≡ true) × (k.at_least a.second b.second ≡ true)
  parts a b e = and_parts (j.at_least a.first b.first) (k.at_least a.second b.second) e

  whole : (a b : Pair P Q) → j.at_least a.first b.first ≡ true → k.at_least a.second b.second ≡ true → (pair_kind j k).at_least a b ≡ true
  whole a b p q = and_from (j.at_least a.first b.first) (k.at_least a.second b.second) p q

  pub pair_reflexive : Reflexive j → Reflexive k → Reflexive (pair_kind j k)
  pair_reflexive f g a = whole a a (f a.first) (g a.second)

  pub pair_transitive : Transitive j → Transitive k → Transitive (pair_kind j k)
  pair_transitive f g a b c p q =
      let s = parts a b p in let t = parts b c q in
      whole a c (f a.first b.first c.first s.0 t.0) (g a.second b.second c.second s.1 t.1)

  pub pair_antisymmetric : Antisymmetric j → Antisymmetric k → Antisymmetric (pair_kind j k)
  pair_antisymmetric f g a b p q =
      let s = parts a b p in let t = parts b a q in
      let l = f a.first b.first s.0 t.0 in let r = g a.second b.second s.1 t.1 in
      λ i. record { first = l i; second = r i }

  pub pair_decreasing : Decreasing j → Decreasing k → Decreasing (pair_kind j k)
  pair_decreasing f g a m h b e =
      let s = both_some (j.passed_on a.first m) (k.passed_on a.second m) b e in
      whole a b (f a.first m h b.first s.0) (g a.second m h b.second s.1)

  pub pair_monotone : Monotone j → Monotone k → Monotone (pair_kind j k)
  pair_monotone f g a b m h c p e =
      let t = parts a b p in
      let s = both_some (j.passed_on b.first m) (k.passed_on b.second m) c e in
      let x = f a.first b.first m h c.first t.0 s.0 in
      let y = g a.second b.second m h c.second t.1 s.1 in
      let d : Pair P Q = record { first = x.0; second = y.0 } in
      (d, ap₂ both x.1 y.1, whole d c x.2 y.2)

  pub pair_reads_back : ReadsBack j → ReadsBack k → Short j → ReadsBack (pair_kind j k)
  pair_reads_back f g h a =
      let lo = mod_low (k.word a.second) 32 (j.word a.first) (h a.first) in
      let hi = shr_high (k.word a.second) 32 (j.word a.first) (h a.first) in
      ap₂ both (ap j.of_word lo ∙ f a.first) (ap k.of_word hi ∙ g a.second)

  pub pair_keeps_word : KeepsWord j → KeepsWord k → KeepsWord (pair_kind j k)
  pair_keeps_word f g w a e =
      let s = both_some (j.of_word (w % 2 ^ 32)) (k.of_word (w / 2 ^ 32)) a e in
      ap₂ (λ x y. x * 2 ^ 32 + y) (g (w / 2 ^ 32) a.second s.1) (f (w % 2 ^ 32) a.first s.0) ∙ shr_split w 32
