-- Reach keeps the laws of a kind.
use Rattle.std.specs.Prelude.{◌≡◌, ℕ, ◌/◌, ◌%◌, ◌^◌, true, Some, None}
use Rattle.std.proofs.Common.{sym, ap, ◌∙◌, arith}
use Rattle.std.proofs.lemmas.Nat.{shr_high, mod_low, shr_split}
use Rattle.std.proofs.lemmas.Bool.{cond-true}
use Rattle.std.proofs.lemmas.Option.{cond_some}
use Rattle.std.proofs.lemmas.Bool.Decides.{nat_tests}
use Rattle.strength.specs.declared.values.Reach.{Reach}
use Rattle.strength.specs.Kind.{Reflexive, Transitive, Antisymmetric, Decreasing, Monotone, ReadsBack, KeepsWord}
use Rattle.strength.specs.Lawful.{is_reach}
use Rattle.strength.specs.Masks.{within}
use Rattle.strength.specs.Reaches.{reach, lowered_reach, passes, reach_at_least, reach_passed_on, reach_kind}
use Rattle.strength.specs.MaskLaws.{within_none, within_refl, within_trans, within_antisym}
use Rattle.strength.specs.Equalities.{same_reach, when_true, when_some}

-- a reach is made of its count and its mask
pub reach_made : (r : Reach) (c m : ℕ) → c ≡ r.count.0 → m ≡ r.mask.0 → reach c m ≡ Some r
reach_made r c m p q = when_true (is_reach c m) _ tested ∙ ap Some (same_reach _ r p q)
  where
    tested : is_reach c m ≡ true
    tested = let spent : c ≡ 0 → m ≡ 0 = λ z. q ∙ r.lawful.2 (sym p ∙ z) in grind (arith, nat_tests)

made_of : (r : Reach) (c m : ℕ) → reach c m ≡ Some r → (r.count.0 ≡ c) × (r.mask.0 ≡ m)
made_of r c m e =
    let w = when_some (is_reach c m) _ r e in
    (sym (ap (λ (x : Reach). x.count.0) w.1), sym (ap (λ (x : Reach). x.mask.0) w.1))

lowered_less : (a : Reach) → reach_at_least a (lowered_reach a) ≡ true
lowered_less a = let w = within_refl a.mask.0 in grind (arith, nat_tests)

pub reach_decreasing : Decreasing reach_kind
reach_decreasing a m h b e = ap (reach_at_least a) (sym (cond_some (passes a m) (lowered_reach a) b e).1) ∙ lowered_less a

lowered_monotone : (a b : Reach) (m : ℕ) → reach_at_least a b ≡ true → passes b m ≡ true → reach_at_least (lowered_reach a) (lowered_reach b) ≡ true
lowered_monotone a b m p t = grind (arith, nat_tests)

passes_monotone : (a b : Reach) (m : ℕ) → reach_at_least a b ≡ true → passes b m ≡ true → passes a m ≡ true
passes_monotone a b m p t = let w = within_trans a.mask.0 b.mask.0 m in grind (arith, nat_tests)

pub reach_monotone : Monotone reach_kind
reach_monotone a b m h c p e =
    let t = cond_some (passes b m) (lowered_reach b) c e in (
      lowered_reach a,
      cond-true (passes a m) (Some (lowered_reach a)) None (passes_monotone a b m p t.0),
      ap (reach_at_least (lowered_reach a)) (sym t.1) ∙ lowered_monotone a b m p t.0,
    )

pub reach_reflexive : Reflexive reach_kind
reach_reflexive a = let w = within_refl a.mask.0 in grind (arith, nat_tests)

pub reach_transitive : Transitive reach_kind
reach_transitive a b c p q = let w = within_trans a.mask.0 b.mask.0 c.mask.0 in grind (arith, nat_tests)

pub reach_antisymmetric : Antisymmetric reach_kind
reach_antisymmetric a b p q = same_reach a b (grind (arith, nat_tests)) masks
  where
    masks : a.mask.0 ≡ b.mask.0
    masks =
        let w = within_antisym a.mask.0 b.mask.0 a.lawful.1 b.lawful.1 in
        let y = a.lawful.2 in let z = b.lawful.2 in
        grind (arith, nat_tests)

pub reach_reads_back : ReadsBack reach_kind
reach_reads_back a = reach_made a _ _ (shr_high a.count.0 24 a.mask.0 a.lawful.1) (mod_low a.count.0 24 a.mask.0 a.lawful.1)

pub reach_keeps_word : KeepsWord reach_kind
reach_keeps_word w a e = let p = made_of a (w / 2 ^ 24) (w % 2 ^ 24) e in omega (arith, p.0, p.1, shr_split w 24)

-- without limit and without a mask a reach stays as it is
pub unlimited : (a : Reach) (m : ℕ) → a.count.0 ≡ 255 → a.mask.0 ≡ 0 → reach_passed_on a m ≡ Some a
unlimited a m p q =
    let w : within a.mask.0 m ≡ true = ap (λ x. within x m) q ∙ within_none m in
    cond-true (passes a m) (Some (lowered_reach a)) None (grind (arith, nat_tests))
    ∙ ap Some (same_reach (lowered_reach a) a (grind (arith, nat_tests)) (grind (arith, nat_tests)))
