-- Band keeps the laws of a kind; those that are not here need no lemma.
use Rattle.std.specs.Prelude.{◌≡◌, ℕ, ◌/◌, ◌%◌, ◌^◌, ◌<◌, Some, refl}
use Rattle.std.proofs.Common.{sym, ap, ◌∙◌, arith}
use Rattle.std.proofs.lemmas.Nat.{shr_high, mod_low, shr_split}
use Rattle.std.proofs.lemmas.Bool.Decides.{nat_tests}
use Rattle.strength.specs.declared.values.Band.{Band}
use Rattle.strength.specs.Kind.{Antisymmetric, Monotone, ReadsBack, KeepsWord}
use Rattle.strength.specs.Lawful.{is_band}
use Rattle.strength.specs.Bands.{band, band_at_least, band_kind}
use Rattle.strength.specs.Equalities.{same_band, when_true, when_some}

-- a band is made of its ends
pub band_made : (r : Band) (l h : ℕ) → l ≡ r.lowest.0 → h ≡ r.highest.0 → band l h ≡ Some r
band_made r l h p q = when_true (is_band l h) _ (grind (arith, nat_tests)) ∙ ap Some (same_band _ r p q)

made_of : (r : Band) (l h : ℕ) → band l h ≡ Some r → (r.lowest.0 ≡ l) × (r.highest.0 ≡ h)
made_of r l h e =
    let w = when_some (is_band l h) _ r e in
    (sym (ap (λ (x : Band). x.lowest.0) w.1), sym (ap (λ (x : Band). x.highest.0) w.1))

pub band_antisymmetric : Antisymmetric band_kind
band_antisymmetric a b p q = same_band a b (grind (arith, nat_tests)) (grind (arith, nat_tests))

pub band_monotone : Monotone band_kind
band_monotone a b m h c p e = let s : b ≡ c = cc in (a, refl, ap (band_at_least a) (sym s) ∙ p)

pub band_reads_back : ReadsBack band_kind
band_reads_back a =
    let low : a.lowest.0 < 2 ^ 16 = omega arith in
    band_made a _ _ (mod_low a.highest.0 16 a.lowest.0 low) (shr_high a.highest.0 16 a.lowest.0 low)

pub band_keeps_word : KeepsWord band_kind
band_keeps_word w a e = let p = made_of a (w % 2 ^ 16) (w / 2 ^ 16) e in omega (arith, p.0, p.1, shr_split w 16)
