-- Band: a lowest and a highest temperature.
use Rattle.std.specs.Prelude.{ℕ, ◌+◌, ◌*◌, ◌/◌, ◌%◌, ◌^◌, Bool, ◌&&◌, Some, Option, nat_le}
use Rattle.strength.specs.declared.values.Band.{Band}
use Rattle.strength.specs.Kind.{Kind}
use Rattle.strength.specs.Lawful.{is_band, lawful_band, when}

-- the band from this lowest to this highest, if there is one
abbrev pub band : ℕ → ℕ → Option Band
band l h = when (is_band l h) (λ e. record { lowest = record { 0 = l }; highest = record { 0 = h }; lawful = lawful_band l h e })

-- b lies inside a
abbrev pub band_at_least : Band → Band → Bool
band_at_least a b = nat_le a.lowest.0 b.lowest.0 && nat_le b.highest.0 a.highest.0

-- a band passes to any marks, as itself
abbrev pub band_kind : Kind Band
band_kind = record {
  at_least = band_at_least;
  passed_on = λ a m. Some a;
  word = λ a. a.highest.0 * 2 ^ 16 + a.lowest.0;
  of_word = λ w. band (w % 2 ^ 16) (w / 2 ^ 16);
}
