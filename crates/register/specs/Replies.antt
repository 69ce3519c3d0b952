-- What a call is told: its answer, or why it is refused.
use Rattle.std.specs.Prelude.{◌≡◌, ℕ, ◌⊎◌, List, [], ◌∷◌, Ok, Err, codes, Result}
use Rattle.register.specs.Numbers.{number}
use Rattle.register.specs.declared.calls.Call.{Call}
use Rattle.register.specs.declared.calls.Call.TheVariants.{Open, Close, Entitled as Asks, Grant as Grants}
use Rattle.register.specs.declared.faults.RegisterFault.{RegisterFault}

-- the word of what is told, and the numbers after it
abbrev pub wording : Result ℕ RegisterFault → List ℕ × List ℕ
wording (Ok n) = (codes "ok", n ∷ [])
wording (Err f) = (codes "no", number f.cause ∷ f.place ∷ [])

-- n says whether P: 1 for yes, 0 for no
abbrev pub Says : Type 0 → ℕ → Type 0
Says P n = ((n ≡ 1) × P) ⊎ ((n ≡ 0) × (P → ⊥))

-- a question was answered with yes
abbrev pub ToldYes : Call → Result ℕ RegisterFault → Type 0
ToldYes (Open n) e = ⊥
ToldYes (Close n) e = ⊥
ToldYes (Asks u t w n) e = e ≡ Ok 1
ToldYes (Grants g u t w n) e = ⊥
