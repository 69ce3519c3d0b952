-- An output line in the order in which its parts are put in front of its end.
use Rattle.std.proofs.Common.{◌≡◌, ℕ, [], ◌∷◌, ◌++◌, Ok, codes, decimal, refl, append_assoc}
use Rattle.script.specs.Lines.{spoken}
use Rattle.script.specs.Output.{refused}

pub ok_line : (n a : ℕ) → decimal n ++ (codes " ok " ++ (decimal a ++ (10 ∷ []))) ≡ spoken n (Ok a)
ok_line n a = simp append_assoc

pub no_line : (n : ℕ) (f : ℕ × ℕ) → decimal n ++ (codes " no " ++ (decimal f.0 ++ (codes " " ++ (decimal f.1 ++ (10 ∷ []))))) ≡ refused n f
no_line n f = simp append_assoc refl
