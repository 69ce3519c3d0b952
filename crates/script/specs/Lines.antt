-- What a line does to a register, and what is written of it.
use Rattle.std.specs.Prelude.{◌≡◌, ℕ, ◌<◌, ◌≤◌, List, ◌++◌, length, drop, Some, None, Ok, Err, Option, Result}
use Rattle.strength.specs.Kind.{Kind}
use Rattle.register.specs.Replies.{wording}
use Rattle.register.specs.Shape.{Called}
use Rattle.register.specs.declared.calls.Call.{Call}
use Rattle.register.specs.declared.faults.RegisterFault.{RegisterFault}
use Rattle.register.specs.declared.register.Register.{Register}
use Rattle.script.specs.declared.faults.Cause.{Cause}
use Rattle.script.specs.declared.faults.Cause.TheVariants.{ShortBuffer}
use Rattle.script.specs.declared.faults.Fault.{Fault}
use Rattle.script.specs.declared.faults.Fault.TheVariants.{OfRegister, OfScript}
use Rattle.script.specs.declared.faults.LineFault.{LineFault}
use Rattle.script.specs.declared.lines.Told.{Told}
use Rattle.script.specs.Faults.{number_of, place_of}
use Rattle.script.specs.Output.{line_of, refused}
use Rattle.script.specs.Parsed.{parsed}

-- what the script hears of what a call is told
abbrev pub heard : Result ℕ RegisterFault → Result ℕ Fault
heard (Ok n) = Ok n
heard (Err f) = Err (OfRegister f)

-- a line that is no call leaves the register as it was; any other is sent to it
abbrev pub Asked : {S : Type 0} → Kind S → Result Call (Cause × ℕ) → Register S → Result ℕ Fault → Register S → Type 0
Asked k (Err f) before r after = (r ≡ Err (OfScript f)) × (after ≡ before)
Asked k (Ok call) before r after = (e : Result ℕ RegisterFault) × Called k call e before after × (r ≡ heard e)

-- the output line, with the line's number: an answer in the words of its reply, or the refusal of whichever layer
abbrev pub spoken : ℕ → Result ℕ Fault → List ℕ
spoken n (Ok answer) = line_of n (wording (Ok answer)).0 (wording (Ok answer)).1
spoken n (Err f) = refused n (number_of f, place_of f)

-- the fault that a line met
abbrev pub fault_at : ℕ → Result ℕ Fault → Option LineFault
fault_at n (Ok answer) = None
fault_at n (Err f) = Some (record { line = n; fault = f })

-- the line was asked, and its output line stands at the front of the buffer
pub record Obeyed {S : Type 0} (k : Kind S) (n : ℕ) (line : List ℕ) (before : Register S) (out : List ℕ) (told : Told) (after : Register S) (out' : List ℕ) : Type 0 where
  pub reply : Result ℕ Fault
  pub asked : Asked k (parsed line) before reply after
  pub written : out' ≡ spoken n reply ++ drop (length (spoken n reply)) out
  pub answer : told ≡ record { length = length (spoken n reply); fault = fault_at n reply }

-- refused exactly where the buffer is too short, and then nothing is changed
abbrev pub Taken : {S : Type 0} → Kind S → ℕ → List ℕ → Register S → List ℕ → Result Told LineFault → Register S → List ℕ → Type 0
Taken k n line before out (Ok told) after out' = (1200 ≤ length out) × Obeyed k n line before out told after out'
Taken k n line before out (Err f) after out' = (length out < 1200) × (f ≡ record { line = n; fault = OfScript (ShortBuffer, 0) }) × (after ≡ before) × (out' ≡ out)
