-- The answer that a verdict has.
use Rattle.std.specs.Prelude.{◌≡◌, ℕ, List, Result, Ok, Err, Option, None}
use Rattle.serde_json.specs.Data.{Data}
use Rattle.dc_choice.specs.Reading.{Verdict, no_json, no_array, wrong, numbers}
use Rattle.dc_choice.specs.declared.read.ChoiceFault.{ChoiceFault}
use Rattle.dc_choice.specs.declared.read.ChoiceFault.TheVariants.{NotJson, NotArray, NotNumbers, Memory}

-- each answer but `Memory` comes exactly with its verdict
abbrev pub Answers : Verdict → Result (List ℕ) ChoiceFault → Type 0
Answers verdict (Ok list) = verdict ≡ numbers list
Answers verdict (Err NotJson) = verdict ≡ no_json
Answers verdict (Err NotArray) = verdict ≡ no_array
Answers verdict (Err (NotNumbers index)) = verdict ≡ wrong index
Answers verdict (Err (Memory refused)) = Unit {0}

-- the fault of bytes that have no reading, or of want of memory
abbrev pub IsNotJson : Option Data → ChoiceFault → Type 0
IsNotJson value NotJson = value ≡ None
IsNotJson value NotArray = ⊥
IsNotJson value (NotNumbers index) = ⊥
IsNotJson value (Memory refused) = Unit {0}
