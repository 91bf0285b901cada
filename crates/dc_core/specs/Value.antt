-- The values and places of expressions (C11 6.5).
use Rattle.std.specs.Prelude.{ℕ, suc, ℤ, List, Option, None, Some, slice_get}
use Rattle.dc_num.specs.declared.kind.NumKind.TheVariants.{S32}
use Rattle.dc_num.specs.declared.operators.BinOp.{BinOp}
use Rattle.dc_core.specs.Number.{computed}
use Rattle.dc_memory.specs.declared.kind.MemKind.TheVariants as mem
use Rattle.dc_memory.specs.Objects.{Memory}
use Rattle.dc_memory.specs.Places.{start_of}
use Rattle.dc_memory.specs.Access.{load}
use Rattle.dc_core.specs.Program.{Expr, Literal, Variable, Parameter, ReturnValue, Binary}

-- where an expression stands: in a body, by the places of the parameters' objects; or in a clause, by the arguments
-- at entry and the result
pub data Scope : Type 0 where
  Body : (places : List ℕ) → Scope
  Clause : (arguments : List ℤ) (result : Option ℤ) → Scope

-- the function is object 1, and the variables, from number 0, are the objects behind it
abbrev pub variable_place : ℕ → ℕ
variable_place k = start_of (suc (suc k))

abbrev pub load_int : Memory → Option ℕ → Option ℤ
load_int memory None = None
load_int memory (Some place) = load mem.S32 place memory

abbrev pub parameter_value : Scope → Memory → ℕ → Option ℤ
parameter_value (Body places) memory k = load_int memory (slice_get places k)
parameter_value (Clause arguments result) memory k = slice_get arguments k

abbrev pub result_value : Scope → Option ℤ
result_value (Body places) = None
result_value (Clause arguments result) = result

-- an operator on two ints, where both have a value
abbrev pub both : BinOp → Option ℤ → Option ℤ → Option ℤ
both op None b = None
both op (Some a) None = None
both op (Some a) (Some b) = computed op S32 a b

abbrev pub value : Scope → Memory → Expr → Option ℤ
value scope memory (Literal z) = Some z
value scope memory (Variable k) = load mem.S32 (variable_place k) memory
value scope memory (Parameter k) = parameter_value scope memory k
value scope memory ReturnValue = result_value scope
value scope memory (Binary op a b) = both op (value scope memory a) (value scope memory b)

abbrev pub parameter_place : Scope → ℕ → Option ℕ
parameter_place (Body places) k = slice_get places k
parameter_place (Clause arguments result) k = None

-- the place of an lvalue
abbrev pub place : Scope → Expr → Option ℕ
place scope (Literal z) = None
place scope (Variable k) = Some (variable_place k)
place scope (Parameter k) = parameter_place scope k
place scope ReturnValue = None
place scope (Binary op a b) = None
