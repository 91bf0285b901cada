-- What isn't of the first form has no value.
use Rattle.std.proofs.Common.{◌≡◌, None, refl, pos}
use Rattle.dc_num.specs.Operators.{binary_of}
use Rattle.dc_num.specs.declared.kind.NumKind.TheVariants.{S32}
use Rattle.dc_num.specs.declared.operators.BinOp.TheVariants.{Div}
use Rattle.dc_core.specs.First.{no_value}
use Rattle.dc_memory.specs.Objects.{Memory}
use Rattle.dc_core.specs.Number.{computed}
use Rattle.dc_core.specs.Value.{Scope, value}

-- nothing is divided by 0
no_quotient : computed Div S32 (pos 0) (pos 0) ≡ None
unfolding computed binary_of
no_quotient = refl

pub nothing_seen : (scope : Scope) (memory : Memory) → value scope memory no_value ≡ None
nothing_seen scope memory = no_quotient
