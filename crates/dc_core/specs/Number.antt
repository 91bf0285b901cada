-- What operators make of values of any kind.
use Rattle.std.specs.Prelude.{ℤ, Option, None, if◌then◌else◌}
use Rattle.dc_num.specs.declared.kind.NumKind.{NumKind}
use Rattle.dc_num.specs.declared.operators.BinOp.{BinOp}
use Rattle.dc_num.specs.Operators.{binary_of, is_operand_kind}

-- arithmetic on pointers has no value
unfoldable pub computed : BinOp → NumKind → ℤ → ℤ → Option ℤ
computed op kind a b = if is_operand_kind op kind then binary_of op kind a b else None
