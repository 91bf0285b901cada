-- What C's operators make of numbers of two kinds, each converted as C says (C11 6.3.1, 6.5).
use Rattle.std.specs.Prelude.{ℤ, pos, Bool, Option, Some}
use Rattle.std.specs.Ordering.{int_eq}
use Rattle.dc_num.specs.declared.kind.NumKind.{NumKind}
use Rattle.dc_num.specs.declared.operators.BinOp.{BinOp}
use Rattle.dc_num.specs.declared.operators.BinOp.TheVariants.{Shl, Shr}
use Rattle.dc_num.specs.declared.operators.UnOp.TheVariants.{Neg, Not}
use Rattle.dc_num.specs.Conversions.{promoted, common_of, converted, truth}
use Rattle.dc_num.specs.Operators.{binary_of, unary_of}
use Rattle.dc_program.specs.declared.operators.UnaryOp.{UnaryOp}
use Rattle.dc_program.specs.declared.operators.UnaryOp.TheVariants as unary

abbrev pub is_zero : ℤ → Bool
is_zero v = int_eq v (pos 0)

-- of operands in their common kind (C11 6.3.1.8)
abbrev pub balanced : BinOp → NumKind → NumKind → ℤ → ℤ → Option ℤ
balanced op k l v w = binary_of op (common_of k l) (converted (common_of k l) v) (converted (common_of k l) w)

-- a shift is one of the promoted first operand (C11 6.5.7)
abbrev pub shifted : BinOp → NumKind → ℤ → ℤ → Option ℤ
shifted op k v w = binary_of op (promoted k) (converted (promoted k) v) w

-- of a number of the first kind and one of the second
abbrev pub computed : BinOp → NumKind → NumKind → ℤ → ℤ → Option ℤ
computed Shl k l v w = shifted Shl k v w
computed Shr k l v w = shifted Shr k v w
computed op k l v w = balanced op k l v w

-- of one number (C11 6.5.3.3); `!` compares with 0
abbrev pub changed : UnaryOp → NumKind → ℤ → Option ℤ
changed unary.Plus k v = Some (converted (promoted k) v)
changed unary.Negate k v = unary_of Neg (promoted k) (converted (promoted k) v)
changed unary.Complement k v = unary_of Not (promoted k) (converted (promoted k) v)
changed unary.Not k v = Some (truth (is_zero v))
