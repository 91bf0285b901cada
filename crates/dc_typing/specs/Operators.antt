-- The operators that marks are (C11 6.5.2 to 6.5.16). What the grammar puts at no such place is read as the last of each.
use Rattle.std.specs.Prelude.{Option, Some, None}
use Rattle.dc_num.specs.declared.operators.BinOp.{BinOp}
use Rattle.dc_num.specs.declared.operators.BinOp.TheVariants.{Add, Sub, Mul, Div, Rem, Shl, Shr, And, Or, Xor, Lt, Le, Gt, Ge, Eq, Ne}
use Rattle.dc_program.specs.declared.operators.LogicalOp.TheVariants as logical
use Rattle.dc_program.specs.declared.operators.StepOp.{StepOp}
use Rattle.dc_program.specs.declared.operators.StepOp.TheVariants as step
use Rattle.dc_program.specs.declared.operators.UnaryOp.TheVariants as unary
use Rattle.dc_syntax.specs.declared.mark.Mark.{Mark}
use Rattle.dc_syntax.specs.declared.mark.Mark.TheVariants as mark
use Rattle.dc_typing.specs.declared.operators.Infix.{Infix}
use Rattle.dc_typing.specs.declared.operators.Infix.TheVariants.{Both, First}
use Rattle.dc_typing.specs.declared.operators.Prefix.{Prefix}
use Rattle.dc_typing.specs.declared.operators.Prefix.TheVariants.{Address, Target, Operator}

abbrev pub step_op : Mark → StepOp
step_op mark.Increment = step.Increment
step_op _ = step.Decrement

-- none of a plain `=`
abbrev pub assigning_op : Mark → Option BinOp
assigning_op mark.Equals = None
assigning_op mark.StarEquals = Some Mul
assigning_op mark.SlashEquals = Some Div
assigning_op mark.PercentEquals = Some Rem
assigning_op mark.PlusEquals = Some Add
assigning_op mark.MinusEquals = Some Sub
assigning_op mark.ShiftLeftEquals = Some Shl
assigning_op mark.ShiftRightEquals = Some Shr
assigning_op mark.AmpersandEquals = Some And
assigning_op mark.CaretEquals = Some Xor
assigning_op _ = Some Or

abbrev pub prefix_op : Mark → Prefix
prefix_op mark.Ampersand = Address
prefix_op mark.Star = Target
prefix_op mark.Plus = Operator unary.Plus
prefix_op mark.Minus = Operator unary.Negate
prefix_op mark.Tilde = Operator unary.Complement
prefix_op _ = Operator unary.Not

abbrev pub infix_op : Mark → Infix
infix_op mark.Star = Both Mul
infix_op mark.Slash = Both Div
infix_op mark.Percent = Both Rem
infix_op mark.Plus = Both Add
infix_op mark.Minus = Both Sub
infix_op mark.ShiftLeft = Both Shl
infix_op mark.ShiftRight = Both Shr
infix_op mark.Less = Both Lt
infix_op mark.Greater = Both Gt
infix_op mark.LessEqual = Both Le
infix_op mark.GreaterEqual = Both Ge
infix_op mark.EqualEqual = Both Eq
infix_op mark.NotEqual = Both Ne
infix_op mark.Ampersand = Both And
infix_op mark.Caret = Both Xor
infix_op mark.Bar = Both Or
infix_op mark.AndAnd = First logical.And
infix_op _ = First logical.Or
