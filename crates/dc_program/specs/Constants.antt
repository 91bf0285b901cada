-- Integer constant expressions (C11 6.6 p6) and null pointer constants (C11 6.3.2.3 p3).
use Rattle.std.specs.Prelude.{ℕ, ℤ, pos, Bool, true, false, ◌&&◌, ◌||◌, not, Option, Some, None, Result, Ok, Err, if◌then◌else◌}
use Rattle.std.specs.Option.{option_map, option_and_then, option_map_or}
use Rattle.dc_layout.specs.Types.{PlainType, Structs}
use Rattle.dc_layout.specs.Layout.{size_answer}
use Rattle.dc_layout.specs.declared.fault.Layout.{Layout}
use Rattle.dc_num.specs.declared.kind.NumKind.{NumKind}
use Rattle.dc_num.specs.declared.operators.BinOp.{BinOp}
use Rattle.dc_num.specs.Conversions.{converted, truth}
use Rattle.dc_program.specs.declared.operators.LogicalOp.{LogicalOp}
use Rattle.dc_program.specs.declared.operators.LogicalOp.TheVariants as logical
use Rattle.dc_program.specs.declared.operators.UnaryOp.{UnaryOp}
use Rattle.dc_program.specs.Expressions.{Expr, Typed, Form, Literal, Unary, SizeofExpression, SizeofType, Cast, Binary, Logical, Conditional, type_of}
use Rattle.dc_program.specs.Numbers.{is_zero, computed, changed}
use Rattle.dc_program.specs.Types.{number_kind, is_number, is_void_pointer}

-- what an operator makes of operands that have a kind
abbrev pub changed_in : UnaryOp → Option NumKind → ℤ → Option ℤ
changed_in op None v = None
changed_in op (Some k) v = changed op k v

abbrev pub computed_in : BinOp → Option NumKind → Option NumKind → ℤ → ℤ → Option ℤ
computed_in op (Some k) (Some l) v w = computed op k l v w
computed_in op k l v w = None

-- as a number of the kind
abbrev pub converted_in : Option NumKind → ℤ → Option ℤ
converted_in None v = None
converted_in (Some k) v = Some (converted k v)

abbrev pub size_in : Result ℕ Layout → Option ℤ
size_in (Ok n) = Some (pos n)
size_in (Err fault) = None

-- does the first operand decide, and what is the result then?
abbrev pub is_decided : LogicalOp → ℤ → Bool
is_decided logical.And v = is_zero v
is_decided logical.Or v = not (is_zero v)
is_decided logical.Implies v = is_zero v

abbrev pub decided : LogicalOp → ℤ
decided logical.And = pos 0
decided logical.Or = pos 1
decided logical.Implies = pos 1

-- the second operand is needed only where the first doesn't decide
abbrev pub decided_by : LogicalOp → ℤ → Option ℤ → Option ℤ
decided_by op v w = if is_decided op v then Some (decided op) else option_map (λ n. truth (not (is_zero n))) w

abbrev pub chosen_by : ℤ → Option ℤ → Option ℤ → Option ℤ
chosen_by v w u = if is_zero v then u else w

abbrev mutual
  -- the value of an expression that is made of constants
  pub constant : Structs → Expr → Option ℤ
  constant structs (Typed t f) = constant_of structs t f

  pub constant_of : Structs → PlainType → Form → Option ℤ
  constant_of structs t (Literal v) = option_map (λ k. v) (number_kind t)
  constant_of structs t (Unary op a) = option_and_then (changed_in op (number_kind (type_of a))) (constant structs a)
  constant_of structs t (SizeofExpression a) = size_in (size_answer structs (type_of a))
  constant_of structs t (SizeofType u) = size_in (size_answer structs u)
  constant_of structs t (Cast a) = option_and_then (converted_in (number_kind t)) (constant structs a)
  constant_of structs t (Binary op a b) = option_and_then (λ v. option_and_then (computed_in op (number_kind (type_of a)) (number_kind (type_of b)) v) (constant structs b)) (constant structs a)
  constant_of structs t (Logical op a b) = option_and_then (λ v. decided_by op v (constant structs b)) (constant structs a)
  constant_of structs t (Conditional a b c) = option_and_then (λ v. option_and_then (converted_in (number_kind t)) (chosen_by v (constant structs b) (constant structs c))) (constant structs a)
  constant_of structs t f = None

abbrev mutual
  -- made of integer constants and sizes alone, also where an operand isn't needed
  pub is_made_of_constants : Expr → Bool
  is_made_of_constants (Typed t f) = is_number t && are_its_parts f

  pub are_its_parts : Form → Bool
  are_its_parts (Literal v) = true
  are_its_parts (Unary op a) = is_made_of_constants a
  are_its_parts (SizeofExpression a) = true
  are_its_parts (SizeofType u) = true
  are_its_parts (Cast a) = is_made_of_constants a
  are_its_parts (Binary op a b) = is_made_of_constants a && is_made_of_constants b
  are_its_parts (Logical op a b) = is_made_of_constants a && is_made_of_constants b
  are_its_parts (Conditional a b c) = is_made_of_constants a && is_made_of_constants b && is_made_of_constants c
  are_its_parts f = false

-- the value of an integer constant expression; none where it is none
abbrev pub integer_constant : Structs → Expr → Option ℤ
integer_constant structs e = if is_made_of_constants e then constant structs e else None

-- an integer constant expression of value 0
abbrev pub is_constant_zero : Structs → Expr → Bool
is_constant_zero structs e = option_map_or is_zero (integer_constant structs e) false

-- `NULL`
abbrev pub is_null_literal : Expr → Bool
is_null_literal (Typed t (Literal v)) = is_void_pointer t && is_zero v
is_null_literal e = false

abbrev pub is_null : Structs → Expr → Bool
is_null structs e = is_constant_zero structs e || is_null_literal e
