-- What phrases of expressions mean by their parts, and which rules they break, in the order in which these are asked.
use Rattle.std.specs.Prelude.{ℕ, Bool, false, ◌||◌, List, Option, Some, None, Ok, Err, if◌then◌else◌}
use Rattle.std.specs.Option.{option_and_then}
use Rattle.dc_layout.specs.Types.{PlainType, Pointer, Structs}
use Rattle.dc_num.specs.declared.operators.BinOp.{BinOp}
use Rattle.dc_program.specs.declared.operators.LogicalOp.{LogicalOp}
use Rattle.dc_program.specs.declared.operators.UnaryOp.{UnaryOp}
use Rattle.dc_program.specs.declared.rule.Rule.TheVariants.{TruthNeeded, NoMember, NoPlace, NotAssignable, WrongValue, NoCast, EffectInside}
use Rattle.dc_program.specs.Constants.{is_constant_zero, is_null}
use Rattle.dc_program.specs.Expressions.{Expr, Typed, Index, Member, Through, After, Before, AddressOf, Deref, Unary, SizeofExpression, SizeofType, Cast, Binary, Logical, Conditional, Assign, AssignBy, type_of}
use Rattle.dc_program.specs.Stands.{is_lvalue, is_modifiable, takes}
use Rattle.dc_program.specs.Types.{int, bare, is_function, is_scalar, is_void, pointee, struct_of}
use Rattle.dc_program.specs.Typing.{arms_type, binary_type, deref_type, index_type, is_assignable, is_cast, member_type, sizeof_type, sum_type, through_type, unary_type}
use Rattle.dc_scope.specs.Scopes.{PlainScopes, member_of}
use Rattle.dc_syntax.specs.declared.mark.Mark.{Mark}
use Rattle.dc_syntax.specs.Tokens.{Place}
use Rattle.dc_typing.specs.declared.operators.Infix.{Infix}
use Rattle.dc_typing.specs.declared.operators.Infix.TheVariants.{Both, First}
use Rattle.dc_typing.specs.declared.operators.Prefix.{Prefix}
use Rattle.dc_typing.specs.declared.operators.Prefix.TheVariants.{Address, Target, Operator}
use Rattle.dc_typing.specs.declared.spot.Spot.{Spot}
use Rattle.dc_typing.specs.Judged.{Judged, broken, ◌>>=◌, needs, located, formed}
use Rattle.dc_typing.specs.Known.{Known}
use Rattle.dc_typing.specs.Operators.{step_op, assigning_op, prefix_op, infix_op}
use Rattle.dc_typing.specs.Spots.{holds_effect, site_at}

-- Postfix (C11 6.5.2) ------------------------------------------------------------------------------------------------

-- 5, 18
abbrev pub index : Structs → ℕ → Expr → Expr → Judged Expr
index structs site a b = formed site (index_type structs (type_of a) (type_of b)) (Index a b)

-- the place of a member by its name, where the type is a struct that has it
abbrev pub member_place : PlainScopes → Option PlainType → List ℕ → Option ℕ
member_place scopes t name = option_and_then (λ s. member_of scopes s name) (option_and_then struct_of t)

-- 17
abbrev pub member_at : Structs → ℕ → Expr → Option ℕ → Judged Expr
member_at structs site a (Some m) = formed site (member_type structs (type_of a) m) (Member a m)
member_at structs site a None = Err (broken NoMember site)

abbrev pub member : Known → ℕ → Expr → List ℕ → Judged Expr
member k site a name = member_at k.structs site a (member_place k.scopes (Some (type_of a)) name)

abbrev pub through_at : Structs → ℕ → Expr → Option ℕ → Judged Expr
through_at structs site a (Some m) = formed site (through_type structs (type_of a) m) (Through a m)
through_at structs site a None = Err (broken NoMember site)

abbrev pub through : Known → ℕ → Expr → List ℕ → Judged Expr
through k site a name = through_at k.structs site a (member_place k.scopes (pointee (type_of a)) name)

-- Steps and assignments (C11 6.5.2.4, 6.5.3.1, 6.5.16) ---------------------------------------------------------------

-- 20; 23 or 5 as of a sum; 28
abbrev pub steps : Structs → ℕ → Spot → Expr → Judged PlainType
steps structs site spot a =
    needs site NotAssignable (is_modifiable a)
    (located site (sum_type structs (type_of a) int) >>= λ t.
    needs site EffectInside (holds_effect spot) (Ok (bare (type_of a))))

abbrev pub after : Structs → Place → Spot → Mark → Expr → Judged Expr
after structs p spot m a = steps structs p.last spot a >>= λ t. Ok (Typed t (After (step_op m) a (site_at spot p.line)))

abbrev pub before : Structs → Place → Spot → Mark → Expr → Judged Expr
before structs p spot m a = steps structs p.last spot a >>= λ t. Ok (Typed t (Before (step_op m) a (site_at spot p.line)))

-- 20, 21, 28
abbrev pub assign : Structs → Place → Spot → Expr → Expr → Judged Expr
assign structs p spot a b =
    needs p.last NotAssignable (is_modifiable a)
    (needs p.last WrongValue (takes structs (type_of a) b)
    (needs p.last EffectInside (holds_effect spot) (Ok (Typed (bare (type_of a)) (Assign a b (site_at spot p.line))))))

-- 20; what the operator breaks; 21, of its result; 28
abbrev pub assign_by : Structs → Place → Spot → BinOp → Expr → Expr → Judged Expr
assign_by structs p spot op a b =
    needs p.last NotAssignable (is_modifiable a)
    (located p.last (binary_type structs op (type_of a) false (type_of b) (is_null structs b)) >>= λ t.
    needs p.last WrongValue (is_assignable (type_of a) t false)
    (needs p.last EffectInside (holds_effect spot) (Ok (Typed (bare (type_of a)) (AssignBy op a b (site_at spot p.line))))))

abbrev pub assigned_by : Structs → Place → Spot → Option BinOp → Expr → Expr → Judged Expr
assigned_by structs p spot None a b = assign structs p spot a b
assigned_by structs p spot (Some op) a b = assign_by structs p spot op a b

abbrev pub assigning : Structs → Place → Spot → Mark → Expr → Expr → Judged Expr
assigning structs p spot m a b = assigned_by structs p spot (assigning_op m) a b

-- Unary and cast (C11 6.5.3, 6.5.4) ----------------------------------------------------------------------------------

-- 19
abbrev pub address : ℕ → Expr → Judged Expr
address site a = needs site NoPlace (is_lvalue a || is_function (type_of a)) (Ok (Typed (Pointer (type_of a)) (AddressOf a)))

-- 16
abbrev pub deref : Structs → ℕ → Expr → Judged Expr
deref structs site a = formed site (deref_type structs (type_of a)) (Deref a)

-- 14, and 15 of `!`
abbrev pub unary : ℕ → UnaryOp → Expr → Judged Expr
unary site op a = formed site (unary_type op (type_of a)) (Unary op a)

abbrev pub prefixed : Structs → ℕ → Prefix → Expr → Judged Expr
prefixed structs site Address a = address site a
prefixed structs site Target a = deref structs site a
prefixed structs site (Operator op) a = unary site op a

abbrev pub prefix : Structs → ℕ → Mark → Expr → Judged Expr
prefix structs site m a = prefixed structs site (prefix_op m) a

-- 27
abbrev pub sizeof_expression : Structs → ℕ → Expr → Judged Expr
sizeof_expression structs site a = formed site (sizeof_type structs (type_of a)) (SizeofExpression a)

abbrev pub sizeof_named : Structs → ℕ → PlainType → Judged Expr
sizeof_named structs site t = formed site (sizeof_type structs t) (SizeofType t)

-- a cast to void is the whole
abbrev pub is_allowed_cast : Structs → Spot → PlainType → Expr → Bool
is_allowed_cast structs spot t a = if is_void t then holds_effect spot else is_cast t (type_of a) (is_constant_zero structs a)

-- 24; a value has no qualifier of its own
abbrev pub cast : Structs → ℕ → Spot → PlainType → Expr → Judged Expr
cast structs site spot t a = needs site NoCast (is_allowed_cast structs spot (bare t) a) (Ok (Typed (bare t) (Cast a)))

-- Two operands and more (C11 6.5.5 to 6.5.15) ------------------------------------------------------------------------

-- 5, 14, 22, 23
abbrev pub binary : Structs → ℕ → BinOp → Expr → Expr → Judged Expr
binary structs site op a b =
    formed site (binary_type structs op (type_of a) (is_null structs a) (type_of b) (is_null structs b)) (Binary op a b)

-- 15, of either operand
abbrev pub logical : ℕ → LogicalOp → Expr → Expr → Judged Expr
logical site op a b =
    needs site TruthNeeded (is_scalar (type_of a)) (needs site TruthNeeded (is_scalar (type_of b)) (Ok (Typed int (Logical op a b))))

abbrev pub joined : Structs → ℕ → Infix → Expr → Expr → Judged Expr
joined structs site (Both op) a b = binary structs site op a b
joined structs site (First op) a b = logical site op a b

abbrev pub between : Structs → ℕ → Mark → Expr → Expr → Judged Expr
between structs site m a b = joined structs site (infix_op m) a b

-- 15, 25
abbrev pub conditional : ℕ → Expr → Expr → Expr → Judged Expr
conditional site a b c =
    needs site TruthNeeded (is_scalar (type_of a)) (formed site (arms_type (type_of b) (type_of c)) (Conditional a b c))
