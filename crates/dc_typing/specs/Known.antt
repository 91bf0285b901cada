-- What is known where a phrase stands, and what a name is there (C11 6.2.1, 6.5.1).
use Rattle.std.specs.Prelude.{ℕ, List, [], ◌∷◌, ◌++◌, Option, Some, None, Ok, Err, codes, if◌then◌else◌}
use Rattle.std.specs.Map.{lookup}
use Rattle.std.specs.Option.{option_or}
use Rattle.dc_text.specs.Words.{same}
use Rattle.dc_layout.specs.Types.{PlainType, Pointer, Void, Structs}
use Rattle.dc_num.specs.declared.kind.NumKind.{NumKind}
use Rattle.dc_num.specs.declared.kind.NumKind.TheVariants.{Ptr}
use Rattle.dc_program.specs.declared.rule.Rule.TheVariants.{Undeclared, ReservedName}
use Rattle.dc_program.specs.Expressions.{Expr, Typed, Literal}
use Rattle.dc_program.specs.Expressions as expr
use Rattle.dc_program.specs.Types.{number}
use Rattle.dc_scope.specs.declared.space.Space.TheVariants.{Ordinary}
use Rattle.dc_scope.specs.Entities.{PlainEntity, Function, Static, Local, Typedef, Constant, Quantified, StructTag, EnumTag}
use Rattle.dc_scope.specs.Scopes.{Names, PlainScopes, found}
use Rattle.dc_typing.specs.Judged.{Judged, broken}
use Rattle.dc_typing.specs.declared.builtin.Builtin.{Builtin}
use Rattle.dc_typing.specs.declared.builtin.Builtin.TheVariants.{Malloc, Calloc, Free, Memset, Memcpy, Memmove, Assert}

-- the scopes, the structs, and the parameters of the lists around in a type-name, the innermost list first
pub record Known : Type 0 where
  pub scopes : PlainScopes
  pub structs : Structs
  pub parameters : List Names

-- a list of parameters begins
abbrev pub within : Known → Known
within k = record k { parameters = [] ∷ k.parameters }

-- a parameter of the innermost list
abbrev pub own_parameter : List Names → List ℕ → Option PlainEntity
own_parameter [] name = None
own_parameter (names ∷ around) name = lookup (same name) names

-- a parameter of any list around
abbrev pub found_parameter : List Names → List ℕ → Option PlainEntity
found_parameter [] name = None
found_parameter (names ∷ around) name = option_or (lookup (same name) names) (found_parameter around name)

-- one more parameter of the innermost list; it has no number, since nothing of a type-name runs
abbrev pub with_parameter : List Names → List ℕ → PlainType → List Names
with_parameter [] name t = []
with_parameter (names ∷ around) name t = (names ++ (name, Local 0 t) ∷ []) ∷ around

-- what a name stands for
abbrev pub found_name : Known → List ℕ → Option PlainEntity
found_name k name = option_or (found_parameter k.parameters name) (found k.scopes Ordinary name)

-- the functions that are built in
abbrev pub builtin_named : List ℕ → Option Builtin
builtin_named name =
    if same name (codes "malloc") then Some Malloc
    else (if same name (codes "calloc") then Some Calloc
    else (if same name (codes "free") then Some Free
    else (if same name (codes "memset") then Some Memset
    else (if same name (codes "memcpy") then Some Memcpy
    else (if same name (codes "memmove") then Some Memmove
    else (if same name (codes "assert") then Some Assert
    else None))))))

-- the type of a constant; `NULL` alone is a pointer
abbrev pub constant_type : NumKind → PlainType
constant_type Ptr = Pointer Void
constant_type k = number k

-- 1: what is no object, function or constant is no name of an expression
abbrev pub entity_value : ℕ → PlainEntity → Judged Expr
entity_value site (Function n t) = Ok (Typed t (expr.Function n))
entity_value site (Static n t) = Ok (Typed t (expr.Static n))
entity_value site (Local n t) = Ok (Typed t (expr.Local n))
entity_value site (Constant k v) = Ok (Typed (constant_type k) (Literal v))
entity_value site (Quantified d k) = Ok (Typed (number k) (expr.Quantified d))
entity_value site (Typedef t) = Err (broken Undeclared site)
entity_value site (StructTag s) = Err (broken Undeclared site)
entity_value site EnumTag = Err (broken Undeclared site)

-- 13: a built-in function is called, and else not named; 1: any other name is declared
abbrev pub unknown : ℕ → Option Builtin → Judged Expr
unknown site (Some b) = Err (broken ReservedName site)
unknown site None = Err (broken Undeclared site)

abbrev pub name_value : ℕ → List ℕ → Option PlainEntity → Judged Expr
name_value site name (Some e) = entity_value site e
name_value site name None = unknown site (builtin_named name)

-- the name of an expression
abbrev pub named : Known → ℕ → List ℕ → Judged Expr
named k site name = name_value site name (found_name k name)
