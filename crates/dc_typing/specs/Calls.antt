-- Calls (C11 6.5.2.2, 7.2, 7.22.3, 7.24).
use Rattle.std.specs.Prelude.{ℕ, suc, Bool, true, ◌&&◌, nat_eq, Option, Some, None, Ok, Err}
use Rattle.std.specs.Option.{option_map}
use Rattle.dc_layout.specs.Types.{PlainType, Void, Pointer, PlainTypes, NoTypes, Types, Structs}
use Rattle.dc_program.specs.declared.location.Location.{Location}
use Rattle.dc_program.specs.declared.rule.Rule.TheVariants.{TruthNeeded, WrongValue, NoCall, EffectInside}
use Rattle.dc_program.specs.Expressions.{Expr, Typed, Form, Call, Malloc, Calloc, Free, Memset, Memcpy, Memmove, Assert, Exprs, NoExprs, More, type_of, count_of}
use Rattle.dc_program.specs.Stands.{takes}
use Rattle.dc_program.specs.Types.{int, size, is_scalar}
use Rattle.dc_program.specs.Typing.{called_type, parameters_of, result_of}
use Rattle.dc_syntax.specs.Tokens.{Place}
use Rattle.dc_typing.specs.declared.builtin.Builtin.{Builtin}
use Rattle.dc_typing.specs.declared.builtin.Builtin.TheVariants as builtin
use Rattle.dc_typing.specs.declared.spot.Spot.{Spot}
use Rattle.dc_typing.specs.Judged.{Judged, broken, ◌>>=◌, needs, located}
use Rattle.dc_typing.specs.Spots.{holds_call, site_at}

-- each argument that has a parameter can be assigned to it
abbrev pub all_taken : Structs → PlainTypes → Exprs → Bool
all_taken structs NoTypes es = true
all_taken structs (Types t ts) NoExprs = true
all_taken structs (Types t ts) (More e es) = takes structs t e && all_taken structs ts es

abbrev pub count_types : PlainTypes → ℕ
count_types NoTypes = 0
count_types (Types t ts) = suc (count_types ts)

-- as many arguments as parameters
abbrev pub are_as_many : PlainTypes → Exprs → Bool
are_as_many ts es = nat_eq (count_types ts) (count_of es)

-- these arguments go to these parameters: 21, 26, 28
abbrev pub passed : Structs → ℕ → Spot → PlainTypes → Exprs → Judged (Unit {0})
passed structs site spot ts es =
    needs site WrongValue (all_taken structs ts es)
    (needs site NoCall (are_as_many ts es)
    (needs site EffectInside (holds_call spot) (Ok tt)))

-- 26: a function, or a pointer to one, is called
abbrev pub call : Structs → Place → Spot → Expr → Exprs → Judged Expr
call structs p spot f es =
    located p.last (called_type (type_of f)) >>= λ t.
    passed structs p.last spot (parameters_of t) es >>= λ u.
    Ok (Typed (result_of t) (Call f es (site_at spot p.line)))

-- what a built-in function takes, up to qualifiers; `assert` takes a truth value
abbrev pub builtin_parameters : Builtin → PlainTypes
builtin_parameters builtin.Malloc = Types size NoTypes
builtin_parameters builtin.Calloc = Types size (Types size NoTypes)
builtin_parameters builtin.Free = Types (Pointer Void) NoTypes
builtin_parameters builtin.Memset = Types (Pointer Void) (Types int (Types size NoTypes))
builtin_parameters builtin.Memcpy = Types (Pointer Void) (Types (Pointer Void) (Types size NoTypes))
builtin_parameters builtin.Memmove = Types (Pointer Void) (Types (Pointer Void) (Types size NoTypes))
builtin_parameters builtin.Assert = NoTypes

-- exactly one argument, two, and three
abbrev pub one_of : Exprs → Option Expr
one_of (More a NoExprs) = Some a
one_of _ = None

abbrev pub two_of : Exprs → Option (Expr × Expr)
two_of (More a (More b NoExprs)) = Some (a, b)
two_of _ = None

abbrev pub three_of : Exprs → Option (Expr × Expr × Expr)
three_of (More a (More b (More c NoExprs))) = Some (a, b, c)
three_of _ = None

-- its form, where there are as many arguments as it takes
abbrev pub builtin_form : Builtin → Exprs → Location → Option Form
builtin_form builtin.Malloc es l = option_map (λ n. Malloc n l) (one_of es)
builtin_form builtin.Calloc es l = option_map (λ p. Calloc p.0 p.1 l) (two_of es)
builtin_form builtin.Free es l = option_map (λ a. Free a l) (one_of es)
builtin_form builtin.Memset es l = option_map (λ p. Memset p.0 p.1 p.2 l) (three_of es)
builtin_form builtin.Memcpy es l = option_map (λ p. Memcpy p.0 p.1 p.2 l) (three_of es)
builtin_form builtin.Memmove es l = option_map (λ p. Memmove p.0 p.1 p.2 l) (three_of es)
builtin_form builtin.Assert es l = option_map (λ a. Assert a l) (one_of es)

-- what it gives
abbrev pub builtin_result : Builtin → PlainType
builtin_result builtin.Free = Void
builtin_result builtin.Assert = Void
builtin_result b = Pointer Void

-- 26, 28
abbrev pub made_call : ℕ → Spot → PlainType → Option Form → Judged Expr
made_call site spot t None = Err (broken NoCall site)
made_call site spot t (Some f) = needs site EffectInside (holds_call spot) (Ok (Typed t f))

-- 15 of `assert`
abbrev pub is_first_scalar : Exprs → Bool
is_first_scalar NoExprs = true
is_first_scalar (More e es) = is_scalar (type_of e)

abbrev pub is_tested : Builtin → Exprs → Bool
is_tested builtin.Assert es = is_first_scalar es
is_tested b es = true

-- 15, 21, 26, 28
abbrev pub call_builtin : Structs → Place → Spot → Builtin → Exprs → Judged Expr
call_builtin structs p spot b es =
    needs p.last TruthNeeded (is_tested b es)
    (needs p.last WrongValue (all_taken structs (builtin_parameters b) es)
    (made_call p.last spot (builtin_result b) (builtin_form b es (site_at spot p.line))))
