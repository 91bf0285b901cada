-- Words on types (C11 6.2.5, 6.3.2.1, 6.7.3).
use Rattle.std.specs.Prelude.{ℕ, Bool, true, false, ◌&&◌, ◌==◌, not, Option, Some, None, is_some, is_ok, if◌then◌else◌}
use Rattle.dc_layout.specs.Types.{PlainType, Void, Num, Pointer, Array, Struct, Func, Const, PlainTypes, NoTypes, Types, Structs}
use Rattle.dc_layout.specs.Layout.{extent_of, size_answer}
use Rattle.dc_layout.specs.declared.kind.LayKind.{LayKind}
use Rattle.dc_layout.specs.declared.kind.LayKind.TheVariants as lay
use Rattle.dc_num.specs.declared.kind.NumKind.{NumKind}
use Rattle.dc_num.specs.declared.kind.NumKind.TheVariants.{S32, U64, S64, Ptr}
use Rattle.dc_program.specs.Kinds.{num_kind, lay_kind}

-- the type of numbers of a kind
abbrev pub number : NumKind → PlainType
number k = Num (lay_kind k)

abbrev pub int : PlainType
int = number S32

-- the type of sizes
abbrev pub size : PlainType
size = number U64

-- the type of distances between pointers
abbrev pub distance : PlainType
distance = number S64

-- a number for each kind
abbrev pub rank : LayKind → ℕ
rank lay.Bool = 0
rank lay.S8 = 1
rank lay.U8 = 2
rank lay.S16 = 3
rank lay.U16 = 4
rank lay.S32 = 5
rank lay.U32 = 6
rank lay.S64 = 7
rank lay.U64 = 8
rank lay.Ptr = 9

abbrev pub same_kind : LayKind → LayKind → Bool
same_kind k l = rank k == rank l

abbrev mutual
  pub same : PlainType → PlainType → Bool
  same Void Void = true
  same (Num k) (Num l) = same_kind k l
  same (Pointer t) (Pointer u) = same t u
  same (Array t n) (Array u m) = same t u && n == m
  same (Struct s) (Struct r) = s == r
  same (Func t ts) (Func u us) = same t u && all_same ts us
  same (Const t) (Const u) = same t u
  same t u = false

  pub all_same : PlainTypes → PlainTypes → Bool
  all_same NoTypes NoTypes = true
  all_same (Types t ts) (Types u us) = same t u && all_same ts us
  all_same ts us = false

-- without qualifiers, at every depth
abbrev mutual
  pub stripped : PlainType → PlainType
  stripped Void = Void
  stripped (Num k) = Num k
  stripped (Pointer t) = Pointer (stripped t)
  stripped (Array t n) = Array (stripped t) n
  stripped (Struct s) = Struct s
  stripped (Func t ts) = Func (stripped t) (all_stripped ts)
  stripped (Const t) = stripped t

  pub all_stripped : PlainTypes → PlainTypes
  all_stripped NoTypes = NoTypes
  all_stripped (Types t ts) = Types (stripped t) (all_stripped ts)

-- equal up to qualifiers
abbrev pub alike : PlainType → PlainType → Bool
alike t u = same (stripped t) (stripped u)

-- without its own qualifier
abbrev pub bare : PlainType → PlainType
bare (Const t) = bare t
bare t = t

abbrev pub is_const : PlainType → Bool
is_const (Const t) = true
is_const t = false

-- with a qualifier: of an array, its elements have it (C11 6.7.3 p9)
abbrev pub qualified : PlainType → PlainType
qualified (Array t n) = Array (qualified t) n
qualified (Const t) = Const t
qualified t = Const t

abbrev pub qualified_if : Bool → PlainType → PlainType
qualified_if true t = qualified t
qualified_if false t = t

-- the type of what an lvalue or a function gives as a value: an array and a function become pointers (C11 6.3.2.1)
abbrev pub decayed : PlainType → PlainType
decayed (Const t) = decayed t
decayed (Array t n) = Pointer t
decayed (Func t ts) = Pointer (Func t ts)
decayed t = t

abbrev pub kind_of : PlainType → Option NumKind
kind_of (Num k) = Some (num_kind k)
kind_of (Pointer t) = Some Ptr
kind_of t = None

-- the kind of the values of a type, where they are numbers or pointers
abbrev pub value_kind : PlainType → Option NumKind
value_kind t = kind_of (decayed t)

abbrev pub number_of : PlainType → Option NumKind
number_of (Num k) = Some (num_kind k)
number_of t = None

-- the kind of the values, where they are numbers
abbrev pub number_kind : PlainType → Option NumKind
number_kind t = number_of (bare t)

abbrev pub is_number : PlainType → Bool
is_number t = is_some (number_kind t)

abbrev pub target_of : PlainType → Option PlainType
target_of (Pointer t) = Some t
target_of t = None

-- what the values point to, where they are pointers
abbrev pub pointee : PlainType → Option PlainType
pointee t = target_of (decayed t)

abbrev pub is_pointer : PlainType → Bool
is_pointer t = is_some (pointee t)

-- is itself a pointer type, not an array or function that becomes a pointer
abbrev pub is_pointer_type : PlainType → Bool
is_pointer_type t = is_some (target_of (bare t))

-- a number or a pointer (C11 6.2.5 p21)
abbrev pub is_scalar : PlainType → Bool
is_scalar t = is_some (value_kind t)

abbrev pub is_function : PlainType → Bool
is_function (Func t ts) = true
is_function t = false

abbrev pub is_void : PlainType → Bool
is_void (Void) = true
is_void t = false

abbrev pub is_object_target : Option PlainType → Bool
is_object_target None = false
is_object_target (Some t) = not (is_function t)

-- a pointer to an object, of a type that may be incomplete
abbrev pub is_object_pointer : PlainType → Bool
is_object_pointer t = is_object_target (pointee t)

abbrev pub is_void_target : Option PlainType → Bool
is_void_target None = false
is_void_target (Some t) = is_void (bare t)

abbrev pub is_void_pointer : PlainType → Bool
is_void_pointer t = is_void_target (pointee t)

abbrev pub struct_number : PlainType → Option ℕ
struct_number (Struct s) = Some s
struct_number t = None

-- the number of the struct that the type is
abbrev pub struct_of : PlainType → Option ℕ
struct_of t = struct_number (bare t)

-- has a size, however large (C11 6.2.5 p1)
abbrev pub is_complete : Structs → PlainType → Bool
is_complete structs t = is_some (extent_of structs t)

-- has a size within the limit
abbrev pub is_sized : Structs → PlainType → Bool
is_sized structs t = is_ok (size_answer structs t)

-- a size within the limit; of an array without a length, which is written as one of 0 elements, its elements' size
abbrev pub is_within_limit : Structs → PlainType → Bool
is_within_limit structs (Array t n) = if n == 0 then is_sized structs t else is_sized structs (Array t n)
is_within_limit structs t = is_sized structs t
