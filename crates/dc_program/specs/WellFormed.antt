-- Types that a program may have (C11 6.7.2 to 6.7.6): structs are there, and arrays and their elements have sizes within
-- the limit. An array without a length is a type too, but has no size.
use Rattle.std.specs.Prelude.{Bool, true, false, ◌&&◌, length, nat_lt}
use Rattle.dc_layout.specs.declared.kind.LayKind.{LayKind}
use Rattle.dc_layout.specs.declared.kind.LayKind.TheVariants.{Ptr}
use Rattle.dc_layout.specs.Types.{PlainType, Void, Num, Pointer, Array, Struct, Func, Const, PlainTypes, NoTypes, Types, Structs}
use Rattle.dc_program.specs.Types.{is_within_limit}

-- the numbers of pointers are no type of C
abbrev pub is_number_kind : LayKind → Bool
is_number_kind Ptr = false
is_number_kind k = true

-- a qualifier stands at no array, no function and no qualified type
abbrev pub is_qualifiable : PlainType → Bool
is_qualifiable (Array t n) = false
is_qualifiable (Func t ts) = false
is_qualifiable (Const t) = false
is_qualifiable t = true

-- a function may give it: no array, no function and no struct
abbrev pub is_result : PlainType → Bool
is_result (Array t n) = false
is_result (Func t ts) = false
is_result (Struct s) = false
is_result (Const t) = is_result t
is_result t = true

-- a function may take it: it may be given and isn't void
abbrev pub is_parameter : PlainType → Bool
is_parameter Void = false
is_parameter (Const t) = is_parameter t
is_parameter t = is_result t

abbrev mutual
  pub is_type : Structs → PlainType → Bool
  is_type structs Void = true
  is_type structs (Num k) = is_number_kind k
  is_type structs (Pointer t) = is_type structs t
  is_type structs (Array t n) = is_type structs t && is_within_limit structs (Array t n)
  is_type structs (Struct s) = nat_lt s (length structs)
  is_type structs (Func t ts) = is_type structs t && is_result t && are_parameters structs ts
  is_type structs (Const t) = is_type structs t && is_qualifiable t

  pub are_parameters : Structs → PlainTypes → Bool
  are_parameters structs NoTypes = true
  are_parameters structs (Types t ts) = is_type structs t && is_parameter t && are_parameters structs ts
