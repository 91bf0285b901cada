-- C's types (C11 6.2.5) and structs as plain data, and which of it a value of the code is.
use Rattle.std.specs.Prelude.{ℕ, List, [], ◌∷◌, map, Option, None, slice_index_or}
use Rattle.std.specs.Option.{option_map}
use Rattle.dc_layout.specs.declared.kind.LayKind.{LayKind}
use Rattle.dc_layout.specs.declared.kind.LayKind.TheVariants.{Bool, S8, U8, S16, U16, S32, U32, S64, U64, Ptr}
use Rattle.dc_layout.specs.declared.ctype.CType.{CType}
use Rattle.dc_layout.specs.declared.ctype.CType.TheFolds.{fold-CType}
use Rattle.dc_layout.specs.declared.ctype.CType.TheOpen.{CType-F}

-- a type; `Struct` has the struct's number
mutual
  pub data PlainType : Type 0 where
    Void : PlainType
    Num : LayKind → PlainType
    Pointer : PlainType → PlainType
    Array : PlainType → ℕ → PlainType
    Struct : ℕ → PlainType
    Func : PlainType → PlainTypes → PlainType
    Const : PlainType → PlainType

  pub data PlainTypes : Type 0 where
    NoTypes : PlainTypes
    Types : PlainType → PlainTypes → PlainTypes

-- structs, numbered from 0: the types of each one's members, or none yet
abbrev pub Structs : Type 0
Structs = List (Option (List PlainType))

-- how many bytes a number has
abbrev pub bytes_of : LayKind → ℕ
bytes_of Bool = 1
bytes_of S8 = 1
bytes_of U8 = 1
bytes_of S16 = 2
bytes_of U16 = 2
bytes_of S32 = 4
bytes_of U32 = 4
bytes_of S64 = 8
bytes_of U64 = 8
bytes_of Ptr = 8

-- the types of the members of struct s; none where it has none yet, and where there is no such struct
abbrev pub members_of : {A : Type 0} → List (Option A) → ℕ → Option A
members_of structs s = slice_index_or structs s None

-- the parameters of a function as plain data
abbrev pub types : List PlainType → PlainTypes
types [] = NoTypes
types (t ∷ ts) = Types t (types ts)

-- a form of type, whose parts are seen already
abbrev pub type_step : CType-F PlainType → PlainType
type_step CType-F.Void = Void
type_step (CType-F.Num k) = Num k
type_step (CType-F.Pointer t) = Pointer t
type_step (CType-F.Array t n) = Array t n
type_step (CType-F.Struct s) = Struct s
type_step (CType-F.Func t ts) = Func t (types ts)
type_step (CType-F.Const t) = Const t

-- the plain type that a type of the code is
abbrev pub type_view : CType → PlainType
type_view = fold-CType PlainType type_step

-- the plain structs that a table's value is
abbrev pub structs_view : List (Option (List CType)) → Structs
structs_view = map (option_map (map type_view))
