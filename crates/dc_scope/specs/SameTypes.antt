-- Which types are the same (C11 6.2.7, 6.7.3, 6.7.6.3).
use Rattle.std.specs.Prelude.{Bool, true, false, ◌&&◌, nat_eq}
use Rattle.dc_layout.specs.Types.{PlainType, PlainTypes, Void, Num, Pointer, Array, Struct, Func, Const, NoTypes, Types}
use Rattle.dc_layout.specs.declared.kind.LayKind.{LayKind}
use Rattle.dc_layout.specs.declared.kind.LayKind.TheVariants.{Bool as Truth, S8, U8, S16, U16, S32, U32, S64, U64, Ptr}

-- of one width and sign
abbrev pub same_kind : LayKind → LayKind → Bool
same_kind Truth Truth = true
same_kind S8 S8 = true
same_kind U8 U8 = true
same_kind S16 S16 = true
same_kind U16 U16 = true
same_kind S32 S32 = true
same_kind U32 U32 = true
same_kind S64 S64 = true
same_kind U64 U64 = true
same_kind Ptr Ptr = true
same_kind _ _ = false

-- the type without its outermost qualifier
abbrev pub unqualified : PlainType → PlainType
unqualified (Const t) = t
unqualified t = t

abbrev mutual
  -- with their qualifiers, and structs by their numbers
  pub same_type : PlainType → PlainType → Bool
  same_type Void Void = true
  same_type (Num k) (Num l) = same_kind k l
  same_type (Pointer t) (Pointer u) = same_type t u
  same_type (Array t m) (Array u n) = nat_eq m n && same_type t u
  same_type (Struct m) (Struct n) = nat_eq m n
  same_type (Func t ps) (Func u qs) = same_type t u && same_parameters ps qs
  same_type (Const t) (Const u) = same_type t u
  same_type _ _ = false

  -- a parameter's own qualifier is passed over (C11 6.7.6.3)
  pub same_parameters : PlainTypes → PlainTypes → Bool
  same_parameters NoTypes NoTypes = true
  same_parameters (Types (Const p) ps) (Types q qs) = same_type p (unqualified q) && same_parameters ps qs
  same_parameters (Types p ps) (Types q qs) = same_type p (unqualified q) && same_parameters ps qs
  same_parameters _ _ = false
