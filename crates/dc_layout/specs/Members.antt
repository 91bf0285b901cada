-- What the code computes of the members of a struct.
use Rattle.std.specs.Prelude.{ℕ, List, map, take, slice_get, Option}
use Rattle.std.specs.Option.{option_map, option_and_then}
use Rattle.std.specs.Int.{next_multiple_of}
use Rattle.dc_layout.specs.declared.capped.Capped.{Capped}
use Rattle.dc_layout.specs.declared.ctype.CType.{CType}
use Rattle.dc_layout.specs.Types.{Structs, type_view}
use Rattle.dc_layout.specs.Layout.{Extent, extents, end_of, largest_align, whole, struct_extent, extent_of}
use Rattle.dc_layout.specs.Kept.{capped}

-- the extents of members, where each has one
abbrev pub member_extents : Structs → List CType → Option (List Extent)
member_extents structs members = extents (struct_extent structs) (map type_view members)

-- where they end, and their largest alignment
abbrev pub placed_of : Structs → List CType → Option Capped
placed_of structs members = option_map (λ es. capped (record { size = end_of es; align = largest_align es })) (member_extents structs members)

-- the struct that they make
abbrev pub whole_of : Structs → List CType → Option Capped
whole_of structs members = option_map (λ es. capped (whole es)) (member_extents structs members)

-- where the member with this number begins, if it and those before it have extents
abbrev pub begin_of : Structs → List CType → ℕ → Option ℕ
begin_of structs members i =
    option_and_then
    (λ before. option_and_then (λ t. option_map (λ m. next_multiple_of before.size m.align) (extent_of structs (type_view t))) (slice_get members i))
    (placed_of structs (take i members))
