-- Sizes, alignments and offsets in bytes (C11 6.2.8, 6.5.3.4, 6.7.2.1), with the sizes of this project and natural alignment.
use Rattle.std.specs.Prelude.{ℕ, zero, suc, ◌+◌, ◌*◌, ◌==◌, max, List, [], ◌∷◌, fold, map, take, length, slice_index, count_by, is_some, Option, Some, None, Result, Ok, Err, if◌then◌else◌, nat_lt, ◌<◌, ⊤}
use Rattle.std.specs.Option.{option_map, option_and_then}
use Rattle.std.specs.Int.{next_multiple_of}
use Rattle.dc_layout.specs.declared.fault.Layout.{Layout}
use Rattle.dc_layout.specs.declared.fault.Layout.TheVariants.{TooLarge, Incomplete}
use Rattle.dc_layout.specs.Types.{PlainType, Void, Num, Pointer, Array, Struct, Func, Const, Structs, bytes_of, members_of}

-- how many bytes there are, and of what number the place of the first one is a multiple
pub record Extent : Type 0 where
  pub size : ℕ
  pub align : ℕ

-- natural alignment: to the size
abbrev pub scalar : ℕ → Extent
scalar bytes = record { size = bytes; align = bytes }

-- an array: elements without a gap, with the alignment of one; none without a length, which is written as 0 (C11 6.2.5 p22)
abbrev pub repeated : ℕ → Extent → Option Extent
repeated count e = if count == 0 then None else Some (record { size = count * e.size; align = e.align })

-- where members end that stand one behind the other, each at the next multiple of its alignment
abbrev pub end_of : List Extent → ℕ
end_of members = fold (λ end m. next_multiple_of end m.align + m.size) 0 members

-- the largest alignment of all members, 1 where there is none
abbrev pub largest_align : List Extent → ℕ
largest_align members = fold (λ most m. max most m.align) 1 members

-- a struct: its members, rounded up to the largest alignment
abbrev pub whole : List Extent → Extent
whole members = record { size = next_multiple_of (end_of members) (largest_align members); align = largest_align members }

-- where member i begins: behind those before it, at the next multiple of its alignment
abbrev pub offset_in : List Extent → ℕ → ℕ
offset_in members i = next_multiple_of (end_of (take i members)) (slice_index (map (λ m. m.align) members) i)

-- the extent of a type, where those of structs are given; none where a part has no size
abbrev pub extent : (ℕ → Option Extent) → PlainType → Option Extent
extent of_struct Void = None
extent of_struct (Num k) = Some (scalar (bytes_of k))
extent of_struct (Pointer t) = Some (scalar 8)
extent of_struct (Array t n) = option_and_then (repeated n) (extent of_struct t)
extent of_struct (Struct s) = of_struct s
extent of_struct (Func t ts) = None
extent of_struct (Const t) = extent of_struct t

-- those of all types, where each has one
abbrev pub extents : (ℕ → Option Extent) → List PlainType → Option (List Extent)
extents of_struct [] = Some []
extents of_struct (t ∷ ts) = option_and_then (λ e. option_map (λ es. e ∷ es) (extents of_struct ts)) (extent of_struct t)

-- the extents of the members of struct s, through at most n structs, one within the other
abbrev pub members_within : ℕ → Structs → ℕ → Option (List Extent)
members_within zero structs s = None
members_within (suc n) structs s = option_and_then (λ ts. extents (λ r. option_map whole (members_within n structs r)) ts) (members_of structs s)

-- how many structs have members; no more are one within the other, since none is within itself
abbrev pub complete_count : {A : Type 0} → List (Option A) → ℕ
complete_count structs = count_by (λ s. is_some s) structs

-- the extents of the members of struct s, through as many structs as there may be
abbrev pub laid_members : Structs → ℕ → Option (List Extent)
laid_members structs s = members_within (complete_count structs) structs s

-- the extent of struct s
abbrev pub struct_extent : Structs → ℕ → Option Extent
struct_extent structs s = option_map whole (laid_members structs s)

-- the extent of a type among these structs
abbrev pub extent_of : Structs → PlainType → Option Extent
extent_of structs t = extent (struct_extent structs) t

-- the most bytes of a type, 2 to the 24
abbrev pub limit : ℕ
limit = 16777216

-- a part without a size is answered first, then a whole that is too large
abbrev pub answer : {A : Type 0} → (A → ℕ) → (A → ℕ) → Option A → Result ℕ Layout
answer size value None = Err Incomplete
answer size value (Some a) = if nat_lt limit (size a) then Err TooLarge else Ok (value a)

-- the answer for the size of a type
unfoldable pub size_answer : Structs → PlainType → Result ℕ Layout
size_answer structs t = answer (λ e. e.size) (λ e. e.size) (extent_of structs t)

-- the answer for its alignment
unfoldable pub align_answer : Structs → PlainType → Result ℕ Layout
align_answer structs t = answer (λ e. e.size) (λ e. e.align) (extent_of structs t)

-- the answer for the offset of member i of struct s; what may be too large is the whole struct
unfoldable pub offset_answer : Structs → ℕ → ℕ → Result ℕ Layout
offset_answer structs s i = answer (λ members. (whole members).size) (λ members. offset_in members i) (laid_members structs s)

-- where there are members, one has this number
abbrev pub HasMember : {A : Type 0} → Option (List A) → ℕ → Type 0
HasMember None i = ⊤
HasMember (Some members) i = i < length members
