-- What the definitions say of types worked out by hand.
use Rattle.std.proofs.Common.{◌≡◌, refl, [], ◌∷◌, Some, None}
use Rattle.std.specs.Prelude.{Ok, Err}
use Rattle.dc_layout.specs.declared.kind.LayKind.TheVariants.{S8, S16, S32, S64}
use Rattle.dc_layout.specs.declared.fault.Layout.TheVariants.{TooLarge, Incomplete}
use Rattle.dc_layout.specs.Types.{Structs, Void, Num, Pointer, Array, Struct, Func, Const, NoTypes}
use Rattle.dc_layout.specs.Layout.{size_answer, align_answer, offset_answer}

-- struct 1 has struct 2, which got its members first; struct 3 has itself behind a pointer; struct 4 has itself, which no
-- table has; struct 5 is too large
abbrev structs : Structs
structs =
    Some (Num S8 ∷ Num S32 ∷ Num S16 ∷ [])
    ∷ Some (Num S8 ∷ Struct 2 ∷ Array (Struct 0) 2 ∷ [])
    ∷ Some (Num S16 ∷ Const (Num S64) ∷ [])
    ∷ Some (Pointer (Struct 3) ∷ Num S8 ∷ [])
    ∷ Some (Struct 4 ∷ [])
    ∷ Some (Array (Num S8) 16777215 ∷ Num S16 ∷ [])
    ∷ None
    ∷ []

first_size : size_answer structs (Struct 0) ≡ Ok 12
unfolding size_answer
first_size = refl

first_align : align_answer structs (Struct 0) ≡ Ok 4
unfolding align_answer
first_align = refl

first_offset : offset_answer structs 0 2 ≡ Ok 8
unfolding offset_answer
first_offset = refl

nested_size : size_answer structs (Struct 1) ≡ Ok 48
unfolding size_answer
nested_size = refl

nested_offset : offset_answer structs 1 2 ≡ Ok 24
unfolding offset_answer
nested_offset = refl

itself_behind_a_pointer : size_answer structs (Struct 3) ≡ Ok 16
unfolding size_answer
itself_behind_a_pointer = refl

itself : size_answer structs (Struct 4) ≡ Err Incomplete
unfolding size_answer
itself = refl

large : size_answer structs (Struct 5) ≡ Err TooLarge
unfolding size_answer
large = refl

large_offset : offset_answer structs 5 1 ≡ Err TooLarge
unfolding offset_answer
large_offset = refl

without_length : size_answer structs (Array (Struct 5) 0) ≡ Err Incomplete
unfolding size_answer
without_length = refl

behind_a_pointer : size_answer structs (Pointer (Array (Struct 5) 0)) ≡ Ok 8
unfolding size_answer
behind_a_pointer = refl

open_struct : size_answer structs (Array (Struct 6) 0) ≡ Err Incomplete
unfolding size_answer
open_struct = refl

open_offset : offset_answer structs 6 0 ≡ Err Incomplete
unfolding offset_answer
open_offset = refl

most : size_answer structs (Array (Num S32) 4194304) ≡ Ok 16777216
unfolding size_answer
most = refl

above : size_answer structs (Array (Num S32) 4194305) ≡ Err TooLarge
unfolding size_answer
above = refl

all_of_memory : size_answer structs (Array (Array (Num S8) 16777216) 18446744073709551615) ≡ Err TooLarge
unfolding size_answer
all_of_memory = refl

array_of_void : size_answer structs (Array Void 3) ≡ Err Incomplete
unfolding size_answer
array_of_void = refl

function : size_answer structs (Func Void NoTypes) ≡ Err Incomplete
unfolding size_answer
function = refl
