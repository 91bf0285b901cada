-- Memories that may be there at entry, with any arguments, and the choices that lead to them.
use Rattle.std.specs.Prelude.{◌≡◌, ◌≤◌, ◌<◌, ℕ, ℤ, Bool, true, false, List, [], ◌∷◌, ◌++◌, length, flat_map, replicate, ⊤}
use Rattle.std.specs.List.{AllByRecursion}
use Rattle.dc_num.specs.declared.kind.NumKind.{NumKind}
use Rattle.dc_num.specs.Kinds.{IsValue}
use Rattle.dc_num.specs.Conversions.{bits}
use Rattle.dc_core.specs.Choices.{Drawn, Drew, Dry}
use Rattle.dc_memory.specs.declared.object.ObjKind.{ObjKind}
use Rattle.dc_memory.specs.declared.object.ObjKind.TheVariants.{Function, Static, Heap, Stack}
use Rattle.dc_memory.specs.declared.object.Object.{Object}
use Rattle.dc_memory.specs.Objects.{Memory, object_limit, size_limit}
use Rattle.dc_core.specs.Objects.{function_object}

abbrev pub AreBytes : List ℕ → Type 0
AreBytes bytes = AllByRecursion (λ byte. byte < 256) bytes

-- a variable of file scope of this size
pub record IsStatic (size : ℕ) (object : Object) : Type 0 where
  pub kind : object.kind ≡ Static
  pub live : object.live ≡ true
  pub sized : length object.bytes ≡ size
  pub bytes : AreBytes object.bytes

-- one for each size, in their order
abbrev pub AreStatics : List ℕ → Memory → Type 0
AreStatics [] [] = ⊤
AreStatics [] (object ∷ objects) = ⊥
AreStatics (size ∷ sizes) [] = ⊥
AreStatics (size ∷ sizes) (object ∷ objects) = IsStatic size object × AreStatics sizes objects

abbrev pub IsOutsideKind : ObjKind → Type 0
IsOutsideKind Heap = ⊤
IsOutsideKind Stack = ⊤
IsOutsideKind Function = ⊥
IsOutsideKind Static = ⊥

-- an object of the heap or a stack, within the limit; a dead one has no bytes
pub record IsOutside (object : Object) : Type 0 where
  pub kind : IsOutsideKind object.kind
  pub small : length object.bytes ≤ size_limit
  pub dead : object.live ≡ false → object.bytes ≡ []
  pub bytes : AreBytes object.bytes

-- the functions, then the variables of file scope, then any objects of the heap and the stacks
pub record IsWellFormed (functions : ℕ) (sizes : List ℕ) (memory : Memory) : Type 0 where
  pub statics : Memory
  pub outside : Memory
  pub whole : memory ≡ (replicate functions function_object ++ statics) ++ outside
  pub are_statics : AreStatics sizes statics
  pub are_outside : AllByRecursion IsOutside outside
  pub few : length memory ≤ object_limit

abbrev pub AreValues : List NumKind → List ℤ → Type 0
AreValues [] [] = ⊤
AreValues [] (value ∷ values) = ⊥
AreValues (kind ∷ kinds) [] = ⊥
AreValues (kind ∷ kinds) (value ∷ values) = IsValue kind value × AreValues kinds values

-- the sort that is drawn for an object
abbrev pub sort_of : ObjKind → Bool → ℕ
sort_of Heap false = 0
sort_of Stack false = 1
sort_of Heap true = 2
sort_of kind live = 3

abbrev pub drawn_bytes : Object → List ℕ
drawn_bytes object = object.bytes

abbrev pub live_choices : Bool → List ℕ → List ℕ
live_choices false bytes = []
live_choices true bytes = length bytes ∷ bytes

abbrev pub outside_choices : Object → List ℕ
outside_choices object = sort_of object.kind object.live ∷ live_choices object.live object.bytes

abbrev pub value_choices : List NumKind → List ℤ → List ℕ
value_choices [] values = []
value_choices (kind ∷ kinds) [] = []
value_choices (kind ∷ kinds) (value ∷ values) = bits kind value ∷ value_choices kinds values

-- the choices that lead to these variables, outside objects and arguments
abbrev pub entry_choices : Memory → Memory → List NumKind → List ℤ → List ℕ
entry_choices statics outside kinds arguments =
    flat_map drawn_bytes statics ++ (length outside ∷ (flat_map outside_choices outside ++ value_choices kinds arguments))

-- the draws gave the value, and these choices are left
abbrev pub Gives : {A : Type 0} → Drawn A → A → List ℕ → Type 0
Gives (Drew value rest events) a left = (value ≡ a) × (rest ≡ left)
Gives (Dry events) a left = ⊥
