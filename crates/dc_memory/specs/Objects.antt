-- The memory: objects (C11 3.15, 6.2.4), numbered from 1 in the order of their creation.
use Rattle.std.specs.Prelude.{◌≡◌, ℕ, zero, suc, ◌≤◌, Bool, true, false, List, [], ◌∷◌, length, replicate, Option, None, Some, slice_get, All}
use Rattle.dc_memory.specs.declared.object.ObjKind.{ObjKind}
use Rattle.dc_memory.specs.declared.object.ObjKind.TheVariants.{Function}
use Rattle.dc_memory.specs.declared.object.Object.{Object}

-- the first object has the number 1
abbrev pub Memory : Type 0
Memory = List Object

-- so many objects exist at most
abbrev pub object_limit : ℕ
object_limit = 65535

-- an object has so many bytes at most
abbrev pub size_limit : ℕ
size_limit = 16777216

-- a dead object has no bytes; a function is live and has none either
pub record IsObject (object : Object) : Type 0 where
  pub small : length object.bytes ≤ size_limit
  pub dead : object.live ≡ false → object.bytes ≡ []
  pub function : object.kind ≡ Function → (object.live ≡ true) × (object.bytes ≡ [])

-- what every memory keeps
pub record IsMemory (memory : Memory) : Type 0 where
  pub few : length memory ≤ object_limit
  pub each : All IsObject memory

-- an object as it is created: all of its bytes are zero
abbrev pub created : ObjKind → Bool → ℕ → Object
created kind live size = record { kind = kind; live = live; bytes = replicate size 0 }

-- a live object of these bytes
abbrev pub holding : ObjKind → List ℕ → Object
holding kind bytes = record { kind = kind; live = true; bytes = bytes }

-- a dead object keeps its kind and has no bytes
abbrev pub killed : Object → Object
killed object = record { kind = object.kind; live = false; bytes = [] }

-- the object of a number
abbrev pub object_at : Memory → ℕ → Option Object
object_at memory zero = None
object_at memory (suc k) = slice_get memory k

-- the element at an index is changed
abbrev pub update : ℕ → (Object → Object) → Memory → Memory
update k change [] = []
update zero change (object ∷ memory) = change object ∷ memory
update (suc k) change (object ∷ memory) = object ∷ update k change memory

-- the object of a number is changed
abbrev pub changed : ℕ → (Object → Object) → Memory → Memory
changed zero change memory = memory
changed (suc k) change memory = update k change memory

-- it is there and live
abbrev pub live_object : Option Object → Bool
live_object None = false
live_object (Some object) = object.live

-- the number is a live object's
abbrev pub is_live : Memory → ℕ → Bool
is_live memory object = live_object (object_at memory object)

-- the kind is a function's
abbrev pub function_kind : ObjKind → Bool
function_kind Function = true
function_kind _ = false

-- it is there and a function
abbrev pub function_object : Option Object → Bool
function_object None = false
function_object (Some object) = function_kind object.kind

-- the number is a function's
abbrev pub is_function : Memory → ℕ → Bool
is_function memory object = function_object (object_at memory object)

-- what is seen of an object: its kind, whether it is live, and its size in bytes
abbrev pub seen : Object → ObjKind × Bool × ℕ
seen object = (object.kind, object.live, length object.bytes)
