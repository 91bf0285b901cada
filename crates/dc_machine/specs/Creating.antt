-- Objects that are made.
use Rattle.std.specs.Prelude.{ℕ, suc, [], ◌∷◌, ◌++◌, length}
use Rattle.dc_core.specs.Choices.{Draws, ◌>>=◌, give, tell}
use Rattle.dc_core.specs.Event.{Create}
use Rattle.dc_goto.specs.Acts.{first_bytes}
use Rattle.dc_goto.specs.declared.operands.Bytes.{Bytes}
use Rattle.dc_memory.specs.declared.object.ObjKind.{ObjKind}
use Rattle.dc_memory.specs.Objects.{Memory, holding}

-- the memory with an object of so many bytes behind the others, which is told before its bytes are drawn
abbrev pub created : ObjKind → Bytes → ℕ → Memory → Draws Memory
created kind bytes size memory =
    tell (Create (suc (length memory))) (first_bytes bytes size >>= λ values. give (memory ++ holding kind values ∷ []))
