-- Kinds of numbers as layouts, arithmetic and memory name them.
use Rattle.dc_layout.specs.declared.kind.LayKind.{LayKind}
use Rattle.dc_layout.specs.declared.kind.LayKind.TheVariants as lay
use Rattle.dc_memory.specs.declared.kind.MemKind.{MemKind}
use Rattle.dc_memory.specs.declared.kind.MemKind.TheVariants as mem
use Rattle.dc_num.specs.declared.kind.NumKind.{NumKind}
use Rattle.dc_num.specs.declared.kind.NumKind.TheVariants as num

abbrev pub num_kind : LayKind → NumKind
num_kind lay.Bool = num.Bool
num_kind lay.S8 = num.S8
num_kind lay.U8 = num.U8
num_kind lay.S16 = num.S16
num_kind lay.U16 = num.U16
num_kind lay.S32 = num.S32
num_kind lay.U32 = num.U32
num_kind lay.S64 = num.S64
num_kind lay.U64 = num.U64
num_kind lay.Ptr = num.Ptr

abbrev pub lay_kind : NumKind → LayKind
lay_kind num.Bool = lay.Bool
lay_kind num.S8 = lay.S8
lay_kind num.U8 = lay.U8
lay_kind num.S16 = lay.S16
lay_kind num.U16 = lay.U16
lay_kind num.S32 = lay.S32
lay_kind num.U32 = lay.U32
lay_kind num.S64 = lay.S64
lay_kind num.U64 = lay.U64
lay_kind num.Ptr = lay.Ptr

abbrev pub mem_kind : NumKind → MemKind
mem_kind num.Bool = mem.Bool
mem_kind num.S8 = mem.S8
mem_kind num.U8 = mem.U8
mem_kind num.S16 = mem.S16
mem_kind num.U16 = mem.U16
mem_kind num.S32 = mem.S32
mem_kind num.U32 = mem.U32
mem_kind num.S64 = mem.S64
mem_kind num.U64 = mem.U64
mem_kind num.Ptr = mem.Ptr
