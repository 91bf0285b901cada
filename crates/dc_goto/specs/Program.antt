-- The goto program as plain data.
use Rattle.std.specs.Prelude.{ℕ, List, Option}
use Rattle.dc_core.specs.Term.{Term}
use Rattle.dc_num.specs.declared.kind.NumKind.{NumKind}
use Rattle.dc_goto.specs.declared.operands.Bytes.{Bytes}
use Rattle.dc_goto.specs.declared.operands.Sharing.{Sharing}

pub data Instr : Type 0 where
  -- registers
  Set : (register : ℕ) (value : Term) → Instr
  Keep : (register : ℕ) (value : Term) → Instr
  Draw : (register : ℕ) (kind : NumKind) → Instr
  -- bytes of objects
  Store : (kind : NumKind) (address value : Term) → Instr
  Init : (kind : NumKind) (address value : Term) → Instr
  Copy : (to from len : Term) → Instr
  Fill : (to byte len : Term) → Instr
  Probe : (sharing : Sharing) (one other len : Term) → Instr
  -- objects
  Local : (register size : ℕ) (bytes : Bytes) → Instr
  Kill : (locals : ℕ) → Instr
  Alloc : (register : ℕ) (count size : Term) (bytes : Bytes) → Instr
  Free : (pointer : Term) → Instr
  -- where the run goes on
  Trap : Instr
  Goto : (place : ℕ) → Instr
  IfNot : (test : Term) (place : ℕ) → Instr
  Call : (register : Option ℕ) (name : List ℕ) (arguments : List Term) → Instr
  CallThrough : (register : Option ℕ) (pointer : Term) (result : Option NumKind) (params : List NumKind) (arguments : List Term) → Instr
  Return : (value : Option Term) → Instr
  -- tests
  Assert : (name : List ℕ) (test : Term) → Instr
  Check : (name : List ℕ) (test : Term) → Instr
  Assume : (test : Term) → Instr
  Require : (test : Term) → Instr
  -- write sets
  Push : Instr
  Pop : Instr
  Range : (tag : ℕ) (condition address len : Term) → Instr
  Target : (tag : ℕ) (condition pointer : Term) → Instr
  Covers : (name : List ℕ) (address len : Term) → Instr
  MayFree : (name : List ℕ) (pointer : Term) → Instr
  Inside : (name : List ℕ) (tag : ℕ) → Instr
  Seen : Instr
  Havoc : Instr
  Frees : Instr
  -- the outside
  Statics : Instr
  OutsideObjects : Instr
  NewObjects : Instr

-- a function: its name, the kind of its result if it has one, and the kinds of its parameters
pub record Sig : Type 0 where
  pub name : List ℕ
  pub result : Option NumKind
  pub params : List NumKind

-- a variable of file scope, and its size in bytes
pub record StaticVar : Type 0 where
  pub name : List ℕ
  pub size : ℕ

-- the code of a function, or of the start: the numbers of its parameters and registers, and its instructions
pub record Body : Type 0 where
  pub name : List ℕ
  pub params : ℕ
  pub regs : ℕ
  pub code : List Instr

-- functions, variables, and the bodies, the start's last
pub record GotoProgram : Type 0 where
  pub functions : List Sig
  pub statics : List StaticVar
  pub bodies : List Body
