-- The program that lines make, one after another.
use Rattle.std.specs.Prelude.{List, [], ◌∷◌, ◌++◌, Option, None, Some}
use Rattle.dc_goto.specs.Program.{Instr, Sig, StaticVar, Body, GotoProgram}
use Rattle.dc_goto.specs.Lines.{BodyHead, Line, Version, Function, Static, Opening, Instruction, End}

-- functions, variables, whole bodies, and the head and code of a body that isn't whole yet
pub record Assembly : Type 0 where
  pub functions : List Sig
  pub statics : List StaticVar
  pub bodies : List Body
  pub head : Option BodyHead
  pub code : List Instr

abbrev pub none_added : Assembly
none_added = record { functions = []; statics = []; bodies = []; head = None; code = [] }

abbrev pub body_of : BodyHead → List Instr → Body
body_of head code = record { name = head.name; params = head.params; regs = head.regs; code = code }

abbrev pub with_body : Assembly → Option BodyHead → Assembly
with_body a None = a
with_body a (Some head) = record a { bodies = a.bodies ++ body_of head a.code ∷ []; head = None; code = [] }

-- the body ends
abbrev pub closed : Assembly → Assembly
closed a = with_body a a.head

abbrev pub added : Assembly → Line → Assembly
added a Version = a
added a (Function sig) = record a { functions = a.functions ++ sig ∷ [] }
added a (Static v) = record a { statics = a.statics ++ v ∷ [] }
added a (Opening head) = record a { head = Some head }
added a (Instruction i) = record a { code = a.code ++ i ∷ [] }
added a End = closed a

abbrev pub added_all : Assembly → List Line → Assembly
added_all a [] = a
added_all a (line ∷ lines) = added_all (added a line) lines

abbrev pub program_of : Assembly → GotoProgram
program_of a = record { functions = a.functions; statics = a.statics; bodies = a.bodies }
