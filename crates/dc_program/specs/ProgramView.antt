-- A program as plain data.
use Rattle.std.specs.Prelude.{List, Option}
use Rattle.dc_layout.specs.declared.ctype.CType.{CType}
use Rattle.dc_program.specs.declared.program.Function.{Function}
use Rattle.dc_program.specs.declared.program.StaticVariable.{StaticVariable}
use Rattle.dc_program.specs.Programs as plain
use Rattle.dc_program.specs.View.{program}

abbrev pub program_view : List Function × (List StaticVariable × List (Option (List CType))) → plain.Program
program_view p = program p.0 p.1.0 p.1.1
