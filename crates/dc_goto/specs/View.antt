-- The values of the code as the plain data that the definitions speak of.
use Rattle.std.specs.Prelude.{map}
use Rattle.std.specs.Option.{option_map}
use Rattle.dc_core.specs.View.{term_view}
use Rattle.dc_goto.specs.Program as plain
use Rattle.dc_goto.specs.declared.program.Instr.{Instr}
use Rattle.dc_goto.specs.declared.program.Instr.TheVariants as instr
use Rattle.dc_goto.specs.declared.program.Sig.{Sig}
use Rattle.dc_goto.specs.declared.program.StaticVar.{StaticVar}
use Rattle.dc_goto.specs.declared.program.Body.{Body}
use Rattle.dc_goto.specs.declared.program.GotoProgram.{GotoProgram}

abbrev pub instr_view : Instr → plain.Instr
instr_view (instr.Set r e) = plain.Set r (term_view e)
instr_view (instr.Keep r e) = plain.Keep r (term_view e)
instr_view (instr.Draw r kind) = plain.Draw r kind
instr_view (instr.Store kind a e) = plain.Store kind (term_view a) (term_view e)
instr_view (instr.Init kind a e) = plain.Init kind (term_view a) (term_view e)
instr_view (instr.Copy a b n) = plain.Copy (term_view a) (term_view b) (term_view n)
instr_view (instr.Fill a e n) = plain.Fill (term_view a) (term_view e) (term_view n)
instr_view (instr.Probe sharing a b n) = plain.Probe sharing (term_view a) (term_view b) (term_view n)
instr_view (instr.Local r size bytes) = plain.Local r size bytes
instr_view (instr.Kill m) = plain.Kill m
instr_view (instr.Alloc r n m bytes) = plain.Alloc r (term_view n) (term_view m) bytes
instr_view (instr.Free p) = plain.Free (term_view p)
instr_view instr.Trap = plain.Trap
instr_view (instr.Goto place) = plain.Goto place
instr_view (instr.IfNot e place) = plain.IfNot (term_view e) place
instr_view (instr.Call r name arguments) = plain.Call r name (map term_view arguments)
instr_view (instr.CallThrough r e result params arguments) = plain.CallThrough r (term_view e) result params (map term_view arguments)
instr_view (instr.Return value) = plain.Return (option_map term_view value)
instr_view (instr.Assert name e) = plain.Assert name (term_view e)
instr_view (instr.Check name e) = plain.Check name (term_view e)
instr_view (instr.Assume e) = plain.Assume (term_view e)
instr_view (instr.Require e) = plain.Require (term_view e)
instr_view instr.Push = plain.Push
instr_view instr.Pop = plain.Pop
instr_view (instr.Range tag e a n) = plain.Range tag (term_view e) (term_view a) (term_view n)
instr_view (instr.Target tag e p) = plain.Target tag (term_view e) (term_view p)
instr_view (instr.Covers name a n) = plain.Covers name (term_view a) (term_view n)
instr_view (instr.MayFree name p) = plain.MayFree name (term_view p)
instr_view (instr.Inside name tag) = plain.Inside name tag
instr_view instr.Seen = plain.Seen
instr_view instr.Havoc = plain.Havoc
instr_view instr.Frees = plain.Frees
instr_view instr.Statics = plain.Statics
instr_view instr.OutsideObjects = plain.OutsideObjects
instr_view instr.NewObjects = plain.NewObjects

abbrev pub sig_view : Sig → plain.Sig
sig_view s = record { name = s.name; result = s.result; params = s.params }

abbrev pub static_view : StaticVar → plain.StaticVar
static_view v = record { name = v.name; size = v.size }

abbrev pub body_view : Body → plain.Body
body_view b = record { name = b.name; params = b.params; regs = b.regs; code = map instr_view b.code }

abbrev pub goto_view : GotoProgram → plain.GotoProgram
goto_view p =
    record { functions = map sig_view p.functions; statics = map static_view p.statics; bodies = map body_view p.bodies }
