-- The values of the code as the plain data that the definitions speak of.
use Rattle.std.specs.Prelude.{map}
use Rattle.std.specs.Option.{option_map}
use Rattle.dc_goto.specs.Lines as plain
use Rattle.dc_goto.specs.Reading as reading
use Rattle.dc_goto.specs.View.{instr_view, sig_view, static_view, body_view}
use Rattle.dc_scan.specs.Assembling as assembling
use Rattle.dc_scan.specs.declared.assembly.Assembly.{Assembly}
use Rattle.dc_scan.specs.declared.lines.BodyHead.{BodyHead}
use Rattle.dc_scan.specs.declared.lines.Line.{Line}
use Rattle.dc_scan.specs.declared.lines.Line.TheVariants as line
use Rattle.dc_scan.specs.declared.signatures.Signature.{Signature}

abbrev pub head_view : BodyHead → plain.BodyHead
head_view h = record { name = h.name; params = h.params; regs = h.regs }

abbrev pub signature_view : Signature → reading.Signature
signature_view s = record { result = s.result; params = s.params }

abbrev pub line_view : Line → plain.Line
line_view line.Version = plain.Version
line_view (line.Function sig) = plain.Function (sig_view sig)
line_view (line.Static v) = plain.Static (static_view v)
line_view (line.Opening head) = plain.Opening (head_view head)
line_view (line.Instruction i) = plain.Instruction (instr_view i)
line_view line.End = plain.End

abbrev pub assembly_view : Assembly → assembling.Assembly
assembly_view a =
    record {
      functions = map sig_view a.functions;
      statics = map static_view a.statics;
      bodies = map body_view a.bodies;
      head = option_map head_view a.head;
      code = map instr_view a.code;
    }
