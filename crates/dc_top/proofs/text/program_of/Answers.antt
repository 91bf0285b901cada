use Rattle.std.proofs.Common.{ap, ◌∙◌, Err}
use Rattle.dc_top.specs.Replaying.{NoLine, NoShape}
use Rattle.dc_top.proofs.text.program_of.Goals as goal

pub returns-in-Ok-numbered_line : goal.returns-in-Ok-numbered_line
returns-in-Ok-numbered_line c =
    record {
      fault = NoLine c.in-Err-Line.k;
      line_is = c.in-Ok-numbered_line.ensures;
      cause = record { short = c.requires.short; has = c.scan.ensures.line c.in-Err-Line.k (c.in-Err-Line.is ∙ ap Err c.in-Err-Line.field-0-is) };
    }

pub returns-in-Ok-numbered_line-2 : goal.returns-in-Ok-numbered_line-2
returns-in-Ok-numbered_line-2 c =
    record {
      fault = NoShape c.in-Err-Shape.k;
      line_is = c.in-Ok-numbered_line-2.ensures;
      cause = record { short = c.requires.short; has = c.scan.ensures.shape c.in-Err-Shape.k (c.in-Err-Shape.is ∙ ap Err c.in-Err-Shape.field-0-is) };
    }
