use Rattle.std.proofs.Common.{◌+◌, drop}
use Rattle.dc_syntax.specs.Reading as spec
use Rattle.dc_read_expr.specs.Levels as level
use Rattle.dc_read_expr.specs.View.{IsReading}
use Rattle.dc_read_expr.proofs.read.Grammar.binary.Given as goal

abbrev pub invariant-loop-level : goal.invariant-loop-level
invariant-loop-level g l =
    IsReading l.self.tokens.now l.at (l.self.budget + 1) l.read (level.binary (spec.reads l.self.budget) l.self.budget l.self.names.now.names l.level (drop l.at l.self.tokens.now))
