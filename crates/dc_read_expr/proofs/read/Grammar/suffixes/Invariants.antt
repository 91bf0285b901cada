use Rattle.std.proofs.Common.{suc, ◌-◌, drop}
use Rattle.dc_syntax.specs.Reading as spec
use Rattle.dc_syntax.specs.View.{raw_view}
use Rattle.dc_read_expr.specs.Suffixes.{suffix_turns}
use Rattle.dc_read_expr.proofs.Suffixes.{Suffixing}
use Rattle.dc_read_expr.proofs.read.Grammar.suffixes.Given as goal

abbrev pub decreases-loop-read : goal.decreases-loop-read
decreases-loop-read g l = suc l.self.budget - l.read.height

abbrev pub invariant-loop-read : goal.invariant-loop-read
invariant-loop-read g l =
    Suffixing (spec.suffix_one (spec.reads l.self.budget) l.self.budget l.self.names.now.names) l.self.budget l.self.tokens.now l.at
    (suffix_turns (spec.reads l.self.budget) l.self.budget l.self.names.now.names (drop l.at l.self.tokens.now) (raw_view l.fn.first.tree) (drop l.fn.first.at l.self.tokens.now))
    l.read
