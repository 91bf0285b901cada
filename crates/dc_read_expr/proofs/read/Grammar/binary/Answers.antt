use Rattle.std.proofs.Common.{Ok, ◌+◌, drop, refl, ap, ◌∙◌}
use Rattle.dc_syntax.specs.Reading as spec
use Rattle.dc_read_expr.proofs.Levels.{read_some, binary_starts, binary_goes}
use Rattle.dc_read_expr.proofs.read.Grammar.binary.Goals as goal

pub loop-level-init : goal.loop-level-init
loop-level-init g c =
    let s = c.args.self.now in
    let ts = drop c.args.at s.tokens.now in
    let r = spec.reads s.budget in
    let env = s.names.now.names in
    binary_starts s.tokens.now c.args.at (s.budget + 1) c.in-Some.read r s.budget env ts
    (read_some s.tokens.now c.args.at (s.budget + 1) c.in-Some.read (spec.cast r s.budget env ts) c.cast.result c.cast.ensures (c.in_ok-read.was ∙ ap Ok c.in-Some.is))

pub loop-level-preserved : goal.loop-level-preserved
loop-level-preserved g c =
    let s = c.args.self.now in
    binary_goes s.tokens.now c.args.at (s.budget + 1) c.loop-level.read _ (spec.reads s.budget) s.budget s.names.now.names c.loop-level.level _ (drop c.args.at s.tokens.now) refl c.loop-level.invariant c.in_ok-next.ensures
