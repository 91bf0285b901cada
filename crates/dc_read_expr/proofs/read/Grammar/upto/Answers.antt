use Rattle.std.proofs.Common.{◌+◌, ◌-◌, drop, arith}
use Rattle.dc_syntax.specs.Reading as spec
use Rattle.dc_read_expr.specs.Levels as level
use Rattle.dc_read_expr.proofs.Levels.{reading_by, upto_primary, upto_postfix, upto_unary, upto_binary, upto_implied, upto_conditional, upto_assign}
use Rattle.dc_read_expr.proofs.read.Grammar.upto.Goals as goal

pub returns-then-level-eq0 : goal.returns-then-level-eq0
returns-then-level-eq0 g c =
    let s = c.args.self.now in
    let ts = drop c.args.at s.tokens.now in
    let r = spec.reads s.budget in
    let env = s.names.now.names in
    reading_by s.tokens.now c.args.at (s.budget + 1) c.primary.result (level.upto r s.budget env c.args.level ts) (spec.primary r s.budget env ts) (upto_primary r s.budget env c.args.level ts c.if-level-eq0.true) c.primary.ensures

pub returns-then-level-eq1 : goal.returns-then-level-eq1
returns-then-level-eq1 g c =
    let s = c.args.self.now in
    let ts = drop c.args.at s.tokens.now in
    let r = spec.reads s.budget in
    let env = s.names.now.names in
    reading_by s.tokens.now c.args.at (s.budget + 1) c.postfix.result (level.upto r s.budget env c.args.level ts) (spec.postfix r s.budget env ts) (upto_postfix r s.budget env c.args.level ts c.if-level-eq1.true) c.postfix.ensures

pub returns-then-level-eq2 : goal.returns-then-level-eq2
returns-then-level-eq2 g c =
    let s = c.args.self.now in
    let ts = drop c.args.at s.tokens.now in
    let r = spec.reads s.budget in
    let env = s.names.now.names in
    reading_by s.tokens.now c.args.at (s.budget + 1) c.unary.result (level.upto r s.budget env c.args.level ts) (spec.unary r s.budget env ts) (upto_unary r s.budget env c.args.level ts c.if-level-eq2.true) c.unary.ensures

pub returns-then-level-lt14 : goal.returns-then-level-lt14
returns-then-level-lt14 g c =
    let s = c.args.self.now in
    let ts = drop c.args.at s.tokens.now in
    let r = spec.reads s.budget in
    let env = s.names.now.names in
    reading_by s.tokens.now c.args.at (s.budget + 1) c.binary.result (level.upto r s.budget env c.args.level ts) (level.binary r s.budget env (c.args.level - 3) ts) (upto_binary r s.budget env c.args.level ts (omega arith) (omega arith)) c.binary.ensures

pub returns-then-level-eq14 : goal.returns-then-level-eq14
returns-then-level-eq14 g c =
    let s = c.args.self.now in
    let ts = drop c.args.at s.tokens.now in
    let r = spec.reads s.budget in
    let env = s.names.now.names in
    reading_by s.tokens.now c.args.at (s.budget + 1) c.implied.result (level.upto r s.budget env c.args.level ts) (level.implied r s.budget env ts) (upto_implied r s.budget env c.args.level ts c.if-level-eq14.true) c.implied.ensures

pub returns-then-level-eq15 : goal.returns-then-level-eq15
returns-then-level-eq15 g c =
    let s = c.args.self.now in
    let ts = drop c.args.at s.tokens.now in
    let r = spec.reads s.budget in
    let env = s.names.now.names in
    reading_by s.tokens.now c.args.at (s.budget + 1) c.conditional.result (level.upto r s.budget env c.args.level ts) (level.conditional r s.budget env ts) (upto_conditional r s.budget env c.args.level ts c.if-level-eq15.true) c.conditional.ensures

pub returns : goal.returns
returns g c =
    let s = c.args.self.now in
    let ts = drop c.args.at s.tokens.now in
    let r = spec.reads s.budget in
    let env = s.names.now.names in
    reading_by s.tokens.now c.args.at (s.budget + 1) c.assign.result (level.upto r s.budget env c.args.level ts) (level.assign r s.budget env ts) (upto_assign r s.budget env c.args.level ts (omega arith)) c.assign.ensures
