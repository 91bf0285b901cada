use Rattle.std.proofs.Common.{◌+◌, drop}
use Rattle.dc_syntax.specs.Reading as spec
use Rattle.dc_read_expr.proofs.Knot.{step_upto, step_member, step_enumerator, step_declarator}
use Rattle.dc_read_expr.proofs.read.Grammar.step.Goals as goal

pub returns-in-Upto : goal.returns-in-Upto
returns-in-Upto g c =
    let s = c.args.self.now in
    step_upto s.tokens.now c.args.at (s.budget + 1) c.upto.result c.args.kind c.in-Upto.level (spec.reads s.budget) s.budget s.names.now.names (drop c.args.at s.tokens.now) c.in-Upto.is c.upto.ensures

pub returns-in-Member : goal.returns-in-Member
returns-in-Member g c =
    let s = c.args.self.now in
    step_member s.tokens.now c.args.at (s.budget + 1) c.member.result c.args.kind (spec.reads s.budget) s.budget s.names.now.names (drop c.args.at s.tokens.now) c.in-Member.is c.member.ensures

pub returns-in-Enumerator : goal.returns-in-Enumerator
returns-in-Enumerator g c =
    let s = c.args.self.now in
    step_enumerator s.tokens.now c.args.at (s.budget + 1) c.enumerator.result c.args.kind (spec.reads s.budget) s.budget s.names.now.names (drop c.args.at s.tokens.now) c.in-Enumerator.is c.enumerator.ensures

pub returns-in-Declarator : goal.returns-in-Declarator
returns-in-Declarator g c =
    let s = c.args.self.now in
    step_declarator s.tokens.now c.args.at (s.budget + 1) c.declarator.result c.args.kind (spec.reads s.budget) s.budget s.names.now.names (drop c.args.at s.tokens.now) c.in-Declarator.is c.declarator.ensures
