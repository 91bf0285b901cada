use Rattle.std.proofs.Common.{Some, Ok, ◌+◌, drop, ap, ◌∙◌}
use Rattle.dc_syntax.specs.Reading as spec
use Rattle.dc_read_expr.specs.Levels as level
use Rattle.dc_read_expr.specs.View.{IsReading}
use Rattle.dc_read_expr.proofs.Levels.{reading_by, read_some, goes_on, goes_high, goes_more, goes_done, implied_step}
use Rattle.dc_read_expr.proofs.read.Grammar.implied.Goals as goal

pub returns-then-budget-high : goal.returns-then-budget-high
returns-then-budget-high g c =
    let s = c.args.self.now in
    let ts = drop c.args.at s.tokens.now in
    let r = spec.reads s.budget in
    let env = s.names.now.names in
    let one = level.implies_one r env in
    let q : IsReading s.tokens.now c.args.at (s.budget + 1) c.in-Some.first (level.binary r s.budget env 10 ts) = read_some s.tokens.now c.args.at (s.budget + 1) c.in-Some.first (level.binary r s.budget env 10 ts) c.binary.result c.binary.ensures (c.in_ok-first.was ∙ ap Ok c.in-Some.is) in
    reading_by s.tokens.now c.args.at (s.budget + 1) (Ok (Some c.in-Some.first)) (level.implied r s.budget env ts) (goes_on one s.budget ts (level.binary r s.budget env 10 ts)) (implied_step r s.budget env ts)
    (goes_high s.tokens.now c.args.at s.budget one ts c.in-Some.first (level.binary r s.budget env 10 ts) q c.if-budget-high.true)

pub returns-in-More : goal.returns-in-More
returns-in-More g c =
    let s = c.args.self.now in
    let ts = drop c.args.at s.tokens.now in
    let r = spec.reads s.budget in
    let env = s.names.now.names in
    let one = level.implies_one r env in
    let q : IsReading s.tokens.now c.args.at (s.budget + 1) c.in-Some.first (level.binary r s.budget env 10 ts) = read_some s.tokens.now c.args.at (s.budget + 1) c.in-Some.first (level.binary r s.budget env 10 ts) c.binary.result c.binary.ensures (c.in_ok-first.was ∙ ap Ok c.in-Some.is) in
    reading_by s.tokens.now c.args.at (s.budget + 1) (Ok (Some c.in-More.more)) (level.implied r s.budget env ts) (goes_on one s.budget ts (level.binary r s.budget env 10 ts)) (implied_step r s.budget env ts)
    (goes_more s.tokens.now c.args.at s.budget one ts c.in-Some.first c.in-More.more c.in_ok-more.field-0 (level.binary r s.budget env 10 ts) q c.if-budget-high.false c.in-More.is c.in_ok-more.ensures)

pub returns-in-Done : goal.returns-in-Done
returns-in-Done g c =
    let s = c.args.self.now in
    let ts = drop c.args.at s.tokens.now in
    let r = spec.reads s.budget in
    let env = s.names.now.names in
    let one = level.implies_one r env in
    let q : IsReading s.tokens.now c.args.at (s.budget + 1) c.in-Some.first (level.binary r s.budget env 10 ts) = read_some s.tokens.now c.args.at (s.budget + 1) c.in-Some.first (level.binary r s.budget env 10 ts) c.binary.result c.binary.ensures (c.in_ok-first.was ∙ ap Ok c.in-Some.is) in
    reading_by s.tokens.now c.args.at (s.budget + 1) (Ok (Some c.in-Done.done)) (level.implied r s.budget env ts) (goes_on one s.budget ts (level.binary r s.budget env 10 ts)) (implied_step r s.budget env ts)
    (goes_done s.tokens.now c.args.at s.budget one ts c.in-Some.first c.in-Done.done c.in_ok-more.field-0 (level.binary r s.budget env 10 ts) q c.in-Done.is c.in_ok-more.ensures)
