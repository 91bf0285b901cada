use Rattle.std.proofs.Common.{◌+◌, length, drop, sym, refl, ◌∙◌}
use Rattle.dc_syntax.specs.Reading as spec
use Rattle.dc_syntax.specs.ReadingUnits as units
use Rattle.dc_read_unit.proofs.Answered.{part_taken, part_untaken}
use Rattle.dc_read_unit.proofs.UnitLists.{inits_list, inits_listed, more_within}
use Rattle.dc_read_unit.proofs.Lists.{walked_starts, walked_more, walked_none, walked_ends, taken_declares}
use Rattle.dc_read_unit.proofs.initializers.Initializers.inits.Goals as goal

pub loop-list-init : goal.loop-list-init
loop-list-init g c =
    let f = c.args.self.now in
    let r = spec.reads f.budget in
    let q = units.reads_part f.budget in
    walked_starts (inits_list r q) f.tokens.now (inits_listed r q f.tokens.now) c.args.at f.budget _ c.args.names.now.names c.args.names.now.names c.new.ensures refl refl refl c.requires.within

pub loop-list-preserved : goal.loop-list-preserved
loop-list-preserved g c =
    let f = c.args.self.now in
    let r = spec.reads f.budget in
    let q = units.reads_part f.budget in
    let tokens = f.tokens.now in
    let env = c.args.names.now.names in
    let old = c.loop-list.list in
    let new = c.take_init.new.list in
    let out = units.init r q env (drop (old.at + 1) tokens) in
    walked_more (inits_list r q) tokens (inits_listed r q tokens) (units.inits r q env (length (drop c.args.at tokens)) (drop c.args.at tokens)) c.args.at f.budget old env new env c.loop-list.invariant (sym c.has_more.ensures ∙ c.loop-list-test.true)
    (taken_declares tokens (old.at + 1) f.budget old new env out (part_taken tokens (old.at + 1) f.budget old new c.in_ok-take_init.field-0 out c.in_ok-take_init.ensures c.if-not-branch.false))

pub returns-then-not-branch : goal.returns-then-not-branch
returns-then-not-branch g c =
    let f = c.args.self.now in
    let r = spec.reads f.budget in
    let q = units.reads_part f.budget in
    let tokens = f.tokens.now in
    let env = c.args.names.now.names in
    let old = c.loop-list.list in
    let is = sym c.has_more.ensures ∙ c.loop-list-test.true in
    walked_none (inits_list r q) tokens (inits_listed r q tokens) (units.inits r q env (length (drop c.args.at tokens)) (drop c.args.at tokens)) c.args.at f.budget old env c.loop-list.invariant is (more_within tokens old.at is)
    (part_untaken tokens (old.at + 1) f.budget old c.take_init.new.list c.in_ok-take_init.field-0 (units.init r q env (drop (old.at + 1) tokens)) c.in_ok-take_init.ensures c.if-not-branch.true)

pub returns : goal.returns
returns g c =
    let f = c.args.self.now in
    let r = spec.reads f.budget in
    let q = units.reads_part f.budget in
    let tokens = f.tokens.now in
    let env = c.args.names.now.names in
    walked_ends (inits_list r q) tokens (inits_listed r q tokens) (units.inits r q env (length (drop c.args.at tokens)) (drop c.args.at tokens)) c.args.at f.budget c.loop-list.list env c.loop-list.invariant (sym c.has_more.ensures ∙ c.loop-list-test.false)
