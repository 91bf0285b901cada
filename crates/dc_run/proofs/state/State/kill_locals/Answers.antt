use Rattle.std.proofs.Common.{arith}
use Rattle.dc_run.proofs.Calls.{dies_more, tells_more, all_dead}
use Rattle.dc_run.proofs.state.State.kill_locals.Goals as goal
use Rattle.std.proofs.Common.{◌∙◌}

pub loop-object-preserved : goal.loop-object-preserved
loop-object-preserved g c = record {
  steps = c.loop-object.invariant.steps;
  dies = λ choices.
      dies_more c.loop-object.self.memory c.let_die.new.memory choices c.loop-object.self.locals.items c.pop.new.self.items c.in-Some.object c.in-Some.ensures.items c.let_die.ensures
      ∙ c.loop-object.invariant.dies choices;
  tells = tells_more c.loop-object.self.locals.items c.pop.new.self.items c.in-Some.object _ _ c.in-Some.ensures.items c.tell.ensures ∙ c.loop-object.invariant.tells;
}

pub returns-clause-left : goal.returns-clause-left
returns-clause-left g c = λ choices.
    all_dead c.loop-object.self.memory choices c.loop-object.self.locals.items c.pop.new.self.items _ _ _ (omega (arith, c.in_default.ensures.cases.0, c.loop-object.self.locals.ok.0)) (omega (arith, c.in_default.ensures.cases.1, c.pop.new.self.ok.0)) (c.loop-object.invariant.dies choices) c.loop-object.invariant.steps
