use Rattle.std.proofs.Common.{◌≡◌, [], reverse, true, refl, sym, ◌∙◌}
use Rattle.dc_core.specs.World.{kill_events}
use Rattle.dc_run.specs.Part.{is_return}
use Rattle.dc_run.specs.View.{state_view}
use Rattle.dc_run.proofs.Calls.{left_by_return, few_left}
use Rattle.dc_run.proofs.state.State.leave.Goals as goal

pub returns-clause-left : goal.returns-clause-left
returns-clause-left g c =
    let e : is_return c.args.flow.now ≡ true = sym c.is_return.ensures ∙ c.if-not-is_return.false in
    left_by_return (reverse c.args.outer.items) (kill_events (state_view c.args.self.now []).world) c.args.flow.now (state_view c.args.self.now) (state_view c.kill_locals.new.self)
    (state_view (record { memory = c.kill_locals.new.self.memory; locals = c.args.outer; left = c.kill_locals.new.self.left })) _ _ _ e
    c.kill_locals.ensures.left (λ choices. refl) (λ choices. refl) c.kill_locals.ensures.told c.tell.ensures

pub returns-clause-few : goal.returns-clause-few
returns-clause-few g c = few_left (state_view c.args.self.now []) (state_view c.kill_locals.new.self []) (c.kill_locals.ensures.left []) c.requires
