use Rattle.std.proofs.Common.{sym}
use Rattle.dc_core.specs.View.{stmt_view}
use Rattle.dc_world.specs.Sets.{set_view}
use Rattle.dc_run.specs.View.{state_view}
use Rattle.dc_run.proofs.Statements.{nothing_done, stmt_done}
use Rattle.dc_run.proofs.state.State.perform.Goals as goal

pub returns-in-Assign-clause-part : goal.returns-in-Assign-clause-part
returns-in-Assign-clause-part g c =
    stmt_done c.args.name.now (set_view c.args.set.now) c.args.places.now _ _ (state_view c.args.self.now) (state_view c.assign.new.self) c.assign.result _ _ (sym c.in-Assign.ensures) c.assign.ensures.part

pub returns-in-Return-clause-part : goal.returns-in-Return-clause-part
returns-in-Return-clause-part g c =
    stmt_done c.args.name.now (set_view c.args.set.now) c.args.places.now _ _ (state_view c.args.self.now) (state_view c.args.self.now) c.give.result _ _ (sym c.in-Return.ensures) (c.give.ensures (set_view c.args.set.now) _)

pub returns-in-Nothing-clause-part : goal.returns-in-Nothing-clause-part
returns-in-Nothing-clause-part g c =
    nothing_done c.args.name.now (set_view c.args.set.now) c.args.places.now (stmt_view c.args.stmt.now) (state_view c.args.self.now) c.undefined.result _ (sym c.in-Nothing.ensures) c.undefined.ensures
