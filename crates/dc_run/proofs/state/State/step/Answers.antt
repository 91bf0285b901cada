use Rattle.std.proofs.Common.{◌-◌, arith, refl}
use Rattle.dc_core.specs.Run.{contract_mode, perform}
use Rattle.dc_core.specs.View.{stmt_view}
use Rattle.dc_world.specs.Sets.{set_view}
use Rattle.dc_run.specs.View.{state_view}
use Rattle.dc_run.proofs.Parts.{part_same}
use Rattle.dc_run.proofs.Statements.{tick_some}
use Rattle.dc_run.proofs.state.State.step.Goals as goal

pub returns-clause-part : goal.returns-clause-part
returns-clause-part g c =
    part_same _ _ (state_view c.perform.new.self) c.perform.result _ _
    (λ choices. tick_some (state_view c.args.self.now choices) (state_view (record { memory = c.args.self.now.memory; locals = c.args.self.now.locals; left = c.args.self.now.left - 1 }) choices) (c.args.self.now.left - 1)
    (perform contract_mode c.args.name.now (set_view c.args.set.now) c.args.places.now (stmt_view c.args.stmt.now)) (omega (arith, c.if-self-eq0.false)) refl)
    c.perform.ensures.part
