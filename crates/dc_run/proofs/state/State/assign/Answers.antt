use Rattle.std.proofs.Common.{rules}
use Rattle.std.proofs.lemmas.Int.{to_z-of_z}
use Rattle.dc_core.specs.View.{expr_view}
use Rattle.dc_world.specs.Sets.{set_view}
use Rattle.dc_run.specs.View.{state_view}
use Rattle.dc_run.proofs.Parts.{part_same}
use Rattle.dc_run.proofs.Statements.{assigned, placeless, undefined_done, valueless}
use Rattle.dc_core.specs.Program.{Assign}
use Rattle.dc_run.proofs.state.State.assign.Goals as goal
use mir.Syntax.{w128}
use mir.Val.{SFits}

pub returns-clause-part : goal.returns-clause-part
returns-clause-part g c =
    let f : SFits w128 c.in-Some.value = search rules in
    let e = to_z-of_z w128 c.in-Some.value f in
    part_same _ _ (state_view c.write.new.self) c.write.result _ _
    (λ choices. assigned c.args.name.now (set_view c.args.set.now) c.args.places.now c.args.site (expr_view c.args.target.now) (expr_view c.args.e.now) c.in-Some.value c.in-Some-place.pointer (state_view c.args.self.now choices) c.in-Some.ensures c.in-Some-place.ensures)
    (rw e at c.write.ensures.part)

pub returns-in_default-clause-part : goal.returns-in_default-clause-part
returns-in_default-clause-part g c =
    undefined_done c.args.name.now (set_view c.args.set.now) c.args.places.now (Assign c.args.site (expr_view c.args.target.now) (expr_view c.args.e.now)) (state_view c.args.self.now) c.undefined.result _
    (λ choices. valueless c.args.name.now (set_view c.args.set.now) c.args.places.now c.args.site (expr_view c.args.target.now) (expr_view c.args.e.now) (state_view c.args.self.now choices) c.in_default.ensures)
    c.undefined.ensures

pub returns-in_default-place-clause-part : goal.returns-in_default-place-clause-part
returns-in_default-place-clause-part g c =
    undefined_done c.args.name.now (set_view c.args.set.now) c.args.places.now (Assign c.args.site (expr_view c.args.target.now) (expr_view c.args.e.now)) (state_view c.args.self.now) c.undefined-in_default-place.result _
    (λ choices. placeless c.args.name.now (set_view c.args.set.now) c.args.places.now c.args.site (expr_view c.args.target.now) (expr_view c.args.e.now) c.in-Some.value (state_view c.args.self.now choices) c.in-Some.ensures c.in_default-place.ensures)
    c.undefined-in_default-place.ensures
