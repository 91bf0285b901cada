use Rattle.std.proofs.Common.{◌≡◌, arith, refl, Some}
use Rattle.std.proofs.lemmas.Int.{to_z-of_z}
use Rattle.dc_memory.specs.Access.{store}
use Rattle.dc_memory.specs.declared.kind.MemKind.TheVariants.{S32}
use Rattle.dc_world.specs.Sets.{set_view}
use Rattle.dc_run.specs.View.{state_view}
use Rattle.dc_run.proofs.Places.{length-store}
use Rattle.dc_run.proofs.Statements.{written_part, told_written}
use Rattle.dc_run.proofs.state.State.write.Goals as goal
use mir.Syntax.{w128}

pub returns-in_err-tell_write-clause-few : goal.returns-in_err-tell_write-clause-few
returns-in_err-tell_write-clause-few g c =
    let e = to_z-of_z w128 c.args.value c.ranges.value in
    let s : store S32 c.args.place c.args.value c.args.self.now.memory ≡ Some c.store_int.new.memory = rw e at c.in-Some.ensures.1 in
    omega (arith, length-store c.args.self.now.memory c.store_int.new.memory c.args.place c.args.value s, c.requires)

pub returns-clause-part : goal.returns-clause-part
returns-clause-part g c =
    let e = to_z-of_z w128 c.args.value c.ranges.value in
    let s : store S32 c.args.place c.args.value c.args.self.now.memory ≡ Some c.store_int.new.memory = rw e at c.in-Some.ensures.1 in
    written_part c.args.name.now (set_view c.args.set.now) c.args.site c.args.place c.args.value (state_view c.args.self.now) (state_view (record { memory = c.store_int.new.memory; locals = c.args.self.now.locals; left = c.args.self.now.left })) c.args.self.now.memory c.store_int.new.memory _ _
    (λ choices. refl) (λ choices. refl) s
    (told_written c.args.name.now (set_view c.args.set.now) c.args.site c.args.place c.in-Some.pointer c.object_number-object.result c.offset-from.result c.allows-allowed.result _ _
    c.in-Some.ensures.0 c.object_number-object.ensures c.offset-from.ensures.value c.allows-allowed.ensures c.in_ok-tell_write.ensures.ok)

pub returns-clause-few : goal.returns-clause-few
returns-clause-few g c =
    let e = to_z-of_z w128 c.args.value c.ranges.value in
    let s : store S32 c.args.place c.args.value c.args.self.now.memory ≡ Some c.store_int.new.memory = rw e at c.in-Some.ensures.1 in
    omega (arith, length-store c.args.self.now.memory c.store_int.new.memory c.args.place c.args.value s, c.requires)
