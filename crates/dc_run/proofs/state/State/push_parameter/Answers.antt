use Rattle.std.proofs.Common.{◌≡◌, ◌∷◌, [], ◌++◌, ◌+◌, ◌*◌, arith, ap, length-append, ◌∙◌}
use Rattle.std.proofs.lemmas.Int.{to_z-of_z}
use Rattle.dc_memory.specs.declared.kind.MemKind.TheVariants.{S32}
use Rattle.dc_memory.specs.declared.object.ObjKind.TheVariants.{Stack}
use Rattle.dc_memory.specs.Objects.{holding}
use Rattle.dc_memory.specs.Encoding.{encoded}
use Rattle.dc_run.proofs.Calls.{parameter_pushed}
use Rattle.dc_run.proofs.Places.{int_pushed}
use Rattle.dc_run.proofs.state.State.push_parameter.Goals as goal
use mir.Syntax.{w128}

pub returns-clause-state : goal.returns-clause-state
returns-clause-state g c =
    let e = to_z-of_z w128 c.args.argument c.ranges.argument in
    let stored : c.store.new.self ≡ c.args.self.now.memory ++ holding Stack (encoded S32 c.args.argument) ∷ [] =
    int_pushed c.args.self.now.memory c.add_zeros.new.memory c.store.new.self (c.count-number.result + 1) ((c.count-number.result + 1) * 281474976710656) c.args.argument c.store.result (omega (arith, c.count-number.ensures.value)) (omega arith) c.in_ok-add_zeros.ensures.ok (rw e at c.store.ensures) in
    λ choices. parameter_pushed c.args.self.now.memory c.store.new.self c.args.self.now.locals.items c.push_reserved.new.self.items choices c.args.self.now.left (c.count-number.result + 1) c.args.argument stored
    (c.push_reserved.ensures.items ∙ ap (λ l. l ++ (c.count-number.result + 1) ∷ []) c.try_reserve.ensures.items) (omega (arith, c.count-number.ensures.value))

pub returns-clause-few : goal.returns-clause-few
returns-clause-few g c =
    let e = to_z-of_z w128 c.args.argument c.ranges.argument in
    let stored : c.store.new.self ≡ c.args.self.now.memory ++ holding Stack (encoded S32 c.args.argument) ∷ [] =
    int_pushed c.args.self.now.memory c.add_zeros.new.memory c.store.new.self (c.count-number.result + 1) ((c.count-number.result + 1) * 281474976710656) c.args.argument c.store.result (omega (arith, c.count-number.ensures.value)) (omega arith) c.in_ok-add_zeros.ensures.ok (rw e at c.store.ensures) in
    rw (stored, length-append) (omega (arith, c.requires))
