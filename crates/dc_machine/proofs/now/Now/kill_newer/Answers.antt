use Rattle.std.proofs.Common.{◌≤◌, length, map, reverse, refl, sym, ap, ◌∙◌, arith}
use Rattle.std.proofs.lemmas.List.{length-reverse}
use Rattle.dc_core.specs.Event.{Kill}
use Rattle.dc_core.specs.Objects.{kill_all}
use Rattle.dc_core.specs.Run.{Did}
use Rattle.dc_goto.specs.Acts.{newer}
use Rattle.dc_world.specs.Log.{hearing}
use Rattle.dc_world.specs.Told.{told}
use Rattle.dc_machine.proofs.Newest.{newest, newer-few, older-few}
use Rattle.dc_machine.proofs.now.Now.kill_newer.Goals as goal

pub loop-object-preserved : goal.loop-object-preserved
loop-object-preserved g c =
    let first = c.args.first in
    let parts = newest first c.in-Some.object c.loop-object.self.locals.items c.pop_newer.new.locals.items c.in-Some.ensures.taken c.in-Some.ensures.more in
    let behind = newer first (reverse c.pop_newer.new.locals.items) in
    record {
      memory = ap (kill_all behind) c.let_die.ensures ∙ sym (ap (λ all. kill_all all c.loop-object.self.memory) parts.0) ∙ c.loop-object.invariant.memory;
      heard =
          ap (told (map (λ object. Did (Kill object)) behind)) c.tell.ensures
          ∙ sym (ap (λ all. told (map (λ object. Did (Kill object)) all) (hearing (g.W.Watch.records c.loop-object.watch) (g.W.Watch.parts c.loop-object.watch) c.loop-object.log)) parts.0)
          ∙ c.loop-object.invariant.heard;
      kept = sym parts.1 ∙ c.loop-object.invariant.kept;
      regs = c.loop-object.invariant.regs;
      sets = c.loop-object.invariant.sets;
      seen = c.loop-object.invariant.seen;
    }

pub returns-clause-left : goal.returns-clause-left
returns-clause-left g c = λ choices.
    let first = c.args.first in
    let all = c.loop-object.self.locals.items in
    let few : length (reverse all) ≤ first = omega (arith, c.pop_newer.ensures.few c.in_default.is, length-reverse all) in
    let memory = sym (ap (λ l. kill_all l c.loop-object.self.memory) (newer-few first (reverse all) few)) ∙ c.loop-object.invariant.memory in
    let locals = ap reverse (c.pop_newer.ensures.kept c.in_default.is) ∙ sym (older-few first (reverse all) few) ∙ c.loop-object.invariant.kept in
    rw (c.loop-object.invariant.regs, c.loop-object.invariant.sets, c.loop-object.invariant.seen, memory, locals) refl

pub returns-clause-told : goal.returns-clause-told
returns-clause-told g c =
    let first = c.args.first in
    let all = c.loop-object.self.locals.items in
    let few : length (reverse all) ≤ first = omega (arith, c.pop_newer.ensures.few c.in_default.is, length-reverse all) in
    sym (ap (λ l. told (map (λ object. Did (Kill object)) l) (hearing (g.W.Watch.records c.loop-object.watch) (g.W.Watch.parts c.loop-object.watch) c.loop-object.log)) (newer-few first (reverse all) few))
    ∙ c.loop-object.invariant.heard
