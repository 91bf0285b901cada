use Rattle.std.proofs.Common.{map, reverse, ap, ◌∙◌}
use Rattle.dc_core.specs.Event.{Kill}
use Rattle.dc_core.specs.Run.{Did}
use Rattle.dc_machine.specs.View.{now_view}
use Rattle.dc_world.specs.Log.{hearing}
use Rattle.dc_world.specs.Told.{told}
use Rattle.dc_machine.proofs.Newest.{left-all, newer-none, did-kills}
use Rattle.dc_machine.proofs.now.Now.kill_locals.Goals as goal

pub returns-clause-left : goal.returns-clause-left
returns-clause-left g c = λ choices. c.kill_newer.ensures.left choices ∙ left-all (now_view c.args.self.now choices)

pub returns-clause-told : goal.returns-clause-told
returns-clause-told g c =
    let locals = reverse c.args.self.now.locals.items in
    let heard = hearing (g.W.Watch.records c.args.watch.now) (g.W.Watch.parts c.args.watch.now) c.args.log.now in
    c.kill_newer.ensures.told
    ∙ ap (λ all. told (map (λ object. Did (Kill object)) all) heard) (newer-none locals)
    ∙ ap (λ notes. told notes heard) (did-kills locals)
