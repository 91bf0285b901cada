use Rattle.std.proofs.Common.{◌≡◌, [], ◌∷◌, ◌++◌, length, map, reverse, refl, ap, ◌∙◌, arith}
use Rattle.dc_core.specs.Event as event
use Rattle.dc_core.specs.Run.{Did}
use Rattle.dc_machine.specs.View.{now_view, machine_view, frame_view}
use Rattle.dc_core.specs.World.{left, kill_events}
use Rattle.dc_machine.proofs.Calls.{no-frames, left-last, left-next, told-return}
use Rattle.dc_machine.proofs.Ends.{from-end}
use Rattle.dc_machine.proofs.machine.Machine.leave.Goals as goal

pub returns-in_default : goal.returns-in_default
returns-in_default g c = λ bodies.
    let none : length c.args.self.now.frames.items ≡ 0 = omega (arith, (rw c.in_default.is at c.pop.ensures.cases).0, c.args.self.now.frames.ok.0) in
    record {
      notes = map Did (kill_events (now_view c.args.self.now.now []).world);
      world = left [] (now_view c.args.self.now.now []).world;
      ends = left-last (now_view c.args.self.now.now []) c.args.value (reverse (map (frame_view bodies) c.args.self.now.frames.items)) (no-frames (frame_view bodies) c.args.self.now.frames.items none);
      none_left = refl;
      not_dry = refl;
      heard = c.kill_locals.ensures.told;
    }

pub returns : goal.returns
returns g c = λ bodies.
    let frames : reverse (map (frame_view bodies) c.args.self.now.frames.items) ≡ frame_view bodies c.in-Some.frame ∷ reverse (map (frame_view bodies) c.pop.new.self.items) =
    ap (λ xs. reverse (map (frame_view bodies) xs)) c.in-Some.ensures.items ∙ from-end (frame_view bodies) c.pop.new.self.items c.in-Some.frame in
    record {
      notes = map Did (kill_events (now_view c.args.self.now.now []).world ++ event.Return ∷ []);
      goes = λ rest.
          left-next (now_view c.args.self.now.now rest) (now_view c.kill_locals-2.new.self rest) c.args.value (frame_view bodies c.in-Some.frame) (reverse (map (frame_view bodies) c.args.self.now.frames.items)) (reverse (map (frame_view bodies) c.pop.new.self.items)) (machine_view bodies c.resume.new.self rest)
          frames (c.kill_locals-2.ensures.left rest) (rw c.in_ok-take.ensures at c.resume.ensures bodies rest);
      heard = told-return (kill_events (now_view c.args.self.now.now []).world) _ _ _ c.kill_locals-2.ensures.told c.tell.ensures;
    }
