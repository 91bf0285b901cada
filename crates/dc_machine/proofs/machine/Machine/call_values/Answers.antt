use Rattle.std.proofs.Common.{◌≡◌, [], length, refl, arith}
use Rattle.dc_core.specs.Event as event
use Rattle.dc_core.specs.Run.{Did}
use Rattle.dc_goto.specs.Machine.{entered_body, body_of}
use Rattle.dc_machine.specs.Linked.{linked_view}
use Rattle.dc_machine.specs.View.{now_view, machine_view, frame_view}
use Rattle.std.specs.declared.alloc.AllocError.{AllocError}
use Rattle.dc_machine.proofs.Calls.{depth-reached, depth-left, noted-alone, frames-count}
use Rattle.dc_machine.proofs.machine.Machine.call_values.Goals as goal

pub returns-then-len-ge1024 : goal.returns-then-len-ge1024
returns-then-len-ge1024 g c = λ values e.
    let frames : c.len.result ≡ length (machine_view (linked_view c.args.p.now).bodies c.args.self.now []).frames = omega (arith, frames-count (frame_view (linked_view c.args.p.now).bodies) c.args.self.now.frames.items, c.args.self.now.frames.ok.0, c.len.ensures) in
    record {
      notes = [];
      world = (now_view c.args.self.now.now []).world;
      ends = depth-reached (linked_view c.args.p.now) (machine_view (linked_view c.args.p.now).bodies c.args.self.now []) (now_view c.args.self.now.now []) c.args.register c.args.callee.now values c.len.result frames (omega arith);
      none_left = refl;
      not_dry = refl;
      heard = refl;
    }

pub returns : goal.returns
returns g c = λ values e.
    let frames : c.len.result ≡ length (machine_view (linked_view c.args.p.now).bodies c.args.self.now []).frames = omega (arith, frames-count (frame_view (linked_view c.args.p.now).bodies) c.args.self.now.frames.items, c.args.self.now.frames.ok.0, c.len.ensures) in
    noted-alone AllocError (Did (event.Call c.function_number-function.result)) (λ choices. entered_body (machine_view (linked_view c.args.p.now).bodies c.args.self.now choices) (now_view c.args.self.now.now choices) c.args.register c.args.callee.now values (body_of (linked_view c.args.p.now).bodies c.args.callee.now)) _ (machine_view (linked_view c.args.p.now).bodies c.enter_named.new.self) c.in_ok-end.end _ _ c.tell.ensures
    (λ choices. depth-left (linked_view c.args.p.now) (machine_view (linked_view c.args.p.now).bodies c.args.self.now choices) (now_view c.args.self.now.now choices) c.args.register c.args.callee.now values c.len.result c.function_number-function.result frames (omega arith) c.function_number-function.ensures)
    (c.in_ok-end.ensures values _ e)
