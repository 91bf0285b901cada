-- The machine's state as the plain data that the definitions speak of. The choices that are left are no part of it.
use Rattle.std.specs.Prelude.{ℕ, List, [], map, reverse, Option, Some, None, slice_get}
use Rattle.dc_goto.specs.Program.{Instr, Body}
use Rattle.dc_goto.specs.Machine as plain
use Rattle.dc_goto.specs.Acts as acts
use Rattle.dc_machine.specs.declared.now.Now.{Now}
use Rattle.dc_machine.specs.declared.machine.Frame.{Frame}
use Rattle.dc_machine.specs.declared.machine.Machine.{Machine}

abbrev pub now_view : Now → List ℕ → acts.Now
now_view s choices =
    record {
      regs = s.regs;
      sets = s.sets;
      seen = reverse s.seen.items;
      world = record { memory = s.memory; choices = choices; locals = reverse s.locals.items };
    }

-- the name and the code of a body's number; there is neither where no body has it
abbrev pub name_at : Option Body → List ℕ
name_at None = []
name_at (Some body) = body.name

abbrev pub code_at : Option Body → List Instr
code_at None = []
code_at (Some body) = body.code

abbrev pub frame_view : List Body → Frame → plain.Frame
frame_view bodies f =
    record {
      name = name_at (slice_get bodies f.body);
      code = code_at (slice_get bodies f.body);
      place = f.place;
      regs = f.regs;
      locals = reverse f.locals.items;
      result = f.result;
    }

abbrev pub machine_view : List Body → Machine → List ℕ → plain.Machine
machine_view bodies m choices =
    record {
      name = name_at (slice_get bodies m.body);
      code = code_at (slice_get bodies m.body);
      place = m.place;
      frames = reverse (map (frame_view bodies) m.frames.items);
      now = now_view m.now choices;
    }
