-- The machine: what stands between instructions, calls and returns, and the run of a program.
use Rattle.std.specs.Prelude.{ℕ, zero, suc, ◌-◌, ℤ, pos, Bool, true, false, ◌&&◌, nat_eq, nat_lt, List, [], ◌∷◌, ◌++◌, length, map, replicate, Option, None, Some, slice_get, slice_set, if◌then◌else◌, codes}
use Rattle.std.specs.Cmp.Lexicographic.{pointwise}
use Rattle.dc_memory.specs.declared.object.ObjKind.TheVariants.{Static}
use Rattle.dc_memory.specs.Objects.{Memory, holding}
use Rattle.dc_core.specs.Event.{End}
use Rattle.dc_core.specs.Event as end
use Rattle.dc_core.specs.Objects.{function_object}
use Rattle.dc_core.specs.Outcome.{Outcome}
use Rattle.dc_core.specs.Run.{Note, Did, seen}
use Rattle.dc_core.specs.World.{World, left, kill_events}
use Rattle.dc_writeset.specs.Sets.{no_sets}
use Rattle.dc_goto.specs.Program.{Instr, Sig, Body, GotoProgram}
pub use Rattle.dc_goto.specs.Values.{Registers}
pub use Rattle.dc_goto.specs.Acts.{Now, Then, Next, Jumps, Ends, Enters, Leaves, act}

-- The machine ---------------------------------------------------------------------------------------------------

-- a caller: its name and code, the place behind its call, its registers and objects, and the register for the result
pub record Frame : Type 0 where
  pub name : List ℕ
  pub code : List Instr
  pub place : ℕ
  pub regs : Registers
  pub locals : List ℕ
  pub result : Option ℕ

-- the running body's name and code, the place of the next instruction, the callers (innermost first)
pub record Machine : Type 0 where
  pub name : List ℕ
  pub code : List Instr
  pub place : ℕ
  pub frames : List Frame
  pub now : Now

-- a run that goes on, or has ended, with what was noted
pub data Run : Type 0 where
  Going : List Note → Machine → Run
  Stopped : List Note → End → World → Run

abbrev pub noted : List Note → Run → Run
noted before (Going notes m) = Going (before ++ notes) m
noted before (Stopped notes end w) = Stopped (before ++ notes) end w

abbrev pub go_on : Run → (Machine → Run) → Run
go_on (Going notes m) go = noted notes (go m)
go_on (Stopped notes end w) go = Stopped notes end w

-- the body of a name, where there is one
abbrev pub body_of : List Body → List ℕ → Option Body
body_of [] name = None
body_of (body ∷ bodies) name = if pointwise nat_eq body.name name then Some body else body_of bodies name

-- the object of a function: its number in the order of the functions, from this one on
abbrev pub function_number : ℕ → List Sig → List ℕ → ℕ
function_number n [] name = n
function_number n (sig ∷ functions) name =
    if pointwise nat_eq sig.name name then n else function_number (suc n) functions name

-- arguments stand in the registers from 0 on, and the others are 0
abbrev pub first_registers : Body → List ℤ → Registers
first_registers body arguments = map Some arguments ++ replicate (body.regs - length arguments) (Some (pos 0))

abbrev pub caller : Machine → Now → Option ℕ → Frame
caller m s result =
    record { name = m.name; code = m.code; place = suc m.place; regs = s.regs; locals = s.world.locals; result = result }

-- the called body's first state, where there is a body
abbrev pub entered_body : Machine → Now → Option ℕ → List ℕ → List ℤ → Option Body → Run
entered_body m s result name arguments None = Stopped [] (end.NoBody name) s.world
entered_body m s result name arguments (Some body) =
    Going []
    (record {
      name = name;
      code = body.code;
      place = 0;
      frames = caller m s result ∷ m.frames;
      now = record s { regs = first_registers body arguments; world = record s.world { locals = [] } };
    })

-- at most 1,024 calls are active
unfoldable pub depth_limit : ℕ
depth_limit = 1024

abbrev pub entered : GotoProgram → Machine → Now → Option ℕ → List ℕ → List ℤ → Bool → Run
entered p m s result name arguments true =
    noted (Did (end.Call (function_number 1 p.functions name)) ∷ [])
    (entered_body m s result name arguments (body_of p.bodies name))
entered p m s result name arguments false = Stopped [] end.DepthLimit s.world

abbrev pub with_result : Option ℕ → Option ℤ → Registers → Registers
with_result None value regs = regs
with_result (Some r) None regs = regs
with_result (Some r) (Some v) regs = slice_set regs r (Some v)

-- back to the caller; the start has none
abbrev pub left_body : Now → Option ℤ → List Frame → Run
left_body s value [] = Stopped (map Did (kill_events s.world)) (end.Returned value) (left [] s.world)
left_body s value (frame ∷ frames) =
    Going (map Did (kill_events s.world ++ end.Return ∷ []))
    (record {
      name = frame.name;
      code = frame.code;
      place = frame.place;
      frames = frames;
      now = record s { regs = with_result frame.result value frame.regs; world = left frame.locals s.world };
    })

abbrev pub proceed : GotoProgram → Machine → Then → Run
proceed p m (Next notes s) = Going notes (record m { place = suc m.place; now = s })
proceed p m (Jumps place s) = Going [] (record m { place = place; now = s })
proceed p m (Ends notes end w) = Stopped notes end w
proceed p m (Enters result name arguments s) = entered p m s result name arguments (nat_lt (length m.frames) depth_limit)
proceed p m (Leaves value s) = left_body s value m.frames

-- no instruction stands beyond the last
abbrev pub step_at : GotoProgram → Machine → Option Instr → Run
step_at p m None = Stopped [] (end.Undefined m.name) m.now.world
step_at p m (Some i) = proceed p m (act p m.name i m.now)

abbrev pub step : GotoProgram → Machine → Run
step p m = step_at p m (slice_get m.code m.place)

-- at most that many steps
abbrev pub steps : GotoProgram → ℕ → Machine → Run
steps p zero m = Going [] m
steps p (suc n) m = go_on (step p m) (steps p n)

-- The run of a program --------------------------------------------------------------------------------------------

-- functions, and variables of zero bytes
abbrev pub first_memory : GotoProgram → Memory
first_memory p =
    map (λ sig. function_object) p.functions ++ map (λ v. holding Static (replicate v.size 0)) p.statics

abbrev pub first_world : GotoProgram → List ℕ → World
first_world p choices = record { memory = first_memory p; choices = choices; locals = [] }

abbrev pub start_at : GotoProgram → List ℕ → Option Body → Run
start_at p choices None = Stopped [] (end.NoBody (codes ".start")) (first_world p choices)
start_at p choices (Some body) =
    Going []
    (record {
      name = codes ".start";
      code = body.code;
      place = 0;
      frames = [];
      now = record { regs = first_registers body []; sets = no_sets; seen = []; world = first_world p choices };
    })

abbrev pub start : GotoProgram → List ℕ → Run
start p choices = start_at p choices (body_of p.bodies (codes ".start"))

abbrev pub seen_run : List ℕ → Run → Outcome
seen_run choices (Going notes m) = seen choices notes end.Cut m.now.world
seen_run choices (Stopped notes end w) = seen choices notes end w

-- the run of at most m steps
abbrev pub goto_run : GotoProgram → ℕ → List ℕ → Outcome
goto_run p m choices = seen_run choices (go_on (start p choices) (steps p m))
