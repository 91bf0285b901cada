-- What the machine does where the source's run does something.
use Rattle.std.proofs.Common.{◌≡◌, ℕ, ◌+◌, ◌≤◌, Bool, true, false, List, ◌++◌, Option, Some, None, ap, sym, ◌∙◌, arith, ℤ}
use Rattle.dc_num.specs.declared.kind.NumKind.TheVariants.{S32}
use Rattle.dc_num.specs.Kinds.{IsValue}
use Rattle.dc_core.specs.Event.{End}
use Rattle.dc_core.specs.World.{World}
use Rattle.dc_core.specs.Run.{Out, Normal, Returned, Ended, Cut, Note, noted}
use Rattle.dc_writeset.specs.Sets.{PlainSets}
use Rattle.dc_goto.specs.Program.{Instr, GotoProgram}
use Rattle.dc_goto.specs.Machine.{Registers, Now, Frame, Machine, Going, Stopped, left_body, steps, noted as noted_run}
use Rattle.dc_goto.proofs.Notes.{fails, fails-append}
use Rattle.dc_goto.proofs.Line.{at}
use Rattle.dc_goto.proofs.Steps.{steps_join, noted-noted}

-- the machine comes from m to m' and fails these names
pub record Comes (g : GotoProgram) (m : Machine) (names : List (List ℕ)) (m' : Machine) : Type 0 where
  pub count : ℕ
  pub notes : List Note
  pub by : steps g count m ≡ Going notes m'
  pub same : fails notes ≡ names

-- its run ends
pub record Stops (g : GotoProgram) (m : Machine) (names : List (List ℕ)) (end : End) (w : World) : Type 0 where
  pub count : ℕ
  pub notes : List Note
  pub by : steps g count m ≡ Stopped notes end w
  pub same : fails notes ≡ names

-- it goes on, after at least n instructions
pub record Waits (g : GotoProgram) (m : Machine) (names : List (List ℕ)) (n : ℕ) : Type 0 where
  pub count : ℕ
  pub notes : List Note
  pub state : Machine
  pub by : steps g count m ≡ Going notes state
  pub same : fails notes ≡ names
  pub enough : n ≤ count

-- what does not change within a body
pub record Spot : Type 0 where
  pub name : List ℕ
  pub code : List Instr
  pub frames : List Frame
  pub sets : PlainSets
  pub seen : List ℕ

abbrev pub now : Spot → Registers → World → Now
now c regs w = record { regs = regs; sets = c.sets; seen = c.seen; world = w }

abbrev pub in_body : Spot → ℕ → Registers → World → Machine
in_body c place regs w = at c.name c.code c.frames place (now c regs w)

-- the body is left with a value
pub record Leaves (g : GotoProgram) (c : Spot) (m : Machine) (names : List (List ℕ)) (value : Option ℤ) (w : World) : Type 0 where
  pub count : ℕ
  pub notes : List Note
  pub regs : Registers
  pub by : steps g count m ≡ noted_run notes (left_body (now c regs w) value c.frames)
  pub same : fails notes ≡ names

-- a result is there exactly where it should be
abbrev pub ResultFits : Bool → Option ℤ → Type 0
ResultFits true None = ⊥
ResultFits true (Some v) = IsValue S32 v
ResultFits false None = Unit {0}
ResultFits false (Some v) = ⊥

-- the machine does what a part of a body does, up to a place, where n steps were left
abbrev pub Follows : GotoProgram → Bool → Spot → Machine → ℕ → ℕ → Out Note → Type 0
Follows g gives_int c m n place (Normal notes st) = (regs : Registers) × Comes g m (fails notes) (in_body c place regs st.world)
Follows g gives_int c m n place (Returned notes value st) = Leaves g c m (fails notes) value st.world × ResultFits gives_int value
Follows g gives_int c m n place (Ended notes end w) = Stops g m (fails notes) end w
Follows g gives_int c m n place (Cut notes w) = Waits g m (fails notes) n

names_join : (xs ys xs' ys' : List Note) → fails xs ≡ fails xs' → fails ys ≡ fails ys' → fails (xs ++ ys) ≡ fails (xs' ++ ys')
names_join xs ys xs' ys' e f =
    fails-append xs ys ∙ ap (λ a. a ++ fails ys) e ∙ ap (λ b. fails xs' ++ b) f ∙ sym (fails-append xs' ys')

-- some instructions first, and then what follows
pub after : (g : GotoProgram) (gives_int : Bool) (c : Spot) (m m' : Machine) (i n k place : ℕ) (more notes : List Note) (o : Out Note)
    → steps g i m ≡ Going more m' → fails more ≡ fails notes → n ≤ i + k → Follows g gives_int c m' k place o → Follows g gives_int c m n place (noted notes o)
after g gives_int c m m' i n k place more notes (Normal ns st) e f le h =
    (h.0, record { count = i + h.1.count; notes = more ++ h.1.notes; by = steps_join g i h.1.count m m' more _ e h.1.by; same = names_join more h.1.notes notes ns f h.1.same })
after g gives_int c m m' i n k place more notes (Returned ns value st) e f le h = (
  record {
    count = i + h.0.count;
    notes = more ++ h.0.notes;
    regs = h.0.regs;
    by =
        steps_join g i h.0.count m m' more _ e h.0.by
        ∙ noted-noted more h.0.notes (left_body (now c h.0.regs st.world) value c.frames);
    same = names_join more h.0.notes notes ns f h.0.same;
  },
  h.1,
)
after g gives_int c m m' i n k place more notes (Ended ns end w) e f le h =
    record { count = i + h.count; notes = more ++ h.notes; by = steps_join g i h.count m m' more _ e h.by; same = names_join more h.notes notes ns f h.same }
after g gives_int c m m' i n k place more notes (Cut ns w) e f le h =
    let enough : k ≤ h.count = h.enough in
    record { count = i + h.count; notes = more ++ h.notes; state = h.state; by = steps_join g i h.count m m' more _ e h.by; same = names_join more h.notes notes ns f h.same; enough = omega arith }
