-- The headline: the printed program does what the source does.
use Rattle.std.specs.Prelude.{◌≡◌, ℕ, List}
use Rattle.dc_core.specs.Program.{Program}
use Rattle.dc_core.specs.Outcome.{Outcome, IsExact}
use Rattle.dc_core.specs.Run.{contract_run}
use Rattle.dc_goto.specs.Program.{GotoProgram}
use Rattle.dc_goto.specs.Machine.{goto_run}
use Rattle.dc_goto.specs.Shape.{IsGotoText}
use Rattle.dc_form.specs.Form.{IsForm}

-- the text is a goto text, of a program that is exact for the source's program, whose function has this name
pub record Instruments (bytes name text : List ℕ) : Type 0 where
  pub program : Program
  pub goto_program : GotoProgram
  pub form : IsForm bytes program
  pub enforced : program.function.name ≡ name
  pub text_is : IsGotoText text goto_program
  -- on each list of choices the goto program fails exactly the clauses that the contract run breaks, in order, with the
  -- same end, the same count of choices and, where it returns, the same memory
  pub exact : IsExact (contract_run program) (goto_run goto_program)

-- the reports of the text's run, the contract run and the plain run agree: that of the text is exact for the contract
-- run's, which is the plain run's
pub record Agree (contract plain run : ℕ → List ℕ → Outcome) : Type 0 where
  pub exact : IsExact contract run
  pub same : (steps : ℕ) (list : List ℕ) → contract steps list ≡ plain steps list
