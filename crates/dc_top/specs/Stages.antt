-- What the stages before an answer say of the bytes of a file.
use Rattle.std.specs.Prelude.{◌≡◌, ℕ, ◌≤◌, ◌⊎◌, List, length, map, Some}
use Rattle.dc_choice.specs.Reading.{Verdict}
use Rattle.dc_core.specs.Outcome.{Outcome}
use Rattle.dc_core.specs.Program.{Program}
use Rattle.dc_core.specs.Run.{contract_run, plain_report}
use Rattle.dc_goto.specs.Program.{GotoProgram}
use Rattle.dc_goto.specs.Shape.{IsGotoText}
use Rattle.dc_text.specs.Counted.{all_counted, no_counts}
use Rattle.dc_world.specs.Report.{end_view}
use Rattle.dc_world.specs.Told.{spoken}
use Rattle.dc_world.specs.declared.report.RunReport.{RunReport}
use Rattle.dc_top.specs.Report.{report_of, has_failed}
use Rattle.dc_top.specs.Replaying.{IsSourceOf, TextFault, text_fault_line, ShortFault, ShortChoices, choices_line}
use Rattle.dc_top.specs.Table.{source_limit, text_limit}
use Rattle.dc_top.specs.Answers.{IsNoForm, HasOther, no_form_line, not_function_line}
use Rattle.dc_top.specs.declared.answer.Answer.{Answer}
use Rattle.dc_top.specs.declared.answer.Answer.TheVariants.{Output, Usage, Refused, BadText, BadChoices, ReadFault, Memory, TooLong}
use Rattle.dc_top.specs.declared.table.Mode.{Mode}
use Rattle.dc_top.specs.declared.table.Mode.TheVariants.{Contract, Plain}

-- Sources ------------------------------------------------------------------------------------------------------------

-- a refusal of this line, or want of memory
abbrev pub IsRefusal : List ℕ → Answer → Type 0
IsRefusal refusal (Output lines failed) = ⊥
IsRefusal refusal Usage = ⊥
IsRefusal refusal (Refused line) = line ≡ refusal
IsRefusal refusal (BadText line) = ⊥
IsRefusal refusal (BadChoices line) = ⊥
IsRefusal refusal (ReadFault word) = ⊥
IsRefusal refusal Memory = Unit {0}
IsRefusal refusal TooLong = ⊥

-- why the bytes give no program with a function of this name
abbrev pub SaysOfSource : List ℕ → List ℕ → Answer → Type 0
SaysOfSource bytes name (Output lines failed) = ⊥
SaysOfSource bytes name Usage = ⊥
SaysOfSource bytes name (Refused line) =
    ((line ≡ no_form_line) × IsNoForm bytes) ⊎ ((line ≡ not_function_line name) × HasOther bytes name)
SaysOfSource bytes name (BadText line) = ⊥
SaysOfSource bytes name (BadChoices line) = ⊥
SaysOfSource bytes name (ReadFault word) = ⊥
SaysOfSource bytes name Memory = Unit {0}
SaysOfSource bytes name TooLong = ⊥

-- a source within the limit
pub record ShortSource (bytes name : List ℕ) (program : Program) : Type 0 where
  pub short : length bytes ≤ source_limit
  pub source : IsSourceOf bytes name program

-- Texts --------------------------------------------------------------------------------------------------------------

-- the line refuses the text with this fault
pub record FaultLine (bytes line : List ℕ) : Type 0 where
  pub fault : TextFault
  pub line_is : line ≡ text_fault_line fault
  pub cause : ShortFault bytes fault

-- why the bytes are no goto text
abbrev pub SaysOfText : List ℕ → Answer → Type 0
SaysOfText bytes (Output lines failed) = ⊥
SaysOfText bytes Usage = ⊥
SaysOfText bytes (Refused line) = ⊥
SaysOfText bytes (BadText line) = FaultLine bytes line
SaysOfText bytes (BadChoices line) = ⊥
SaysOfText bytes (ReadFault word) = ⊥
SaysOfText bytes Memory = Unit {0}
SaysOfText bytes TooLong = ⊥

-- a text within the limit
pub record ShortText (bytes : List ℕ) (program : GotoProgram) : Type 0 where
  pub short : length bytes ≤ text_limit
  pub text : IsGotoText bytes program

-- Choices ------------------------------------------------------------------------------------------------------------

-- the line refuses the choices
pub record ChoicesLine (bytes line : List ℕ) : Type 0 where
  pub verdict : Verdict
  pub line_is : choices_line verdict ≡ Some line
  pub cause : ShortChoices bytes verdict

-- why the bytes are no list of choices
abbrev pub SaysOfList : List ℕ → Answer → Type 0
SaysOfList bytes (Output lines failed) = ⊥
SaysOfList bytes Usage = ⊥
SaysOfList bytes (Refused line) = ⊥
SaysOfList bytes (BadText line) = ⊥
SaysOfList bytes (BadChoices line) = ChoicesLine bytes line
SaysOfList bytes (ReadFault word) = ⊥
SaysOfList bytes Memory = Unit {0}
SaysOfList bytes TooLong = ⊥

-- Runs ---------------------------------------------------------------------------------------------------------------

abbrev pub run_by : Mode → Program → ℕ → List ℕ → Outcome
run_by Contract = contract_run
run_by Plain = plain_report

-- the report is that of the run
pub record IsReportOf (run : Outcome) (r : RunReport) : Type 0 where
  pub end : end_view r.end ≡ run.end
  pub used : length r.used ≡ run.used
  pub counts : r.counts ≡ all_counted (map spoken run.events) no_counts
  pub failed : r.failed ≡ run.names

-- the answer is the run's report, or want of memory
abbrev pub SaysOfRun : Outcome → Answer → Type 0
SaysOfRun run (Output lines failed) = (lines ≡ report_of run) × (failed ≡ has_failed run.names)
SaysOfRun run Usage = ⊥
SaysOfRun run (Refused line) = ⊥
SaysOfRun run (BadText line) = ⊥
SaysOfRun run (BadChoices line) = ⊥
SaysOfRun run (ReadFault word) = ⊥
SaysOfRun run Memory = Unit {0}
SaysOfRun run TooLong = ⊥
