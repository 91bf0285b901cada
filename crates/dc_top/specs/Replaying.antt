-- What a replay says of a file and its choices.
use Rattle.std.specs.Prelude.{◌≡◌, ℕ, ◌<◌, ◌≤◌, ◌++◌, ◌∷◌, [], List, Bool, length, flat_map, codes, Option, None, Some}
use Rattle.std.specs.Fmt.{decimal}
use Rattle.dc_choice.specs.Reading.{Verdict, no_json, no_array, wrong, numbers, reading, judged}
use Rattle.dc_core.specs.Outcome.{Outcome}
use Rattle.dc_core.specs.Program.{Program}
use Rattle.dc_core.specs.Run.{contract_run, plain_report}
use Rattle.dc_form.specs.Form.{IsForm}
use Rattle.dc_goto.specs.Lines.{FirstFormless}
use Rattle.dc_goto.specs.Machine.{goto_run}
use Rattle.dc_goto.specs.Program.{GotoProgram}
use Rattle.dc_goto.specs.Shape.{IsGotoText, Misshapen}
use Rattle.dc_top.specs.Report.{report_of, has_failed}
use Rattle.dc_top.specs.Table.{Asked, Text, Contract, Plain, Inputs, OfSource, limit_of, text_limit, choices_limit}

-- The first file ---------------------------------------------------------------------------------------------------

-- the bytes are of the form, and this is their program, whose function has the name
pub record IsSourceOf (bytes name : List ℕ) (program : Program) : Type 0 where
  pub form : IsForm bytes program
  pub enforced : program.function.name ≡ name

-- the run that is asked for, by the number of steps and the choices: that of the program whose text the bytes are, or of
-- the source's program
abbrev pub GivesRun : Asked → List ℕ → (ℕ → List ℕ → Outcome) → Type 0
GivesRun Text bytes run = (program : GotoProgram) × IsGotoText bytes program × (run ≡ goto_run program)
GivesRun (Contract name) bytes run = (program : Program) × IsSourceOf bytes name program × (run ≡ contract_run program)
GivesRun (Plain name) bytes run = (program : Program) × IsSourceOf bytes name program × (run ≡ plain_report program)

-- the same, of a file within its limit
pub record Accepts (asked : Asked) (bytes : List ℕ) (run : ℕ → List ℕ → Outcome) : Type 0 where
  pub short : length bytes ≤ limit_of asked
  pub gives : GivesRun asked bytes run

-- the first file gives this run
pub record Given (asked : Asked) (inputs : Inputs) : Type 0 where
  pub run : ℕ → List ℕ → Outcome
  pub first : OfSource inputs.first (λ bytes. Accepts asked bytes run)

-- what is wrong with a text: the line of this number is no line form, or all are and it breaks a rule
pub data TextFault : Type 0 where
  NoLine : (k : ℕ) → TextFault
  NoShape : (k : ℕ) → TextFault

abbrev pub text_fault_line : TextFault → List ℕ
text_fault_line (NoLine k) = codes "dcc: text line " ++ decimal k ++ 10 ∷ []
text_fault_line (NoShape k) = codes "dcc: text shape " ++ decimal k ++ 10 ∷ []

-- the line is the first such
abbrev pub HasFault : List ℕ → TextFault → Type 0
HasFault bytes (NoLine k) = FirstFormless bytes k
HasFault bytes (NoShape k) = Misshapen bytes k

-- the text within the limit has this fault
pub record ShortFault (bytes : List ℕ) (fault : TextFault) : Type 0 where
  pub short : length bytes ≤ text_limit
  pub has : HasFault bytes fault

-- the first file is no text, and the line says where
pub record RefusesText (inputs : Inputs) (line : List ℕ) : Type 0 where
  pub fault : TextFault
  pub line_is : line ≡ text_fault_line fault
  pub cause : OfSource inputs.first (λ bytes. ShortFault bytes fault)

-- The choices --------------------------------------------------------------------------------------------------------

-- choices within the limit, that come to this
pub record ShortChoices (bytes : List ℕ) (verdict : Verdict) : Type 0 where
  pub short : length bytes ≤ choices_limit
  pub judged_as : judged (reading bytes) ≡ verdict

-- the line that refuses choices
abbrev pub choices_line : Verdict → Option (List ℕ)
choices_line no_json = Some (codes "dcc: choices not JSON" ++ 10 ∷ [])
choices_line no_array = Some (codes "dcc: choices not an array" ++ 10 ∷ [])
choices_line (wrong index) = Some (codes "dcc: choices at " ++ decimal index ++ 10 ∷ [])
choices_line (numbers list) = None

-- the second file is no list of choices, and the line says why
pub record NoChoices (inputs : Inputs) (line : List ℕ) : Type 0 where
  pub verdict : Verdict
  pub line_is : choices_line verdict ≡ Some line
  pub cause : OfSource inputs.second (λ bytes. ShortChoices bytes verdict)

-- the first file gives a run, and the second is refused by this line
pub record RefusesChoices (asked : Asked) (inputs : Inputs) (line : List ℕ) : Type 0 where
  pub given : Given asked inputs
  pub refuses : NoChoices inputs line

-- the first file gives a run, and the second is longer than choices may be
pub record HasLongChoices (asked : Asked) (inputs : Inputs) : Type 0 where
  pub given : Given asked inputs
  pub long : OfSource inputs.second (λ bytes. choices_limit < length bytes)

-- The report ---------------------------------------------------------------------------------------------------------

-- the output is the report of the run on the list for so many steps
pub record Replays (asked : Asked) (inputs : Inputs) (steps : ℕ) (failed : Bool) (output : List ℕ) : Type 0 where
  pub given : Given asked inputs
  pub list : List ℕ
  pub choices : OfSource inputs.second (λ bytes. ShortChoices bytes (numbers list))
  pub output_is : output ≡ flat_map (λ line. line) (report_of (given.run steps list))
  pub failed_is : failed ≡ has_failed (given.run steps list).names
