-- What the top call's clauses say.
use Rattle.std.specs.Prelude.{◌≡◌, ℕ, ◌<◌, ◌≤◌, ◌⊎◌, Bool, false, List, [], length, Option, None, Some, MatchOption, if◌then◌else◌, ◌==◌}
use Rattle.dc_choice.specs.Reading.{Verdict, numbers}
use Rattle.dc_core.specs.Outcome.{Outcome}
use Rattle.dc_core.specs.Program.{Program}
use Rattle.dc_outside.specs.Counts.{Rose}
use Rattle.dc_top.specs.Table.{Asked, Text, Contract, Plain, Command, Instrument, Replay, enforced, HasRow, Inputs, source_limit, limit_of, choices_limit}
use Rattle.dc_top.specs.Report.{has_failed}
use Rattle.dc_top.specs.Replaying.{IsSourceOf, Accepts, TextFault, ShortFault, ShortChoices, choices_line}
use Rattle.dc_top.specs.declared.answer.Answer.{Answer}
use Rattle.dc_top.specs.Answers.{is_output, line_of, Justifies, TellsFaults, Writes, Refuses, RefusesTextOf, RefusesChoicesOf, ComesTo, ComesToLong, IsNoForm, HasOther, usage_line, read_fault_line, write_fault_line, memory_line, too_long_line}
use Rattle.dc_top.specs.Delivery.{Sunk, Gained, GainedPrefix, Faulted, Took, IsSaid, Delivers}

-- the answer is right, and delivered; a fault of a file is the answer exactly where its count rose
pub record Answered (words : List (List ℕ)) (inputs : Inputs) (faults_before faults_now : ℕ → ℕ) (out err : Sunk) (status : ℕ) : Type 0 where
  pub answer : Answer
  pub why : Justifies words inputs answer
  pub faults : TellsFaults answer faults_before faults_now
  pub how : Delivers answer status out err

-- the statuses that have one line, and that line; an output has none
abbrev pub fixed_line : ℕ → Option (List ℕ)
fixed_line status =
    if status == 0 then Some [] else if status == 10 then Some [] else if status == 2 then Some usage_line
    else if status == 6 then Some read_fault_line else if status == 8 then Some memory_line
    else if status == 9 then Some too_long_line else None

-- Causes ------------------------------------------------------------------------------------------------------------

-- the whole output was written, and whether a name failed
pub record IsWritten (words : List (List ℕ)) (inputs : Inputs) (failed : Bool) (out : Sunk) : Type 0 where
  pub row : HasRow words
  pub output : List ℕ
  pub says : Writes row.command inputs failed output
  pub gained : Gained out output

-- the source is refused, and the line says why
pub record IsRefused (words : List (List ℕ)) (inputs : Inputs) (err : Sunk) : Type 0 where
  pub row : HasRow words
  pub line : List ℕ
  pub said : Gained err line
  pub cause : Refuses row.command inputs line

-- the text is refused, and the line says where
pub record IsBadText (words : List (List ℕ)) (inputs : Inputs) (err : Sunk) : Type 0 where
  pub row : HasRow words
  pub line : List ℕ
  pub said : Gained err line
  pub cause : RefusesTextOf row.command inputs line

-- the choices are refused, and the line says why
pub record IsBadChoices (words : List (List ℕ)) (inputs : Inputs) (err : Sunk) : Type 0 where
  pub row : HasRow words
  pub line : List ℕ
  pub said : Gained err line
  pub cause : RefusesChoicesOf row.command inputs line

-- the order came to a file, and the count of the word that names it rose
pub record IsUnread (words : List (List ℕ)) (inputs : Inputs) (faults_before faults_now : ℕ → ℕ) : Type 0 where
  pub row : HasRow words
  pub word : ℕ
  pub comes : ComesTo row.command inputs word
  pub rose : Rose (faults_before word) (faults_now word)

-- the order came to a file that is longer than its limit
pub record IsTooLong (words : List (List ℕ)) (inputs : Inputs) : Type 0 where
  pub row : HasRow words
  pub long : ComesToLong row.command inputs

-- the first sink failed, and holds a prefix of the output; the second holds the line of a fault, or a prefix where it
-- failed too
pub record IsCutOff (words : List (List ℕ)) (inputs : Inputs) (out err : Sunk) : Type 0 where
  pub fault : Faulted out
  pub row : HasRow words
  pub failed : Bool
  pub output : List ℕ
  pub says : Writes row.command inputs failed output
  pub gained : GainedPrefix out output
  pub line : IsSaid err write_fault_line

-- the second sink failed, and holds a prefix of the line of an answer that is right, as in Answered; the first was given
-- nothing
pub record IsUnsaid (words : List (List ℕ)) (inputs : Inputs) (faults_before faults_now : ℕ → ℕ) (out err : Sunk) : Type 0 where
  pub fault : Faulted err
  pub silent : Took out []
  pub answer : Answer
  pub no_output : is_output answer ≡ false
  pub why : Justifies words inputs answer
  pub faults : TellsFaults answer faults_before faults_now
  pub line : GainedPrefix err (line_of answer)

-- this status, or 7 where the second sink failed
abbrev pub Gives : ℕ → ℕ → Sunk → Type 0
Gives status result err = (result ≡ status) ⊎ ((result ≡ 7) × Faulted err)

-- What leads to a status --------------------------------------------------------------------------------------------

-- the file is there, with these bytes
abbrev pub Holds : Option (Option (List ℕ)) → List ℕ → Type 0
Holds source bytes = source ≡ Some (Some bytes)

-- the first file gives a run
pub record GivesSome (asked : Asked) (inputs : Inputs) : Type 0 where
  pub bytes : List ℕ
  pub there : Holds inputs.first bytes
  pub run : ℕ → List ℕ → Outcome
  pub accepts : Accepts asked bytes run

-- a source within the limit that isn't of the form, or whose function has another name
pub record RefusableSource (inputs : Inputs) (name : List ℕ) : Type 0 where
  pub bytes : List ℕ
  pub there : Holds inputs.first bytes
  pub short : length bytes ≤ source_limit
  pub cause : IsNoForm bytes ⊎ HasOther bytes name

pub record IsRefusable (words : List (List ℕ)) (inputs : Inputs) : Type 0 where
  pub row : HasRow words
  pub cause : MatchOption (enforced row.command) ⊥ (RefusableSource inputs)

-- a text within the limit with a line that is no line form, or breaks a rule
pub record FaultyText (inputs : Inputs) : Type 0 where
  pub bytes : List ℕ
  pub there : Holds inputs.first bytes
  pub fault : TextFault
  pub has : ShortFault bytes fault

abbrev pub FaultyTextOf : Command → Inputs → Type 0
FaultyTextOf (Instrument file name) inputs = ⊥
FaultyTextOf (Replay Text file choices steps) inputs = FaultyText inputs
FaultyTextOf (Replay (Contract name) file choices steps) inputs = ⊥
FaultyTextOf (Replay (Plain name) file choices steps) inputs = ⊥

pub record IsFaultyText (words : List (List ℕ)) (inputs : Inputs) : Type 0 where
  pub row : HasRow words
  pub cause : FaultyTextOf row.command inputs

-- a first file that gives a run, and choices within the limit that are no list of choices
pub record FaultyChoices (asked : Asked) (inputs : Inputs) : Type 0 where
  pub first : GivesSome asked inputs
  pub bytes : List ℕ
  pub there : Holds inputs.second bytes
  pub verdict : Verdict
  pub line : List ℕ
  pub refuses : choices_line verdict ≡ Some line
  pub choices : ShortChoices bytes verdict

abbrev pub FaultyChoicesOf : Command → Inputs → Type 0
FaultyChoicesOf (Instrument file name) inputs = ⊥
FaultyChoicesOf (Replay asked file choices steps) inputs = FaultyChoices asked inputs

pub record IsFaultyChoices (words : List (List ℕ)) (inputs : Inputs) : Type 0 where
  pub row : HasRow words
  pub cause : FaultyChoicesOf row.command inputs

-- a file that is longer than this
pub record LongFile (source : Option (Option (List ℕ))) (limit : ℕ) : Type 0 where
  pub bytes : List ℕ
  pub there : Holds source bytes
  pub long : limit < length bytes

-- a first file that gives a run, and choices that are longer than the limit
pub record LongChoices (asked : Asked) (inputs : Inputs) : Type 0 where
  pub first : GivesSome asked inputs
  pub choices : LongFile inputs.second choices_limit

abbrev pub LongOf : Command → Inputs → Type 0
LongOf (Instrument file name) inputs = LongFile inputs.first source_limit
LongOf (Replay asked file choices steps) inputs = LongFile inputs.first (limit_of asked) ⊎ LongChoices asked inputs

pub record IsLong (words : List (List ℕ)) (inputs : Inputs) : Type 0 where
  pub row : HasRow words
  pub cause : LongOf row.command inputs

-- a source within the limit that is of the form and has this function
pub record AcceptedSource (inputs : Inputs) (name : List ℕ) : Type 0 where
  pub bytes : List ℕ
  pub there : Holds inputs.first bytes
  pub short : length bytes ≤ source_limit
  pub program : Program
  pub source : IsSourceOf bytes name program

-- a first file that gives a run, and choices within the limit that are a list, on which this run fails a name or none
pub record AcceptedReplay (asked : Asked) (inputs : Inputs) (steps : ℕ) (failed : Bool) : Type 0 where
  pub first : GivesSome asked inputs
  pub bytes : List ℕ
  pub there : Holds inputs.second bytes
  pub list : List ℕ
  pub choices : ShortChoices bytes (numbers list)
  pub failed_is : failed ≡ has_failed (first.run steps list).names

abbrev pub AcceptedOf : Command → Inputs → Bool → Type 0
AcceptedOf (Instrument file name) inputs failed = (failed ≡ false) × AcceptedSource inputs name
AcceptedOf (Replay asked file choices steps) inputs failed = AcceptedReplay asked inputs steps failed

pub record IsAccepted (words : List (List ℕ)) (inputs : Inputs) (failed : Bool) : Type 0 where
  pub row : HasRow words
  pub cause : AcceptedOf row.command inputs failed
