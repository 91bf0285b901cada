-- Why an answer is right.
use Rattle.std.proofs.Common.{◌≡◌, ℕ, zero, suc, ◌<◌, ◌≤◌, ◌⊎◌, false, List, [], ◌∷◌, ◌++◌, length, map, Option, None, Some, refl, sym, ap, subst, ◌∙◌, arith, inl, inr}
use Rattle.std.specs.Prelude.{flat_map, IfSome, IfOk, IfErr, MatchOption, MatchResult, Result, Ok, Err}
use Rattle.std.specs.List.{AllByRecursion}
use Rattle.dc_choice.specs.Reading.{numbers}
use Rattle.dc_core.specs.Outcome.{Outcome, IsExact}
use Rattle.dc_core.specs.Program.{Program}
use Rattle.dc_core.specs.Run.{contract_run, plain_report}
use Rattle.dc_goto.specs.Lines.{IsForm, forms_of}
use Rattle.dc_goto.specs.Machine.{goto_run}
use Rattle.dc_goto.specs.Program.{GotoProgram}
use Rattle.dc_goto.specs.Shape.{IsShaped}
use Rattle.dc_goto.specs.Text.{line_bytes, lines_of}
use Rattle.dc_instrument.specs.Lowering.{goto_of}
use Rattle.dc_instrument.specs.Writable.{IsWritable}
use Rattle.dc_outside.specs.Counts.{Rose}
use Rattle.dc_outside.specs.Shelf.{Files, IsLonger, named_file}
use Rattle.dc_top.specs.Table.{Asked, Text, Contract, Plain, Command, Instrument, Replay, enforced, IsRow, Inputs, OfFile, OfSource, file_at, inputs_of, source_limit, choices_limit}
use Rattle.dc_top.specs.Row.{asked_by}
use Rattle.dc_top.specs.Exactness.{Instruments}
use Rattle.dc_top.specs.Replaying.{Accepts, Given, ShortFault, ShortChoices}
use Rattle.dc_top.specs.Stages.{IsRefusal, SaysOfSource, ShortSource, SaysOfText, ShortText, SaysOfList, SaysOfRun, run_by}
use Rattle.dc_top.specs.Answers.{Says, Justifies, TellsFaults, StageTells, RefusesSource, ComesTo, HasOther, IsNoForm, no_form_line}
use Rattle.dc_top.specs.declared.answer.Answer.{Answer}
use Rattle.dc_top.specs.declared.answer.Answer.TheVariants.{Output, Usage, Refused, BadText, BadChoices, ReadFault, Memory, TooLong}
use Rattle.dc_top.specs.declared.table.Mode.{Mode}
use Rattle.dc_top.specs.declared.table.Mode.TheVariants as mode
use Rattle.dc_top.proofs.Writable.{form_is_writable}

-- Files -------------------------------------------------------------------------------------------------------------

-- what holds of the bytes that were read holds of the file
pub of_file : (files : Option Files) (words : List (List ℕ)) (word : ℕ) (bytes : List ℕ) (P : List ℕ → Type 0) → IfSome files (λ files. named_file files words word ≡ Some bytes) → P bytes → OfSource (file_at files words word) P
of_file None words word bytes P whole h = tt
of_file (Some files) words word bytes P whole h = subst (OfFile P) (sym whole) h

longer : (limit : ℕ) (file : Option (List ℕ)) → IsLonger limit file → OfFile (λ bytes. limit < length bytes) file
longer limit None h = h
longer limit (Some bytes) h = h

pub long_file : (files : Option Files) (words : List (List ℕ)) (word limit : ℕ) → IfSome files (λ files. IsLonger limit (named_file files words word)) → OfSource (file_at files words word) (λ bytes. limit < length bytes)
long_file None words word limit h = tt
long_file (Some files) words word limit h = longer limit (named_file files words word) h

each_file : (file : Option (List ℕ)) (P Q : List ℕ → Type 0) → ((bytes : List ℕ) → P bytes → Q bytes) → OfFile P file → OfFile Q file
each_file None P Q f h = h
each_file (Some bytes) P Q f h = f bytes h

-- what follows for each bytes follows for the file
each : (source : Option (Option (List ℕ))) (P Q : List ℕ → Type 0) → ((bytes : List ℕ) → P bytes → Q bytes) → OfSource source P → OfSource source Q
each None P Q f h = tt
each (Some file) P Q f h = each_file file P Q f h

-- The first file ----------------------------------------------------------------------------------------------------

-- the words enforce this name
abbrev refusal_line : Option (List ℕ) → Inputs → List ℕ → Type 0
refusal_line name inputs line = MatchOption name ⊥ (RefusesSource inputs line)

source_refused : (files : Option Files) (words : List (List ℕ)) (name bytes line : List ℕ) → IfSome files (λ files. named_file files words 1 ≡ Some bytes) → length bytes ≤ source_limit → SaysOfSource bytes name (Refused line) → RefusesSource (inputs_of files words) line name
source_refused files words name bytes line whole short s =
    elim s [
      | inl n ↦ inl (n.0, of_file files words 1 bytes (λ bytes. (length bytes ≤ source_limit) × IsNoForm bytes) whole (short, n.1))
      | inr o ↦ inr (o.0, of_file files words 1 bytes (λ bytes. (length bytes ≤ source_limit) × HasOther bytes name) whole (short, o.1))
    ]

-- the bytes of a source give no program
pub source_says : (files : Option Files) (words : List (List ℕ)) (name bytes : List ℕ) (answer : Answer) (command : Command) → IfSome files (λ files. named_file files words 1 ≡ Some bytes) → length bytes ≤ source_limit
    → SaysOfSource bytes name answer → enforced command ≡ Some name → Says command (inputs_of files words) answer
source_says files words name bytes (Output lines failed) command whole short s e = absurd s
source_says files words name bytes Usage command whole short s e = s
source_says files words name bytes (Refused line) command whole short s e =
    subst (λ o. refusal_line o (inputs_of files words) line) (sym e) (source_refused files words name bytes line whole short s)
source_says files words name bytes (BadText line) command whole short s e = absurd s
source_says files words name bytes (BadChoices line) command whole short s e = absurd s
source_says files words name bytes (ReadFault word) command whole short s e = absurd s
source_says files words name bytes Memory command whole short s e = tt
source_says files words name bytes TooLong command whole short s e = absurd s

-- a source is too long
pub source_long : (files : Option Files) (words : List (List ℕ)) (name : List ℕ) (command : Command) → IfSome files (λ files. IsLonger source_limit (named_file files words 1)) → enforced command ≡ Some name → Says command (inputs_of files words) TooLong
source_long files words name (Instrument file m) h e = long_file files words 1 source_limit h
source_long files words name (Replay Text file choices steps) h e = cc
source_long files words name (Replay (Contract m) file choices steps) h e = inl (long_file files words 1 source_limit h)
source_long files words name (Replay (Plain m) file choices steps) h e = inl (long_file files words 1 source_limit h)

-- the first file is read in any case
pub first_comes : (command : Command) (inputs : Inputs) → ComesTo command inputs 1
first_comes (Instrument file name) inputs = refl
first_comes (Replay asked file choices steps) inputs = inl refl

-- the bytes are no goto text
pub text_says : (files : Option Files) (words : List (List ℕ)) (bytes : List ℕ) (answer : Answer) (file choices : List ℕ) (steps : ℕ) → IfSome files (λ files. named_file files words 1 ≡ Some bytes)
    → SaysOfText bytes answer → Says (Replay Text file choices steps) (inputs_of files words) answer
text_says files words bytes (Output lines failed) file choices steps whole s = absurd s
text_says files words bytes Usage file choices steps whole s = s
text_says files words bytes (Refused line) file choices steps whole s = s
text_says files words bytes (BadText line) file choices steps whole s =
    record { fault = s.fault; line_is = s.line_is; cause = of_file files words 1 bytes (λ bytes. ShortFault bytes s.fault) whole s.cause }
text_says files words bytes (BadChoices line) file choices steps whole s = absurd s
text_says files words bytes (ReadFault word) file choices steps whole s = absurd s
text_says files words bytes Memory file choices steps whole s = tt
text_says files words bytes TooLong file choices steps whole s = absurd s

-- The choices -------------------------------------------------------------------------------------------------------

-- the bytes are no list of choices
pub list_says : (files : Option Files) (words : List (List ℕ)) (bytes : List ℕ) (answer : Answer) (asked : Asked) (file choices : List ℕ) (steps : ℕ) → IfSome files (λ files. named_file files words 2 ≡ Some bytes)
    → SaysOfList bytes answer → Given asked (inputs_of files words) → Says (Replay asked file choices steps) (inputs_of files words) answer
list_says files words bytes (Output lines failed) asked file choices steps whole s given = absurd s
list_says files words bytes Usage asked file choices steps whole s given = s
list_says files words bytes (Refused line) asked file choices steps whole s given = absurd s
list_says files words bytes (BadText line) asked file choices steps whole s given = absurd s
list_says files words bytes (BadChoices line) asked file choices steps whole s given =
    record { given = given; refuses = record { verdict = s.verdict; line_is = s.line_is; cause = of_file files words 2 bytes (λ bytes. ShortChoices bytes s.verdict) whole s.cause } }
list_says files words bytes (ReadFault word) asked file choices steps whole s given = absurd s
list_says files words bytes Memory asked file choices steps whole s given = tt
list_says files words bytes TooLong asked file choices steps whole s given = absurd s

-- the choices are too long
pub list_long : (files : Option Files) (words : List (List ℕ)) (asked : Asked) (file choices : List ℕ) (steps : ℕ) → IfSome files (λ files. IsLonger choices_limit (named_file files words 2))
    → Given asked (inputs_of files words) → Says (Replay asked file choices steps) (inputs_of files words) TooLong
list_long files words asked file choices steps h given = inr (record { given = given; long = long_file files words 2 choices_limit h })

-- Outputs -----------------------------------------------------------------------------------------------------------

flat_map-map : (xs : List (List ℕ)) → flat_map (λ line. line) (map line_bytes xs) ≡ flat_map line_bytes xs
flat_map-map [] = refl
flat_map-map (x ∷ xs) = ap (λ ys. line_bytes x ++ ys) (flat_map-map xs)

-- a lowered program's lines have forms and keep the rules
pub record CanBeWritten (p : Program) : Type 0 where
  pub formed : AllByRecursion IsForm (forms_of (goto_of p))
  pub shaped : IsShaped (goto_of p)

instruments : (bytes name : List ℕ) (p : Program) (lines : List (List ℕ)) → ShortSource bytes name p → lines ≡ map line_bytes (lines_of (goto_of p)) → (IsWritable p → CanBeWritten p) → IsExact (contract_run p) (goto_run (goto_of p))
    → Instruments bytes name (flat_map (λ line. line) lines)
instruments bytes name p lines s l written exact =
    let w = written (form_is_writable bytes p s.source.form s.short) in
    record {
      program = p;
      goto_program = goto_of p;
      form = s.source.form;
      enforced = s.source.enforced;
      text_is = record { spelt = ap (flat_map (λ line. line)) l ∙ flat_map-map (lines_of (goto_of p)); formed = w.formed; shaped = w.shaped };
      exact = exact;
    }

-- the lines are the text of a program that is exact for the source
pub text_written : (inputs : Inputs) (file name : List ℕ) (p : Program) (lines : List (List ℕ)) → OfSource inputs.first (λ bytes. ShortSource bytes name p) → lines ≡ map line_bytes (lines_of (goto_of p))
    → (IsWritable p → CanBeWritten p) → IsExact (contract_run p) (goto_run (goto_of p)) → Says (Instrument file name) inputs (Output lines false)
text_written inputs file name p lines source l written exact =
    (refl, each inputs.first (λ bytes. ShortSource bytes name p) (λ bytes. (length bytes ≤ source_limit) × Instruments bytes name (flat_map (λ line. line) lines)) (λ bytes s. (s.short, instruments bytes name p lines s l written exact)) source)

-- the first file gives the run of this program
pub text_given : (inputs : Inputs) (program : GotoProgram) → OfSource inputs.first (λ bytes. ShortText bytes program) → OfSource inputs.first (λ bytes. Accepts Text bytes (goto_run program))
text_given inputs program text =
    each inputs.first (λ bytes. ShortText bytes program) (λ bytes. Accepts Text bytes (goto_run program)) (λ bytes s. record { short = s.short; gives = (program, s.text, refl) }) text

pub source_given : (mode : Mode) (inputs : Inputs) (name : List ℕ) (program : Program) → OfSource inputs.first (λ bytes. ShortSource bytes name program)
    → OfSource inputs.first (λ bytes. Accepts (asked_by mode name) bytes (run_by mode program))
source_given mode.Contract inputs name program source =
    each inputs.first (λ bytes. ShortSource bytes name program) (λ bytes. Accepts (Contract name) bytes (contract_run program)) (λ bytes s. record { short = s.short; gives = (program, s.source, refl) }) source
source_given mode.Plain inputs name program source =
    each inputs.first (λ bytes. ShortSource bytes name program) (λ bytes. Accepts (Plain name) bytes (plain_report program)) (λ bytes s. record { short = s.short; gives = (program, s.source, refl) }) source

abbrev pub given_by : (asked : Asked) (inputs : Inputs) (run : ℕ → List ℕ → Outcome) → OfSource inputs.first (λ bytes. Accepts asked bytes run) → Given asked inputs
given_by asked inputs run first = record { run = run; first = first }

-- the answer is the report of the run on the list, or there was no memory
pub run_says : (asked : Asked) (inputs : Inputs) (run : ℕ → List ℕ → Outcome) (list file choices : List ℕ) (steps : ℕ) (answer : Answer) → OfSource inputs.first (λ bytes. Accepts asked bytes run)
    → OfSource inputs.second (λ bytes. ShortChoices bytes (numbers list)) → SaysOfRun (run steps list) answer → Says (Replay asked file choices steps) inputs answer
run_says asked inputs run list file choices steps (Output lines failed) first second s =
    record { given = given_by asked inputs run first; list = list; choices = second; output_is = ap (flat_map (λ line. line)) s.0; failed_is = s.1 }
run_says asked inputs run list file choices steps Usage first second s = s
run_says asked inputs run list file choices steps (Refused line) first second s = absurd s
run_says asked inputs run list file choices steps (BadText line) first second s = absurd s
run_says asked inputs run list file choices steps (BadChoices line) first second s = absurd s
run_says asked inputs run list file choices steps (ReadFault word) first second s = absurd s
run_says asked inputs run list file choices steps Memory first second s = tt
run_says asked inputs run list file choices steps TooLong first second s = absurd s

-- the words are a row, and this is said
pub justified : (words : List (List ℕ)) (inputs : Inputs) (command : Command) (answer : Answer) → IsRow words command → Says command inputs answer → Justifies words inputs answer
justified words inputs command (Output lines failed) row s = record { row = record { command = command; row = row }; says = s }
justified words inputs command Usage row s = absurd s
justified words inputs command (Refused line) row s = record { row = record { command = command; row = row }; says = s }
justified words inputs command (BadText line) row s = record { row = record { command = command; row = row }; says = s }
justified words inputs command (BadChoices line) row s = record { row = record { command = command; row = row }; says = s }
justified words inputs command (ReadFault word) row s = record { row = record { command = command; row = row }; says = s }
justified words inputs command Memory row s = record { row = record { command = command; row = row }; says = s }
justified words inputs command TooLong row s = record { row = record { command = command; row = row }; says = s }

-- Counts of faults --------------------------------------------------------------------------------------------------

same_or_not : (m n : ℕ) → (m ≡ n) ⊎ (m ≡ n → ⊥)
same_or_not zero zero = inl refl
same_or_not zero (suc n) = inr (λ e. omega (arith, e))
same_or_not (suc m) zero = inr (λ e. omega (arith, e))
same_or_not (suc m) (suc n) = elim (same_or_not m n) [ inl e ↦ inl (ap suc e) | inr o ↦ inr (λ e. o (omega (arith, e))) ]

-- no count changed
pub all_kept : (before now : ℕ → ℕ) (k : ℕ) → now k ≡ before k → ((other : ℕ) → (other ≡ k → ⊥) → now other ≡ before other) → (word : ℕ) → now word ≡ before word
all_kept before now k kept others word =
    elim (same_or_not word k) [ inl e ↦ ap now e ∙ kept ∙ ap before (sym e) | inr o ↦ others word o ]

abbrev word_in : Answer → ℕ
word_in (ReadFault word) = word
word_in answer = 0

-- this file failed
pub one_fault : (before now : ℕ → ℕ) (k : ℕ) → Rose (before k) (now k) → ((other : ℕ) → (other ≡ k → ⊥) → now other ≡ before other) → TellsFaults (ReadFault k) before now
one_fault before now k rose others =
    record {
      rose = λ word e. subst (λ w. Rose (before w) (now w)) (ap word_in e) rose;
      kept = λ word n. others word (λ e. n (ap ReadFault (sym e)));
    }

-- an answer that is no fault of a file, where no count changed
pub no_faults : (answer : Answer) (before now : ℕ → ℕ) → ((word : ℕ) → answer ≡ ReadFault word → ⊥) → ((word : ℕ) → now word ≡ before word) → TellsFaults answer before now
no_faults answer before now quiet same = record { rose = λ word e. absurd (quiet word e); kept = λ word n. same word }

-- the same of a stage
pub stage_quiet : {A : Type 0} (P : A → Type 0) (Q : Answer → Type 0) (result : Result A Answer) (before now : ℕ → ℕ) → MatchResult result P Q → ((word : ℕ) → Q (ReadFault word) → ⊥) → ((word : ℕ) → now word ≡ before word) → StageTells result before now
stage_quiet P Q (Ok value) before now m quiet same = same
stage_quiet P Q (Err answer) before now m quiet same = no_faults answer before now (λ word e. quiet word (subst Q e m)) same

-- a stage without a fault came before
pub later_faults : (answer : Answer) (before between now : ℕ → ℕ) → ((word : ℕ) → between word ≡ before word) → TellsFaults answer between now → TellsFaults answer before now
later_faults answer before between now same faults =
    record {
      rose = λ word e. subst (λ n. Rose n (now word)) (same word) (faults.rose word e);
      kept = λ word n. faults.kept word n ∙ same word;
    }

-- Stages ------------------------------------------------------------------------------------------------------------

pub match_ok : {A E : Type 0} (P Q : A → Type 0) (R : E → Type 0) (result : Result A E) → ((value : A) → P value → Q value) → MatchResult result P R → IfOk result Q
match_ok P Q R (Ok v) f m = f v m
match_ok P Q R (Err x) f m = tt

pub match_err : {A E : Type 0} (P : A → Type 0) (R S : E → Type 0) (result : Result A E) → ((e : E) → R e → S e) → MatchResult result P R → IfErr result S
match_err P R S (Ok v) f m = tt
match_err P R S (Err x) f m = f x m

pub refused_form : (bytes name : List ℕ) (answer : Answer) → IsNoForm bytes → IsRefusal no_form_line answer → SaysOfSource bytes name answer
refused_form bytes name (Output lines failed) none r = r
refused_form bytes name Usage none r = r
refused_form bytes name (Refused line) none r = inl (r, none)
refused_form bytes name (BadText line) none r = r
refused_form bytes name (BadChoices line) none r = r
refused_form bytes name (ReadFault word) none r = r
refused_form bytes name Memory none r = r
refused_form bytes name TooLong none r = r

-- the shelf tells the same files before and after a stage
same_inputs : (files files' : Option Files) (names names' : List (List ℕ)) → files' ≡ files → names' ≡ names → inputs_of files' names' ≡ inputs_of files names
same_inputs files files' names names' f n = ap (λ f. inputs_of f names') f ∙ ap (inputs_of files) n

pub moved_list : (files files' : Option Files) (names names' : List (List ℕ)) (P : List ℕ → Type 0) → files' ≡ files → names' ≡ names → OfSource (file_at files' names' 2) P → OfSource (file_at files names 2) P
moved_list files files' names names' P f n h = let Q : Inputs → Type 0 = λ i. OfSource i.second P in subst Q (same_inputs files files' names names' f n) h

pub moved_says : (files files' : Option Files) (names names' : List (List ℕ)) (asked : Asked) (command : Command) (answer : Answer) → files' ≡ files → names' ≡ names
    → (Given asked (inputs_of files' names') → Says command (inputs_of files' names') answer) → Given asked (inputs_of files names) → Says command (inputs_of files names) answer
moved_says files files' names names' asked command answer f n h =
    let Q : Inputs → Type 0 = λ i. Given asked i → Says command i answer in subst Q (same_inputs files files' names names' f n) h
