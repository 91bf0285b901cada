-- What is read of a source, and what is reported of its runs, by the program that is seen of the typed program.
use Rattle.std.proofs.Common.{◌≡◌, ℕ, suc, Bool, true, false, List, [], ◌∷◌, length, map, Option, Some, refl, sym, ap, subst, ◌∙◌, inr, arith}
use Rattle.std.specs.Prelude.{Result, Ok, Err, IfOk, IfSome}
use Rattle.std.specs.Bool.{◌==◌}
use Rattle.std.proofs.lemmas.Bool.Decides.{nat_tests}
use Rattle.dc_core.specs.Outcome.{Outcome}
use Rattle.dc_core.specs.Program.{Program}
use Rattle.dc_core.specs.View.{function_in, program_view}
use Rattle.dc_core.specs.Whole.{Says}
use Rattle.dc_core.proofs.Said.{program_said}
use Rattle.dc_form.specs.Form.{IsForm}
use Rattle.dc_form.proofs.Named.{equal_bytes, same_self}
use Rattle.dc_layout.specs.declared.ctype.CType.{CType}
use Rattle.dc_program.specs.ProgramView as whole
use Rattle.dc_program.specs.declared.program.Function.{Function}
use Rattle.dc_program.specs.declared.program.StaticVariable.{StaticVariable}
use Rattle.dc_text.specs.Counted.{all_counted, no_counts}
use Rattle.dc_text.specs.Words.{same}
use Rattle.dc_world.specs.Report.{end_view}
use Rattle.dc_world.specs.Told.{spoken}
use Rattle.dc_world.specs.declared.report.RunReport.{RunReport}
use Rattle.dc_top.specs.Answers.{HasOther, not_function_line}
use Rattle.dc_top.specs.Replaying.{IsSourceOf}
use Rattle.dc_top.specs.Stages.{IsRefusal, IsReportOf, SaysOfSource}
use Rattle.dc_top.specs.declared.answer.Answer.{Answer}
use Rattle.dc_top.specs.declared.answer.Answer.TheVariants.{Output, Usage, Refused, BadText, BadChoices, ReadFault, Memory, TooLong}

abbrev Typed : Type 0
Typed = List Function × (List StaticVariable × List (Option (List CType)))

-- Sources -----------------------------------------------------------------------------------------------------------

pub form_seen : (bytes : List ℕ) (p : Typed) → (q : Program) × IsForm bytes q × Says q (whole.program_view p) → IsForm bytes (program_view p)
form_seen bytes p f = subst (IsForm bytes) (sym (program_said f.0 p f.2)) f.1

pub says_seen : (bytes : List ℕ) (p : Typed) → (q : Program) × IsForm bytes q × Says q (whole.program_view p) → Says (program_view p) (whole.program_view p)
says_seen bytes p f = subst (λ q. Says q (whole.program_view p)) (sym (program_said f.0 p f.2)) f.2

-- nothing is named as the empty name but that
pub same_nothing : (name : List ℕ) → same [] name ≡ (length name == 0)
same_nothing [] = refl
same_nothing (b ∷ name) = grind (arith, nat_tests)

pub source_named : (bytes name : List ℕ) (p : Program) (t : Bool) → IsForm bytes p → t ≡ same p.function.name name → t ≡ true → IsSourceOf bytes name p
source_named bytes name p t form e h = record { form = form; enforced = equal_bytes p.function.name name (sym e ∙ h) }

pub other_named : (bytes name : List ℕ) (p : Program) (t : Bool) → IsForm bytes p → t ≡ same p.function.name name → t ≡ false → HasOther bytes name
other_named bytes name p t form e h =
    record {
      program = p;
      form = form;
      other = λ n. let clash : false ≡ true = sym h ∙ e ∙ ap (λ x. same x name) n ∙ same_self name in cc;
    }

pub refused_name : (bytes name : List ℕ) (answer : Answer) → HasOther bytes name → IsRefusal (not_function_line name) answer → SaysOfSource bytes name answer
refused_name bytes name (Output lines failed) other r = r
refused_name bytes name Usage other r = r
refused_name bytes name (Refused line) other r = inr (r, other)
refused_name bytes name (BadText line) other r = r
refused_name bytes name (BadChoices line) other r = r
refused_name bytes name (ReadFault word) other r = r
refused_name bytes name Memory other r = r
refused_name bytes name TooLong other r = r

-- Reports -----------------------------------------------------------------------------------------------------------

-- the report of a run on a list that the chooser tells
pub reported : {E : Type 0} (r : Result RunReport E) (run : List ℕ → Outcome) (list : List ℕ) (left : Option (List ℕ)) → left ≡ Some list
    → IfOk r (λ r. r.failed ≡ (run r.used).names)
    → IfOk r (λ r. end_view r.end ≡ (run r.used).end)
    → IfOk r (λ r. length r.used ≡ (run r.used).used)
    → IfOk r (λ r. r.counts ≡ all_counted (map spoken (run r.used).events) no_counts)
    → IfOk r (λ r. IfSome left (λ list. run list ≡ run r.used))
    → IfOk r (IsReportOf (run list))
reported (Ok r) run list left l failed end_ used counts whole_ =
    let told : IfSome (Some list) (λ list. run list ≡ run r.used) = subst (λ o. IfSome o (λ list. run list ≡ run r.used)) l whole_ in
    record {
      end = end_ ∙ ap (λ o. o.end) (sym told);
      used = used ∙ ap (λ o. o.used) (sym told);
      counts = counts ∙ ap (λ o. all_counted (map spoken o.events) no_counts) (sym told);
      failed = failed ∙ ap (λ o. o.names) (sym told);
    }
reported (Err e) run list left l failed end_ used counts whole_ = tt
