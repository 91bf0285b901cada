-- The reports of a source's three runs agree.
use Rattle.std.proofs.Common.{◌≡◌, ℕ, List, sym, ap, subst, ◌∙◌}
use Rattle.dc_core.specs.Outcome.{Outcome, IsExact}
use Rattle.dc_core.specs.Run.{contract_run, plain_report}
use Rattle.dc_core.proofs.Enforced.{enforcement_is_plain}
use Rattle.dc_form.proofs.Sourced.{one_program}
use Rattle.dc_goto.specs.Machine.{goto_run}
use Rattle.dc_goto.specs.Program.{GotoProgram}
use Rattle.dc_goto.specs.Shape.{IsGotoText}
use Rattle.dc_goto.proofs.Spelling as spelling
use Rattle.dc_top.specs.Exactness.{Instruments, Agree}
use Rattle.dc_top.specs.Replaying.{GivesRun}
use Rattle.dc_top.specs.Table.{Text, Contract, Plain}

one_text : (text : List ℕ) (g h : GotoProgram) → IsGotoText text g → IsGotoText text h → g ≡ h
one_text text g h a b = spelling.one_program g h a.formed b.formed (sym a.spelt ∙ b.spelt)

pub agreed : (source name text : List ℕ) (run contract plain : ℕ → List ℕ → Outcome)
    → Instruments source name text → GivesRun Text text run → GivesRun (Contract name) source contract → GivesRun (Plain name) source plain → Agree contract plain run
agreed source name text run contract plain i t c p =
    let run_is : run ≡ goto_run i.goto_program = t.2 ∙ ap goto_run (one_text text t.0 i.goto_program t.1 i.text_is) in
    let contract_is : contract ≡ contract_run i.program = c.2 ∙ ap contract_run (one_program source c.0 i.program c.1.form i.form) in
    let plain_is : plain ≡ plain_report i.program = p.2 ∙ ap plain_report (one_program source p.0 i.program p.1.form i.form) in
    record {
      exact = subst (λ run. IsExact contract run) (sym run_is) (subst (λ contract. IsExact contract (goto_run i.goto_program)) (sym contract_is) i.exact);
      same = λ steps list. ap (λ run. run steps list) contract_is ∙ enforcement_is_plain i.program steps list ∙ sym (ap (λ run. run steps list) plain_is);
    }
