-- What is answered to the text of a program.
use Rattle.std.proofs.Common.{◌≡◌, ℕ, List, Result, Ok, Err, refl, sym, ◌∙◌}
use Rattle.std.specs.Prelude.{IfOk, IsErrOf, MatchResult}
use Rattle.dc_goto.specs.Lines.{FirstFormless}
use Rattle.dc_goto.specs.Program as plain
use Rattle.dc_goto.specs.Shape.{IsGotoText, Misshapen}
use Rattle.dc_goto.specs.View.{goto_view}
use Rattle.dc_goto.specs.declared.program.GotoProgram.{GotoProgram}
use Rattle.dc_goto.proofs.Spelling.{one_program, no_formless, no_misshapen}
use Rattle.dc_scan.specs.Scanned.{IsMemory}
use Rattle.dc_scan.specs.declared.fault.Scan.{Scan}
use Rattle.dc_scan.specs.declared.fault.Scan.TheVariants as fault

-- the text of a program is scanned as that program, or there was no memory
pub every_text : (bytes : List ℕ) (result : Result GotoProgram Scan) → IfOk result (λ p. IsGotoText bytes (goto_view p)) → ((k : ℕ) → IsErrOf result (fault.Line k) → FirstFormless bytes k) → ((k : ℕ) → IsErrOf result (fault.Shape k) → Misshapen bytes k)
    → (p : plain.GotoProgram) → IsGotoText bytes p → MatchResult result (λ q. goto_view q ≡ p) IsMemory
every_text bytes (Ok q) text line shape p t = one_program (goto_view q) p text.formed t.formed (sym text.spelt ∙ t.spelt)
every_text bytes (Err (fault.Line k)) text line shape p t = no_formless bytes p k t (line k refl)
every_text bytes (Err (fault.Shape k)) text line shape p t = no_misshapen bytes p k t (shape k refl)
every_text bytes (Err (fault.Memory e)) text line shape p t = tt
