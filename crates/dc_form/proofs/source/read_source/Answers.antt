use Rattle.std.proofs.Common.{◌≡◌, true, false, sym, ap, ◌∙◌, [], ◌∷◌}
use Rattle.dc_program.specs.View as whole
use Rattle.dc_form.specs.Read.Source.{read_program}
use Rattle.dc_form.specs.Read.Whole.{parts_view}
use Rattle.dc_form.proofs.Distinct.{read_is_sound}
use Rattle.dc_form.proofs.Wholly.{more_behind}
use Rattle.dc_form.proofs.source.read_source.Goals as goal

pub returns-then-not-is_empty-clause-none : goal.returns-then-not-is_empty-clause-none
returns-then-not-is_empty-clause-none c = λ e.
    more_behind (read_program c.args.tokens.now) (parts_view c.in_ok-parts.parts) c.read_program.new.tokens
    (ap read_program (sym c.new-tokens.ensures) ∙ c.in_ok-parts.ensures.found)
    (λ h. let clash : false ≡ true = sym c.if-not-is_empty.true ∙ c.is_empty.ensures.1 h in cc)

pub program_of-requires : goal.program_of-requires
program_of-requires c =
    read_is_sound c.args.tokens.now c.read_program.new.tokens (parts_view c.in_ok-parts.parts) (whole.program (c.in_ok-parts.parts.function ∷ []) c.in_ok-parts.parts.statics [])
    (ap read_program (sym c.new-tokens.ensures) ∙ c.in_ok-parts.ensures.found)
    (c.is_empty.ensures.0 c.if-not-is_empty.false)
    c.in_ok-parts.ensures.whole
