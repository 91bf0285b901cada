use Rattle.std.proofs.Common.{[], ap, sym, ◌∙◌}
use Rattle.dc_core.specs.View.{function_in}
use Rattle.dc_text.specs.Words.{same}
use Rattle.dc_top.proofs.Read.{same_nothing}
use Rattle.dc_top.proofs.source.is_named.Goals as goal

pub returns-in-Some : goal.returns-in-Some
returns-in-Some c =
    c.is.ensures ∙ ap (λ n. same c.in-Some.f.now.name n) c.as_slice.ensures ∙ ap (λ f. same f.name c.args.name.now) c.in-Some.ensures.found

pub returns-in-None : goal.returns-in-None
returns-in-None c =
    c.is_empty.ensures ∙ sym (same_nothing c.as_slice-in-None.result.now) ∙ ap (same []) c.as_slice-in-None.ensures
    ∙ ap (λ fs. same (function_in fs).name c.args.name.now) (sym c.in-None.ensures.found)
