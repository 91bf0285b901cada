use Rattle.std.proofs.Common.{sym, subst}
use Rattle.dc_form.specs.Form.{Spells}
use Rattle.dc_form.proofs.Sourced.{forms_found, form_none}
use Rattle.dc_form.proofs.reader.read_form.Goals as goal

pub returns-in-Ok-clause-found : goal.returns-in-Ok-clause-found
returns-in-Ok-clause-found c =
    forms_found c.read_source.result c.args.bytes.now c.deref.result.now (subst (Spells c.args.bytes.now) (sym c.deref.ensures.value) c.in-Ok.ensures.found) c.read_source.ensures.found c.read_source.ensures.whole

pub returns-in-Ok-clause-none : goal.returns-in-Ok-clause-none
returns-in-Ok-clause-none c =
    λ e. form_none c.args.bytes.now c.deref.result.now (subst (Spells c.args.bytes.now) (sym c.deref.ensures.value) c.in-Ok.ensures.found) (c.read_source.ensures.none e)
