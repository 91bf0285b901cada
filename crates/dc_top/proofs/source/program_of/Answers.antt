use Rattle.std.proofs.Common.{ap, ◌∙◌, Err}
use Rattle.dc_core.specs.View.{program_view}
use Rattle.dc_top.proofs.Justified.{refused_form}
use Rattle.dc_top.proofs.Read.{form_seen, says_seen, source_named, other_named, refused_name}
use Rattle.dc_top.proofs.source.program_of.Goals as goal

pub returns-then-is_named-clause-found : goal.returns-then-is_named-clause-found
returns-then-is_named-clause-found c =
    source_named c.args.bytes.now c.args.name.now (program_view c.in-Ok.p) c.is_named.result (form_seen c.args.bytes.now c.in-Ok.p c.in-Ok.ensures.found) c.is_named.ensures c.if-is_named.true

pub returns-then-is_named-clause-said : goal.returns-then-is_named-clause-said
returns-then-is_named-clause-said c = says_seen c.args.bytes.now c.in-Ok.p c.in-Ok.ensures.found

pub returns-else-is_named-clause-found : goal.returns-else-is_named-clause-found
returns-else-is_named-clause-found c =
    refused_name c.args.bytes.now c.args.name.now c.not_function.result
    (other_named c.args.bytes.now c.args.name.now (program_view c.in-Ok.p) c.is_named.result (form_seen c.args.bytes.now c.in-Ok.p c.in-Ok.ensures.found) c.is_named.ensures c.if-is_named.false)
    c.not_function.ensures

pub returns-in-Err-NoForm-clause-found : goal.returns-in-Err-NoForm-clause-found
returns-in-Err-NoForm-clause-found c =
    refused_form c.args.bytes.now c.args.name.now c.no_form.result (c.read_form.ensures.none (c.in-Err-NoForm.is ∙ ap Err c.in-Err-NoForm.field-0-is)) c.no_form.ensures
