use Rattle.std.proofs.Common.{sym, ap, ◌∙◌}
use Rattle.dc_text.specs.Words.{is_word}
use Rattle.dc_top.proofs.Row.{source_found}
use Rattle.dc_top.proofs.table.long_row.Goals as goal

pub returns-then-is_formed-clause-found : goal.returns-then-is_formed-clause-found
returns-then-is_formed-clause-found c =
    let number = (c.read_decimal.ensures c.in_ok-steps.steps).0 c.in_ok-steps.was in
    source_found c.in_ok-mode.mode c.args.words.now c.command-item.result c.steps-item.result c.option-item.result c.name-item.result c.in_ok-steps.steps c.in-len6.len_at_least c.in-len6.len_below
    c.command-item.is c.steps-item.is c.option-item.is c.name-item.is
    c.in_ok-mode.ensures number.0 (sym c.as_slice.ensures ∙ number.1)
    (sym c.is.ensures ∙ c.if-is.true)
    (sym (ap is_word c.as_slice-then-is.ensures) ∙ sym c.is_formed.ensures ∙ c.if-is_formed.true)
