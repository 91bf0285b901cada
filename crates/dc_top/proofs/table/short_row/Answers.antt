use Rattle.std.proofs.Common.{sym, ap, ◌∙◌}
use Rattle.dc_text.specs.Words.{is_word}
use Rattle.dc_top.proofs.Row.{instrument_found, text_found}
use Rattle.dc_top.proofs.table.short_row.Goals as goal

pub returns-then-is_formed-clause-found : goal.returns-then-is_formed-clause-found
returns-then-is_formed-clause-found c =
    instrument_found c.args.words.now c.command-item.result c.third-item.result c.last-item.result c.in-len4.len_at_least c.in-len4.len_below c.command-item.is c.third-item.is c.last-item.is
    (sym c.is.ensures ∙ c.if-is.true) (sym c.is-then-is.ensures ∙ c.if-is-2.true)
    (sym (ap is_word c.as_slice.ensures) ∙ sym c.is_formed.ensures ∙ c.if-is_formed.true)

pub returns-in-Some-clause-found : goal.returns-in-Some-clause-found
returns-in-Some-clause-found c =
    let number = (c.read_decimal.ensures c.in-Some.steps).0 c.in-Some.is in
    text_found c.args.words.now c.command-item.result c.last-item.result c.in-Some.steps c.in-len4.len_at_least c.in-len4.len_below c.command-item.is c.last-item.is
    (sym c.is-2.ensures ∙ c.if-not-is.false) number.0 (sym c.as_slice-2.ensures ∙ number.1)
