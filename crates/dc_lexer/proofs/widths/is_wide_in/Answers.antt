use Rattle.std.proofs.Common.{◌≤◌, sym, subst, arith, rules}
use Rattle.dc_lexer.specs.Words.{value_behind}
use Rattle.dc_lexer.proofs.Valued.{wide_from}
use Rattle.dc_lexer.proofs.widths.is_wide_in.Goals as goal

pub returns-then-next-gt-WIDEST : goal.returns-then-next-gt-WIDEST
returns-then-next-gt-WIDEST c =
    let h = c.if-next-gt-WIDEST.true in
    let d = c.digit_value.ensures in
    let low : 18446744073709551616 ≤ value_behind c.args.base c.loop-rest.number c.loop-rest.rest.now =
    wide_from c.args.base c.loop-rest.number 18446744073709551616 c.loop-rest.rest.now c.requires (omega arith) (omega arith) in
    (λ t. subst (λ n. 18446744073709551616 ≤ n) (sym c.loop-rest.invariant) low, λ t. search rules)
