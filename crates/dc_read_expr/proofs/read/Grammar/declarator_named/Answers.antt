use Rattle.std.proofs.Common.{sym, ap, ◌∙◌}
use Rattle.dc_syntax.specs.Trees.{is_named}
use Rattle.dc_syntax.specs.View.{raw_view}
use Rattle.dc_read_expr.proofs.Named.{named_reading}
use Rattle.dc_read_expr.proofs.read.Grammar.declarator_named.Goals as goal

pub returns-then-is_named : goal.returns-then-is_named
returns-then-is_named g c =
    let f = c.args.self.now in
    named_reading f.budget c.args.names.now.names f.tokens.now c.args.at c.in-Some.read c.below_in.result c.below_in.ensures (cc)
    (ap (λ t. is_named (raw_view t)) (sym c.get.ensures) ∙ (sym c.is_named.ensures ∙ c.if-is_named.true))
