use Rattle.std.proofs.Common.{refl, arith}
use Rattle.dc_read_expr.specs.declared.read.Kind.TheVariants as kind
use Rattle.dc_read_expr.proofs.Longest.{reading_is, reading_longest, reading_none_is, none_behind}
use Rattle.dc_read_expr.proofs.expression.read_expr.Goals as goal

pub returns-then-at-tokens-clause-none : goal.returns-then-at-tokens-clause-none
returns-then-at-tokens-clause-none c = λ e. none_behind c.args.names.now.names c.args.tokens.now c.args.at (omega arith)

pub returns-in-None-clause-none : goal.returns-in-None-clause-none
returns-in-None-clause-none c = λ e. reading_none_is 128 refl c.args.names.now.names c.args.tokens.now c.args.at (kind.Upto 16) refl c.read_at.result c.read_at.ensures (cc)

pub returns-in-Some-clause-read : goal.returns-in-Some-clause-read
returns-in-Some-clause-read c = reading_is 128 refl c.args.names.now.names c.args.tokens.now c.args.at (kind.Upto 16) refl c.read_at.result c.read_at.ensures c.in-Some.read c.into_inner.result (cc) c.into_inner.ensures

pub returns-in-Some-clause-longest : goal.returns-in-Some-clause-longest
returns-in-Some-clause-longest c = reading_longest 128 refl c.args.names.now.names c.args.tokens.now c.args.at (kind.Upto 16) refl c.read_at.result c.read_at.ensures c.in-Some.read (cc)
