use Rattle.std.proofs.Common.{drop, arith}
use Rattle.dc_read_expr.proofs.Knot.{read_more, read_none}
use Rattle.dc_read_expr.proofs.reader.+read_at.Goals as goal

pub returns-then-height-eq0 : goal.returns-then-height-eq0
returns-then-height-eq0 t c = read_none c.args.tokens.now c.args.at c.args.height c.args.kind c.args.names.now.names (drop c.args.at c.args.tokens.now) c.if-height-eq0.true

pub returns : goal.returns
returns t c = read_more c.args.tokens.now c.args.at c.args.height c.step.result c.args.kind c.args.names.now.names (drop c.args.at c.args.tokens.now) (omega arith) c.step.ensures
