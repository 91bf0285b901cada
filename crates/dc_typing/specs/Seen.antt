-- What is seen of lists and groups of expressions.
use Rattle.std.specs.Prelude.{List, map}
use Rattle.dc_layout.specs.Types.{PlainTypes, type_view, types}
use Rattle.dc_layout.specs.declared.ctype.CType.{CType}
use Rattle.dc_program.specs.declared.expression.Expr as code
use Rattle.dc_program.specs.Expressions.{Expr, Exprs}
use Rattle.dc_program.specs.View.{expr_view, exprs}

abbrev pub exprs_view : List code.Expr → Exprs
exprs_view all = exprs (map expr_view all)

abbrev pub pair_view : code.Expr × code.Expr → Expr × Expr
pair_view p = (expr_view p.0, expr_view p.1)

abbrev pub triple_view : code.Expr × code.Expr × code.Expr → Expr × Expr × Expr
triple_view p = (expr_view p.0, expr_view p.1, expr_view p.2)
