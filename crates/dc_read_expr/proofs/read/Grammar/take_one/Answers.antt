use Rattle.std.proofs.Common.{Ok, ap, ◌∙◌}
use Rattle.dc_syntax.specs.Reading as spec
use Rattle.dc_read_expr.specs.View.{item_view, one_of}
use Rattle.dc_read_expr.proofs.Results.{read_from}
use Rattle.dc_read_expr.proofs.read.Grammar.take_one.Goals as goal

pub returns : goal.returns
returns g c =
    let f = c.args.self.now in
    record {
      read = c.in-Some.member;
      is = read_from f.tokens.now _ c.behind.result f.budget c.in-Some.member (one_of (spec.reads f.budget) f.budget (item_view c.args.item) c.args.scope.now.names) c.one.result c.one.ensures c.behind.ensures
          (c.in_ok-member.was ∙ ap Ok c.in-Some.is);
      pushed = c.in_ok-push_read.ensures;
    }
