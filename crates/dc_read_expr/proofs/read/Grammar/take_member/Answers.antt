use Rattle.std.proofs.Common.{Ok, ap, ◌∙◌, refl}
use Rattle.dc_syntax.specs.Reading as spec
use Rattle.dc_read_expr.proofs.Results.{read_from}
use Rattle.dc_read_expr.proofs.read.Grammar.take_member.Goals as goal

pub returns : goal.returns
returns g c =
    let f = c.args.self.now in
    record {
      read = c.in-Some.member;
      is = read_from f.tokens.now _ c.args.list.now.at f.budget c.in-Some.member (spec.reads f.budget spec.MemberOf c.args.scope.now.names) c.below_in.result c.below_in.ensures refl (c.in_ok-member.was ∙ ap Ok c.in-Some.is);
      pushed = c.in_ok-push_read.ensures;
    }
