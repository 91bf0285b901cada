use Rattle.std.proofs.Common.{Ok, ap, ◌∙◌, refl}
use Rattle.dc_syntax.specs.Reading as spec
use Rattle.dc_read_expr.proofs.Results.{read_from}
use Rattle.dc_read_expr.proofs.read.Grammar.take_spec.Goals as goal

pub returns : goal.returns
returns g c =
    let f = c.args.self.now in
    record {
      read = c.in-Some.spec;
      is = read_from f.tokens.now _ c.args.run.now.at f.budget c.in-Some.spec (spec.spec (spec.reads f.budget) f.budget c.args.scope.now.names c.args.run.now.has_type) c.spec.result c.spec.ensures refl (c.in_ok-spec.was ∙ ap Ok c.in-Some.is);
      pushed = c.in_ok-push_spec.ensures;
    }
