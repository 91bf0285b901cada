use Rattle.dc_form.proofs.Wholly.{made_is, made_says}
use Rattle.dc_form.proofs.source.parts_of.Goals as goal

pub returns-clause-found : goal.returns-clause-found
returns-clause-found c =
    made_is c.args.head.statics c.args.head.name c.args.head.gives_int c.args.params c.result_type.result c.in_ok-params.params c.args.contract c.args.body c.in_ok-body.body c.result_type.ensures c.in_ok-params.ensures c.in_ok-body.ensures

pub returns-clause-whole : goal.returns-clause-whole
returns-clause-whole c = λ ints clauses body.
    made_says c.args.head.statics c.args.head.name c.args.head.gives_int c.args.params c.result_type.result c.in_ok-params.params c.args.contract c.args.body c.in_ok-body.body c.result_type.ensures c.in_ok-params.ensures c.in_ok-body.ensures ints clauses body
