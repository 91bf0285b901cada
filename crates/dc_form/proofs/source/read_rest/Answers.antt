use Rattle.std.proofs.Common.{◌≡◌, ◌∙◌, sym, subst, IfOk, IsErrOf, None}
use Rattle.std.proofs.lemmas.List.{length-map}
use Rattle.dc_form.specs.Read.HeadView.{head_view}
use Rattle.dc_form.specs.Read.Reading.{got}
use Rattle.dc_form.specs.Read.Source as source
use Rattle.dc_form.specs.Read.Whole.{parts_view}
use Rattle.dc_form.specs.declared.reader.Form.TheVariants.{NoForm}
use Rattle.dc_form.proofs.source.read_rest.Goals as goal

pub returns-clause-found : goal.returns-clause-found
returns-clause-found c =
    subst (λ n. IfOk c.read_function.result (λ p. source.read_function (head_view c.args.head) n c.args.names.now c.args.tokens.now ≡ got (parts_view p) c.read_function.new.tokens)) (c.len-statics.ensures ∙ sym (length-map c.args.head.statics (λ v. v.name))) c.read_function.ensures.found

pub returns-clause-none : goal.returns-clause-none
returns-clause-none c =
    subst (λ n. IsErrOf c.read_function.result NoForm → source.read_function (head_view c.args.head) n c.args.names.now c.args.tokens.now ≡ None) (c.len-statics.ensures ∙ sym (length-map c.args.head.statics (λ v. v.name))) c.read_function.ensures.none
