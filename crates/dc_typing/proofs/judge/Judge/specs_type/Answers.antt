use Rattle.std.proofs.Common.{map, sym, subst}
use Rattle.dc_layout.specs.Types.{type_view}
use Rattle.dc_syntax.specs.View.{raw_view}
use Rattle.dc_typing.specs.Answers.{Answers}
use Rattle.dc_typing.specs.TypeNames.{base_type}
use Rattle.dc_typing.specs.View.{known}
use Rattle.dc_typing.proofs.SpecLists.{spec_list-specs_tree}
use Rattle.dc_typing.proofs.judge.Judge.specs_type.Goals as goal

pub returns : goal.returns
returns c =
    subst (λ l. Answers type_view (base_type (known c.args.self.now) l) c.base_type.result) (sym (spec_list-specs_tree (map raw_view c.args.specs.now))) c.base_type.ensures
