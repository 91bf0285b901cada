-- A parameter with those behind it, as one list.
use Rattle.std.specs.Prelude.{◌≡◌, ◌≤◌, max, List, map}
use Rattle.dc_syntax.specs.Tokens.{Token}
use Rattle.dc_syntax.specs.Trees.{Parameters, height}
use Rattle.dc_syntax.specs.Reading.{Found, parameter_list}
use Rattle.dc_syntax.specs.View.{raw_view, more_tree, parameters_tree}
use Rattle.dc_read_expr.specs.declared.read.Read.{Read}
use Rattle.dc_read_expr.specs.declared.lists.ReadItems.{ReadItems}

pub record IsParameterList (first : Read) (more r : ReadItems) : Type 0 where
  pub found : (rest : List Token) → parameter_list (raw_view first.tree) (more_tree Parameters (map raw_view more.items)) rest ≡ Found (parameters_tree (map raw_view r.items)) rest
  pub high : r.height ≡ height (parameters_tree (map raw_view r.items))
  pub short : r.height ≤ max first.height more.height
  pub at : r.at ≡ more.at
