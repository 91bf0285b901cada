-- Lists of plain trees.
use Rattle.std.proofs.Common.{◌≡◌, Bool, List, [], ◌∷◌, refl, ap}
use Rattle.std.specs.Prelude.{◌&&◌}
use Rattle.std.specs.List.{list_all}
use Rattle.dc_syntax.specs.Trees.{Item, Tree}
use Rattle.dc_syntax.specs.View.{more_tree, arguments_tree, parameters_tree}
use Rattle.dc_typing.specs.Plain.{is_plain}

plain-more : (i : Item) (all : List Tree) → list_all is_plain all ≡ is_plain (more_tree i all)
plain-more i [] = refl
plain-more i (a ∷ all) = ap (λ b. is_plain a && b) (plain-more i all)

pub plain-arguments : (all : List Tree) → list_all is_plain all ≡ is_plain (arguments_tree all)
plain-arguments [] = refl
plain-arguments (a ∷ all) = ap (λ b. is_plain a && b) (plain-more _ all)

pub plain-parameters : (all : List Tree) → list_all is_plain all ≡ is_plain (parameters_tree all)
plain-parameters [] = refl
plain-parameters (a ∷ all) = ap (λ b. is_plain a && b) (plain-more _ all)
