-- Specs as a list.
use Rattle.std.proofs.Common.{◌≡◌, List, [], ◌∷◌, refl, ap}
use Rattle.dc_syntax.specs.Trees.{Tree}
use Rattle.dc_syntax.specs.View.{specs_behind, specs_tree}
use Rattle.dc_typing.specs.TypeNames.{spec_list}

spec_list-behind : (s : Tree) (rest : List Tree) → spec_list (specs_behind s rest) ≡ s ∷ rest
spec_list-behind s [] = refl
spec_list-behind s (a ∷ rest) = ap (λ l. s ∷ l) (spec_list-behind a rest)

pub spec_list-specs_tree : (all : List Tree) → spec_list (specs_tree all) ≡ all
spec_list-specs_tree [] = refl
spec_list-specs_tree (s ∷ rest) = spec_list-behind s rest
