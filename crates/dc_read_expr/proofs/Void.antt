-- Lists of parameters and specs that are not a word alone.
use Rattle.std.proofs.Common.{◌≡◌, ◌≤◌, false, List, [], ◌∷◌, map, length, refl, arith}
use Rattle.dc_syntax.specs.declared.raw.Raw.{Raw}
use Rattle.dc_syntax.specs.Trees.{Parameters, is_lone_void, is_no_more}
use Rattle.dc_syntax.specs.View.{raw_view, more_tree, specs_tree}

pub two_specs : (xs : List Raw) → 2 ≤ length xs → false ≡ is_lone_void (specs_tree (map raw_view xs))
two_specs [] le = absurd (omega (arith, le))
two_specs (x ∷ []) le = absurd (omega (arith, le))
two_specs (x ∷ y ∷ xs) le = refl

pub some_more : (xs : List Raw) → 1 ≤ length xs → false ≡ is_no_more (more_tree Parameters (map raw_view xs))
some_more [] le = absurd (omega (arith, le))
some_more (x ∷ xs) le = refl
