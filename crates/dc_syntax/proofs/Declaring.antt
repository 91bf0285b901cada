-- The names in force behind the trees of a list.
use Rattle.std.proofs.Common.{◌≡◌, ℕ, suc, zero, ◌≤◌, List, [], ◌∷◌, map, length, drop, refl, sym, ap, ◌∙◌, arith}
use Rattle.dc_syntax.specs.declared.raw.Raw.{Raw}
use Rattle.dc_syntax.specs.View.{raw_view}
use Rattle.dc_syntax.specs.Names.{Names}
use Rattle.dc_syntax.specs.Trees.{Item, Tree, declared}
use Rattle.dc_syntax.specs.View.{more_tree, parameters_tree, members_tree, specs_behind, specs_tree}

abbrev pub declared_in : List Tree → Names → Names
declared_in [] env = env
declared_in (a ∷ rest) env = declared_in rest (declared a env)

pub declared-more_tree : (i : Item) (xs : List Tree) (env : Names) → declared (more_tree i xs) env ≡ declared_in xs env
declared-more_tree i [] env = refl
declared-more_tree i (a ∷ rest) env = declared-more_tree i rest (declared a env)

pub declared-members_tree : (xs : List Tree) (env : Names) → declared (members_tree xs) env ≡ declared_in xs env
declared-members_tree [] env = refl
declared-members_tree (a ∷ rest) env = declared-members_tree rest (declared a env)

pub declared-specs_behind : (s : Tree) (xs : List Tree) (env : Names) → declared (specs_behind s xs) env ≡ declared_in (s ∷ xs) env
declared-specs_behind s [] env = refl
declared-specs_behind s (a ∷ rest) env = declared-specs_behind a rest (declared s env)

pub declared-specs_tree : (xs : List Tree) (env : Names) → declared (specs_tree xs) env ≡ declared_in xs env
declared-specs_tree [] env = refl
declared-specs_tree (s ∷ rest) env = declared-specs_behind s rest env

pub declared-parameters_tree : (xs : List Tree) (env : Names) → declared (parameters_tree xs) env ≡ declared_in xs env
declared-parameters_tree [] env = refl
declared-parameters_tree (a ∷ rest) env = declared-more_tree _ rest (declared a env)

drop-all : (i : ℕ) (xs : List Raw) → length xs ≤ i → drop i xs ≡ []
drop-all zero [] le = refl
drop-all (suc i) [] le = refl
drop-all zero (x ∷ xs) le = absurd (omega (arith, le))
drop-all (suc i) (x ∷ xs) le = drop-all i xs (omega (arith, le))

-- a walk through all trees of a list
pub declared_through : (items : List Raw) (i : ℕ) (now old d : Names) → length items ≤ i → declared_in (map raw_view (drop i items)) now ≡ declared_in (map raw_view items) old → d ≡ declared_in (map raw_view items) old → now ≡ d
declared_through items i now old d le same is = sym (ap (λ l. declared_in (map raw_view l) now) (drop-all i items le)) ∙ (same ∙ sym is)
