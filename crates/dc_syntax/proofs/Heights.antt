-- The heights of the trees of a list, and of what is above others.
use Rattle.std.proofs.Common.{◌≡◌, ℕ, suc, ◌+◌, ◌<◌, ◌≤◌, min, max, List, [], ◌∷◌, map, length, drop, get_or, refl, ap, arith}
use Rattle.std.proofs.lemmas.List.{at_drop_more, at_drop_all}
use Rattle.dc_syntax.specs.declared.raw.Raw.{Raw}
use Rattle.dc_syntax.specs.declared.raw.Raw.TheViews as raw
use Rattle.dc_syntax.specs.declared.raw.Raw.TheFolds.{map-Raw, fold_out-Raw}
use Rattle.dc_syntax.specs.declared.unit.Part as code
use Rattle.dc_syntax.specs.declared.unit.Part.TheViews as part
use Rattle.dc_syntax.specs.declared.unit.Part.TheFolds.{map-Part, fold_out-Part}
use Rattle.dc_syntax.specs.Heights.{capped, greatest}
use Rattle.dc_syntax.specs.Trees.{Item, Tree, height}
use Rattle.dc_syntax.specs.View.{more_tree, arguments_tree, parameters_tree, members_tree, specs_behind, specs_tree, raw_step, raw_view}
use Rattle.dc_syntax.specs.Parts.{Part, height_of}
use Rattle.dc_syntax.specs.UnitView.{inits_part, more_declared_part, declared_part, more_groups_part, groups_part, clauses_part, items_part, externals_part, part_step, part_view}

max-min : (a b m : ℕ) → max (min a m) (min b m) ≡ min (max a b) m
max-min a b m = omega arith

min-suc-min : (a m : ℕ) → min (suc (min a m)) m ≡ min (suc a) m
min-suc-min a m = omega arith

pub capped-0 : capped 0 ≡ 0
unfolding capped
capped-0 = refl

pub capped-1 : capped 1 ≡ 1
unfolding capped
capped-1 = refl

pub capped-2 : capped 2 ≡ 2
unfolding capped
capped-2 = refl

pub max-capped : (a b : ℕ) → max (capped a) (capped b) ≡ capped (max a b)
unfolding capped
max-capped a b = max-min a b _

pub capped-suc-capped : (a : ℕ) → capped (suc (capped a)) ≡ capped (suc a)
unfolding capped
capped-suc-capped a = min-suc-min a _

pub height-more_tree : (i : Item) (xs : List Tree) → height (more_tree i xs) ≡ greatest height xs
height-more_tree i [] = refl
height-more_tree i (a ∷ rest) = ap (max (height a)) (height-more_tree i rest)

pub height-arguments_tree : (xs : List Tree) → height (arguments_tree xs) ≡ greatest height xs
height-arguments_tree [] = refl
height-arguments_tree (a ∷ rest) = ap (max (height a)) (height-more_tree _ rest)

pub height-parameters_tree : (xs : List Tree) → height (parameters_tree xs) ≡ greatest height xs
height-parameters_tree [] = refl
height-parameters_tree (a ∷ rest) = ap (max (height a)) (height-more_tree _ rest)

pub height-members_tree : (xs : List Tree) → height (members_tree xs) ≡ greatest height xs
height-members_tree [] = refl
height-members_tree (a ∷ rest) = ap (max (height a)) (height-members_tree rest)

height-specs_behind : (s : Tree) (xs : List Tree) → height (specs_behind s xs) ≡ greatest height (s ∷ xs)
height-specs_behind s [] = omega arith
height-specs_behind s (a ∷ rest) = ap (max (height s)) (height-specs_behind a rest)

pub height-specs_tree : (xs : List Tree) → height (specs_tree xs) ≡ greatest height xs
height-specs_tree [] = refl
height-specs_tree (s ∷ rest) = height-specs_behind s rest

pub height_of-inits_part : (xs : List Part) → height_of (inits_part xs) ≡ greatest height_of xs
height_of-inits_part [] = refl
height_of-inits_part (a ∷ rest) = ap (max (height_of a)) (height_of-inits_part rest)

pub height_of-more_declared_part : (xs : List Part) → height_of (more_declared_part xs) ≡ greatest height_of xs
height_of-more_declared_part [] = refl
height_of-more_declared_part (a ∷ rest) = ap (max (height_of a)) (height_of-more_declared_part rest)

pub height_of-declared_part : (xs : List Part) → height_of (declared_part xs) ≡ greatest height_of xs
height_of-declared_part [] = refl
height_of-declared_part (a ∷ rest) = ap (max (height_of a)) (height_of-more_declared_part rest)

height_of-more_groups_part : (xs : List Part) → height_of (more_groups_part xs) ≡ greatest height_of xs
height_of-more_groups_part [] = refl
height_of-more_groups_part (a ∷ rest) = ap (max (height_of a)) (height_of-more_groups_part rest)

pub height_of-groups_part : (xs : List Part) → height_of (groups_part xs) ≡ greatest height_of xs
height_of-groups_part [] = refl
height_of-groups_part (a ∷ rest) = ap (max (height_of a)) (height_of-more_groups_part rest)

pub height_of-clauses_part : (xs : List Part) → height_of (clauses_part xs) ≡ greatest height_of xs
height_of-clauses_part [] = refl
height_of-clauses_part (a ∷ rest) = ap (max (height_of a)) (height_of-clauses_part rest)

pub height_of-items_part : (xs : List Part) → height_of (items_part xs) ≡ greatest height_of xs
height_of-items_part [] = refl
height_of-items_part (a ∷ rest) = ap (max (height_of a)) (height_of-items_part rest)

pub height_of-externals_part : (xs : List Part) → height_of (externals_part xs) ≡ greatest height_of xs
height_of-externals_part [] = refl
height_of-externals_part (a ∷ rest) = ap (max (height_of a)) (height_of-externals_part rest)

pub raw_view-out : (r : Raw) → raw_view r ≡ raw_step (map-Raw Raw Tree raw_view (raw.out-Raw r))
raw_view-out = fold_out-Raw Tree raw_step

pub part_view-out : (p : code.Part) → part_view p ≡ part_step (map-Part code.Part Part part_view (part.out-Part p))
part_view-out = fold_out-Part Part part_step

-- by these the height of a tree follows from its parts'
pub ruleset heights = (raw.the_lemmas, raw_view-out, capped-0, capped-1, capped-2, max-capped, capped-suc-capped, height-more_tree, height-arguments_tree, height-parameters_tree, height-members_tree, height-specs_tree)

-- and the height of a part of a unit
pub ruleset part_heights = (part.the_lemmas, part_view-out, capped-0, capped-1, max-capped, capped-suc-capped, height-more_tree, height-specs_tree, height_of-inits_part, height_of-more_declared_part, height_of-declared_part, height_of-groups_part, height_of-clauses_part, height_of-items_part)

-- one tree more, in a walk that keeps the greatest height so far
pub greatest_more : {A B : Type 0} (view : A → B) (h : B → ℕ) (items : List A) (i : ℕ) (d : A) (now new all : ℕ) → i < length items → new ≡ max now (capped (h (view (get_or items i d))))
    → max now (capped (greatest h (map view (drop i items)))) ≡ all → max new (capped (greatest h (map view (drop (i + 1) items)))) ≡ all
greatest_more view h items i d now new all lt is same =
    let first = at_drop_more (λ l. capped (greatest h (map view l))) items i d lt in
    let both = max-capped (h (view (get_or items i d))) (greatest h (map view (drop (i + 1) items))) in
    omega (arith, is, same, first, both)

-- a walk through all trees of a list
pub greatest_through : {A B : Type 0} (view : A → B) (h : B → ℕ) (items : List A) (i : ℕ) (now all : ℕ) → length items ≤ i → max now (capped (greatest h (map view (drop i items)))) ≡ all → now ≡ all
greatest_through view h items i now all le same =
    let none = at_drop_all (λ l. capped (greatest h (map view l))) items i le in
    omega (arith, same, none, capped-0)
