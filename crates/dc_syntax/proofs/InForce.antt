-- What comes into force behind the parts of a unit.
use Rattle.std.proofs.Common.{◌≡◌, ℕ, ◌+◌, ◌<◌, ◌≤◌, Bool, true, false, ◌||◌, List, [], ◌∷◌, map, length, drop, get_or, refl, sym, ap, ◌∙◌}
use Rattle.std.specs.List.{list_any}
use Rattle.std.proofs.lemmas.List.{at_drop_more, at_drop_all}
use Rattle.std.proofs.lemmas.List.Folds.{list_any_at}
use Rattle.dc_syntax.specs.declared.raw.Raw.{Raw}
use Rattle.dc_syntax.specs.declared.unit.Part as code
use Rattle.dc_syntax.specs.Names.{Entry, Names}
use Rattle.dc_syntax.specs.Scopes.{declaring_all}
use Rattle.dc_syntax.specs.Trees.{Tree, Nameless, LastSpec, Specs}
use Rattle.dc_syntax.specs.Parts.{Part, declaring}
use Rattle.dc_syntax.specs.View.{raw_view, specs_behind, specs_tree}
use Rattle.dc_syntax.specs.UnitView.{part_view, more_declared_part, declared_part}

-- one declaration more, of those that a list has
pub declaring_all-more : {A : Type 0} (f : A → Entry) (items : List A) (i : ℕ) (d : A) (now new all : Names) → i < length items → new ≡ f (get_or items i d) ∷ now
    → declaring_all (map f (drop i items)) now ≡ all → declaring_all (map f (drop (i + 1) items)) new ≡ all
declaring_all-more f items i d now new all lt is same =
    ap (declaring_all (map f (drop (i + 1) items))) is ∙ (sym (at_drop_more (λ l. declaring_all (map f l) now) items i d lt) ∙ same)

or_false : (b : Bool) → b ≡ (b || false)
or_false true = refl
or_false false = refl

-- a test that specs pass where one of them does
module _ (one all : Tree → Bool) (none : all Nameless ≡ false) (last : (s : Tree) → all (LastSpec s) ≡ one s) (more : (s m : Tree) → all (Specs s m) ≡ (one s || all m)) where
  abbrev passes : Raw → Bool
  passes s = one (raw_view s)

  all-specs_behind : (s : Raw) (xs : List Raw) → all (specs_behind (raw_view s) (map raw_view xs)) ≡ list_any passes (s ∷ xs)
  all-specs_behind s [] = last (raw_view s) ∙ or_false (one (raw_view s))
  all-specs_behind s (a ∷ rest) = more (raw_view s) (specs_behind (raw_view a) (map raw_view rest)) ∙ ap (λ b. one (raw_view s) || b) (all-specs_behind a rest)

  all-specs_tree : (xs : List Raw) → all (specs_tree (map raw_view xs)) ≡ list_any passes xs
  all-specs_tree [] = none
  all-specs_tree (s ∷ rest) = all-specs_behind s rest

  -- a walk through specs that ends at one
  pub one_passes : (xs : List Raw) (i : ℕ) (x : Raw) (b : Bool) → i < length xs → x ≡ get_or xs i x → b ≡ one (raw_view x) → b ≡ true → true ≡ all (specs_tree (map raw_view xs))
  one_passes xs i x b lt is test holds = sym (all-specs_tree xs ∙ list_any_at passes xs i x lt (ap passes (sym is) ∙ (sym test ∙ holds)))

  -- a walk through all of them
  pub none_passes : (xs : List Raw) (i : ℕ) → length xs ≤ i → list_any passes (drop i xs) ≡ list_any passes xs → false ≡ all (specs_tree (map raw_view xs))
  none_passes xs i le same = sym (all-specs_tree xs ∙ (sym same ∙ at_drop_all (list_any passes) xs i le))

abbrev pub declaring_in : Bool → List Part → Names → Names
declaring_in t [] env = env
declaring_in t (a ∷ rest) env = declaring_in t rest (declaring t a env)

declaring-more_declared_part : (t : Bool) (xs : List Part) (env : Names) → declaring t (more_declared_part xs) env ≡ declaring_in t xs env
declaring-more_declared_part t [] env = refl
declaring-more_declared_part t (a ∷ rest) env = declaring-more_declared_part t rest (declaring t a env)

declaring-declared_part : (t : Bool) (xs : List Part) (env : Names) → declaring t (declared_part xs) env ≡ declaring t (more_declared_part xs) env
declaring-declared_part t [] env = refl
declaring-declared_part t (a ∷ rest) env = refl

-- a walk through all init-decls
pub declaring_through : (t : Bool) (items : List code.Part) (i : ℕ) (now old : Names) → length items ≤ i → declaring_in t (map part_view (drop i items)) now ≡ declaring_in t (map part_view items) old
    → now ≡ declaring t (declared_part (map part_view items)) old
declaring_through t items i now old le same =
    let all = map part_view items in
    sym (at_drop_all (λ l. declaring_in t (map part_view l) now) items i le) ∙ (same ∙ sym (declaring-declared_part t all old ∙ declaring-more_declared_part t all old))
