-- A member of a struct, by its specs and declarators.
use Rattle.std.proofs.Common.{◌≡◌, ℕ, suc, ◌+◌, ◌<◌, ◌≤◌, max, true, false, List, map, length, drop, sym, ap, ◌∙◌, arith}
use Rattle.dc_syntax.specs.declared.mark.Mark.TheVariants.{Semicolon}
use Rattle.dc_syntax.specs.declared.raw.Raw.TheViews as raw
use Rattle.dc_syntax.specs.Tokens.{Token, Place, Marked}
use Rattle.dc_syntax.specs.Names.{Names}
use Rattle.dc_syntax.specs.Trees.{Tree, MemberDeclaration, Declared, declared, height}
use Rattle.dc_syntax.specs.Phrases.{leaves}
use Rattle.dc_syntax.specs.Reading.{Nothing, Found, Reads, next, checked, between, begins, found, declarator_named, more}
use Rattle.dc_syntax.specs.View.{raw_view, specs_tree, more_tree}
use Rattle.dc_syntax.proofs.Views.{raw_view-MemberDeclaration}
use Rattle.dc_read_expr.specs.declared.read.Read.{Read}
use Rattle.dc_read_expr.specs.declared.lists.ReadItems.{ReadItems}
use Rattle.dc_read_expr.specs.declared.types.ReadSpecs.{ReadSpecs}
use Rattle.dc_read_expr.specs.View.{IsReading, IsListing}
use Rattle.dc_read_expr.specs.Bodies.{ended, behind_specs, behind_declarator}
use Rattle.dc_read_expr.proofs.Eating.{eaten, uneaten, within_begins}

module _ (r : Reads) (env env' : Names) (all : List Token) (s : Tree) (rest : List Token) (scope : env' ≡ declared s env) where
  by_names : behind_specs r env all s rest ≡ checked (leaves env' s rest) (next (declarator_named r env' rest) (λ d rest. behind_declarator r env' all s d rest))
  by_names = ap (λ e. checked (leaves e s rest) (next (declarator_named r e rest) (λ d rest. behind_declarator r e all s d rest))) (sym scope)

  pub member_not_longest : leaves env' s rest ≡ false → behind_specs r env all s rest ≡ Nothing
  member_not_longest n = by_names ∙ ap (λ b. checked b (next (declarator_named r env' rest) (λ d rest. behind_declarator r env' all s d rest))) n

  by_longest : leaves env' s rest ≡ true → behind_specs r env all s rest ≡ next (declarator_named r env' rest) (λ d rest. behind_declarator r env' all s d rest)
  by_longest y = by_names ∙ ap (λ b. checked b (next (declarator_named r env' rest) (λ d rest. behind_declarator r env' all s d rest))) y

  pub member_no_first : leaves env' s rest ≡ true → declarator_named r env' rest ≡ Nothing → behind_specs r env all s rest ≡ Nothing
  member_no_first y none = by_longest y ∙ ap (λ o. next o (λ d rest. behind_declarator r env' all s d rest)) none

  pub member_first : (d : Tree) (rest' : List Token) → leaves env' s rest ≡ true → declarator_named r env' rest ≡ Found d rest' → behind_specs r env all s rest ≡ behind_declarator r env' all s d rest'
  member_first d rest' y first = by_longest y ∙ ap (λ o. next o (λ d rest. behind_declarator r env' all s d rest)) first

pub member_no_more : (r : Reads) (env : Names) (all : List Token) (s d : Tree) (rest : List Token) → more (declarator_named r) Declared env (length rest) rest ≡ Nothing → behind_declarator r env all s d rest ≡ Nothing
member_no_more r env all s d rest none = ap (λ o. next o (λ m rest. ended all s d m rest)) none

pub member_no_end : (r : Reads) (env : Names) (all : List Token) (s d : Tree) (tokens : List Token) (from at limit : ℕ) (list : ReadItems)
    → IsListing tokens at limit (more_tree Declared) list (more (declarator_named r) Declared env (length (drop from tokens)) (drop from tokens)) → begins (Marked Semicolon) (drop list.at tokens) ≡ false
    → behind_declarator r env all s d (drop from tokens) ≡ Nothing
member_no_end r env all s d tokens from at limit list l n =
    ap (λ o. next o (λ m rest. ended all s d m rest)) l.found ∙ uneaten (Marked Semicolon) (drop list.at tokens) (λ rest. found all (MemberDeclaration s d (more_tree Declared (map raw_view list.items))) rest) n

pub member_reading : (r : Reads) (env : Names) (tokens : List Token) (from limit : ℕ) (run : ReadSpecs) (first : Read) (list : ReadItems) (p : Place) (end : ℕ) (read : Read) → from < first.at
    → run.height ≡ height (specs_tree (map raw_view run.specs)) → run.height ≤ limit → first.height ≡ height (raw_view first.tree) → first.height ≤ limit
    → IsListing tokens first.at limit (more_tree Declared) list (more (declarator_named r) Declared env (length (drop first.at tokens)) (drop first.at tokens)) → begins (Marked Semicolon) (drop list.at tokens) ≡ true
    → end ≡ list.at + 1 → read.tree ≡ raw.MemberDeclaration run.specs first.tree list.items p → p ≡ between (drop from tokens) (drop end tokens) → read.height ≡ max run.height (max first.height list.height) + 1 → read.at ≡ end
    → IsReading tokens from (limit + 1) read (behind_declarator r env (drop from tokens) (specs_tree (map raw_view run.specs)) (raw_view first.tree) (drop first.at tokens))
member_reading r env tokens from limit run first list p end read lt specs_high specs_low first_high first_low l semi behind tree place high at =
    let s = specs_tree (map raw_view run.specs) in
    let m = more_tree Declared (map raw_view list.items) in
    let viewed : raw_view read.tree ≡ MemberDeclaration (specs_tree (map raw_view run.specs)) (raw_view first.tree) (more_tree Declared (map raw_view list.items)) p =
    ap raw_view tree ∙ raw_view-MemberDeclaration run.specs first.tree list.items p in
    let tall : max run.height (max first.height list.height) + 1 ≡ suc (max run.height (max first.height list.height)) = omega arith in
    let less = within_begins (Marked Semicolon) tokens list.at semi in
    record {
      found = ap (λ o. next o (λ m rest. ended (drop from tokens) s (raw_view first.tree) m rest)) l.found
          ∙ (eaten (Marked Semicolon) tokens list.at (λ rest. found (drop from tokens) (MemberDeclaration s (raw_view first.tree) m) rest) semi
          ∙ (ap (λ k. found (drop from tokens) (MemberDeclaration s (raw_view first.tree) m) (drop k tokens)) (sym behind)
          ∙ (ap (λ p. Found (MemberDeclaration s (raw_view first.tree) m p) (drop end tokens)) (sym place) ∙ (ap (λ t. Found t (drop end tokens)) (sym viewed) ∙ ap (λ k. Found (raw_view read.tree) (drop k tokens)) (sym at)))));
      high = high ∙ (tall ∙ (ap (λ n. suc (max n (max first.height list.height))) specs_high ∙ (ap (λ n. suc (max (height s) (max n list.height))) first_high
          ∙ (ap (λ n. suc (max (height s) (max (height (raw_view first.tree)) n))) l.high ∙ sym (ap height viewed)))));
      short = omega (arith, high, specs_low, first_low, l.short);
      after = omega (arith, at, behind, lt, l.after);
      within = omega (arith, at, behind, less);
    }
