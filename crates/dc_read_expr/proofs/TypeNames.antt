-- A type-name, by its specs and its declarator.
use Rattle.std.proofs.Common.{◌≡◌, ℕ, max, Bool, true, false, not, List, map, drop, sym, ap, ◌∙◌, arith}
use Rattle.dc_syntax.specs.declared.raw.Raw.{Raw}
use Rattle.dc_syntax.specs.declared.raw.Raw.TheViews as raw
use Rattle.dc_syntax.specs.declared.raw.Raw.TheViews.{rolls-TypeName}
use Rattle.dc_syntax.specs.declared.raw.Raw.TheFolds.{fold-roll-Raw}
use Rattle.dc_syntax.specs.declared.raw.Raw.TheOpen.{Raw-F}
use Rattle.dc_syntax.specs.Tokens.{Token, Place}
use Rattle.dc_syntax.specs.Names.{Names}
use Rattle.dc_syntax.specs.Trees.{Tree, TypeName, is_named, height}
use Rattle.dc_syntax.specs.Reading.{Out, Nothing, Found, Reads, next, checked, between, found, declarator_or_none, bare, type_name}
use Rattle.dc_syntax.specs.View.{raw_step, raw_view, specs_tree}
use Rattle.dc_read_expr.specs.declared.read.Read.{Read}
use Rattle.dc_read_expr.specs.declared.types.ReadSpecs.{ReadSpecs}
use Rattle.dc_read_expr.specs.View.{IsReading, IsLooseReading, IsSpecifying}
use Rattle.dc_read_expr.proofs.Bare.{bare_next}

abbrev named_or_not : List Token → Tree → Tree → List Token → Out Tree
named_or_not all s d rest = checked (not (is_named d)) (found all (TypeName s d) rest)

abbrev behind_specs : Reads → Names → List Token → Tree → List Token → Out Tree
behind_specs r env all s rest = next (declarator_or_none r env rest) (λ d rest. named_or_not all s d rest)

pub type_no_specs : (r : Reads) (h : ℕ) (env : Names) (ts : List Token) → bare r h env ts Found ≡ Nothing → type_name r h env ts ≡ Nothing
type_no_specs r h env ts e = bare_next r h env ts (behind_specs r env ts) ∙ ap (λ o. next o (behind_specs r env ts)) e

type_by : (r : Reads) (h : ℕ) (env : Names) (ts : List Token) (s : Tree) (rest : List Token) → bare r h env ts Found ≡ Found s rest → type_name r h env ts ≡ behind_specs r env ts s rest
type_by r h env ts s rest e = bare_next r h env ts (behind_specs r env ts) ∙ ap (λ o. next o (behind_specs r env ts)) e

pub type_no_declarator : (r : Reads) (h : ℕ) (env : Names) (ts : List Token) (s : Tree) (rest : List Token) → bare r h env ts Found ≡ Found s rest → declarator_or_none r env rest ≡ Nothing → type_name r h env ts ≡ Nothing
type_no_declarator r h env ts s rest e none = type_by r h env ts s rest e ∙ ap (λ o. next o (λ d rest. named_or_not ts s d rest)) none

type_is : (r : Reads) (h : ℕ) (env : Names) (ts : List Token) (s d : Tree) (rest rest' : List Token) (b : Bool) → bare r h env ts Found ≡ Found s rest → declarator_or_none r env rest ≡ Found d rest' → is_named d ≡ b
    → type_name r h env ts ≡ checked (not b) (found ts (TypeName s d) rest')
type_is r h env ts s d rest rest' b e f n =
    type_by r h env ts s rest e ∙ (ap (λ o. next o (λ d rest. named_or_not ts s d rest)) f ∙ ap (λ b. checked (not b) (found ts (TypeName s d) rest')) n)

pub type_named : (r : Reads) (h : ℕ) (env : Names) (ts : List Token) (s d : Tree) (rest rest' : List Token) → bare r h env ts Found ≡ Found s rest → declarator_or_none r env rest ≡ Found d rest' → is_named d ≡ true → type_name r h env ts ≡ Nothing
type_named r h env ts s d rest rest' e f n = type_is r h env ts s d rest rest' true e f n

raw_view-TypeName : (s : List Raw) (d : Raw) (p : Place) → raw_view (raw.TypeName s d p) ≡ TypeName (specs_tree (map raw_view s)) (raw_view d) p
raw_view-TypeName s d p = ap raw_view (sym (rolls-TypeName s d p)) ∙ fold-roll-Raw Tree raw_step (Raw-F.TypeName s d p)

pub type_reading : (r : Reads) (env : Names) (tokens : List Token) (from limit : ℕ) (specs : ReadSpecs) (d read : Read) (p : Place) → IsSpecifying tokens from limit specs (bare r limit env (drop from tokens) Found)
    → IsLooseReading tokens specs.at limit d (declarator_or_none r env (drop specs.at tokens)) → is_named (raw_view d.tree) ≡ false
    → read.tree ≡ raw.TypeName specs.specs d.tree p → p ≡ between (drop from tokens) (drop d.at tokens) → read.height ≡ max specs.height d.height → read.at ≡ d.at
    → IsReading tokens from limit read (type_name r limit env (drop from tokens))
type_reading r env tokens from limit specs d read p q l n tree place high at =
    let s = specs_tree (map raw_view specs.specs) in
    let viewed : raw_view read.tree ≡ TypeName (specs_tree (map raw_view specs.specs)) (raw_view d.tree) p = ap raw_view tree ∙ raw_view-TypeName specs.specs d.tree p in
    record {
      found = type_is r limit env (drop from tokens) s (raw_view d.tree) (drop specs.at tokens) (drop d.at tokens) false q.found l.found n
          ∙ (ap (λ p. Found (TypeName s (raw_view d.tree) p) (drop d.at tokens)) (sym place) ∙ (ap (λ t. Found t (drop d.at tokens)) (sym viewed) ∙ ap (λ k. Found (raw_view read.tree) (drop k tokens)) (sym at)));
      high = high ∙ (ap (λ n. max n d.height) q.high ∙ (ap (max (height s)) l.high ∙ sym (ap height viewed)));
      short = omega (arith, high, q.short, l.short);
      after = omega (arith, at, q.after, l.after);
      within = omega (arith, at, l.within);
    }
