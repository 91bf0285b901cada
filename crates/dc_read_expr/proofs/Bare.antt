-- Specs without braces, before what stands behind them.
use Rattle.std.proofs.Common.{◌≡◌, ℕ, max, Bool, true, false, not, ◌||◌, List, map, drop, refl, sym, ap, ◌∙◌, arith}
use Rattle.dc_syntax.specs.declared.raw.Raw.TheViews as raw
use Rattle.dc_syntax.specs.Tokens.{Token, Place}
use Rattle.dc_syntax.specs.Names.{Names}
use Rattle.dc_syntax.specs.Trees.{Tree, Parameter, has_body}
use Rattle.dc_syntax.specs.Phrases.{leaves, begins_typedef}
use Rattle.dc_syntax.specs.Reading.{Out, Nothing, Found, Reads, next, checked, between, found, declarator_or_none, specs, bare, parameter}
use Rattle.dc_syntax.specs.View.{raw_view, specs_tree}
use Rattle.dc_read_expr.specs.declared.types.ReadSpecs.{ReadSpecs}
use Rattle.dc_read_expr.specs.declared.read.Read.{Read}
use Rattle.dc_read_expr.specs.View.{IsReading, IsLooseReading, IsSpecifying}
use Rattle.dc_read_expr.proofs.Placed.{placed_reading}
use Rattle.dc_read_expr.proofs.Shapes.{raw_view-Parameter}

pub bare_next : (r : Reads) (h : ℕ) (env : Names) (ts : List Token) (go : Tree → List Token → Out Tree) → bare r h env ts go ≡ next (bare r h env ts Found) go
bare_next r h env ts go = by_specs (specs r h env ts)
  where
    by_tests : (a b : Bool) (s : Tree) (rest : List Token) → checked a (checked b (go s rest)) ≡ next (checked a (checked b (Found s rest))) go
    by_tests true true s rest = refl
    by_tests true false s rest = refl
    by_tests false b s rest = refl

    by_specs : (o : Out Tree) → next o (λ s rest. checked (not (has_body s)) (checked (leaves env s rest) (go s rest)))
        ≡ next (next o (λ s rest. checked (not (has_body s)) (checked (leaves env s rest) (Found s rest)))) go
    by_specs Nothing = refl
    by_specs (Found s rest) = by_tests (not (has_body s)) (leaves env s rest) s rest

abbrev behind_specs : Reads → Names → List Token → Tree → List Token → Out Tree
behind_specs r env ts s rest = next (declarator_or_none r env rest) (λ d rest. found ts (Parameter s d) rest)

pub parameter_no_declarator : (r : Reads) (h : ℕ) (env : Names) (ts : List Token) (s : Tree) (rest : List Token) → bare r h env ts Found ≡ Found s rest → declarator_or_none r env rest ≡ Nothing → parameter r h env ts ≡ Nothing
parameter_no_declarator r h env ts s rest e f =
    bare_next r h env ts (behind_specs r env ts) ∙ (ap (λ o. next o (behind_specs r env ts)) e ∙ ap (λ o. next o (λ d rest. found ts (Parameter s d) rest)) f)

parameter_found : (r : Reads) (h : ℕ) (env : Names) (ts : List Token) (s d : Tree) (rest rest' : List Token) → bare r h env ts Found ≡ Found s rest → declarator_or_none r env rest ≡ Found d rest'
    → parameter r h env ts ≡ Found (Parameter s d (between ts rest')) rest'
parameter_found r h env ts s d rest rest' e f =
    bare_next r h env ts (behind_specs r env ts) ∙ (ap (λ o. next o (behind_specs r env ts)) e ∙ ap (λ o. next o (λ d rest. found ts (Parameter s d) rest)) f)

pub parameter_reading : (r : Reads) (h : ℕ) (env : Names) (tokens : List Token) (from : ℕ) (s : ReadSpecs) (d : Read) (p : Place) (read : Read) → IsSpecifying tokens from h s (bare r h env (drop from tokens) Found)
    → IsLooseReading tokens s.at h d (declarator_or_none r env (drop s.at tokens)) → read.tree ≡ raw.Parameter s.specs d.tree p → p ≡ between (drop from tokens) (drop d.at tokens) → read.height ≡ max s.height d.height → read.at ≡ d.at
    → IsReading tokens from h read (parameter r h env (drop from tokens))
parameter_reading r h env tokens from s d p read q l tree place high at =
    placed_reading tokens from d.at h (Parameter (specs_tree (map raw_view s.specs)) (raw_view d.tree)) p read _
    (parameter_found r h env (drop from tokens) (specs_tree (map raw_view s.specs)) (raw_view d.tree) (drop s.at tokens) (drop d.at tokens) q.found l.found)
    (ap raw_view tree ∙ raw_view-Parameter s.specs d.tree p) place (omega (arith, high, q.high, l.high)) (omega (arith, high, q.short, l.short)) (omega (arith, q.after, l.after)) (omega (arith, l.within)) at

pub bare_none : (r : Reads) (limit : ℕ) (env : Names) (ts : List Token) → specs r limit env ts ≡ Nothing → bare r limit env ts Found ≡ Nothing
bare_none r limit env ts none = ap (λ o. next o (λ s rest. checked (not (has_body s)) (checked (leaves env s rest) (Found s rest)))) none

module _ (r : Reads) (limit : ℕ) (env : Names) (tokens : List Token) (from : ℕ) (run : ReadSpecs) (q : IsSpecifying tokens from limit run (specs r limit env (drop from tokens))) where
  bare_by : bare r limit env (drop from tokens) Found
      ≡ checked (not run.has_body) (checked (run.has_type || not (begins_typedef env (drop run.at tokens))) (Found (specs_tree (map raw_view run.specs)) (drop run.at tokens)))
  bare_by =
      ap (λ o. next o (λ s rest. checked (not (has_body s)) (checked (leaves env s rest) (Found s rest)))) q.found
      ∙ (ap (λ b. checked (not b) (checked (leaves env (specs_tree (map raw_view run.specs)) (drop run.at tokens)) (Found (specs_tree (map raw_view run.specs)) (drop run.at tokens)))) (sym q.bodied)
      ∙ ap (λ b. checked (not run.has_body) (checked (b || not (begins_typedef env (drop run.at tokens))) (Found (specs_tree (map raw_view run.specs)) (drop run.at tokens)))) (sym q.typed))

  pub bare_bodied : run.has_body ≡ true → bare r limit env (drop from tokens) Found ≡ Nothing
  bare_bodied e =
      bare_by ∙ ap (λ b. checked (not b) (checked (run.has_type || not (begins_typedef env (drop run.at tokens))) (Found (specs_tree (map raw_view run.specs)) (drop run.at tokens)))) e

  bodiless : run.has_body ≡ false → bare r limit env (drop from tokens) Found
      ≡ checked (run.has_type || not (begins_typedef env (drop run.at tokens))) (Found (specs_tree (map raw_view run.specs)) (drop run.at tokens))
  bodiless e =
      bare_by ∙ ap (λ b. checked (not b) (checked (run.has_type || not (begins_typedef env (drop run.at tokens))) (Found (specs_tree (map raw_view run.specs)) (drop run.at tokens)))) e

  pub bare_not_longest : run.has_body ≡ false → (run.has_type || not (begins_typedef env (drop run.at tokens))) ≡ false → bare r limit env (drop from tokens) Found ≡ Nothing
  bare_not_longest e n = bodiless e ∙ ap (λ b. checked b (Found (specs_tree (map raw_view run.specs)) (drop run.at tokens))) n

  pub bare_longest : run.has_body ≡ false → (run.has_type || not (begins_typedef env (drop run.at tokens))) ≡ true → IsSpecifying tokens from limit run (bare r limit env (drop from tokens) Found)
  bare_longest e y = record {
    found = bodiless e ∙ ap (λ b. checked b (Found (specs_tree (map raw_view run.specs)) (drop run.at tokens))) y;
    high = q.high;
    short = q.short;
    after = q.after;
    within = q.within;
    typed = q.typed;
    bodied = q.bodied;
  }
