-- A tree with its place, made of what the definition reads.
use Rattle.std.proofs.Common.{◌≡◌, ℕ, ◌<◌, ◌≤◌, List, length, drop, sym, ap, ◌∙◌, arith}
use Rattle.dc_syntax.specs.Tokens.{Token, Place}
use Rattle.dc_syntax.specs.Trees.{Tree, height}
use Rattle.dc_syntax.specs.Reading.{Out, Found, between}
use Rattle.dc_syntax.specs.View.{raw_view}
use Rattle.dc_read_expr.specs.declared.read.Read.{Read}
use Rattle.dc_read_expr.specs.View.{IsReading, IsLooseReading, IsTurn}

pub placed_reading : (tokens : List Token) (from end limit : ℕ) (node : Place → Tree) (p : Place) (read : Read) (out : Out Tree) → out ≡ Found (node (between (drop from tokens) (drop end tokens))) (drop end tokens)
    → raw_view read.tree ≡ node p → p ≡ between (drop from tokens) (drop end tokens) → read.height ≡ height (node p) → read.height ≤ limit → from < end → end ≤ length tokens → read.at ≡ end → IsReading tokens from limit read out
placed_reading tokens from end limit node p read out is viewed place high short after within at = record {
  found = is ∙ (ap (λ p. Found (node p) (drop end tokens)) (sym place) ∙ (ap (λ t. Found t (drop end tokens)) (sym viewed) ∙ ap (λ k. Found (raw_view read.tree) (drop k tokens)) (sym at)));
  high = high ∙ sym (ap height viewed);
  short = short;
  after = omega (arith, at, after);
  within = omega (arith, at, within);
}

pub loosely : (tokens : List Token) (from limit : ℕ) (read : Read) (out : Out Tree) → IsReading tokens from limit read out → IsLooseReading tokens from limit read out
loosely tokens from limit read out q = record { found = q.found; high = q.high; short = q.short; after = omega (arith, q.after); within = q.within }

pub turning : (tokens : List Token) (from limit : ℕ) (before read : Read) (out : Out Tree) → IsReading tokens from limit read out → before.height < read.height → IsTurn tokens from limit before read out
turning tokens from limit before read out q grows = record { found = q.found; high = q.high; short = q.short; after = q.after; within = q.within; grows = grows }
