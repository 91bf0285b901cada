-- What a reader of parts answers where it is known.
use Rattle.std.proofs.Common.{◌≡◌, ℕ, ◌<◌, ◌≤◌, Bool, true, false, List, length, drop, Option, Some, None, Result, Ok, sym, ap, ◌∙◌, subst, arith}
use Rattle.std.specs.declared.alloc.AllocError.{AllocError}
use Rattle.dc_syntax.specs.Tokens.{Token, Place}
use Rattle.dc_syntax.specs.Names.{Names}
use Rattle.dc_syntax.specs.Parts.{Part, height_of}
use Rattle.dc_syntax.specs.Reading.{Out, Nothing, Found, between}
use Rattle.dc_syntax.specs.UnitView.{part_view}
use Rattle.dc_read_unit.specs.declared.read.ReadPart.{ReadPart}
use Rattle.dc_read_unit.specs.declared.read.ReadParts.{ReadParts}
use Rattle.dc_read_unit.specs.PartView.{Parting, IsPart, PartsListing, IsParts}
use Rattle.dc_read_unit.specs.PartTaking.{TakingPart, IsTakenPart, DeclaringPart, IsDeclaredPart}

pub part_some : (tokens : List Token) (from limit : ℕ) (r : ReadPart) (out : Out Part) (result : Result (Option ReadPart) AllocError) → Parting tokens from limit result out → result ≡ Ok (Some r) → IsPart tokens from limit r out
part_some tokens from limit r out result q e = subst (λ o. Parting tokens from limit o out) e q

pub part_none : (tokens : List Token) (from limit : ℕ) (out : Out Part) (result : Result (Option ReadPart) AllocError) → Parting tokens from limit result out → result ≡ Ok None → out ≡ Nothing
part_none tokens from limit out result q e = subst (λ o. Parting tokens from limit o out) e q

-- behind a token that was eaten
pub part_from : (tokens : List Token) (from from' limit : ℕ) (r : ReadPart) (f : List Token → Out Part) (result : Result (Option ReadPart) AllocError) → Parting tokens from' limit result (f (drop from' tokens)) → from' ≡ from
    → result ≡ Ok (Some r) → IsPart tokens from limit r (f (drop from tokens))
part_from tokens from from' limit r f result q e k =
    subst (λ n. IsPart tokens n limit r (f (drop n tokens))) e (subst (λ o. Parting tokens from' limit o (f (drop from' tokens))) k q)

pub parting_by : (tokens : List Token) (from limit : ℕ) (result : Result (Option ReadPart) AllocError) (out out' : Out Part) → Parting tokens from limit result out → out' ≡ out → Parting tokens from limit result out'
parting_by tokens from limit result out out' q e = subst (λ o. Parting tokens from limit result o) (sym e) q

pub parts_some : (tokens : List Token) (from limit : ℕ) (view : List Part → Part) (r : ReadParts) (out : Out Part) (result : Result (Option ReadParts) AllocError) → PartsListing tokens from limit view result out → result ≡ Ok (Some r)
    → IsParts tokens from limit view r out
parts_some tokens from limit view r out result q e = subst (λ o. PartsListing tokens from limit view o out) e q

pub parts_none : (tokens : List Token) (from limit : ℕ) (view : List Part → Part) (out : Out Part) (result : Result (Option ReadParts) AllocError) → PartsListing tokens from limit view result out → result ≡ Ok None → out ≡ Nothing
parts_none tokens from limit view out result q e = subst (λ o. PartsListing tokens from limit view o out) e q

pub part_taken : (tokens : List Token) (from limit : ℕ) (old new : ReadParts) (b : Bool) (out : Out Part) → TakingPart tokens from limit old new (Ok b) out → b ≡ true → IsTakenPart tokens from limit old new out
part_taken tokens from limit old new b out q e = subst (λ b. TakingPart tokens from limit old new (Ok b) out) e q

pub part_untaken : (tokens : List Token) (from limit : ℕ) (old new : ReadParts) (b : Bool) (out : Out Part) → TakingPart tokens from limit old new (Ok b) out → b ≡ false → out ≡ Nothing
part_untaken tokens from limit old new b out q e = subst (λ b. TakingPart tokens from limit old new (Ok b) out) e q

pub part_declared : (tokens : List Token) (from limit : ℕ) (old new : ReadParts) (env' : Names) (behind : Part → Names) (b : Bool) (out : Out Part) → DeclaringPart tokens from limit old new env' behind (Ok b) out → b ≡ true
    → IsDeclaredPart tokens from limit old new env' behind out
part_declared tokens from limit old new env' behind b out q e = subst (λ b. DeclaringPart tokens from limit old new env' behind (Ok b) out) e q

pub part_undeclared : (tokens : List Token) (from limit : ℕ) (old new : ReadParts) (env' : Names) (behind : Part → Names) (b : Bool) (out : Out Part) → DeclaringPart tokens from limit old new env' behind (Ok b) out → b ≡ false → out ≡ Nothing
part_undeclared tokens from limit old new env' behind b out q e = subst (λ b. DeclaringPart tokens from limit old new env' behind (Ok b) out) e q

-- a part with its place, made of what the definition reads
pub placed_part : (tokens : List Token) (from end limit : ℕ) (node : Place → Part) (p : Place) (read : ReadPart) (out : Out Part) → out ≡ Found (node (between (drop from tokens) (drop end tokens))) (drop end tokens)
    → part_view read.part ≡ node p → p ≡ between (drop from tokens) (drop end tokens) → read.height ≡ height_of (node p) → read.height ≤ limit → from < end → end ≤ length tokens → read.at ≡ end → IsPart tokens from limit read out
placed_part tokens from end limit node p read out is viewed place high short after within at = record {
  found = is ∙ (ap (λ p. Found (node p) (drop end tokens)) (sym place) ∙ (ap (λ t. Found t (drop end tokens)) (sym viewed) ∙ ap (λ k. Found (part_view read.part) (drop k tokens)) (sym at)));
  high = high ∙ sym (ap height_of viewed);
  short = short;
  after = omega (arith, at, after);
  within = omega (arith, at, within);
}
