-- What a reader's answer says where it is known.
use Rattle.std.proofs.Common.{◌≡◌, ℕ, ◌-◌, ◌<◌, ◌≤◌, Bool, true, false, List, length, drop, Option, Some, None, Result, Ok, subst, arith}
use Rattle.std.specs.declared.alloc.AllocError.{AllocError}
use Rattle.dc_syntax.specs.Tokens.{Token}
use Rattle.dc_syntax.specs.Names.{Names}
use Rattle.dc_syntax.specs.Trees.{Tree}
use Rattle.dc_syntax.specs.Reading.{Out, Nothing}
use Rattle.dc_read_expr.specs.declared.read.Read.{Read}
use Rattle.dc_read_expr.specs.declared.lists.ReadItems.{ReadItems}
use Rattle.dc_read_expr.specs.declared.types.ReadSpecs.{ReadSpecs}
use Rattle.dc_read_expr.specs.View.{Reading, IsReading, LooselyReading, IsLooseReading, Listing, IsListing, Specifying, IsSpecifying}
use Rattle.dc_read_expr.specs.Taking.{Taking, IsTaken, TakingSpec, IsTakenSpec}

pub read_from : (tokens : List Token) (from from' limit : ℕ) (r : Read) (f : List Token → Out Tree) (result : Result (Option Read) AllocError) → Reading tokens from' limit result (f (drop from' tokens)) → from' ≡ from
    → result ≡ Ok (Some r) → IsReading tokens from limit r (f (drop from tokens))
read_from tokens from from' limit r f result q e k =
    subst (λ n. IsReading tokens n limit r (f (drop n tokens))) e (subst (λ o. Reading tokens from' limit o (f (drop from' tokens))) k q)

pub taken : (tokens : List Token) (from limit : ℕ) (old new : ReadItems) (env env' : Names) (b : Bool) (out : Out Tree) → Taking tokens from limit old new env env' (Ok b) out → b ≡ true → IsTaken tokens from limit old new env env' out
taken tokens from limit old new env env' b out q e = subst (λ b. Taking tokens from limit old new env env' (Ok b) out) e q

pub untaken : (tokens : List Token) (from limit : ℕ) (old new : ReadItems) (env env' : Names) (b : Bool) (out : Out Tree) → Taking tokens from limit old new env env' (Ok b) out → b ≡ false → out ≡ Nothing
untaken tokens from limit old new env env' b out q e = subst (λ b. Taking tokens from limit old new env env' (Ok b) out) e q

pub taken_less : (tokens : List Token) (from limit : ℕ) (old new : ReadItems) (env env' : Names) (out : Out Tree) → IsTaken tokens from limit old new env env' out → old.at ≤ from → length tokens - new.at < length tokens - old.at
taken_less tokens from limit old new env env' out t le = omega (arith, t.is.after, t.is.within, t.pushed.at, le)

pub spec_taken : (tokens : List Token) (limit : ℕ) (old new : ReadSpecs) (env env' : Names) (b : Bool) (out : Out Tree) → TakingSpec tokens limit old new env env' (Ok b) out → b ≡ true → IsTakenSpec tokens limit old new env env' out
spec_taken tokens limit old new env env' b out q e = subst (λ b. TakingSpec tokens limit old new env env' (Ok b) out) e q

pub spec_untaken : (tokens : List Token) (limit : ℕ) (old new : ReadSpecs) (env env' : Names) (b : Bool) (out : Out Tree) → TakingSpec tokens limit old new env env' (Ok b) out → b ≡ false → out ≡ Nothing
spec_untaken tokens limit old new env env' b out q e = subst (λ b. TakingSpec tokens limit old new env env' (Ok b) out) e q

pub spec_taken_less : (tokens : List Token) (limit : ℕ) (old new : ReadSpecs) (env env' : Names) (out : Out Tree) → IsTakenSpec tokens limit old new env env' out → length tokens - new.at < length tokens - old.at
spec_taken_less tokens limit old new env env' out t = omega (arith, t.is.after, t.is.within, t.pushed.at)

pub listing_from : (tokens : List Token) (from from' limit : ℕ) (tree : List Tree → Tree) (r : ReadItems) (f : List Token → Out Tree) (result : Result (Option ReadItems) AllocError) → Listing tokens from' limit tree result (f (drop from' tokens)) → from' ≡ from
    → result ≡ Ok (Some r) → IsListing tokens from limit tree r (f (drop from tokens))
listing_from tokens from from' limit tree r f result q e k =
    subst (λ n. IsListing tokens n limit tree r (f (drop n tokens))) e (subst (λ o. Listing tokens from' limit tree o (f (drop from' tokens))) k q)

pub specifying_some : (tokens : List Token) (from limit : ℕ) (r : ReadSpecs) (out : Out Tree) (result : Result (Option ReadSpecs) AllocError) → Specifying tokens from limit result out → result ≡ Ok (Some r) → IsSpecifying tokens from limit r out
specifying_some tokens from limit r out result q e = subst (λ o. Specifying tokens from limit o out) e q

pub specifying_none : (tokens : List Token) (from limit : ℕ) (out : Out Tree) (result : Result (Option ReadSpecs) AllocError) → Specifying tokens from limit result out → result ≡ Ok None → out ≡ Nothing
specifying_none tokens from limit out result q e = subst (λ o. Specifying tokens from limit o out) e q

pub reading_some : (tokens : List Token) (from limit : ℕ) (r : Read) (out : Out Tree) (result : Result (Option Read) AllocError) → Reading tokens from limit result out → result ≡ Ok (Some r) → IsReading tokens from limit r out
reading_some tokens from limit r out result q e = subst (λ o. Reading tokens from limit o out) e q

pub loosely_some : (tokens : List Token) (from limit : ℕ) (r : Read) (out : Out Tree) (result : Result (Option Read) AllocError) → LooselyReading tokens from limit result out → result ≡ Ok (Some r) → IsLooseReading tokens from limit r out
loosely_some tokens from limit r out result q e = subst (λ o. LooselyReading tokens from limit o out) e q

pub listing_some : (tokens : List Token) (from limit : ℕ) (tree : List Tree → Tree) (r : ReadItems) (out : Out Tree) (result : Result (Option ReadItems) AllocError) → Listing tokens from limit tree result out → result ≡ Ok (Some r) → IsListing tokens from limit tree r out
listing_some tokens from limit tree r out result q e = subst (λ o. Listing tokens from limit tree o out) e q

pub listing_none : (tokens : List Token) (from limit : ℕ) (tree : List Tree → Tree) (out : Out Tree) (result : Result (Option ReadItems) AllocError) → Listing tokens from limit tree result out → result ≡ Ok None → out ≡ Nothing
listing_none tokens from limit tree out result q e = subst (λ o. Listing tokens from limit tree o out) e q

pub reading_none : (tokens : List Token) (from limit : ℕ) (out : Out Tree) (result : Result (Option Read) AllocError) → Reading tokens from limit result out → result ≡ Ok None → out ≡ Nothing
reading_none tokens from limit out result q e = subst (λ o. Reading tokens from limit o out) e q

pub loosely_none : (tokens : List Token) (from limit : ℕ) (out : Out Tree) (result : Result (Option Read) AllocError) → LooselyReading tokens from limit result out → result ≡ Ok None → out ≡ Nothing
loosely_none tokens from limit out result q e = subst (λ o. LooselyReading tokens from limit o out) e q
