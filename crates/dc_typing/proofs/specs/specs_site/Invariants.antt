use Rattle.std.proofs.Common.{◌≡◌, drop, map}
use Rattle.std.specs.Prelude.{fold}
use Rattle.dc_syntax.specs.View.{raw_view}
use Rattle.dc_typing.specs.TypeNames.{spec_site, specs_site}
use Rattle.dc_typing.proofs.specs.specs_site.Given as goal

abbrev pub invariant-loop-one : goal.invariant-loop-one
invariant-loop-one l = fold (λ site s. spec_site s) l.site (map raw_view (drop l.one-index l.specs)) ≡ specs_site (map raw_view l.specs)
