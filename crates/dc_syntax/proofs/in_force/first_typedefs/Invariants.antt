use Rattle.std.proofs.Common.{◌≡◌, true, map, drop}
use Rattle.dc_syntax.specs.Names.{first_names}
use Rattle.dc_syntax.specs.Scopes.{declaring_all}
use Rattle.dc_syntax.proofs.Scopes.{declared_as}
use Rattle.dc_syntax.proofs.in_force.first_typedefs.Given as goal

abbrev pub invariant-loop-word : goal.invariant-loop-word
invariant-loop-word l = declaring_all (map (λ w. declared_as w.now true) (drop l.word-index l.word-items)) l.names.names ≡ first_names
