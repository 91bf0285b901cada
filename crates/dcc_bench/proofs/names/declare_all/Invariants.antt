use Rattle.std.proofs.Common.{◌≡◌}
use Rattle.dc_scope.specs.Scopes.{depth_of}
use Rattle.dcc_bench.proofs.names.declare_all.Given as goal

abbrev pub invariant-loop-number : goal.invariant-loop-number
invariant-loop-number l = depth_of l.scopes ≡ depth_of l.initial.scopes
