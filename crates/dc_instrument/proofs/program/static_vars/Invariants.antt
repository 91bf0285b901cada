use Rattle.std.proofs.Common.{◌≡◌, ◌++◌, drop, map}
use Rattle.dc_goto.specs.View.{static_view}
use Rattle.dc_instrument.specs.Lowering.{int_static}
use Rattle.dc_instrument.proofs.program.static_vars.Given as goal

abbrev pub invariant-loop-variable : goal.invariant-loop-variable
invariant-loop-variable l = map static_view l.vars ++ map int_static (map (λ v. v.name) (drop l.variable-index l.statics)) ≡ map int_static (map (λ v. v.name) l.statics)
