use Rattle.std.proofs.Common.{sym, arith}
use Rattle.dc_machine.proofs.Acts.{other-kinds}
use Rattle.dc_machine.proofs.program.same_kinds.Goals as goal

pub returns-then-a-b : goal.returns-then-a-b
returns-then-a-b c = sym (other-kinds c.args.a.now c.args.b.now (λ e. absurd (omega (arith, e, c.if-a-b.true))))
