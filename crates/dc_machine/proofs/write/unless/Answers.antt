use Rattle.std.proofs.Common.{[], refl, ap}
use Rattle.dc_goto.specs.Acts.{unless_undefined}
use Rattle.dc_world.specs.declared.report.End.TheVariants as end
use Rattle.dc_machine.specs.Step.{acting}
use Rattle.dc_machine.proofs.Parts.{ends_named}
use Rattle.dc_machine.proofs.write.unless.Goals as goal

pub returns-else-holds : goal.returns-else-holds
returns-else-holds c = λ s h choices.
    ends_named acting _ s (end.Undefined c.args.name.now) (s []).world c.undefined.result h c.undefined.ensures refl (ap (λ holds. unless_undefined c.args.name.now holds (s [])) c.if-holds.false) (choices [])
