use Rattle.std.proofs.Common.{◌≡◌, Some, subst}
use Rattle.dc_core.specs.Sound.{IsSound}
use Rattle.dc_core.specs.View.{program_view}
use Rattle.dc_form.proofs.Sound.{form_is_sound}
use Rattle.dc_top.specs.Answers.{Says}
use Rattle.dc_top.specs.Replaying.{IsSourceOf}
use Rattle.dc_top.specs.Stages.{SaysOfSource}
use Rattle.dc_top.specs.Table.{Command, enforced, inputs_of}
use Rattle.dc_top.proofs.Justified.{match_ok, match_err, source_says}
use Rattle.dc_top.proofs.source.read_source.Goals as goal

pub returns-in-Ok-clause-sound : goal.returns-in-Ok-clause-sound
returns-in-Ok-clause-sound g c =
    match_ok (λ p. IsSourceOf c.deref.result.now c.args.name.now (program_view p)) (λ p. IsSound (program_view p)) (SaysOfSource c.deref.result.now c.args.name.now) c.program_of.result
    (λ p s. form_is_sound c.deref.result.now (program_view p) s.form) c.program_of.ensures.found

pub returns-in-Ok-clause-says : goal.returns-in-Ok-clause-says
returns-in-Ok-clause-says g c =
    match_err (λ p. IsSourceOf c.deref.result.now c.args.name.now (program_view p)) (SaysOfSource c.deref.result.now c.args.name.now)
    (λ answer. (command : Command) → enforced command ≡ Some c.args.name.now → Says command (inputs_of (g.H.Shelf.files c.args.shelf.now) (g.H.Shelf.names c.args.shelf.now)) answer)
    c.program_of.result
    (λ answer s command e.
    source_says (g.H.Shelf.files c.args.shelf.now) (g.H.Shelf.names c.args.shelf.now) c.args.name.now c.in-Ok.bytes.items answer command c.in-Ok.ensures.whole c.in-Ok.ensures.short
    (subst (λ bytes. SaysOfSource bytes c.args.name.now answer) c.deref.ensures.value s) e)
    c.program_of.ensures.found
