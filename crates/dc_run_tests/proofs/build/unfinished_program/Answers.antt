use Rattle.std.proofs.Common.{[], ◌∷◌, ◌++◌, ap, ◌∙◌}
use Rattle.dc_run_tests.proofs.Standing.{unfinished_stands}
use Rattle.dc_run_tests.proofs.build.unfinished_program.Goals as goal

pub new-program-requires : goal.new-program-requires
new-program-requires c =
    rw (c.new-statics.ensures, c.new-structs.ensures)
    (unfinished_stands c.push.new.self c.in_ok-f.f (c.in_ok-push.ensures.ok ∙ ap (λ l. l ++ c.in_ok-f.f ∷ []) c.new-functions.ensures) c.in_ok-f.ensures)
