use Rattle.std.proofs.lemmas.Int.{to_z-of_z}
use Rattle.dc_run.proofs.Operated.{remainder-left}
use Rattle.dc_run.proofs.value.remainder.Goals as goal
use mir.Syntax.{w128}

pub returns-in-Some : goal.returns-in-Some
returns-in-Some c =
    let a = to_z-of_z w128 c.args.a c.ranges.a in
    let b = to_z-of_z w128 c.args.b c.ranges.b in
    remainder-left c.args.a c.args.b c.in-Some.field-0 c.checked_rem.result c.ranges.b
    (rw (a, b) at c.in-Some.ensures) (rw (a, b) at c.checked_rem.ensures)
