use Rattle.std.proofs.Common.{◌≡◌, subst, arith}
use Rattle.dc_goto.specs.Shape.{place_of}
use Rattle.dc_scan.proofs.Placed.{placed, unplaced}
use Rattle.dc_scan.proofs.functions.Functions.place.Goals as goal

pub returns-in-Some : goal.returns-in-Some
returns-in-Some c =
    subst (λ functions. c.in-Some.place ≡ place_of functions c.args.name.now) c.self.view_is
    (placed c.args.name.now c.self.inside.sigs.items c.self.inside.names c.in-Some.place c.self.invariant c.in-Some.ensures)

pub returns-in-None : goal.returns-in-None
returns-in-None c =
    subst (λ functions. c.len.result ≡ place_of functions c.args.name.now) c.self.view_is
    (unplaced c.args.name.now c.self.inside.sigs.items c.self.inside.names c.len.result c.self.invariant c.in-None.ensures (omega (arith, c.self.inside.sigs.ok.0)))
