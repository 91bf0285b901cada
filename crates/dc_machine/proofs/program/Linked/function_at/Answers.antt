use Rattle.std.proofs.Common.{◌-◌, map, ap, sym, ◌∙◌, arith}
use Rattle.std.specs.Prelude.{slice_get}
use Rattle.std.proofs.lemmas.Option.{slice_get-map}
use Rattle.dc_goto.specs.View.{sig_view}
use Rattle.dc_machine.proofs.Acts.{function-at, borrowed}
use Rattle.dc_machine.proofs.program.Linked.function_at.Goals as goal

pub returns : goal.returns
returns c =
    borrowed sig_view c.at.result (slice_get c.args.self.now.goto.now.functions (c.args.object - 1)) (c.at.ensures ∙ ap (λ l. slice_get l (c.args.object - 1)) c.as_slice.ensures)
    ∙ sym (slice_get-map sig_view c.args.self.now.goto.now.functions (c.args.object - 1))
    ∙ sym (function-at (map sig_view c.args.self.now.goto.now.functions) c.args.object (omega (arith, c.if-object-eq0.false)))
