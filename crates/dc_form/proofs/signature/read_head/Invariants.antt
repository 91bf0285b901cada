use Rattle.std.proofs.Common.{◌≡◌, [], length}
use Rattle.std.specs.Prelude.{All}
use Rattle.dc_form.specs.Read.HeadView.{names_of}
use Rattle.dc_form.specs.Read.Signature.{read_head}
use Rattle.dc_form.specs.Read.Whole.{IsInt}
use Rattle.dc_form.proofs.signature.read_head.Given as goal

abbrev pub invariant-loop-gives_int : goal.invariant-loop-gives_int
invariant-loop-gives_int l =
    (read_head [] l.fn.tokens ≡ read_head l.names l.tokens) × (l.names ≡ names_of l.statics) × All IsInt l.statics

abbrev pub decreases-loop-gives_int : goal.decreases-loop-gives_int
decreases-loop-gives_int l = length l.tokens
