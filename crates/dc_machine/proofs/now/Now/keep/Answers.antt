use Rattle.std.proofs.Common.{[], refl, ap, sym, ◌∙◌}
use Rattle.dc_goto.specs.Acts.{Next}
use Rattle.dc_machine.proofs.Going.{then_keep}
use Rattle.dc_machine.proofs.now.Now.keep.Goals as goal

pub returns : goal.returns
returns c = λ p name h. record {
  notes = [];
  goes = λ rest. c.in_ok-held.ensures rest (then_keep c.args.register) ∙ ap (Next []) (sym (c.in_ok-put.ensures rest));
  heard = refl;
}
