use Rattle.std.proofs.Common.{[], refl, ap, sym, ◌∙◌}
use Rattle.dc_goto.specs.Acts.{Next}
use Rattle.dc_machine.proofs.Going.{then_target}
use Rattle.dc_machine.proofs.now.Now.target.Goals as goal

pub returns : goal.returns
returns c = λ p name h. record {
  notes = [];
  goes = λ rest. c.in_ok-test.ensures rest (then_target c.args.tag) ∙ ap (Next []) (sym (c.in_ok-add_free.ensures rest));
  heard = refl;
}
