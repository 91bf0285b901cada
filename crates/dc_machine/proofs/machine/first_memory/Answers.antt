use Rattle.std.proofs.Common.{◌∙◌, sym}
use Rattle.std.proofs.lemmas.List.{length-map}
use Rattle.dc_goto.specs.View.{sig_view}
use Rattle.dc_machine.specs.Linked.{linked_view}
use Rattle.dc_machine.proofs.Acts.{first-objects}
use Rattle.dc_machine.proofs.machine.first_memory.Goals as goal

pub returns : goal.returns
returns c =
    first-objects (linked_view c.args.p.now) c.new-memory.result c.push_functions.new.memory c.push_variables.new.memory c.len.result c.as_slice.result.now c.new-memory.ensures
    (c.len.ensures ∙ sym (length-map c.args.p.now.goto.now.functions sig_view)) (c.as_slice.ensures.value ∙ c.requires.sizes) c.in_ok-push_functions.ensures c.in_ok-push_variables.ensures
