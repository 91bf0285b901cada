use Rattle.std.proofs.Common.{◌≡◌, [], None, refl, ap, sym, ◌∙◌}
use Rattle.std.specs.Prelude.{option_map}
use Rattle.dc_goto.specs.Acts.{Enters, called, defined}
use Rattle.dc_goto.specs.Machine.{proceed}
use Rattle.dc_machine.specs.Linked.{linked_view}
use Rattle.dc_machine.specs.View.{now_view, machine_view}
use Rattle.dc_machine.proofs.Calls.{run_undefined}
use Rattle.dc_machine.proofs.machine.Machine.call_pointer.Goals as goal

pub returns-in-None : goal.returns-in-None
returns-in-None g c = λ values e.
    let none : called (linked_view c.args.p.now) c.args.result_kind c.args.params.now c.args.pointer ≡ None = sym c.called.ensures ∙ ap (λ o. option_map (λ s. s.now) o) c.in-None.is in
    run_undefined c.args.name.now _ _ (now_view c.args.self.now.now []).world c.undefined.result _
    (ap (λ o. proceed (linked_view c.args.p.now) (machine_view (linked_view c.args.p.now).bodies c.args.self.now []) (defined c.args.name.now o (now_view c.args.self.now.now []) (λ function. Enters c.args.register function values (now_view c.args.self.now.now [])))) none)
    refl c.undefined.ensures
