use Rattle.std.proofs.Common.{rules, ◌≡◌, [], refl, to_z, of_z}
use mir.Syntax.{w128}
use Rattle.dc_core.specs.View.{term_view}
use Rattle.dc_machine.specs.Step.{acting}
use Rattle.dc_machine.specs.View.{now_view}
use Rattle.dc_machine.proofs.Acts.{ends_undefined}
use Rattle.dc_machine.proofs.Asking.{given-is, given-some}
use Rattle.dc_machine.proofs.Parts.{alone_same}
use Rattle.dc_machine.proofs.Going.{then_free}
use Rattle.dc_machine.proofs.now.Now.free.Goals as goal

pub returns-in-None : goal.returns-in-None
returns-in-None g c = λ p.
    ends_undefined c.args.name.now _ _ (now_view c.asked.new.self) (λ v. then_free c.args.name.now v (now_view c.asked.new.self [])) _ c.undefined.result _
    (given-is (term_view c.args.pointer.now) _ (now_view c.args.self.now) (now_view c.asked.new.self) c.args.name.now [] (then_free c.args.name.now) c.in_ok-asked.ensures) c.in-None.is refl c.undefined.ensures

pub returns-in-Some : goal.returns-in-Some
returns-in-Some g c = λ p.
    let pointer : to_z w128 (of_z w128 c.in-Some.pointer) ≡ c.in-Some.pointer = search rules in
    alone_same acting _ _ (now_view c.free_at.new.self) c.free_at.result _ _
    (λ choices. given-some (term_view c.args.pointer.now) _ _ (now_view c.args.self.now) (now_view c.asked.new.self) c.args.name.now choices (then_free c.args.name.now) c.in_ok-asked.ensures c.in-Some.is)
    (rw (c.bits.ensures.value, pointer) at c.free_at.ensures)
