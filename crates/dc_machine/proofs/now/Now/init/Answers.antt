use Rattle.std.proofs.Common.{rules, ◌≡◌, [], refl, ◌∙◌, to_z, of_z}
use mir.Syntax.{w128}
use Rattle.dc_machine.specs.Step.{acting}
use Rattle.dc_machine.specs.View.{now_view}
use Rattle.dc_machine.proofs.Acts.{ends_undefined, defined-some}
use Rattle.dc_machine.proofs.Parts.{alone_same}
use Rattle.dc_machine.proofs.Going.{then_init}
use Rattle.dc_machine.proofs.now.Now.init.Goals as goal

pub returns-in-None : goal.returns-in-None
returns-in-None c = λ p h.
    ends_undefined c.args.name.now _ _ (now_view c.given_two.new.self) (λ v. then_init c.args.name.now c.args.kind v.0 v.1 (now_view c.given_two.new.self [])) _ c.undefined.result h
    (c.in_ok-given_two.ensures c.args.name.now [] (then_init c.args.name.now c.args.kind)) c.in-None.is refl c.undefined.ensures

pub returns-in-Some : goal.returns-in-Some
returns-in-Some c = λ p h.
    let place : to_z w128 (of_z w128 c.in-Some.place) ≡ c.in-Some.place = search rules in
    let value : to_z w128 (of_z w128 c.in-Some.value) ≡ c.in-Some.value = search rules in
    alone_same acting _ _ (now_view c.init_at.new.self) c.init_at.result _ _
    (λ choices.
    c.in_ok-given_two.ensures c.args.name.now choices (then_init c.args.name.now c.args.kind)
    ∙ defined-some c.args.name.now _ (now_view c.given_two.new.self choices) (λ v. then_init c.args.name.now c.args.kind v.0 v.1 (now_view c.given_two.new.self choices)) _ c.in-Some.is)
    (rw (c.bits.ensures.value, place, value) at (c.init_at.ensures h))
