use Rattle.std.proofs.Common.{rules, ◌≡◌, [], refl, ◌∙◌, to_z, of_z}
use mir.Syntax.{w128}
use Rattle.dc_machine.specs.Step.{acting}
use Rattle.dc_machine.specs.View.{now_view}
use Rattle.dc_machine.proofs.Acts.{ends_undefined, defined-some}
use Rattle.dc_machine.proofs.Parts.{alone_same}
use Rattle.dc_machine.proofs.Going.{then_copy}
use Rattle.dc_machine.proofs.now.Now.copy.Goals as goal

pub returns-in-None : goal.returns-in-None
returns-in-None g c = λ p.
    ends_undefined c.args.name.now _ _ (now_view c.given_three.new.self) (λ v. (then_copy c.args.name.now) v.0 v.1 v.2 (now_view c.given_three.new.self [])) _ c.undefined.result _
    (c.in_ok-given_three.ensures c.args.name.now [] (then_copy c.args.name.now)) c.in-None.is refl c.undefined.ensures

pub returns-in-Some : goal.returns-in-Some
returns-in-Some g c = λ p.
    let to : to_z w128 (of_z w128 c.in-Some.to) ≡ c.in-Some.to = search rules in
    let from : to_z w128 (of_z w128 c.in-Some.from) ≡ c.in-Some.from = search rules in
    let len : to_z w128 (of_z w128 c.in-Some.len) ≡ c.in-Some.len = search rules in
    alone_same acting _ _ (now_view c.copy_at.new.self) c.copy_at.result _ _
    (λ choices.
    c.in_ok-given_three.ensures c.args.name.now choices (then_copy c.args.name.now)
    ∙ defined-some c.args.name.now _ (now_view c.given_three.new.self choices) (λ v. (then_copy c.args.name.now) v.0 v.1 v.2 (now_view c.given_three.new.self choices)) _ c.in-Some.is)
    (rw (c.bits-to.ensures.value, c.bits-from.ensures.value, c.bits-len.ensures.value, to, from, len) at c.copy_at.ensures)
