use Rattle.std.proofs.Common.{rules, ◌≡◌, [], refl, ap, sym, ◌∙◌, to_z, of_z}
use mir.Syntax.{w128}
use Rattle.dc_machine.specs.Step.{acting}
use Rattle.dc_machine.specs.View.{now_view}
use Rattle.dc_machine.proofs.Acts.{ends_undefined, defined-some}
use Rattle.dc_machine.proofs.Parts.{alone_same}
use Rattle.dc_machine.proofs.Going.{then_probe}
use Rattle.dc_goto.specs.Acts.{unless_undefined}
use Rattle.dc_machine.proofs.now.Now.probe.Goals as goal

pub returns-in_default : goal.returns-in_default
returns-in_default c = λ p h.
    ends_undefined c.args.name.now _ _ (now_view c.given_three.new.self) (λ v. then_probe c.args.name.now c.args.sharing v.0 v.1 v.2 (now_view c.given_three.new.self [])) _ c.undefined.result h
    (c.in_ok-to.ensures c.args.name.now [] (then_probe c.args.name.now c.args.sharing)) c.in_default.is refl c.undefined.ensures

pub returns : goal.returns
returns c = λ p h.
    let to : to_z w128 (of_z w128 c.in-Some.to) ≡ c.in-Some.to = search rules in
    let from : to_z w128 (of_z w128 c.in-Some.from) ≡ c.in-Some.from = search rules in
    let len : to_z w128 (of_z w128 c.in-Some.len) ≡ c.in-Some.len = search rules in
    alone_same acting _ _ (now_view c.given_three.new.self) c.unless.result _ _
    (λ choices.
    c.in_ok-to.ensures c.args.name.now choices (then_probe c.args.name.now c.args.sharing)
    ∙ defined-some c.args.name.now _ (now_view c.given_three.new.self choices) (λ v. then_probe c.args.name.now c.args.sharing v.0 v.1 v.2 (now_view c.given_three.new.self choices)) _ c.in-Some.is
    ∙ ap (λ b. unless_undefined c.args.name.now b (now_view c.given_three.new.self choices)) (sym (rw (c.bits-to.ensures.value, c.bits-from.ensures.value, c.bits-len.ensures.value, to, from, len) at c.may_copy.ensures)))
    (c.unless.ensures (now_view c.given_three.new.self) h (λ choices. refl))
