use Rattle.std.proofs.Common.{[], rules, ◌≡◌, refl, ap, ◌∙◌, to_z, of_z}
use mir.Syntax.{w128}
use Rattle.dc_goto.specs.Acts.{allocating}
use Rattle.dc_machine.specs.Step.{acting}
use Rattle.dc_machine.specs.View.{now_view}
use Rattle.dc_machine.proofs.Acts.{defined-some, ends_undefined}
use Rattle.dc_machine.proofs.Going.{then_allocate}
use Rattle.dc_machine.proofs.Listed.{product}
use Rattle.dc_machine.proofs.Parts.{alone-step, nothing_done, step_cut, step_same}
use Rattle.dc_machine.proofs.now.Now.allocate.Goals as goal

pub returns-in_err-count : goal.returns-in_err-count
returns-in_err-count g c = λ p. step_cut acting _ _ c.from_residual.result _ _ _ _ c.from_residual.ensures.0 (nothing_done acting _ _ _)

pub returns-in_default : goal.returns-in_default
returns-in_default g c = λ p.
    alone-step acting _ (now_view c.given_two.new.self) c.undefined.result _ _ _
    (ends_undefined c.args.name.now _ _ (now_view c.given_two.new.self) (λ v. then_allocate c.args.register c.args.bytes v.0 v.1 (now_view c.given_two.new.self [])) _ c.undefined.result _
    (c.in_ok-count.ensures c.args.name.now [] (then_allocate c.args.register c.args.bytes)) c.in_default.is refl c.undefined.ensures)

pub returns : goal.returns
returns g c = λ p.
    let count : to_z w128 (of_z w128 c.in-Some.count) ≡ c.in-Some.count = search rules in
    let size : to_z w128 (of_z w128 c.in-Some.size) ≡ c.in-Some.size = search rules in
    step_same acting _ _ (now_view c.allocate_size.new.self) c.allocate_size.result _ _ _ _
    (λ choices.
    c.in_ok-count.ensures c.args.name.now choices (then_allocate c.args.register c.args.bytes)
    ∙ defined-some c.args.name.now _ (now_view c.given_two.new.self choices) (λ v. then_allocate c.args.register c.args.bytes v.0 v.1 (now_view c.given_two.new.self choices)) _ c.in-Some.is
    ∙ ap (λ size. allocating c.args.register c.args.bytes size (now_view c.given_two.new.self choices)) (product _ _ _ _ _ _ count size c.bits-count.ensures.value c.bits-size.ensures.value))
    c.allocate_size.ensures
