use Rattle.std.proofs.Common.{◌≡◌, ◌∙◌, ◌+◌, suc, sym, ap, map, length, arith, None, Some}
use Rattle.std.proofs.lemmas.List.{length-map}
use Rattle.dc_goto.specs.View.{sig_view}
use Rattle.dc_machine.specs.Linked.{linked_view}
use Rattle.dc_machine.specs.Index.{first_place}
use Rattle.dc_machine.proofs.Indexes.{number_at, number-found, place-below}
use Rattle.dc_machine.proofs.program.Linked.function_number.Goals as goal

pub overflow_add-result-in-Some : goal.overflow_add-result-in-Some
overflow_add-result-in-Some c =
    let first : first_place 0 (map (λ sig. sig.name) (linked_view c.args.self.now).functions) c.args.name.now ≡ Some c.in-Some.place = sym (c.requires.functions c.args.name.now) ∙ sym c.find.ensures ∙ c.in-Some.is in
    let below = place-below 0 (map (λ sig. sig.name) (linked_view c.args.self.now).functions) c.args.name.now c.in-Some.place first in
    omega (arith, below, length-map (linked_view c.args.self.now).functions (λ sig. sig.name), length-map c.args.self.now.goto.now.functions sig_view, ap length c.as_slice.ensures, c.as_slice.type_inv.0, c.as_slice.type_inv.1)

pub returns-in-None : goal.returns-in-None
returns-in-None c =
    let first : first_place 0 (map (λ sig. sig.name) (linked_view c.args.self.now).functions) c.args.name.now ≡ None = sym (c.requires.functions c.args.name.now) ∙ sym c.find.ensures ∙ c.in-None.is in
    let count : length c.as_slice.result.now + 1 ≡ 1 + length (linked_view c.args.self.now).functions = omega (arith, length-map c.args.self.now.goto.now.functions sig_view, ap length c.as_slice.ensures) in
    count ∙ ap (number_at (1 + length (linked_view c.args.self.now).functions)) (sym first) ∙ sym (number-found 0 (linked_view c.args.self.now).functions c.args.name.now)

pub returns-in-Some : goal.returns-in-Some
returns-in-Some c =
    let first : first_place 0 (map (λ sig. sig.name) (linked_view c.args.self.now).functions) c.args.name.now ≡ Some c.in-Some.place = sym (c.requires.functions c.args.name.now) ∙ sym c.find.ensures ∙ c.in-Some.is in
    let next : c.in-Some.place + 1 ≡ suc c.in-Some.place = omega arith in
    next ∙ ap (number_at (1 + length (linked_view c.args.self.now).functions)) (sym first) ∙ sym (number-found 0 (linked_view c.args.self.now).functions c.args.name.now)
