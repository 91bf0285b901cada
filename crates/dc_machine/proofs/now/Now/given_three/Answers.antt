use Rattle.std.proofs.Common.{rules, ◌≡◌, Some, refl, ap, sym, ◌∙◌, to_z, of_z}
use mir.Syntax.{w128}
use Rattle.dc_core.specs.View.{term_view}
use Rattle.dc_machine.specs.View.{now_view}
use Rattle.dc_machine.proofs.Asking.{two-none, third-none, all-three}
use Rattle.dc_machine.proofs.now.Now.given_three.Goals as goal

pub returns-in_default : goal.returns-in_default
returns-in_default c = two-none (term_view c.args.a.now) (term_view c.args.b.now) (term_view c.args.c.now) _ (now_view c.args.self.now) (now_view c.given_two.new.self) c.in_ok-first.ensures c.in_default.is

pub returns-in_default-2 : goal.returns-in_default-2
returns-in_default-2 c =
    third-none (term_view c.args.a.now) (term_view c.args.b.now) (term_view c.args.c.now) _ _ c.in-Some.first c.in-Some.second (now_view c.args.self.now) (now_view c.given_two.new.self) (now_view c.asked.new.self)
    c.in_ok-first.ensures c.in-Some.is c.in_ok-third.ensures c.in_default-2.is

pub returns : goal.returns
returns c =
    let first : to_z w128 (of_z w128 c.in-Some.first) ≡ c.in-Some.first = search rules in
    let second : to_z w128 (of_z w128 c.in-Some.second) ≡ c.in-Some.second = search rules in
    let third : to_z w128 (of_z w128 c.in-Some-2.third) ≡ c.in-Some-2.third = search rules in
    all-three (term_view c.args.a.now) (term_view c.args.b.now) (term_view c.args.c.now) _ _ _ _ _ (now_view c.args.self.now) (now_view c.given_two.new.self) (now_view c.asked.new.self)
    c.in_ok-first.ensures (c.in-Some.is ∙ rw (first, second) refl) c.in_ok-third.ensures (c.in-Some-2.is ∙ ap Some (sym third))
