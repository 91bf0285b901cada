use Rattle.std.proofs.Common.{rules, ◌≡◌, Some, ap, sym, ◌∙◌, to_z, of_z}
use mir.Syntax.{w128}
use Rattle.dc_core.specs.View.{term_view}
use Rattle.dc_machine.specs.View.{now_view}
use Rattle.dc_machine.proofs.Asking.{first-none, second-none, both-given}
use Rattle.dc_machine.proofs.now.Now.given_two.Goals as goal

pub returns-in_default : goal.returns-in_default
returns-in_default c = first-none (term_view c.args.a.now) (term_view c.args.b.now) _ (now_view c.args.self.now) (now_view c.asked.new.self) c.in_ok-first.ensures c.in_default.is

pub returns-in_default-2 : goal.returns-in_default-2
returns-in_default-2 c =
    second-none (term_view c.args.a.now) (term_view c.args.b.now) _ _ c.in-Some.first (now_view c.args.self.now) (now_view c.asked.new.self) (now_view c.asked-2.new.self)
    c.in_ok-first.ensures c.in-Some.is c.in_ok-second.ensures c.in_default-2.is

pub returns : goal.returns
returns c =
    let first : to_z w128 (of_z w128 c.in-Some.first) ≡ c.in-Some.first = search rules in
    let second : to_z w128 (of_z w128 c.in-Some-2.second) ≡ c.in-Some-2.second = search rules in
    both-given (term_view c.args.a.now) (term_view c.args.b.now) _ _ _ _ (now_view c.args.self.now) (now_view c.asked.new.self) (now_view c.asked-2.new.self)
    c.in_ok-first.ensures (c.in-Some.is ∙ ap Some (sym first)) c.in_ok-second.ensures (c.in-Some-2.is ∙ ap Some (sym second))
