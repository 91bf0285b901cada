use Rattle.std.proofs.Common.{sym, ap, ◌∙◌}
use Rattle.dc_syntax.proofs.Scopes.{declared_as, knows_pushed, in_scope-pushed}
use Rattle.dc_syntax.proofs.typedefs.Typedefs.declare.Goals as goal

pub invariant_of-self-in-Ok : goal.invariant_of-self-in-Ok
invariant_of-self-in-Ok c =
    knows_pushed c.self.inside.declared.items _ _ c.args.name.now _ _ _ _ c.self.invariant c.in-Ok.ensures.updates.0 c.in_ok-key.ensures
    (c.new-entry.ensures ∙ ap (λ n. declared_as n c.args.is_type) c.in_ok-copied.ensures) c.in_ok-push.ensures.items

pub returns-clause-ok : goal.returns-clause-ok
returns-clause-ok c =
    in_scope-pushed c.self.inside.declared.items _ _ _ c.self.inside.outer _
    (c.new-entry.ensures ∙ ap (λ n. declared_as n c.args.is_type) c.in_ok-copied.ensures) c.in_ok-push.ensures.items (ap (λ s. s.names) (sym c.self.view_is))
