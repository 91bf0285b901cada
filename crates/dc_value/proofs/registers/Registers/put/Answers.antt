use Rattle.std.proofs.Common.{◌≡◌, ◌∙◌, ap, length, Some, pos, rules}
use Rattle.std.specs.Prelude.{slice_set}
use Rattle.dc_value.proofs.Padded.{padded-set, padded-grown}
use Rattle.dc_value.proofs.registers.Registers.put.Goals as goal

pub returns-then-number-written : goal.returns-then-number-written
returns-then-number-written c =
    padded-set (Some (pos 0)) c.self.inside.written.items c.self.inside.count c.args.number c.args.held (search rules)
    ∙ ap (λ l. slice_set l c.args.number c.args.held) c.self.view_is

pub returns : goal.returns
returns c =
    padded-grown (Some (pos 0)) c.self.inside.written.items c.push.new.self.items c.self.inside.count c.args.number c.args.held (search rules) (search rules) (search rules)
    ∙ ap (λ l. slice_set l c.args.number c.args.held) c.self.view_is
