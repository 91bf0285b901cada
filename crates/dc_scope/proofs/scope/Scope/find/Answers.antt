use Rattle.std.proofs.Common.{◌∙◌, sym, ap, rules}
use Rattle.std.specs.Option.{option_map}
use Rattle.dc_text.specs.Words.{same}
use Rattle.dc_scope.specs.Entities.{entity_view}
use Rattle.dc_scope.proofs.Lookups.{lookup-names_view}
use Rattle.dc_scope.proofs.scope.Scope.find.Goals as goal

pub returns-in-Ordinary : goal.returns-in-Ordinary
returns-in-Ordinary c = rw (c.in-Ordinary.is, ← c.self.view_is) (ap (option_map entity_view) (search rules) ∙ sym (lookup-names_view (same c.args.name.now) c.self.inside.ordinary.entries))

pub returns-in-Tag : goal.returns-in-Tag
returns-in-Tag c = rw (c.in-Tag.is, ← c.self.view_is) (ap (option_map entity_view) (search rules) ∙ sym (lookup-names_view (same c.args.name.now) c.self.inside.tags.entries))
