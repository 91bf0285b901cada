use Rattle.dc_text.specs.Words.{same}
use Rattle.dc_scope.proofs.Lookups.{lookup-none}
use Rattle.dc_scope.proofs.scope.Scope.add.Goals as goal

pub add_to-requires : goal.add_to-requires
add_to-requires c = lookup-none (same c.args.name.now) c.self.inside.ordinary.entries (rw (c.in-Ordinary.is, ← c.self.view_is) at c.requires)

pub add_to-requires-in-Tag : goal.add_to-requires-in-Tag
add_to-requires-in-Tag c = lookup-none (same c.args.name.now) c.self.inside.tags.entries (rw (c.in-Tag.is, ← c.self.view_is) at c.requires)
