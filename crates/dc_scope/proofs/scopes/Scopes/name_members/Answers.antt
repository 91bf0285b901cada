use Rattle.std.proofs.Common.{◌≡◌, ◌∷◌, ◌++◌, [], None, nat_eq, reverse, sym, ap, ◌∙◌, rules}
use Rattle.std.specs.Map.{lookup}
use Rattle.indexmap.proofs.CallerLemmas.{insert_entry-new}
use Rattle.dc_scope.proofs.Lookups.{ok-holds, with_member_names}
use Rattle.dc_scope.proofs.scopes.Scopes.name_members.Goals as goal

pub returns-clause-ok : goal.returns-clause-ok
returns-clause-ok c =
    let before = c.self.inside.members in
    let unnamed : lookup (nat_eq c.args.number) before.entries ≡ None = rw (← c.self.view_is) at c.requires.unnamed in
    let names : c.in_ok-names.names ≡ c.args.names.items = search rules in
    let entries : c.insert.new.self.entries ≡ before.entries ++ (c.args.number, c.args.names.items) ∷ [] =
    ok-holds _ c.insert.result (sym c.is_err.ensures.value ∙ c.if-is_err.false) c.insert.ensures.entries
    ∙ rw names (insert_entry-new nat_eq before c.args.number c.args.names.items unnamed) in
    rw (← c.self.view_is) (ap (with_member_names c.self.inside.inner (reverse c.self.inside.outer.items)) entries)
