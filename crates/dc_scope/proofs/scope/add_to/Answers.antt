use Rattle.std.proofs.Common.{◌≡◌, ◌∙◌, sym, rules}
use Rattle.indexmap.proofs.CallerLemmas.{insert_entry-new}
use Rattle.dc_text.specs.Words.{same}
use Rattle.dc_scope.proofs.Lookups.{ok-holds}
use Rattle.dc_scope.proofs.scope.add_to.Goals as goal

pub returns-clause-ok : goal.returns-clause-ok
returns-clause-ok c =
    let key : c.in_ok-key.key ≡ c.args.name.now = search rules in
    ok-holds _ c.insert.result (sym c.is_err.ensures.value ∙ c.if-is_err.false) c.insert.ensures.entries
    ∙ rw key (insert_entry-new same c.args.table.now c.args.name.now c.args.what c.requires)
