use Rattle.std.proofs.Common.{◌≡◌, length, rules}
use Rattle.std.proofs.lemmas.Result.{on_ok_weaker}
use Rattle.dc_writeset.specs.Sets.{TaggedObject, set_with_free}
use Rattle.dc_writeset.proofs.Innermost.{sets-inner_changed}
use Rattle.dc_writeset.proofs.sets.WriteSets.add_free.Goals as goal

pub returns-clause-ok : goal.returns-clause-ok
returns-clause-ok c =
    let object : TaggedObject = record { tag = c.args.tag; object = c.args.object } in
    let count : c.len-last.result ≡ length c.self.inside.sets.items = search rules in
    on_ok_weaker c.add_free.result
    (sets-inner_changed (set_with_free object) c.args.self.now c.self.inside.sets.items c.self.inside.freed.items c.len-last.result c.index_mut.result.now c.add_free.new.self
    c.self.view_is count c.index_mut.ensures.value)
    c.add_free.ensures.ok
