use Rattle.std.proofs.Common.{◌∙◌, ap, sym}
use Rattle.indexmap.specs.IndexMap.{insert_entry}
use Rattle.dc_text.specs.Words.{same}
use Rattle.dc_machine.proofs.Indexes.{none-of, ok-holds, added-new}
use Rattle.dc_machine.proofs.index.Index.add.Goals as goal

pub returns : goal.returns
returns c =
    added-new c.self.inside.places.entries c.args.self.now c.insert.new.self.entries c.args.name.now c.args.place c.self.view_is
    (sym c.find.ensures ∙ none-of c.find.result (sym c.is_some.ensures ∙ c.if-is_some.false))
    (ok-holds _ c.insert.result (sym c.is_err.ensures.value ∙ c.if-is_err.false) c.insert.ensures.entries
    ∙ ap (λ n. insert_entry same c.self.inside.places.entries n c.args.place) c.of.ensures)
