use Rattle.dc_syntax.specs.declared.token.Word.TheVariants as word
use Rattle.dc_read_expr.proofs.Tags.{next_of}
use Rattle.dc_read_unit.proofs.MarkTests.{mark_begins}
use Rattle.dc_read_unit.proofs.marks.begins_mark.Goals as goal

pub returns-in-Some-Marked : goal.returns-in-Some-Marked
returns-in-Some-Marked c =
    let ts = c.args.tokens.now in
    let found = c.in-Some-Marked.found in
    mark_begins ts c.args.at c.args.mark found c.eq.result (next_of ts c.args.at c.word.result (word.Marked found) c.word.ensures (cc)) c.eq.ensures
