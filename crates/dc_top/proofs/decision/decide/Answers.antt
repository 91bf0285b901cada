use Rattle.std.proofs.Common.{subst}
use Rattle.dc_top.specs.Answers.{Says}
use Rattle.dc_top.specs.Row.{word_at, asked_by, command_at}
use Rattle.dc_top.specs.Table.{IsRow, Instrument, Replay, Text, inputs_of}
use Rattle.dc_top.proofs.Justified.{justified}
use Rattle.dc_top.proofs.decision.decide.Goals as goal

pub returns-in-Some-Instrument-clause-says : goal.returns-in-Some-Instrument-clause-says
returns-in-Some-Instrument-clause-says g c =
    let command = Instrument (word_at c.args.words.now 1) c.in-Some-Instrument.name.now in
    justified c.args.words.now (inputs_of (g.H.Shelf.files c.args.shelf.now) c.args.words.now) command c.instrument.result (subst (λ row. IsRow c.args.words.now (command_at c.args.words.now row)) c.in-Some-Instrument.field-0-is c.in-Some-Instrument.ensures.found)
    (subst (λ names. Says command (inputs_of (g.H.Shelf.files c.args.shelf.now) names) c.instrument.result) c.requires (c.instrument.ensures.says (word_at c.args.words.now 1)))

pub returns-in-Some-ReplayText-clause-says : goal.returns-in-Some-ReplayText-clause-says
returns-in-Some-ReplayText-clause-says g c =
    let command = Replay Text (word_at c.args.words.now 1) (word_at c.args.words.now 2) c.in-Some-ReplayText.steps in
    justified c.args.words.now (inputs_of (g.H.Shelf.files c.args.shelf.now) c.args.words.now) command c.replay_text.result (subst (λ row. IsRow c.args.words.now (command_at c.args.words.now row)) c.in-Some-ReplayText.field-0-is c.in-Some-ReplayText.ensures.found)
    (subst (λ names. Says command (inputs_of (g.H.Shelf.files c.args.shelf.now) names) c.replay_text.result) c.requires (c.replay_text.ensures.says (word_at c.args.words.now 1) (word_at c.args.words.now 2)))

pub returns-in-Some-ReplaySource-clause-says : goal.returns-in-Some-ReplaySource-clause-says
returns-in-Some-ReplaySource-clause-says g c =
    let command = Replay (asked_by c.in-Some-ReplaySource.mode c.in-Some-ReplaySource.name.now) (word_at c.args.words.now 1) (word_at c.args.words.now 2) c.in-Some-ReplaySource.steps in
    justified c.args.words.now (inputs_of (g.H.Shelf.files c.args.shelf.now) c.args.words.now) command c.replay_source.result (subst (λ row. IsRow c.args.words.now (command_at c.args.words.now row)) c.in-Some-ReplaySource.field-0-is c.in-Some-ReplaySource.ensures.found)
    (subst (λ names. Says command (inputs_of (g.H.Shelf.files c.args.shelf.now) names) c.replay_source.result) c.requires (c.replay_source.ensures.says (word_at c.args.words.now 1) (word_at c.args.words.now 2)))
