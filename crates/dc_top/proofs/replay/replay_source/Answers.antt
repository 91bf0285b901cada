use Rattle.dc_choice.specs.Reading.{numbers}
use Rattle.dc_core.specs.View.{program_view}
use Rattle.dc_top.specs.Replaying.{ShortChoices}
use Rattle.dc_top.specs.Row.{asked_by}
use Rattle.dc_top.specs.Stages.{run_by}
use Rattle.dc_top.specs.Table.{Replay, inputs_of}
use Rattle.dc_top.proofs.Justified.{run_says, source_given, given_by, moved_list, moved_says}
use Rattle.dc_top.proofs.replay.replay_source.Goals as goal

pub returns-in-Ok-read_list-clause-says : goal.returns-in-Ok-read_list-clause-says
returns-in-Ok-read_list-clause-says g c = λ file choices.
    run_says (asked_by c.args.mode c.args.name.now) (inputs_of (g.H.Shelf.files c.args.shelf.now) (g.H.Shelf.names c.args.shelf.now)) (run_by c.args.mode (program_view c.in-Ok.p)) c.in-Ok-read_list.list file choices c.args.steps c.answer_source.result
    (source_given c.args.mode (inputs_of (g.H.Shelf.files c.args.shelf.now) (g.H.Shelf.names c.args.shelf.now)) c.args.name.now (program_view c.in-Ok.p) c.in-Ok.ensures.source)
    (moved_list _ _ _ _ (λ bytes. ShortChoices bytes (numbers c.in-Ok-read_list.list)) c.in-Ok.ensures.files c.in-Ok.ensures.names c.in-Ok-read_list.ensures.list)
    c.answer_source.ensures

pub returns-clause-says : goal.returns-clause-says
returns-clause-says g c = λ file choices.
    let inputs = inputs_of (g.H.Shelf.files c.args.shelf.now) (g.H.Shelf.names c.args.shelf.now) in
    let asked = asked_by c.args.mode c.args.name.now in
    moved_says _ _ _ _ asked (Replay asked file choices c.args.steps) c.in-Err-read_list.answer c.in-Ok.ensures.files c.in-Ok.ensures.names
    (c.in-Err-read_list.ensures.says asked file choices c.args.steps)
    (given_by asked inputs (run_by c.args.mode (program_view c.in-Ok.p)) (source_given c.args.mode inputs c.args.name.now (program_view c.in-Ok.p) c.in-Ok.ensures.source))
