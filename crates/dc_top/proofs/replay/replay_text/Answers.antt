use Rattle.dc_choice.specs.Reading.{numbers}
use Rattle.dc_goto.specs.Machine.{goto_run}
use Rattle.dc_goto.specs.View.{goto_view}
use Rattle.dc_top.specs.Replaying.{ShortChoices}
use Rattle.dc_top.specs.Table.{Replay, Text, inputs_of}
use Rattle.dc_top.proofs.Justified.{run_says, text_given, given_by, moved_list, moved_says}
use Rattle.dc_top.proofs.replay.replay_text.Goals as goal

pub returns-in-Err-clause-says : goal.returns-in-Err-clause-says
returns-in-Err-clause-says g c = λ file choices. c.in-Err.ensures.says file choices c.args.steps

pub returns-in-Ok-read_list-clause-says : goal.returns-in-Ok-read_list-clause-says
returns-in-Ok-read_list-clause-says g c = λ file choices.
    run_says Text (inputs_of (g.H.Shelf.files c.args.shelf.now) (g.H.Shelf.names c.args.shelf.now)) (goto_run (goto_view c.in-Ok.p)) c.in-Ok-read_list.list file choices c.args.steps c.answer_text.result
    (text_given (inputs_of (g.H.Shelf.files c.args.shelf.now) (g.H.Shelf.names c.args.shelf.now)) (goto_view c.in-Ok.p) c.in-Ok.ensures.text)
    (moved_list _ _ _ _ (λ bytes. ShortChoices bytes (numbers c.in-Ok-read_list.list)) c.in-Ok.ensures.files c.in-Ok.ensures.names c.in-Ok-read_list.ensures.list)
    c.answer_text.ensures

pub returns-clause-says : goal.returns-clause-says
returns-clause-says g c = λ file choices.
    let inputs = inputs_of (g.H.Shelf.files c.args.shelf.now) (g.H.Shelf.names c.args.shelf.now) in
    moved_says _ _ _ _ Text (Replay Text file choices c.args.steps) c.in-Err-read_list.answer c.in-Ok.ensures.files c.in-Ok.ensures.names
    (c.in-Err-read_list.ensures.says Text file choices c.args.steps)
    (given_by Text inputs (goto_run (goto_view c.in-Ok.p)) (text_given inputs (goto_view c.in-Ok.p) c.in-Ok.ensures.text))
