use Rattle.dc_core.specs.Run.{contract_run, plain_report}
use Rattle.dc_core.specs.View.{program_view}
use Rattle.dc_top.proofs.Read.{reported}
use Rattle.dc_top.proofs.replay.source_report.Goals as goal

pub returns-in-Contract : goal.returns-in-Contract
returns-in-Contract c =
    let p = program_view c.args.p.now in
    let run = c.run_contract.ensures in
    rw c.in-Contract.is
    (reported c.run_contract.result (contract_run p c.args.steps) c.args.list _ c.new-chooser.ensures.left
    (run.failed p c.requires) (run.end p c.requires) (run.length p c.requires) (run.counts p c.requires) (run.whole p c.requires))

pub returns : goal.returns
returns c =
    let p = program_view c.args.p.now in
    let run = c.run_plain.ensures in
    rw c.in-Plain.is
    (reported c.run_plain.result (plain_report p c.args.steps) c.args.list _ c.new-chooser.ensures.left
    (run.failed p c.requires) (run.end p c.requires) (run.length p c.requires) (run.counts p c.requires) (run.whole p c.requires))
