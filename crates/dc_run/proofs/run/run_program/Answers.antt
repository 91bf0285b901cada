use Rattle.dc_core.specs.Run.{contract_run}
use Rattle.dc_run.proofs.Runs.{report_of, cut_short}
use Rattle.dc_run.proofs.run.run_program.Goals as goal

pub returns-clause-report : goal.returns-clause-report
returns-clause-report g c = λ q says.
    report_of (contract_run q c.args.steps) c.of.result c.in_ok-end.end _ _ _ _ c.of.ensures c.new-used.ensures.items c.new-log.ensures.failed c.new-log.ensures.counts (c.in_ok-end.ensures.run q says)

pub returns-in_err-end-clause-refused : goal.returns-in_err-end-clause-refused
returns-in_err-end-clause-refused g c = λ q says. cut_short (contract_run q c.args.steps) c.from_residual.result _ _ _ _ (c.in_err-end.ensures.run q says)
