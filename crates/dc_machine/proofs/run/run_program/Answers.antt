use Rattle.dc_world.specs.Report.{end_view}
use Rattle.dc_machine.specs.Linked.{linked_view}
use Rattle.dc_machine.proofs.Final.{report_as, cut_short_as, parts_after, parts_kept, on_err}
use Rattle.dc_machine.proofs.run.run_program.Goals as goal

pub returns-clause-report : goal.returns-clause-report
returns-clause-report g c = λ q e. report_as (linked_view c.args.p.now) q c.args.steps c.of.result c.in_ok-end.end _ _ _ _ e c.of.ensures c.new-used.ensures.items c.new-log.ensures.failed c.new-log.ensures.counts c.in_ok-end.ensures

pub returns-clause-parts : goal.returns-clause-parts
returns-clause-parts g c = parts_after (linked_view c.args.p.now) c.args.steps (end_view c.in_ok-end.end) _ _ _ _ c.in_ok-end.ensures

pub returns-in_err-end-clause-refused : goal.returns-in_err-end-clause-refused
returns-in_err-end-clause-refused g c = λ q e. on_err _ c.from_residual.result (cut_short_as (linked_view c.args.p.now) q c.args.steps _ _ _ _ e c.in_err-end.ensures)

pub returns-in_err-end-clause-parts : goal.returns-in_err-end-clause-parts
returns-in_err-end-clause-parts g c = parts_kept (linked_view c.args.p.now) c.args.steps _ _ _ _ c.in_err-end.ensures
