use Rattle.dc_goto.specs.View.{goto_view}
use Rattle.dc_world.proofs.Drawing.{Used-none}
use Rattle.dc_world.proofs.Reported.{cut_at_once}
use Rattle.dc_machine.proofs.Final.{on_err, ok-map}
use Rattle.dc_machine.proofs.run.run_goto.Goals as goal

pub returns-clause-failed : goal.returns-clause-failed
returns-clause-failed g c = ok-map c.run_program.result (λ r h. h.failed) (c.run_program.ensures.report (goto_view c.args.p.now) c.in_ok-p.ensures.goto)

pub returns-clause-end : goal.returns-clause-end
returns-clause-end g c = ok-map c.run_program.result (λ r h. h.ends) (c.run_program.ensures.report (goto_view c.args.p.now) c.in_ok-p.ensures.goto)

pub returns-clause-length : goal.returns-clause-length
returns-clause-length g c = ok-map c.run_program.result (λ r h. h.taken) (c.run_program.ensures.report (goto_view c.args.p.now) c.in_ok-p.ensures.goto)

pub returns-clause-counts : goal.returns-clause-counts
returns-clause-counts g c = ok-map c.run_program.result (λ r h. h.counts) (c.run_program.ensures.report (goto_view c.args.p.now) c.in_ok-p.ensures.goto)

pub returns-clause-used : goal.returns-clause-used
returns-clause-used g c = ok-map c.run_program.result (λ r h. h.used) (c.run_program.ensures.report (goto_view c.args.p.now) c.in_ok-p.ensures.goto)

pub returns-clause-given : goal.returns-clause-given
returns-clause-given g c = ok-map c.run_program.result (λ r h. h.given) (c.run_program.ensures.report (goto_view c.args.p.now) c.in_ok-p.ensures.goto)

pub returns-clause-dry : goal.returns-clause-dry
returns-clause-dry g c = ok-map c.run_program.result (λ r h. h.dry) (c.run_program.ensures.report (goto_view c.args.p.now) c.in_ok-p.ensures.goto)

pub returns-clause-heard : goal.returns-clause-heard
returns-clause-heard g c = ok-map c.run_program.result (λ r h. h.heard) (c.run_program.ensures.report (goto_view c.args.p.now) c.in_ok-p.ensures.goto)

pub returns-clause-refused : goal.returns-clause-refused
returns-clause-refused g c = c.run_program.ensures.refused (goto_view c.args.p.now) c.in_ok-p.ensures.goto

pub returns-in_err-p-clause-refused : goal.returns-in_err-p-clause-refused
returns-in_err-p-clause-refused g c = on_err _ c.from_residual.result (cut_at_once _ _ _ (Used-none (g.C.Chooser.left c.args.chooser.now)))

pub returns-clause-whole : goal.returns-clause-whole
returns-clause-whole g c = ok-map c.run_program.result (λ r h. h.whole) (c.run_program.ensures.report (goto_view c.args.p.now) c.in_ok-p.ensures.goto)

pub returns-clause-ended : goal.returns-clause-ended
returns-clause-ended g c = ok-map c.run_program.result (λ r h. h.ended) (c.run_program.ensures.report (goto_view c.args.p.now) c.in_ok-p.ensures.goto)
